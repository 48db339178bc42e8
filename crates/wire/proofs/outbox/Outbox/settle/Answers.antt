use Rattle.std.proofs.Common.{◌≡◌, refl, sym, ◌∙◌}
use Rattle.wire.specs.Outgoing.{waits_out}
use Rattle.wire.specs.declared.outbox.Sending.TheVariants.{Sent, Waits, Failed}
use Rattle.wire.proofs.ReadAhead.{empty, not_empty}
use Rattle.wire.proofs.outbox.Outbox.settle.Goals as goal

sent_failed : Sent ≡ Failed → ⊥
sent_failed e = cc

waits_sent : Waits ≡ Sent → ⊥
waits_sent e = cc

waits_failed : Waits ≡ Failed → ⊥
waits_failed e = cc

pub returns : goal.returns
returns g c =
    let none = empty c.waiting.result.now (waits_out c.args.self.now) c.if-not-is_empty.ensures c.waiting.ensures in
    record { sent = (λ _. none, λ _. refl); hale = sent_failed; waiting = c.new.ensures.items ∙ sym none; inner = refl; fault = refl }

pub returns-then-not-is_empty : goal.returns-then-not-is_empty
returns-then-not-is_empty g c =
    let some = not_empty c.waiting.result.now (waits_out c.args.self.now) c.if-not-is_empty.ensures c.waiting.ensures in
    record { sent = (λ e. absurd (waits_sent e), λ none. absurd (some none)); hale = waits_failed; waiting = refl; inner = refl; fault = refl }
