use Rattle.std.proofs.Common.{◌≡◌, ◌∙◌, None, drop, length, subst, sym, arith}
use Rattle.wire.specs.Crowds.{slot_at}
use Rattle.commands.proofs.Returned.{serves_so, take_first}
use Rattle.commands.proofs.rounds.serve.Goals as goal

pub returns-clause-serves : goal.returns-clause-serves
returns-clause-serves g c =
    let slots = c.serve_through-listener.new.slots in
    let first = take_first slots (drop (length slots) c.in-Ok.prepared.1.items) _ (c.serve_through-listener.auto.slots ∙ c.as_mut_slice.ensures.len) in
    serves_so _ _ slots _ c.at_least_one-open.ensures (sym first) c.serve_through-listener.ensures.serves

pub serve_through-listener-requires-clause-free : goal.serve_through-listener-requires-clause-free
serve_through-listener-requires-clause-free g c = λ p. subst (λ l. slot_at l p ≡ None) (sym c.as_mut_slice.ensures.value) (c.in-Ok.ensures.free p)

pub returns-clause-never_less : goal.returns-clause-never_less
returns-clause-never_less g c = grind arith

pub returns-in-Err-clause-nothing : goal.returns-in-Err-clause-nothing
returns-in-Err-clause-nothing g c = grind arith

pub returns-in-Err-clause-unstaged : goal.returns-in-Err-clause-unstaged
returns-in-Err-clause-unstaged g c = grind arith

pub returns-clause-alone : goal.returns-clause-alone
returns-clause-alone g c = c.serve_through-listener.ensures.alone

pub returns-in-Err-clause-alone : goal.returns-in-Err-clause-alone
returns-in-Err-clause-alone g c = λ alone. alone
