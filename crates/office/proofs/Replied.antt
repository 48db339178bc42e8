-- Replies: to fewer requests, after other calls, and refusals.
use Rattle.std.proofs.Common.{ℕ, Result, Err}
use Rattle.std.specs.Prelude.{◌≡◌, ◌≢◌}
use Rattle.sigtext.specs.declared.refusal.Refusal.{Refusal}
use Rattle.sigtext.specs.declared.refusal.Refusal.TheVariants as rule
use Rattle.sigtext.specs.Request.{Request}
use Rattle.sigtext.specs.Rules.{IsFirstToFail}
use Rattle.boxes.specs.State.{State}
use Rattle.boxes.specs.declared.keep.Keeper.{Ghosts}
use Rattle.wire.specs.declared.answer.Reply.{Reply}
use Rattle.office.specs.Crashes.{Endures}
use Rattle.office.specs.Frames.{Quiet, Replies}
use Rattle.office.specs.Premise.{IsGivenUp, WasKept}
use Rattle.office.specs.Replying.{IsNoRefusal}
use Rattle.office.specs.Rules.{Rule}
use Rattle.office.proofs.Endurance.{refused_adds, then_refused, then_replied}
use Rattle.office.proofs.Foreseen.{denied, no_reply}
use Rattle.office.proofs.Holding.{holds_then}
use Rattle.office.proofs.KeeperCalls.{on_err_too}

module _ {K : Type 0} {k : Ghosts K} where
  -- fewer requests are right
  pub replies_for : {a b : K} {now : ℕ} {result : Result Reply Refusal} {P Q : State → Request → Type 0} → ((s : State) (r : Request) → P s r → Q s r) → Replies k a b now result Q → Replies k a b now result P
  replies_for f x = record {
    replied = λ s r kept right. x.replied s r kept (f s r right);
    same = x.same;
    plain = x.plain;
    crash = λ s r kept right. x.crash s r kept (f s r right);
    rest = x.rest;
  }

  -- a call that changed nothing came before
  pub replies_then : {a b c : K} {now : ℕ} {result : Result Reply Refusal} {P Q : State → Request → Type 0} → Quiet k a b ⊥ → ((s : State) (r : Request) → WasKept k a b s → P s r → Q s r) → Replies k b c now result Q
      → Replies k a c now result P
  replies_then {c = c} {now = now} {result = result} x f y = record {
    replied = λ s r kept right.
        let honest = y.rest.honest kept.is_honest in
        then_replied c s r now result (x.crash s kept.means honest)
        (y.replied s r (record { means = x.same s kept.means; is_honest = kept.is_honest; sound = kept.sound }) (f s r (record { means = kept.means; is_honest = honest; sound = kept.sound }) right));
    same = λ s means. y.same s (x.same s means);
    plain = y.plain;
    crash = λ s r kept right.
        let honest = y.rest.honest kept.is_honest in
        then_refused c s r now result (x.crash s kept.means honest)
        (y.crash s r (record { means = x.same s kept.means; is_honest = kept.is_honest; sound = kept.sound }) (f s r (record { means = kept.means; is_honest = honest; sound = kept.sound }) right));
    rest = holds_then x.rest y.rest;
  }

  -- nothing was changed, and the result is this refusal or refusal 40
  pub replies_refused : {a b : K} {now : ℕ} {P : State → Request → Type 0} (q : Refusal) (result : Result Reply Refusal) → Quiet k a b (IsGivenUp result) → (result ≢ Err rule.TryAgain → result ≡ Err q)
      → ((s : State) (r : Request) → WasKept k a b s → P s r → q ≢ rule.TryAgain → IsFirstToFail (Rule s r now) q) → Replies k a b now result P
  replies_refused {a = a} {b = b} {now = now} q result x gives fails = record {
    replied = λ s r kept right. denied (Endures k a b s) s r now q result gives (fails s r kept right);
    same = λ s means. on_err_too result (x.same s means);
    plain = no_reply IsNoRefusal q result gives;
    crash = λ s r kept right. refused_adds s r now result (x.crash s kept.means kept.is_honest);
    rest = x.rest;
  }
