-- Which refusals a link can get once its key was looked up.
use Rattle.std.proofs.Common.{◌≡◌, ◌≢◌, ◌+◌, inl, inr, ℕ, List, arith, Option, Some, None, Result, Ok, Err, sym, ap, subst, ◌∙◌}
use Rattle.std.proofs.lemmas.Bool.{cases_lt}
use Rattle.std.specs.Prelude.{option_map, ◌↔◌, MatchResult}
use Rattle.std.specs.FinMap.{get}
use Rattle.sigtext.specs.declared.refusal.Refusal.{Refusal}
use Rattle.sigtext.specs.declared.refusal.Refusal.TheVariants as rule
use Rattle.sigtext.specs.Request.{Request}
use Rattle.sigtext.specs.Rules.{IsFirstToFail}
use Rattle.links.specs.WellFormed.{LinkValues, IsWellFormed}
use Rattle.boxes.specs.State.{Key, State}
use Rattle.boxes.specs.Rows.{key_of}
use Rattle.boxes.specs.declared.rows.KeyRow.{KeyRow}
use Rattle.links.specs.Admits.{IsSignedBy}
use Rattle.links.specs.Judging.{IsOutside, LiesIn}
use Rattle.links.specs.Moments.{Now, HasBegun, moment_with}
use Rattle.office.specs.Admitted.{IsAdmitted}
use Rattle.office.specs.Foreseeing.{IsSigned}
use Rattle.office.specs.Rules.{judged_at, Rule}
use Rattle.office.proofs.Deciding.{HasKey, signature_mismatch, not_yet_valid, expired}

-- the keeper's answer about the key
pub asked_none : (s : State) (asked id : List ℕ) (o : Option KeyRow) → option_map key_of o ≡ get s.keys asked → o ≡ None → asked ≡ id → get s.keys id ≡ None
asked_none s asked id o value none same = ap (get s.keys) (sym same) ∙ sym value ∙ ap (λ (x : Option KeyRow). option_map key_of x) none

pub asked_some : (s : State) (asked id : List ℕ) (o : Option KeyRow) (row : KeyRow) → option_map key_of o ≡ get s.keys asked → o ≡ Some row → asked ≡ id → get s.keys id ≡ Some (key_of row)
asked_some s asked id o row value some same = ap (get s.keys) (sym same) ∙ sym value ∙ ap (λ (x : Option KeyRow). option_map key_of x) some

-- the signature is wrong
pub mismatched : (s : State) (r : Request) (now : ℕ) (p : LinkValues) (k : Key) (secret : List ℕ) (q : Refusal) → IsWellFormed r p → HasKey s p k → secret ≡ k.secret
    → q ≡ rule.SignatureMismatch → (IsSignedBy secret r p → ⊥) → IsFirstToFail (Rule s r now) q
mismatched s r now p k secret q formed key same is fails =
    subst (IsFirstToFail (Rule s r now)) (sym is) (signature_mismatch s r now p k formed key (subst (λ (t : List ℕ). IsSignedBy t r p → ⊥) same fails))

-- the window is refused with an allowance under which the link has begun exactly if it has begun under the
-- office's own
outside : (s : State) (r : Request) (now allowance : ℕ) (p : LinkValues) (k : Key) (q : Refusal) → IsSigned s r p k
    → (HasBegun (moment_with allowance now) p.start ↔ HasBegun (judged_at s now) p.start) → IsOutside q (moment_with allowance now) p → IsFirstToFail (Rule s r now) q
outside s r now allowance p k rule.NotYetValid signed same early =
    not_yet_valid s r now p k signed.well_formed (record { there = signed.there; unrevoked = signed.unrevoked }) signed.signed
    (elim (cases_lt (now + s.allowance) p.start) [
      | inl later ↦ later
      | inr begun ↦ let before = same.1 begun in absurd (omega (arith, early, before))
    ])
outside s r now allowance p k rule.Expired signed same (begun, late) =
    expired s r now p k signed.well_formed (record { there = signed.there; unrevoked = signed.unrevoked }) signed.signed (same.0 begun) late
outside s r now allowance p k _ signed same fails = absurd fails

-- the result of checking the window
pub inside : {T : Type 0} (s : State) (r : Request) (now allowance : ℕ) (p : LinkValues) (k : Key) → IsSigned s r p k
    → (HasBegun (moment_with allowance now) p.start ↔ HasBegun (judged_at s now) p.start) → (result : Result T Refusal) → LiesIn (moment_with allowance now) p result
    → MatchResult result (λ done. IsAdmitted s r now p k) (λ q. (q ≢ rule.TryAgain) → IsFirstToFail (Rule s r now) q)
inside s r now allowance p k signed same (Ok done) lies = record {
  well_formed = signed.well_formed;
  there = signed.there;
  unrevoked = signed.unrevoked;
  signed = signed.signed;
  begun = same.0 lies.0;
  not_over = lies.1;
}
inside s r now allowance p k signed same (Err q) lies = λ other. outside s r now allowance p k q signed same lies

-- no refusal of a window is number 40
pub not_again : (now : Now) (p : LinkValues) (q : Refusal) → IsOutside q now p → q ≢ rule.TryAgain
not_again now p q fails is = subst (λ (x : Refusal). IsOutside x now p) is fails
