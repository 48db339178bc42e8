-- The state of a new office is sound.
use Rattle.std.proofs.Common.{◌≡◌, ◌≤◌, ℕ, List, true, refl, sym, ap, subst, ◌∙◌}
use Rattle.std.specs.Prelude.{ℤ, pos, neg_ℤ, ◌≤ℤ◌, false, is_some}
use Rattle.std.specs.FinMap.{empty, get-empty}
use Rattle.sigtext.specs.Bytes.{bytes_cmp}
use Rattle.sigv4.specs.Allowances.{most_allowance}
use Rattle.sigv4.specs.Credential.{IsKeyId, IsSecret}
use Rattle.boxes.specs.declared.rows.Role.TheVariants.{Clerk}
use Rattle.boxes.specs.State.{Key, place_cmp, limit_cmp}
use Rattle.boxes.specs.Sound.{IsSound}
use Rattle.boxes.specs.FirstState.{first_state}
use Rattle.boxes.proofs.Lookups.{get_same, got, some_none}

none_held : false ≡ true → ⊥
none_held e = cc

pub sound_first_state : (offset : ℤ) (allowance : ℕ) (id secret : List ℕ) → neg_ℤ (pos 840) ≤ℤ offset → offset ≤ℤ pos 840 → allowance ≤ most_allowance → IsKeyId id → IsSecret secret
    → IsSound (first_state offset allowance id secret)
unfolding first_state
sound_first_state offset allowance id secret west east few is_id is_secret = record {
  east = (west, east);
  allowance = few;
  keys = λ q k e. got empty id q (record { role = Clerk; secret = secret; revoked = false }) k (IsKeyId q × IsSecret k.secret) e
      (λ same v. (subst IsKeyId (sym same) is_id, subst (λ (x : Key). IsSecret x.secret) v is_secret))
      (λ old. absurd (some_none k (sym old ∙ get-empty bytes_cmp q)));
  boxes = λ name b e. absurd (some_none b (sym e ∙ get-empty bytes_cmp name));
  files = λ place f e. absurd (some_none f (sym e ∙ get-empty place_cmp place));
  receipts = tt;
  quotas = λ name b e. absurd (some_none b (sym e ∙ get-empty bytes_cmp name));
  clerk = record {
    id = id;
    key = record { role = Clerk; secret = secret; revoked = false };
    there = get_same empty id _;
    clerk = refl;
    unrevoked = refl;
  };
  limits = λ key box held. absurd (none_held (sym (ap is_some (get-empty limit_cmp (record { key = key; box = box }))) ∙ held));
}
