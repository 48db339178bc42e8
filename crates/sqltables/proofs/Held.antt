-- The end of the pieces of some bytes.
use Rattle.std.proofs.Common.{◌≡◌, inl, inr, ℕ, ◌*◌, ◌<◌, ◌≤◌, List, length, Some, None, sym, ◌∙◌, arith}
use Rattle.std.specs.Prelude.{nat_lt}
use Rattle.std.proofs.lemmas.Bool.{cases_Bool, ltb-true, ltb-false}
use Rattle.sqltables.specs.Tables.{piece_of}
use Rattle.sqltables.proofs.Gathering.{no_piece}

pub some_left : (bytes piece : List ℕ) (at : ℕ) → piece_of bytes at ≡ Some piece → 65536 * at < length bytes
some_left bytes piece at is = elim (cases_Bool (nat_lt (65536 * at) (length bytes))) [
  | inl within ↦ ltb-true (65536 * at) (length bytes) within
  | inr past ↦ absurd (let e = ltb-false (65536 * at) (length bytes) past in let f = sym (no_piece bytes at (omega (arith, e))) ∙ is in cc)
]

pub none_left : (bytes : List ℕ) (at : ℕ) → piece_of bytes at ≡ None → length bytes ≤ 65536 * at
none_left bytes at none = elim (cases_Bool (nat_lt (65536 * at) (length bytes))) [
  | inl within ↦ absurd (let e = rw within at none in cc)
  | inr past ↦ ltb-false (65536 * at) (length bytes) past
]
