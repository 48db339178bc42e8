-- The lines of the office's one row.
use Rattle.std.proofs.Common.{◌≡◌, ◌∙◌, ℕ, ◌<◌, get_or, ℤ, pos, List, [], ◌∷◌, Some, None, refl, sym, subst, length, arith}
use Rattle.std.specs.Prelude.{Contains, slice_get, neg_ℤ, ◌≤ℤ◌}
use Rattle.std.proofs.lemmas.Option.{slice_get-get_or}
use Rattle.sqlaudit.specs.declared.lines.OfficeLine.{OfficeLine}
use Rattle.sqlaudit.specs.Outlines.{AreEntries, IsOfficeEntry}

pub first_there : (ls : List OfficeLine) (l : OfficeLine) → slice_get ls 0 ≡ Some l → Contains ls l
first_there [] l e = absurd cc
first_there (x ∷ ls) l e = let same : x ≡ l = cc in (0, omega arith, same)

pub none_there : (ls : List OfficeLine) → slice_get ls 0 ≡ None → (east : ℤ) → AreEntries IsOfficeEntry (λ one. Some east) ls → ⊥
none_there [] e east is = let l = is.all tt east refl in omega (arith, l.1.1)
none_there (x ∷ ls) e east is = absurd cc

line_is : (ls : List OfficeLine) (l : OfficeLine) (east : ℤ) → Contains ls l → AreEntries IsOfficeEntry (λ one. Some east) ls → IsOfficeEntry l tt east
line_is ls l east there is =
    let e = is.each l there in
    let same : east ≡ e.1 = cc in
    record { id_is = e.2.id_is; east_is = e.2.east_is ∙ sym same }

pub offset_of : (ls : List OfficeLine) (l : OfficeLine) (east : ℤ) → Contains ls l → AreEntries IsOfficeEntry (λ one. Some east) ls → (neg_ℤ (pos 840) ≤ℤ east) × (east ≤ℤ pos 840)
    → (neg_ℤ (pos 840) ≤ℤ l.east) × (l.east ≤ℤ pos 840)
offset_of ls l east there is within = subst (λ (z : ℤ). (neg_ℤ (pos 840) ≤ℤ z) × (z ≤ℤ pos 840)) (sym (line_is ls l east there is).east_is) within

pub same_offset : (ls : List OfficeLine) (first : OfficeLine) (east : ℤ) → Contains ls first → AreEntries IsOfficeEntry (λ one. Some east) ls → (l : OfficeLine) → Contains ls l → IsOfficeEntry l tt first.east
same_offset ls first east there is l h =
    let a = line_is ls first east there is in
    let b = line_is ls l east h is in
    record { id_is = b.id_is; east_is = b.east_is ∙ sym a.east_is }

abbrev pub no_line : OfficeLine
no_line = record { id = pos 0; version = pos 0; east = pos 0 }

pub read_again : (ls : List OfficeLine) (i : ℕ) → i < length ls → get_or ls i (get_or ls i no_line) ≡ get_or ls i no_line
read_again ls i lt =
    let a = slice_get-get_or ls i (get_or ls i no_line) lt in
    let b = slice_get-get_or ls i no_line lt in
    cc
