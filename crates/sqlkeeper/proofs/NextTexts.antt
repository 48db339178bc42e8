-- What comes next in the tables comes next in the office.
use Rattle.std.proofs.Common.{◌≡◌, ℕ, List, Option, None, Some, true, false, option_map, refl}
use Rattle.std.specs.Prelude.{IsSome}
use Rattle.std.specs.FinMap.{get}
use Rattle.sigtext.specs.Bytes.{bytes_cmp}
use Rattle.boxes.specs.State.{State}
use Rattle.sqltables.specs.Tables.{tables_of, placed}
use Rattle.sqltables.specs.Questions.{HasLimit}
use Rattle.sqlquestions.specs.Following.{IsFirstBehind}
use Rattle.boxes.specs.Next.{IsNext, IsKey, IsBox, IsFileIn, IsLimit}

next_text : (Stands Known : List ℕ → Type 0) → ((text : List ℕ) → Stands text → Known text) → ((text : List ℕ) → Known text → Stands text) → (after : List ℕ) (found : Option (List ℕ))
    → IsFirstBehind Stands after found → IsNext bytes_cmp Known after found
next_text Stands Known there back after None h = λ text known behind. h text (back text known) behind
next_text Stands Known there back after (Some found) h = (there found h.0, h.1, λ text known behind before. h.2 text (back text known) behind before)

mapped_some : {X Y : Type 0} (f : X → Y) (o : Option X) → IsSome o → IsSome (option_map f o)
mapped_some f None h = absurd (let e : false ≡ true = h in cc)
mapped_some f (Some x) h = refl

some_mapped : {X Y : Type 0} (f : X → Y) (o : Option X) → IsSome (option_map f o) → IsSome o
some_mapped f None h = absurd (let e : false ≡ true = h in cc)
some_mapped f (Some x) h = refl

pub next_key : (s : State) (after : List ℕ) (found : Option (List ℕ)) → IsFirstBehind (λ id. IsSome ((tables_of s).key id)) after found → IsNext bytes_cmp (IsKey s) after found
next_key s after found h = next_text (λ id. IsSome ((tables_of s).key id)) (IsKey s) (λ id there. there) (λ id there. there) after found h

pub next_box : (s : State) (after : List ℕ) (found : Option (List ℕ)) → IsFirstBehind (λ name. IsSome ((tables_of s).box name)) after found → IsNext bytes_cmp (IsBox s) after found
next_box s after found h =
    next_text (λ name. IsSome ((tables_of s).box name)) (IsBox s) (λ name there. some_mapped _ (get s.boxes name) there) (λ name there. mapped_some _ (get s.boxes name) there) after found h

pub next_file : (s : State) (in_box after : List ℕ) (found : Option (List ℕ)) → IsFirstBehind (λ name. IsSome ((tables_of s).file (placed in_box name))) after found → IsNext bytes_cmp (IsFileIn s in_box) after found
next_file s in_box after found h =
    next_text (λ name. IsSome ((tables_of s).file (placed in_box name))) (IsFileIn s in_box) (λ name there. some_mapped _ (get s.files (placed in_box name)) there) (λ name there. mapped_some _ (get s.files (placed in_box name)) there) after found h

pub next_limit : (s : State) (id after : List ℕ) (found : Option (List ℕ)) → IsFirstBehind (HasLimit (tables_of s) id) after found → IsNext bytes_cmp (IsLimit s id) after found
next_limit s id after found h = next_text (HasLimit (tables_of s) id) (IsLimit s id) (λ box there. there) (λ box there. there) after found h
