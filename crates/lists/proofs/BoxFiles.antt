-- The files of a box, in order.
use Rattle.std.proofs.Common.{◌≡◌, ◌∙◌, ℕ, ◌<◌, Bool, true, false, cond, List, [], length, Option, Some, None, refl, sym, ap, subst}
use Rattle.std.specs.Prelude.{IsSome, option_map}
use Rattle.std.specs.FinMap.{get, get-retain_keys}
use Rattle.std.specs.Cmp.{tied_itself}
use Rattle.std.specs.Ordering.{ordering_then}
use Rattle.std.specs.declared.cmp.Ordering.TheVariants.{Less}
use Rattle.sigtext.specs.Bytes.{bytes_cmp, same_bytes}
use Rattle.boxes.specs.Sound.{IsReceipt, IsSound}
use Rattle.boxes.specs.State.{File, Place, place_cmp, State}
use Rattle.boxes.proofs.FileBoxes.{there_is}
use Rattle.boxes.proofs.FileTotals.{place_same, same_as_itself, texts_alike}
use Rattle.boxes.proofs.Lookups.{bytes_total}
use Rattle.boxes.proofs.NoBox.{all_at}
use Rattle.boxes.specs.Next.{IsFile, IsFileIn, IsNext}
use Rattle.lists.proofs.NextFiles.{empty_first, place_behind}
use Rattle.lists.specs.Exports.{files_in, IsAmong, IsIn, start_in}

abbrev at : List ℕ → List ℕ → Place
at box name = record { box = box; name = name }

kept : (s : State) (box : List ℕ) (k : Place) → get (files_in (Some box) s) k ≡ cond (same_bytes k.box box) (get s.files k) None
kept s box k = get-retain_keys s.files (λ place. same_bytes place.box box) k (λ x e. ap (λ (p : Place). same_bytes p.box box) (sym (place_same k x e)))

cond_some : {X : Type 0} (b : Bool) (o : Option X) (x : X) → cond b o None ≡ Some x → (b ≡ true) × (o ≡ Some x)
cond_some true o x e = (refl, e)
cond_some false o x e = absurd cc

some_is : {X : Type 0} (o : Option X) (x : X) → o ≡ Some x → IsSome o
some_is o x e = rw e refl

-- a file of the box is a file of the office
pub in_files : (box : Option (List ℕ)) (s : State) (k : Place) (f : File) → get (files_in box s) k ≡ Some f → get s.files k ≡ Some f
in_files None s k f e = e
in_files (Some box) s k f e = (cond_some (same_bytes k.box box) (get s.files k) f (sym (kept s box k) ∙ e)).1

among : (s : State) (box : List ℕ) (k : Place) → IsAmong (files_in (Some box) s) k → IsFile s k × (k.box ≡ box)
among s box k there =
    let (f, is) = there_is _ there in
    let (same, it) = cond_some (same_bytes k.box box) (get s.files k) f (sym (kept s box k) ∙ is) in
    (some_is _ f it, texts_alike k.box box same)

back : (s : State) (box name : List ℕ) → IsFileIn s box name → IsAmong (files_in (Some box) s) (at box name)
back s box name there =
    let (f, is) = there_is _ there in
    some_is _ f (kept s box (at box name) ∙ ap (λ b. cond b (get s.files (at box name)) None) (same_as_itself box) ∙ is)

-- within a box the names decide the order
name_order : (box a b : List ℕ) → place_cmp (at box a) (at box b) ≡ bytes_cmp a b
name_order box a b = ap (λ r. ordering_then r (bytes_cmp a b)) (tied_itself bytes_total box)

pub next_of_box : (s : State) (box name : List ℕ) (found : Option (List ℕ)) → IsNext bytes_cmp (IsFileIn s box) name found
    → IsNext place_cmp (IsAmong (files_in (Some box) s)) (at box name) (option_map (λ n. at box n) found)
next_of_box s box name None none = λ k there after.
    let (file, e) = among s box k there in
    none k.name (subst (λ b. IsFile s (at b k.name)) e file)
    (sym (name_order box name k.name) ∙ subst (λ b. place_cmp (at box name) (at b k.name) ≡ Less) e after)
next_of_box s box name (Some n) (stands, behind, least) = (
  back s box n stands,
  name_order box name n ∙ behind,
  λ k there after before.
      let (file, e) = among s box k there in
      least k.name (subst (λ b. IsFile s (at b k.name)) e file)
      (sym (name_order box name k.name) ∙ subst (λ b. place_cmp (at box name) (at b k.name) ≡ Less) e after)
      (sym (name_order box k.name n) ∙ subst (λ b. place_cmp (at b k.name) (at box n) ≡ Less) e before),
)

name_there : (s : State) (place : Place) → IsSound s → IsFile s place → 0 < length place.name
name_there s place sound there =
    let (f, is) = there_is _ there in
    let it = sound.files place f is in
    let r = all_at (IsReceipt s) s.receipts it.listed.place it.receipt sound.receipts it.listed.listed in
    subst (λ (n : List ℕ). 0 < length n) it.name r.name.some

-- the start is before all files
pub start_before : (box : Option (List ℕ)) (s : State) (k : Place) → IsSound s → IsAmong (files_in box s) k → place_cmp (start_in box) k ≡ Less
start_before None s k sound there = place_behind s k sound there
start_before (Some box) s k sound there =
    let (file, e) = among s box k there in
    subst (λ b. place_cmp (at box []) (at b k.name) ≡ Less) (sym e) (name_order box [] k.name ∙ empty_first k.name (name_there s k sound file))

pub start_inside : (box : Option (List ℕ)) (place : Place) → place ≡ start_in box → IsIn box place
start_inside None place is = tt
start_inside (Some box) place is = ap (λ (p : Place). p.box) is
