-- Which file comes next, in the order of boxes and then names.
use Rattle.std.proofs.Common.{◌≡◌, ◌∙◌, ℕ, ◌<◌, List, [], ◌∷◌, length, Option, Some, None, inl, inr, refl, sym, ap, subst, arith}
use Rattle.std.specs.Prelude.{◌⊎◌}
use Rattle.std.specs.declared.cmp.Ordering.{Ordering}
use Rattle.std.specs.declared.cmp.Ordering.TheVariants.{Less, Equal, Greater}
use Rattle.std.specs.Ordering.{ordering_then}
use Rattle.std.specs.Cmp.{tied_itself}
use Rattle.sigtext.specs.Bytes.{bytes_cmp}
use Rattle.boxes.specs.Sound.{IsReceipt, IsSound}
use Rattle.boxes.specs.State.{Place, place_cmp, State}
use Rattle.boxes.proofs.FileBoxes.{file_in_box, there_is}
use Rattle.boxes.proofs.Lookups.{bytes_same, bytes_total}
use Rattle.boxes.proofs.NoBox.{all_at}
use Rattle.boxes.specs.Next.{IsBox, IsFile, IsFileIn, IsKey, IsNext}
use Rattle.lists.specs.Places.{IsFirstPast}
use Rattle.lists.proofs.Orders.{not_itself, turned}

-- ---- the order of places

abbrev at : List ℕ → List ℕ → Place
at box name = record { box = box; name = name }

-- the empty text is before every other
pub empty_first : (text : List ℕ) → 0 < length text → bytes_cmp [] text ≡ Less
empty_first [] some = absurd (omega (arith, some))
empty_first (b ∷ text) some = refl

by_box : (a b : Place) → bytes_cmp a.box b.box ≡ Less → place_cmp a b ≡ Less
by_box a b less = ap (λ r. ordering_then r (bytes_cmp a.name b.name)) less

by_name : (box a b : List ℕ) → bytes_cmp a b ≡ Less → place_cmp (at box a) (at box b) ≡ Less
by_name box a b less = ap (λ r. ordering_then r (bytes_cmp a b)) (tied_itself bytes_total box) ∙ less

parts : (a b : Place) → place_cmp a b ≡ Less → (bytes_cmp a.box b.box ≡ Less) ⊎ ((a.box ≡ b.box) × (bytes_cmp a.name b.name ≡ Less))
parts a b less =
    elim (bytes_cmp a.box b.box) as (λ r. bytes_cmp a.box b.box ≡ r → ordering_then r (bytes_cmp a.name b.name) ≡ Less
    → (bytes_cmp a.box b.box ≡ Less) ⊎ ((a.box ≡ b.box) × (bytes_cmp a.name b.name ≡ Less))) [
      | Less ↦ λ is name. inl is
      | Equal ↦ λ is name. inr (bytes_same a.box b.box is, name)
      | Greater ↦ λ is name. absurd (other name)
    ] refl less
  where
    other : Greater ≡ Less → ⊥
    other e = cc

-- ---- keys, boxes and files that exist

name_there : (s : State) (place : Place) → IsSound s → IsFile s place → 0 < length place.name
name_there s place sound there =
    let (f, is) = there_is _ there in
    let it = sound.files place f is in
    let r = all_at (IsReceipt s) s.receipts it.listed.place it.receipt sound.receipts it.listed.listed in
    subst (λ (n : List ℕ). 0 < length n) it.name r.name.some

pub key_behind : (s : State) (id : List ℕ) → IsSound s → IsKey s id → bytes_cmp [] id ≡ Less
key_behind s id sound there = let (k, is) = there_is _ there in empty_first id (sound.keys id k is).0.some

pub box_behind : (s : State) (name : List ℕ) → IsSound s → IsBox s name → bytes_cmp [] name ≡ Less
box_behind s name sound there = let (b, is) = there_is _ there in empty_first name (sound.boxes name b is).0.some

pub place_behind : (s : State) (place : Place) → IsSound s → IsFile s place → place_cmp (at [] []) place ≡ Less
place_behind s place sound there = go (bytes_cmp [] place.box) refl
  where
    no_greater : (text : List ℕ) → bytes_cmp [] text ≡ Greater → ⊥
    no_greater [] e = cc
    no_greater (b ∷ text) e = cc

    go : (r : Ordering) → bytes_cmp [] place.box ≡ r → place_cmp (at [] []) place ≡ Less
    go Less e = by_box (at [] []) place e
    go Equal e = ap (λ r. ordering_then r (bytes_cmp [] place.name)) e ∙ empty_first place.name (name_there s place sound there)
    go Greater e = absurd (no_greater place.box e)

box_there : (s : State) (place : Place) → IsSound s → IsFile s place → IsBox s place.box
box_there s place sound there = let (f, is) = there_is _ there in file_in_box s place f sound is

-- ---- the file after a place

-- it is the next of the same box
pub next_in_box : (s : State) (box name : List ℕ) (n : List ℕ) → IsNext bytes_cmp (IsFileIn s box) name (Some n)
    → IsNext place_cmp (IsFile s) (at box name) (Some (at box n))
next_in_box s box name n (stands, behind, least) = (
  stands,
  by_name box name n behind,
  λ k there after before. go k there (parts (at box name) k after) (parts k (at box n) before),
)
  where
    go : (k : Place) → IsFile s k → (bytes_cmp box k.box ≡ Less) ⊎ ((box ≡ k.box) × (bytes_cmp name k.name ≡ Less))
        → (bytes_cmp k.box box ≡ Less) ⊎ ((k.box ≡ box) × (bytes_cmp k.name n ≡ Less)) → ⊥
    go k there (inl a) (inl b) = not_itself bytes_total box (bytes_total.trans box k.box box a b)
    go k there (inl a) (inr b) = not_itself bytes_total box (subst (λ t. bytes_cmp box t ≡ Less) b.0 a)
    go k there (inr a) (inl b) = not_itself bytes_total box (subst (λ t. bytes_cmp t box ≡ Less) (sym a.0) b)
    go k there (inr a) (inr b) = least k.name (subst (λ t. IsFile s (at t k.name)) (sym a.0) there) a.1 b.1

-- if the box has no later file, it is the first file of the later boxes
pub next_past : (s : State) (box name : List ℕ) (found : Option Place) → IsNext bytes_cmp (IsFileIn s box) name None
    → IsFirstPast s box found → IsNext place_cmp (IsFile s) (at box name) found
next_past s box name None none past = λ k there after. go k there (parts (at box name) k after)
  where
    go : (k : Place) → IsFile s k → (bytes_cmp box k.box ≡ Less) ⊎ ((box ≡ k.box) × (bytes_cmp name k.name ≡ Less)) → ⊥
    go k there (inl l) = past k (there, l) (by_box (at box []) k l)
    go k there (inr e) = none k.name (subst (λ t. IsFile s (at t k.name)) (sym e.0) there) e.1
next_past s box name (Some f) none (stands, behind, least) = (
  stands.0,
  by_box (at box name) f stands.1,
  λ k there after before. go k there before (parts (at box name) k after),
)
  where
    go : (k : Place) → IsFile s k → place_cmp k f ≡ Less → (bytes_cmp box k.box ≡ Less) ⊎ ((box ≡ k.box) × (bytes_cmp name k.name ≡ Less)) → ⊥
    go k there before (inl l) = least k (there, l) (by_box (at box []) k l) before
    go k there before (inr e) = none k.name (subst (λ t. IsFile s (at t k.name)) (sym e.0) there) e.1

-- ---- the first file of the boxes after a box

-- the boxes up to here have no file
pub record IsPast (s : State) (box here : List ℕ) : Type 0 where
  pub reached : (here ≡ box) ⊎ (bytes_cmp box here ≡ Less)
  pub none : (place : Place) → IsFile s place → bytes_cmp box place.box ≡ Less → bytes_cmp here place.box ≡ Less

pub past_begins : (s : State) (box here : List ℕ) → here ≡ box → IsPast s box here
past_begins s box here is = record { reached = inl is; none = λ place there less. subst (λ t. bytes_cmp t place.box ≡ Less) (sym is) less }

behind_reached : (s : State) (box here next : List ℕ) → IsPast s box here → bytes_cmp here next ≡ Less → bytes_cmp box next ≡ Less
behind_reached s box here next past less = go past.reached
  where
    go : (here ≡ box) ⊎ (bytes_cmp box here ≡ Less) → bytes_cmp box next ≡ Less
    go (inl is) = subst (λ t. bytes_cmp t next ≡ Less) is less
    go (inr l) = bytes_total.trans box here next l less

pub past_ends : (s : State) (box here : List ℕ) → IsSound s → IsPast s box here → IsNext bytes_cmp (IsBox s) here None → IsFirstPast s box None
past_ends s box here sound past none = λ k (there, less) after. none k.box (box_there s k sound there) (past.none k there less)

pub past_found : (s : State) (box here next name : List ℕ) → IsSound s → IsPast s box here
    → IsNext bytes_cmp (IsBox s) here (Some next) → IsNext bytes_cmp (IsFileIn s next) [] (Some name) → IsFirstPast s box (Some (at next name))
past_found s box here next name sound past (stands, behind, least) (file_stands, file_behind, file_least) = (
  (file_stands, behind_reached s box here next past behind),
  by_box (at box []) (at next name) (behind_reached s box here next past behind),
  λ k (there, less) after before. go k there less (parts k (at next name) before),
)
  where
    go : (k : Place) → IsFile s k → bytes_cmp box k.box ≡ Less → (bytes_cmp k.box next ≡ Less) ⊎ ((k.box ≡ next) × (bytes_cmp k.name name ≡ Less)) → ⊥
    go k there less (inl l) = least k.box (box_there s k sound there) (past.none k there less) l
    go k there less (inr e) = file_least k.name (subst (λ t. IsFile s (at t k.name)) e.0 there) (empty_first k.name (name_there s k sound there)) e.1

pub past_moves : (s : State) (box here next : List ℕ) → IsSound s → IsPast s box here
    → IsNext bytes_cmp (IsBox s) here (Some next) → IsNext bytes_cmp (IsFileIn s next) [] None → IsPast s box next
past_moves s box here next sound past (stands, behind, least) none = record {
  reached = inr (behind_reached s box here next past behind);
  none = λ place there less. go place there (past.none place there less) (bytes_cmp next place.box) refl;
}
  where
    go : (k : Place) → IsFile s k → bytes_cmp here k.box ≡ Less → (r : Ordering) → bytes_cmp next k.box ≡ r → bytes_cmp next k.box ≡ Less
    go k there after Less is = is
    go k there after Equal is = absurd (none k.name (subst (λ t. IsFile s (at t k.name)) (sym (bytes_same next k.box is)) there) (empty_first k.name (name_there s k sound there)))
    go k there after Greater is = absurd (least k.box (box_there s k sound there) after (bytes_total.antisymm k.box next ∙ turned (bytes_cmp next k.box) is))
