-- What a cache says about a state.
use Rattle.std.specs.Prelude.{◌≡◌, ◌≢◌, ◌⊎◌, ℕ, ◌+◌, List, length, Option, Some, Vec, IfSome, IsTrue, option_map}
use Rattle.std.specs.FinMap.{get}
use Rattle.std.specs.declared.alloc.Global.{Global}
use Rattle.sigtext.specs.Bytes.{bytes_cmp}
use Rattle.boxes.specs.Limits.{MayUse}
use Rattle.boxes.specs.Maps.{found}
use Rattle.boxes.specs.Rows.{IsOfficeOf, key_of, settings_of}
use Rattle.boxes.specs.declared.totals.Totals.{Totals}
use Rattle.boxes.specs.State.{State}
use Rattle.boxes.specs.Views.{AreTotals}
use Rattle.shelf.specs.Shelves.{bytes_of, has_box}
use Rattle.shelf.specs.declared.cache.CachedKey.{CachedKey}
use Rattle.shelf.specs.declared.cache.CachedBox.{CachedBox}
use Rattle.shelf.specs.declared.cache.Cache.{Cache}
use Rattle.shelf.specs.declared.last_size.LastSize.{LastSize}

-- the state has this key, and the key may use each of these boxes
pub record IsKeyIn (s : State) (id : List ℕ) (k : CachedKey) : Type 0 where
  pub row : get s.keys id ≡ Some (key_of k.row)
  pub uses : (box : List ℕ) → IsTrue (has_box k.uses box) → MayUse s id box

-- the state has this box, with these totals if they are known
pub record IsBoxIn (s : State) (name : List ℕ) (b : CachedBox) : Type 0 where
  pub row : get s.boxes name ≡ Some (settings_of b.row)
  pub totals : IfSome b.totals (AreTotals s name)

-- each cached key is in the state
abbrev pub RecallsKeys : State → List (Vec ℕ Global × CachedKey) → Type 0
RecallsKeys s es = (id : List ℕ) (k : CachedKey) → found bytes_cmp bytes_of es id ≡ Some k → IsKeyIn s id k

-- each cached box is in the state
abbrev pub RecallsBoxes : State → List (Vec ℕ Global × CachedBox) → Type 0
RecallsBoxes s es = (name : List ℕ) (b : CachedBox) → found bytes_cmp bytes_of es name ≡ Some b → IsBoxIn s name b

-- the file has this size, or there is no such file
abbrev pub IsSizeIn : State → LastSize → Type 0
IsSizeIn s l = l.size ≡ option_map (λ f. length f.bytes) (get s.files (record { box = l.in_box.items; name = l.name.items }))

-- everything in the cache agrees with the state
pub record Recalls (c : Cache) (s : State) : Type 0 where
  pub office : IfSome c.office (IsOfficeOf s)
  pub next : IfSome c.next_number (λ n. n ≡ length s.receipts + 1)
  pub keys : RecallsKeys s c.keys.entries
  pub boxes : RecallsBoxes s c.boxes.entries
  pub last : IfSome c.last_size (IsSizeIn s)

-- ---- entries added and removed

-- each entry was there before
abbrev pub IsPart : {X : Type 0} → List (Vec ℕ Global × X) → List (Vec ℕ Global × X) → Type 0
IsPart {X = X} es after = (q : List ℕ) (x : X) → found bytes_cmp bytes_of after q ≡ Some x → found bytes_cmp bytes_of es q ≡ Some x

-- each entry was there before, or is this one
abbrev pub IsPut : {X : Type 0} → List ℕ → X → List (Vec ℕ Global × X) → List (Vec ℕ Global × X) → Type 0
IsPut {X = X} name new es after = (q : List ℕ) (x : X) → found bytes_cmp bytes_of after q ≡ Some x → ((q ≡ name) × (x ≡ new)) ⊎ (found bytes_cmp bytes_of es q ≡ Some x)

-- each entry was there before, and is not under this name
abbrev pub Lacks : {X : Type 0} → List ℕ → List (Vec ℕ Global × X) → List (Vec ℕ Global × X) → Type 0
Lacks {X = X} name es after = (q : List ℕ) (x : X) → found bytes_cmp bytes_of after q ≡ Some x → (q ≢ name) × (found bytes_cmp bytes_of es q ≡ Some x)

-- each entry was there before, except that the box of this name now has these totals
abbrev pub HasTotals : List ℕ → Option Totals → List (Vec ℕ Global × CachedBox) → List (Vec ℕ Global × CachedBox) → Type 0
HasTotals name totals es after = (q : List ℕ) (b : CachedBox) → found bytes_cmp bytes_of after q ≡ Some b
    → (old : CachedBox) × (found bytes_cmp bytes_of es q ≡ Some old) × (b.row ≡ old.row) × (((q ≢ name) × (b.totals ≡ old.totals)) ⊎ ((q ≡ name) × (b.totals ≡ totals)))
