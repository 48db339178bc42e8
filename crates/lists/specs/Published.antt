-- The text of a published manifest.
use Rattle.std.specs.Prelude.{◌≡◌, ℕ, List, [], ◌++◌, Option, Some, None, Result, Err, IsSome, IsTrue, OnOk, Vec, option_map, ⊤}
use Rattle.std.specs.declared.alloc.Global.{Global}
use Rattle.sigtext.specs.Bytes.{IsBeginning}
use Rattle.boxes.specs.State.{State}
use Rattle.boxes.specs.Rows.{numbered}
use Rattle.boxes.specs.declared.keep.Keeper.{Ghosts}
use Rattle.lists.specs.Lists.{IsTable}
use Rattle.lists.specs.Manifests.{manifest_head, IsReceiptLine, WritesManifest}
use Rattle.lists.specs.declared.publisher.Publisher.{Publisher}

-- ---- the text of a sheet, which may be unknown

-- a beginning of the bytes was appended, and all of them if the call succeeded
pub record IsAdded {T E : Type 0} (bytes text after : List ℕ) (result : Result T E) : Type 0 where
  pub front : List ℕ
  pub is_front : IsBeginning front bytes
  pub is : after ≡ text ++ front
  pub whole : OnOk result (front ≡ bytes)

-- the same for a text that may be unknown; an unknown text stays unknown
abbrev pub Adds : {T E : Type 0} → List ℕ → Option (List ℕ) → Option (List ℕ) → Result T E → Type 0
Adds bytes None new result = new ≡ None
Adds bytes (Some text) new result = (after : List ℕ) × (new ≡ Some after) × IsAdded bytes text after result

-- all of the bytes were appended; an unknown text stays unknown
abbrev pub AddsAll : List ℕ → Option (List ℕ) → Option (List ℕ) → Type 0
AddsAll bytes None new = new ≡ None
AddsAll bytes (Some text) new = new ≡ Some (text ++ bytes)

-- the text is empty or unknown
abbrev pub IsBlank : Option (List ℕ) → Type 0
IsBlank None = ⊤
IsBlank (Some text) = text ≡ []

-- the text is unknown, or is the manifest of the state: the header line and one line per receipt
abbrev pub IsPublished : State → Option (List ℕ) → Type 0
IsPublished s None = ⊤
IsPublished s (Some text) = IsTable manifest_head IsReceiptLine (numbered 1 s.receipts) text

-- the text is unknown, or a beginning of the manifest: of the header line and the lines of the first receipts
abbrev pub IsBegun : State → Option (List ℕ) → Type 0
IsBegun s None = ⊤
IsBegun s (Some text) = WritesManifest {T = ⊤} {E = ⊤} s (Some []) (Some text) (Err tt)

-- ---- the lines of a group's receipts, which are held until it is settled; outside a group there are none

-- the text of the sheet, and behind it what is held; an unknown text stays unknown
abbrev pub with_held : Option (Vec ℕ Global) → Option (List ℕ) → Option (List ℕ)
with_held None contents = contents
with_held (Some held) contents = option_map (λ text. text ++ held.items) contents

-- no line is held
abbrev pub HoldsNoLine : Option (Vec ℕ Global) → Type 0
HoldsNoLine None = ⊤
HoldsNoLine (Some held) = held.items ≡ []

-- The publisher is in a group that began when it was the first. Nothing reached the sheet since.
pub record HoldsSince {K S E : Type 0} (k : Ghosts K) (first p : Publisher K S E) : Type 0 where
  pub inner : k.gathers first.keeper p.keeper
  pub honest : k.is_honest p.keeper → k.is_honest first.keeper
  pub alone : first.held ≡ None
  pub group : IsSome p.held
  pub sheet : p.sheet ≡ first.sheet
  pub whole : IsTrue p.is_whole → IsTrue first.is_whole
