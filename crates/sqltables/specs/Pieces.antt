-- The bytes of a file, given by the rows of its pieces.
use Rattle.std.specs.Prelude.{◌≡◌, ℕ, Bool, true, false, List, length, Option, Some, MatchOption, Vec}
use Rattle.std.specs.declared.alloc.Global.{Global}
use Rattle.sqlite_value.specs.Order.{Row}
use Rattle.sqlite_rules.specs.Lists.{Has}
use Rattle.boxes.specs.State.{Place}
use Rattle.sqltables.specs.Tables.{IsPieceRow, piece_of}

-- one of the rows is the row of this piece
pub record HasPiece (rows : List Row) (place : Place) (at : ℕ) (bytes : List ℕ) : Type 0 where
  pub row : Row
  pub there : Has rows row
  pub is : IsPieceRow row (record { place = place; at = at }) bytes

-- `size` bytes, each piece of which has a row
pub record AreBytesOf (rows : List Row) (place : Place) (size : ℕ) (bytes : List ℕ) : Type 0 where
  pub size_is : length bytes ≡ size
  pub pieces : (at : ℕ) (piece : List ℕ) → piece_of bytes at ≡ Some piece → HasPiece rows place at piece

-- the bytes of that piece, or none if no such piece exists
abbrev pub IsPieceAt : List Row → Place → ℕ → Option (Vec ℕ Global) → Type 0
IsPieceAt rows place at piece = MatchOption piece ((bytes : List ℕ) → HasPiece rows place at bytes → ⊥) (λ p. HasPiece rows place at p.items)

-- The bytes that were added are those of that piece. Or no such piece exists.
abbrev pub IsAppended : List Row → Place → ℕ → List ℕ → Bool → Type 0
IsAppended rows place at added true = HasPiece rows place at added
IsAppended rows place at added false = (bytes : List ℕ) → HasPiece rows place at bytes → ⊥

-- these bytes, or none if no bytes of this size have a row for each of their pieces
abbrev pub AreFound : List Row → Place → ℕ → Option (Vec ℕ Global) → Type 0
AreFound rows place size found = MatchOption found ((bytes : List ℕ) → AreBytesOf rows place size bytes → ⊥) (λ b. AreBytesOf rows place size b.items)
