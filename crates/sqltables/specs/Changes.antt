-- The tables after one statement.
use Rattle.std.specs.Prelude.{◌≡◌, ◌⊎◌, ℕ, ℤ, ◌+◌, nat_eq, nat_lt, if◌then◌else◌, List, Option, Some, None}
use Rattle.sigtext.specs.Bytes.{same_bytes}
use Rattle.boxes.specs.State.{Key, Place, Receipt, Limit}
use Rattle.sqltables.specs.Tables.{Tables, Box, Part, put, without, same_place, same_part, same_limit, piece_of}

-- no rows except the office's row and the row with its allowance
abbrev pub no_rows : ℤ → ℕ → Tables
no_rows offset allowance = record {
  offset = offset;
  allowance = allowance;
  key = λ id. None;
  box = λ name. None;
  receipt = λ at. None;
  file = λ place. None;
  piece = λ part. None;
  limit = λ limit. None;
}

abbrev pub with_allowance : Tables → ℕ → Tables
with_allowance tables seconds = record tables { allowance = seconds }

abbrev pub with_limit : Tables → Limit → Tables
with_limit tables limit = record tables { limit = put same_limit tables.limit limit tt }

abbrev pub with_key : Tables → List ℕ → Key → Tables
with_key tables id key = record tables { key = put same_bytes tables.key id key }

abbrev pub with_receipt : Tables → ℕ → Receipt → Tables
with_receipt tables at r = record tables { receipt = put nat_eq tables.receipt at r }

abbrev pub with_piece : Tables → Part → List ℕ → Tables
with_piece tables part bytes = record tables { piece = put same_part tables.piece part bytes }

-- the first `count` pieces of these bytes exist, and no others at this place
abbrev pub with_pieces : Tables → Place → List ℕ → ℕ → Tables
with_pieces tables place bytes count = record tables {
  piece = λ part. if same_place part.place place then (if nat_lt part.at count then piece_of bytes part.at else None) else tables.piece part;
}

abbrev pub without_pieces : Tables → Place → Tables
without_pieces tables place = record tables { piece = without (λ part. same_place part.place place) tables.piece }

abbrev pub with_totals : ℕ → ℕ → Box → Box
with_totals used count box = record box { used = used; count = count }

-- the box closes at this moment
abbrev pub closing_at : ℕ → Box → Box
closing_at moment box = record box { settings = record box.settings { closes = moment } }

abbrev pub with_box : Tables → List ℕ → Box → Tables
with_box tables name box = record tables { box = put same_bytes tables.box name box }

-- g is f with this entry, whose key was free
pub record Adds {K V : Type 0} (f g : K → Option V) (k : K) (v : V) : Type 0 where
  pub here : g k ≡ Some v
  pub still : (q : K) (w : V) → f q ≡ Some w → g q ≡ Some w
  pub either : (q : K) (w : V) → g q ≡ Some w → ((q ≡ k) × (w ≡ v)) ⊎ (f q ≡ Some w)

-- one more piece is there, and everything else is unchanged
abbrev pub AddsPiece : Tables → Tables → Part → List ℕ → Type 0
AddsPiece tables after part bytes = Adds tables.piece after.piece part bytes × (after ≡ record tables { piece = after.piece })

-- no piece exists at this place
abbrev pub NoPieces : Tables → Place → Type 0
NoPieces tables place = (at : ℕ) → tables.piece (record { place = place; at = at }) ≡ None

-- the pieces at this place are those of these bytes
abbrev pub with_bytes : Tables → Place → List ℕ → Tables
with_bytes tables place bytes = record tables { piece = λ part. if same_place part.place place then piece_of bytes part.at else tables.piece part }

abbrev pub with_file : Tables → Place → ℕ → Tables
with_file tables place number = record tables { file = put same_place tables.file place number }

abbrev pub without_file : Tables → Place → Tables
without_file tables place = record tables { file = without (λ q. same_place q place) tables.file }

-- what `drop a file` writes: the file's pieces and its row are deleted, and the totals are updated
abbrev pub with_drop : Tables → Place → Box → Tables
with_drop tables place box = with_box (without_file (without_pieces tables place) place) place.box box

-- what `set a file` writes: the old pieces are deleted, the row of `files` is set,
-- and the receipt, the new pieces and the totals are written
abbrev pub with_upload : Tables → Place → List ℕ → ℕ → Receipt → Box → Tables
with_upload tables place bytes at r box =
    with_box (with_bytes (with_file (with_receipt (without_pieces tables place) at r) place (at + 1)) place bytes) place.box box
