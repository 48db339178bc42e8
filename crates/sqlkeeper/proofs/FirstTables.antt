-- The tables of a new office.
use Rattle.std.proofs.Common.{◌≡◌, ℕ, ℤ, List, Option, None, ◌∙◌}
use Rattle.std.specs.Prelude.{false}
use Rattle.std.specs.FinMap.{get, empty, get-empty}
use Rattle.sigtext.specs.Bytes.{same_bytes, bytes_cmp}
use Rattle.boxes.specs.declared.rows.Role.TheVariants.{Clerk}
use Rattle.boxes.specs.State.{Key, Place, State, place_cmp, limit_cmp}
use Rattle.boxes.specs.FirstState.{first_state}
use Rattle.sqltables.specs.Tables.{tables_of, put, Part}
use Rattle.sqltables.specs.Changes.{no_rows, with_key}
use Rattle.sqlchanges.proofs.Commands.{get_put}

-- at a key that a map lacks, adding an entry to the map gives the same as adding it to the empty map
put_on_none : {V : Type 0} (f : List ℕ → Option V) (k : List ℕ) (v : V) (q : List ℕ) → f q ≡ None → put same_bytes f k v q ≡ put same_bytes (λ x. None) k v q
put_on_none f k v q none = rw none

module _ (s : State) where
  no_box : (name : List ℕ) → get s.boxes name ≡ None → (tables_of s).box name ≡ None
  no_box name none = rw none

  no_file : (place : Place) → get s.files place ≡ None → (tables_of s).file place ≡ None
  no_file place none = rw none

  no_piece : (part : Part) → get s.files part.place ≡ None → (tables_of s).piece part ≡ None
  no_piece part none = rw none

pub first_tables : (east : ℤ) (allowance : ℕ) (id secret : List ℕ) → tables_of (first_state east allowance id secret) ≡ with_key (no_rows east allowance) id (record { role = Clerk; secret = secret; revoked = false })
unfolding first_state
first_tables east allowance id secret =
    let s = first_state east allowance id secret in
    let key : Key = record { role = Clerk; secret = secret; revoked = false } in
    λ i. record {
      offset = east;
      allowance = allowance;
      key = λ q. (get_put empty id key q ∙ put_on_none (get empty) id key q (get-empty bytes_cmp q)) i;
      box = λ name. no_box s name (get-empty bytes_cmp name) i;
      receipt = λ at. None;
      file = λ place. no_file s place (get-empty place_cmp place) i;
      piece = λ part. no_piece s part (get-empty place_cmp part.place) i;
      limit = λ l. get-empty limit_cmp l i;
    }
