-- Connections among others, and what is done to them between two turns.
use Rattle.std.specs.Prelude.{◌≡◌, ℕ, List, [], ◌++◌, Option, None}
use Rattle.std.specs.Io.KnownBytes.{Keeps, prepend_known}
use Rattle.wire.specs.Feeds.{ahead_of, given_before, stood_at}
use Rattle.wire.specs.Underways.{begun_by}
use Rattle.wire.specs.declared.seat.Seat.{Seat}
use Rattle.wire.specs.declared.standing.Standing.{Standing}
use Rattle.wire.specs.declared.underway.Underway.{Underway}

-- What is left of a stream: the message whose body has not come whole, as far as it came; the bytes that a feed
-- set aside has read and not taken; those that the reader has.
abbrev pub left_behind : Option Underway → Standing → Option (List ℕ) → Option (List ℕ)
left_behind underway standing reader = prepend_known (begun_by underway) (prepend_known (given_before standing) (prepend_known (ahead_of standing) reader))

-- the bytes that came of the message that is to be answered next
abbrev pub came_behind : Option Underway → Standing → List ℕ
came_behind underway standing = begun_by underway ++ (given_before standing ++ ahead_of standing)

abbrev pub came_of : {R W : Type 0} → Seat R W → List ℕ
came_of seat = came_behind seat.underway seat.standing

-- what is left of a connection's stream
abbrev pub left_of : {R W : Type 0} → (R → Option (List ℕ)) → Seat R W → Option (List ℕ)
left_of remaining seat = left_behind seat.underway seat.standing (remaining seat.reader.inner)

-- none of its messages was served or begun
pub record IsNew {R W : Type 0} (seat : Seat R W) : Type 0 where
  pub none : seat.served ≡ 0
  pub open_still : seat.end ≡ None
  pub unwaited : seat.waited.items ≡ []
  pub unbegun : seat.underway ≡ None

-- Bytes of the connection were read ahead or put back. Nothing else was done.
pub record Gathers {R W : Type 0} (remaining : R → Option (List ℕ)) (old new : Seat R W) : Type 0 where
  pub place : stood_at new.standing ≡ stood_at old.standing
  pub underway : new.underway ≡ old.underway
  pub waited : new.waited ≡ old.waited
  pub keeps : Keeps (left_of remaining old) (left_of remaining new)
  pub read : new.reader.faults ≡ old.reader.faults
  pub writer : new.writer ≡ old.writer
  pub served : new.served ≡ old.served
  pub end : new.end ≡ old.end

-- Bytes that were written to the connection were sent, whether it has ended or not. Nothing else was done.
pub record Sends {R W : Type 0} (contents : W → Option (List ℕ)) (old new : Seat R W) : Type 0 where
  pub standing : new.standing ≡ old.standing
  pub underway : new.underway ≡ old.underway
  pub waited : new.waited ≡ old.waited
  pub reader : new.reader ≡ old.reader
  pub holds : Keeps (contents old.writer.inner) (contents new.writer.inner)
  pub written : new.writer.faults ≡ old.writer.faults
  pub served : new.served ≡ old.served
  pub end : new.end ≡ old.end
