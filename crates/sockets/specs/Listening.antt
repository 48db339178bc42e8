-- What a listener does with its connections.
use Rattle.std.specs.Prelude.{◌≡◌, ◌⊎◌, None, Option, Some, pos}
use Rattle.std.specs.IoError.{error_kind, raw_os_error}
use Rattle.std.specs.declared.io.Error.{Error}
use Rattle.std.specs.declared.io.ErrorKind.TheVariants as kinds
use Rattle.wire.specs.declared.seat.Seat.{Seat}
use Rattle.wire.specs.declared.gathered.Gathered.{Gathered}
use Rattle.wire.specs.declared.outbox.Outbox.{Outbox}

-- One thing that a listener did. S: a connection as it was accepted; E: one of its ends.
pub data Event (S E : Type 0) : Type 0 where
  -- it accepted a connection
  accepted : S → Event S E
  -- it could not accept a connection, with this error
  missed : Error → Event S E
  -- it made the two ends of a connection: the first is read, the second is written to
  opened : E → E → Event S E
  -- it could not make the ends of a connection, with this error, and may have handed the connection back
  unready : Option S → Error → Event S E
  -- a connection was given back to it, as it was then
  closed : Seat (Gathered E) (Outbox E) → Event S E

-- The error means a shortage that may end: of memory, of descriptors in the system or in this process, or of
-- buffers, by the system's number; or of memory, without a number.
abbrev pub IsWant : Error → Type 0
IsWant e = (raw_os_error e ≡ Some (pos 12)) ⊎ (raw_os_error e ≡ Some (pos 23)) ⊎ (raw_os_error e ≡ Some (pos 24)) ⊎ (raw_os_error e ≡ Some (pos 105))
    ⊎ ((raw_os_error e ≡ None) × (error_kind e ≡ kinds.OutOfMemory))
