-- What writing a response does.
use Rattle.std.specs.Prelude.{◌≡◌, ◌≢◌, ◌⊎◌, ℕ, List, Option, Some, ⊤}
use Rattle.std.specs.Io.KnownBytes.{Appends}
use Rattle.sigtext.specs.Bytes.{IsBeginning}
use Rattle.sigtext.specs.Counts.{Rose}
use Rattle.sigtext.specs.Refusals.{number_of}
use Rattle.sigtext.specs.declared.refusal.Refusal.{Refusal}
use Rattle.sigtext.specs.declared.refusal.Refusal.TheVariants as rule
use Rattle.boxes.specs.declared.keep.Keeper.{Ghosts}
use Rattle.wire.specs.Shown.{whole_text}
use Rattle.wire.specs.declared.answer.Answer.{Answer}
use Rattle.wire.specs.declared.counted.Counted.{Counted}
use Rattle.wire.specs.declared.session.SessionEnd.{SessionEnd}
use Rattle.wire.specs.declared.session.SessionEnd.TheVariants.{Ended, Truncated, Refused, ReadFault, WriteFault}
use Rattle.office.specs.Handling.{end_of}
use Rattle.office.specs.Offices.{IsTryAgain}
use Rattle.office.specs.Sessions.{closing}
use Rattle.office.specs.declared.connections.responding.Handled.{Handled}
use Rattle.office.specs.declared.connections.responding.Handled.TheVariants.{Answered, GaveUp, Broken}
use Rattle.office.specs.declared.connections.responding.Response.{Response}
use Rattle.office.specs.declared.connections.responding.Response.TheVariants as response

-- the answer was written, in full or in part
abbrev pub IsSent : Option (List ℕ) → Option (List ℕ) → Answer → Handled → Type 0
IsSent old new a Answered = (IsTryAgain a → ⊥) × Appends old new (whole_text a)
IsSent old new a GaveUp = IsTryAgain a × Appends old new (whole_text a)
IsSent old new a Broken = (IsTryAgain a ⊎ (IsTryAgain a → ⊥)) × (front : List ℕ) × Appends old new front × IsBeginning front (whole_text a)

-- the closing answer of the refusal was written, in full or in part
abbrev pub IsClosed : Option (List ℕ) → Option (List ℕ) → Refusal → SessionEnd → Type 0
IsClosed old new q (Refused number) = (number ≡ number_of q) × Appends old new (closing q)
IsClosed old new q WriteFault = (front : List ℕ) × Appends old new front × IsBeginning front (closing q)
IsClosed old new q _ = ⊥

-- the response was written, in full or in part, and the session ends like this, if it does
abbrev pub IsTold : Option (List ℕ) → Option (List ℕ) → Response → Option SessionEnd → Type 0
IsTold old new (response.Answer a) end = (h : Handled) × (end ≡ end_of h) × IsSent old new a h
IsTold old new (response.Close q) end = (e : SessionEnd) × (end ≡ Some e) × IsClosed old new q e
IsTold old new response.Ended end = (end ≡ Some Ended) × (new ≡ old)
IsTold old new response.Truncated end = (end ≡ Some Truncated) × (new ≡ old)
IsTold old new response.ReadFault end = (end ≡ Some ReadFault) × (new ≡ old)

-- the writer's count of faults rose if a write failed, and is unchanged otherwise
pub record TellsWritten {W : Type 0} (end : Option SessionEnd) (writer writer' : Counted W) : Type 0 where
  pub written : end ≡ Some WriteFault → Rose writer.faults writer'.faults
  pub not_written : (end ≢ Some WriteFault) → writer'.faults ≡ writer.faults

-- this holds if the response answers a message that came whole
abbrev pub IfAnswer : Response → Type 0 → Type 0
IfAnswer (response.Answer a) P = P
IfAnswer _ P = ⊤

-- the faults of reading that were counted
abbrev pub TellsReading : {R : Type 0} → Response → Counted R → Counted R → Type 0
TellsReading response.ReadFault reader reader' = Rose reader.faults reader'.faults
TellsReading _ reader reader' = reader'.faults ≡ reader.faults

-- Something is given up: by refusal 40, or the keeper counted a fault when a read failed.
abbrev pub GivesUp : {K : Type 0} → Ghosts K → K → K → Response → Type 0
GivesUp k old new (response.Answer a) = IsTryAgain a
GivesUp k old new (response.Close q) = q ≡ rule.TryAgain
GivesUp k old new response.Ended = ⊥
GivesUp k old new response.Truncated = ⊥
GivesUp k old new response.ReadFault = Rose (k.faults old) (k.faults new)
