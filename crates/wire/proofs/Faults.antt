-- What a fault of reading tells.
use Rattle.std.proofs.Common.{◌≡◌, ℕ, List, Option, Err, inl, inr, subst, sym}
use Rattle.std.specs.Io.KnownBytes.{Keeps, prepend_known}
use Rattle.sigtext.specs.Counts.{Rose}
use Rattle.wire.specs.Feeding.{AwaitsHead, CountsReads, Finds}
use Rattle.wire.specs.Waiting.{IsOfReading}
use Rattle.wire.specs.declared.fault.WireFault.{WireFault}
use Rattle.wire.specs.declared.fault.WireFault.TheVariants as fault

-- a count tells the same of every kind of result
pub counts_same : (A B : Type 0) (f : WireFault) (old new : ℕ) → CountsReads {T = A} (Err f) old new → CountsReads {T = B} (Err f) old new
counts_same A B fault.Read old new counts = counts
counts_same A B fault.Write old new counts = counts
counts_same A B fault.Memory old new counts = counts
counts_same A B fault.Waits old new counts = counts

pub counts_read : (T : Type 0) (f : WireFault) (old new : ℕ) → f ≡ fault.Read → Rose old new → CountsReads {T = T} (Err f) old new
counts_read T f old new is rose = subst (λ (e : WireFault). CountsReads {T = T} (Err e) old new) (sym is) rose

pub is_reading : (f : WireFault) → f ≡ fault.Read → IsOfReading f
is_reading f is = inl is

-- no head came: a read failed, or no more bytes may be read now
pub finds_none : (f : WireFault) (known reader : Option (List ℕ)) (waits : List ℕ) → IsOfReading f → AwaitsHead waits → Keeps known (prepend_known waits reader)
    → Finds known (Err f) waits reader
finds_none f known reader waits (inl is) head kept = subst (λ (e : WireFault). Finds known (Err e) waits reader) (sym is) (head, kept)
finds_none f known reader waits (inr is) head kept = subst (λ (e : WireFault). Finds known (Err e) waits reader) (sym is) (head, kept)
