-- How a connection ended.
use Rattle.std.specs.Prelude.{Bool, true, false}
use Rattle.wire.specs.declared.session.SessionEnd.{SessionEnd}
use Rattle.wire.specs.declared.session.SessionEnd.TheVariants.{Ended, Truncated, Refused, Limit, ReadFault, WriteFault}

-- the connection ended by a failed read or write
abbrev pub is_fault : SessionEnd → Bool
is_fault ReadFault = true
is_fault WriteFault = true
is_fault Ended = false
is_fault Truncated = false
is_fault (Refused number) = false
is_fault Limit = false
