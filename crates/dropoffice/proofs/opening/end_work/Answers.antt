use Rattle.sqlite.specs.Files.{file_state}
use Rattle.dropoffice.proofs.Crashing.{left_of}
use Rattle.dropoffice.proofs.opening.end_work.Goals as goal

pub returns-in-Look-clause-closed : goal.returns-in-Look-clause-closed
returns-in-Look-clause-closed g c done changes = absurd (changes c.in-Look.is)

pub returns-in-Look-clause-crash : goal.returns-in-Look-clause-crash
returns-in-Look-clause-crash g c clean s keeps whole = left_of (file_state c.args.conn) s clean whole
