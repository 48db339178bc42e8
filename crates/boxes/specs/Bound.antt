-- What the calls of a keeper leave, if a trait bound names the keeper.
use Rattle.std.specs.Prelude.{Result}
use Rattle.boxes.specs.declared.keep.KeepFault.{KeepFault}
use Rattle.boxes.specs.declared.keep.Keeper.{Ghosts}
use Rattle.boxes.specs.Keeping.{Stays}

-- the call changed nothing, whatever it returned
abbrev pub StaysBy : {K T : Type 0} → Ghosts K → K → K → Result T KeepFault → Type 0
StaysBy k = Stays k.means k.is_honest k.is_open k.faults k.leaves k.leaves_whole k.has_store k.is_alone k.gathers
