-- A file that is set is an accepted upload. A desk command that is obeyed has its form and is possible.
use Rattle.std.proofs.Common.{sym, subst}
use Rattle.boxes.specs.declared.change.Change.{Change}
use Rattle.boxes.specs.declared.change.Change.TheVariants as change
use Rattle.boxes.specs.Changes.{MayChange, upload_in, command_of}
use Rattle.boxes.specs.Sound.{IsSound}
use Rattle.boxes.specs.State.{State}
use Rattle.boxes.proofs.SoundCommands.{command_keeps_soundness}
use Rattle.boxes.proofs.SoundUploads.{upload_keeps_soundness}
use Rattle.boxes.proofs.laws.law_of_changes.Goals as goal

change_keeps_soundness : (s after : State) (it : Change) → IsSound s → MayChange s it after → IsSound after
change_keeps_soundness s after (change.SetFile f) sound (bytes, staged, set) =
    subst IsSound (sym set.sets) (upload_keeps_soundness s (upload_in f bytes) sound set.taken)
change_keeps_soundness s after (change.Desk c) sound h = command_keeps_soundness s (command_of c) after sound h.form h.possible h.step

pub returns : goal.returns
returns c = change_keeps_soundness
