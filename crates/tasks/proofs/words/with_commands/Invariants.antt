use Rattle.std.proofs.Common.{◌≡◌, take}
use Rattle.clap.specs.Words.{app_of}
use Rattle.tasks.specs.Building.{lined}
use Rattle.tasks.proofs.words.with_commands.Given as goal

abbrev pub invariant-loop-form : goal.invariant-loop-form
invariant-loop-form l = app_of l.line ≡ lined (app_of l.initial.line) (take l.form-index l.forms)
