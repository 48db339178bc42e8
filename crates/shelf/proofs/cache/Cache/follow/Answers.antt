use Rattle.std.proofs.Common.{subst}
use Rattle.boxes.specs.Changes.{MayChange}
use Rattle.boxes.specs.declared.change.Change.{Change}
use Rattle.shelf.proofs.cache.Cache.follow.Goals as goal

pub returns-in-SetFile : goal.returns-in-SetFile
returns-in-SetFile c s after sound may h =
    let is = subst (λ (x : Change). MayChange s x after) c.in-SetFile.is may in
    c.follow_file.ensures s after is.0 sound is.2 h

pub returns-in-Desk : goal.returns-in-Desk
returns-in-Desk c s after sound may h =
    let is = subst (λ (x : Change). MayChange s x after) c.in-Desk.is may in
    c.follow_command.ensures s after is h
