use Rattle.std.proofs.Common.{◌≡◌, sym, subst}
use Rattle.boxes.specs.Changes.{IsChangeOf, IsFileSet}
use Rattle.sqltables.specs.Schema.{v2, second_version}
use Rattle.sqltables.specs.Staging.{held}
use Rattle.sqlkeeper.proofs.changing.write_change.Goals as goal

pub returns-in-SetFile-clause-done : goal.returns-in-SetFile-clause-done
returns-in-SetFile-clause-done g c s after pends sound change inside =
    let set = subst (λ x. IsChangeOf (λ bytes. held c.args.staged.now ≡ bytes) s x after) c.in-SetFile.is change in
    c.set_file.ensures.done v2 s after second_version pends sound (subst (λ bytes. IsFileSet s c.in-SetFile.file bytes after) (sym set.1) set.2) inside

pub returns-in-Desk-clause-done : goal.returns-in-Desk-clause-done
returns-in-Desk-clause-done g c s after pends sound change inside =
    c.obey.ensures.done s after pends sound (subst (λ x. IsChangeOf (λ bytes. held c.args.staged.now ≡ bytes) s x after) c.in-Desk.is change) inside
