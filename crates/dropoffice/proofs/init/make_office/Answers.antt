use Rattle.std.proofs.Common.{ℕ, List, ap, sym, subst}
use Rattle.sqlite.specs.Files.{file_state}
use Rattle.sqlite.specs.WalFiles.{image_at}
use Rattle.sigv4.specs.Credential.{IsKeyId, IsSecret}
use Rattle.boxes.specs.FirstState.{first_state}
use Rattle.tasks.specs.declared.task.Secret.{Secret}
use Rattle.tasks.specs.declared.task.Secret.TheVariants as secret
use Rattle.dropoffice.specs.Performing.{IsSecretOf}
use Rattle.dropoffice.proofs.Ends.{office_made, works_opened}
use Rattle.dropoffice.proofs.init.make_office.Goals as goal

is_secret : (s : Secret) (bytes : List ℕ) → IsSecretOf s bytes → IsSecret bytes
is_secret (secret.Given text) bytes it = it.0
is_secret (secret.InFile name) bytes it = it

pub returns-in-Ok-clause-made : goal.returns-in-Ok-clause-made
returns-in-Ok-clause-made g c first =
    let office = c.args.office in
    let id = c.as_bytes-clerk.ensures.value in
    office_made (image_at g.S.Start) c.args.start (file_state c.in-Ok.conn) c.in-Ok.ensures.opened c.in-Ok.ensures.found c.args.words.now office c.args.secret.now first
    (record { from = first.settings.from; to = first.settings.to; is_id = subst IsKeyId (sym id) first.settings.clerk; is_secret = is_secret c.args.words.now.secret c.args.secret.now first.secret })
    (ap (λ (clerk : List ℕ). first_state office.east office.allowance clerk c.args.secret.now) id) c.work_in.ensures

pub returns-in-Ok-clause-opened : goal.returns-in-Ok-clause-opened
returns-in-Ok-clause-opened g c = works_opened (λ now undone. undone.0) c.work_in.ensures
