use Rattle.std.proofs.Common.{◌≡◌, ◌∙◌, Some, ap, subst, arith}
use Rattle.std.specs.Prelude.{is_some, true}
use Rattle.sigtext.specs.Bytes.{bytes_cmp}
use Rattle.boxes.proofs.Lookups.{bytes_total}
use Rattle.boxes.specs.declared.rows.KeyRow.{KeyRow}
use Rattle.shelf.specs.Maps.{Sets}
use Rattle.shelf.specs.Shelves.{bytes_of}
use Rattle.shelf.proofs.MapLemmas.{sets_of}
use Rattle.shelf.proofs.shelving.mark_revoked.Goals as goal

pub returns-in-Some-clause-set : goal.returns-in-Some-clause-set
returns-in-Some-clause-set c b there =
    let old : KeyRow = c.in-Some.key.now in
    let same : ◌≡◌ {A = _} (Some old) (Some b) = c.in-Some.ensures.value ∙ there in
    let is : old ≡ b = cc in
    let with : KeyRow = record old { revoked = true } in
    let after = c.get_mut.follows.lender with in
    subst (λ (x : KeyRow). Sets bytes_cmp bytes_of c.args.id.now (Some (record x { revoked = true })) c.args.keys.now.entries after.entries) is
    (sets_of bytes_cmp bytes_of bytes_total c.args.keys.now after c.args.id.now (Some with) ((c.get_mut.follows.holds with).3 (ap is_some there)))

pub returns-in-Some-clause-len : goal.returns-in-Some-clause-len
returns-in-Some-clause-len c = grind arith

pub returns-in_default-clause-len : goal.returns-in_default-clause-len
returns-in_default-clause-len c = grind arith
