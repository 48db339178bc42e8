use Rattle.std.proofs.Common.{refl}
use Rattle.std.proofs.lemmas.Bool.{iff_false}
use Rattle.sigv4.specs.Credential.{IsCredential}
use Rattle.sigv4.specs.Scopes.{scope_of}
use Rattle.sigv4.proofs.Credentials.{key_id_lacks, day_lacks, no_form}
use Rattle.sigv4.proofs.scope.Scope.read.Goals as goal

pub returns-in_default-clause-err : goal.returns-in_default-clause-err
returns-in_default-clause-err c =
    (refl, λ key_id scope is. c.in_default.ensures.absent key_id scope (key_id_lacks key_id is.key_form.each) (day_lacks scope.date is.day_digits) is.joined)

pub returns-else-is_well_formed-clause-err : goal.returns-else-is_well_formed-clause-err
returns-else-is_well_formed-clause-err c =
    let scope = c.in-Some.scope in
    let found = c.in-Some.ensures.found in
    let none : IsCredential c.args.credential.now c.args.date.now scope.key_id.now (scope_of scope) → ⊥ =
    λ k. iff_false c.is_well_formed.ensures c.if-is_well_formed.false (k.key_form, (k.day_length, k.day_digits, k.same_day), k.region_form) in
    (refl, λ key_id t. no_form c.args.credential.now c.args.date.now scope.key_id.now key_id (scope_of scope) t found.0 found.1 found.2 none)

pub returns-then-is_well_formed-clause-ok : goal.returns-then-is_well_formed-clause-ok
returns-then-is_well_formed-clause-ok c =
    let form = c.is_well_formed.ensures.0 c.if-is_well_formed.true in
    record {
      joined = c.in-Some.ensures.found.0;
      key_form = form.0;
      day_length = form.1.0;
      day_digits = form.1.1;
      same_day = form.1.2;
      region_form = form.2;
    }
