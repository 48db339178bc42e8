use Rattle.std.proofs.Common.{rules, arith}
use Rattle.dropoffice.specs.Performing.{IsKeyFile}
use Rattle.dropoffice.proofs.works.sign_by.Goals as goal

pub returns-clause-ran : goal.returns-clause-ran
returns-clause-ran g c ours clean =
    let is_file : IsKeyFile c.args.file.now → ⊥ = search rules in
    ((λ key. absurd (is_file key)), λ other. c.work_over.ensures.ran ours clean)

pub returns-clause-opened : goal.returns-clause-opened
returns-clause-opened g c = grind arith

pub returns-in-Some-clause-opened : goal.returns-in-Some-clause-opened
returns-in-Some-clause-opened g c = grind arith

pub returns-in-Some-clause-ran : goal.returns-in-Some-clause-ran
returns-in-Some-clause-ran g c = grind arith

pub sign_by_file-requires-text-name : goal.sign_by_file-requires-text-name
sign_by_file-requires-text-name g c = grind arith
