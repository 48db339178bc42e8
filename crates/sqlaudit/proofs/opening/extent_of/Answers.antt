use Rattle.std.proofs.Common.{rules, arith}
use Rattle.sqlaudit.specs.Opened.{BeginsAsOffice, AreNamedAs}
use Rattle.sqlaudit.proofs.Extents.{is_begun, is_less, is_whole}
use Rattle.sqlaudit.proofs.opening.extent_of.Goals as goal

pub returns-then-not-is_table-clause-is : goal.returns-then-not-is_table-clause-is
returns-then-not-is_table-clause-is c ours =
    let none : BeginsAsOffice c.args.schema.now → ⊥ = search rules in
    none

pub returns-then-are_named-clause-is : goal.returns-then-are_named-clause-is
returns-then-are_named-clause-is c ours =
    let first : BeginsAsOffice c.args.schema.now = search rules in
    is_whole c.args.format c.args.schema.now ours first (search rules)

pub returns-else-are_named-clause-is : goal.returns-else-are_named-clause-is
returns-else-are_named-clause-is c ours =
    let first : BeginsAsOffice c.args.schema.now = search rules in
    let less : AreNamedAs c.args.format c.args.schema.now → ⊥ = search rules in
    (is_begun c.args.schema.now ours first, is_less c.args.format c.args.schema.now less)

pub returns-else-are_named-clause-named : goal.returns-else-are_named-clause-named
returns-else-are_named-clause-named c = grind arith

pub returns-then-are_named-clause-named : goal.returns-then-are_named-clause-named
returns-then-are_named-clause-named c = grind arith

pub returns-then-not-is_table-clause-named : goal.returns-then-not-is_table-clause-named
returns-then-not-is_table-clause-named c = grind arith
