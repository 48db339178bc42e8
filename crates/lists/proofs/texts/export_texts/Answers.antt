use Rattle.std.proofs.Common.{List, ℕ, subst, arith}
use Rattle.boxes.specs.Rows.{file_of, receipt_in}
use Rattle.lists.specs.Places.{place_in}
use Rattle.lists.specs.Exports.{IsRecord}
use Rattle.lists.proofs.texts.export_texts.Goals as goal

pub returns-clause-row : goal.returns-clause-row
returns-clause-row c = λ moment.
    let (fields, are, is) = c.in_ok-row.ensures.row moment in (
      fields,
      subst (λ (p : List ℕ). IsRecord p (place_in c.args.place.now) (file_of c.args.file.now) (receipt_in c.args.file.now.receipt) fields) c.deref-3.ensures.value are,
      is,
    )

pub returns-clause-path : goal.returns-clause-path
returns-clause-path c = grind arith

pub returns-clause-sum : goal.returns-clause-sum
returns-clause-sum c = grind arith

pub row_text-requires : goal.row_text-requires
row_text-requires c = grind arith
