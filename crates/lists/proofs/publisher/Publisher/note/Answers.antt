use Rattle.std.proofs.Common.{◌∙◌, [], ap, subst, sym, append-nil}
use Rattle.boxes.specs.Changes.{MayChange}
use Rattle.boxes.specs.Rows.{numbered}
use Rattle.boxes.specs.declared.change.Change.{Change}
use Rattle.lists.proofs.Added.{published_as, published_with, same_receipts}
use Rattle.lists.proofs.Begun.{begun_grown, begun_set}
use Rattle.lists.proofs.publisher.Publisher.note.Goals as goal

pub returns-in-SetFile-clause-published : goal.returns-in-SetFile-clause-published
returns-in-SetFile-clause-published g c = λ s after may published whole.
    let is = subst (λ (ch : Change). MayChange s ch after) c.in-SetFile.is may in
    let added = c.add.ensures.added is.2.taken.brought.moment whole in
    published_with s after _ is.0 added.0 _ _ is.2 published added.1 added.2

pub returns-in-Desk-clause-published : goal.returns-in-Desk-clause-published
returns-in-Desk-clause-published g c = λ s after may published whole.
    let is = subst (λ (ch : Change). MayChange s ch after) c.in-Desk.is may in
    published_as s after _ (same_receipts s after _ is.step) published

pub returns-in-SetFile-clause-begun : goal.returns-in-SetFile-clause-begun
returns-in-SetFile-clause-begun g c = λ s after may published begun.
    let is = subst (λ (ch : Change). MayChange s ch after) c.in-SetFile.is may in
    begun_set s after _ is.0 c.args.self.now.held _ _ _ is.2 published begun (c.add.ensures.front is.2.taken.brought.moment)

pub returns-in-Desk-clause-begun : goal.returns-in-Desk-clause-begun
returns-in-Desk-clause-begun g c = λ s after may published begun.
    let is = subst (λ (ch : Change). MayChange s ch after) c.in-Desk.is may in
    begun_grown s after _ [] (ap (numbered 1) (same_receipts s after _ is.step) ∙ sym (append-nil (numbered 1 s.receipts))) begun
