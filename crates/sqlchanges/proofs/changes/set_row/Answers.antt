use Rattle.std.proofs.Common.{◌≡◌, true, false, Option, None, Some, is_some, refl, sym, ◌∙◌, arith}
use Rattle.sqlchanges.proofs.changes.set_row.Goals as goal

some_of : {X : Type 0} (o : Option X) → is_some o ≡ true → (x : X) × (o ≡ Some x)
some_of None h = cc
some_of (Some x) h = (x, refl)

none_of : {X : Type 0} (o : Option X) → is_some o ≡ false → o ≡ None
none_of None h = refl
none_of (Some x) h = cc

pub returns-then-stands-clause-done : goal.returns-then-stands-clause-done
returns-then-stands-clause-done g c v tables ours pends stands =
    let was = some_of (tables.file (record { box = c.args.in_box.now; name = c.args.name.now })) (sym stands ∙ c.if-stands.true) in c.update_file.ensures.done v tables was.0 ours pends was.1

pub returns-else-stands-clause-done : goal.returns-else-stands-clause-done
returns-else-stands-clause-done g c v tables ours pends stands =
    c.insert_file.ensures.done v tables ours pends (none_of (tables.file (record { box = c.args.in_box.now; name = c.args.name.now })) (sym stands ∙ c.if-stands.false))

pub returns-else-stands-clause-rest : goal.returns-else-stands-clause-rest
returns-else-stands-clause-rest g c = grind arith

pub returns-then-stands-clause-rest : goal.returns-then-stands-clause-rest
returns-then-stands-clause-rest g c = grind arith
