use Rattle.std.proofs.Common.{◌≡◌, true, false, [], List, ℕ, Option, refl, sym, subst, arith}
use Rattle.std.specs.Borrow.{Bor}
use Rattle.sigtext.specs.Target.{Param}
use Rattle.sigtext.specs.Targets.{SpellsOptionalQuery}
use Rattle.sigtext.proofs.Targets.{begins, read_from, reading_from}
use Rattle.sigtext.proofs.target.Target.read.Goals as goal

differ : false ≡ true → ⊥
differ e = cc

-- what a query spells, where this is the query
spelled_at : (query other : Option (Bor (List ℕ))) (params : List Param) → query ≡ other → SpellsOptionalQuery query params → SpellsOptionalQuery other params
spelled_at query other params is s = subst (λ (q : Option (Bor (List ℕ))). SpellsOptionalQuery q params) is s

pub returns-then-not-is_spelling-clause-err : goal.returns-then-not-is_spelling-clause-err
returns-then-not-is_spelling-clause-err c =
    λ path params is.
    let s = reading_from c.raw_target-target.result c.args.text.now path params c.raw_target-target.ensures is in
    differ (c.if-not-is_spelling.ensures.1 (path, s.path_spelled))

pub returns-in-None-clause-ok : goal.returns-in-None-clause-ok
returns-in-None-clause-ok c =
    let p = c.if-not-is_spelling.ensures.0 refl in
    let slash = begins c.args.text.now c.if-is_empty.ensures c.if-text-ne47.false in
    read_from c.raw_target-target.result c.args.text.now p.0 [] c.raw_target-target.ensures slash p.1 (spelled_at _ _ [] (sym c.in-None.is) refl)

pub returns-in-Some-clause-ok : goal.returns-in-Some-clause-ok
returns-in-Some-clause-ok c =
    let p = c.if-not-is_spelling.ensures.0 refl in
    let q = c.if-is_query.ensures.0 refl in
    let slash = begins c.args.text.now c.if-is_empty.ensures c.if-text-ne47.false in
    read_from c.raw_target-target.result c.args.text.now p.0 q.0 c.raw_target-target.ensures slash p.1 (spelled_at _ _ q.0 (sym c.in-Some.is) q.1)

pub returns-in-Some-2-clause-err : goal.returns-in-Some-2-clause-err
returns-in-Some-2-clause-err c =
    λ path params is.
    let s = reading_from c.raw_target-target.result c.args.text.now path params c.raw_target-target.ensures is in
    differ (c.if-is_query.ensures.1 (params, spelled_at _ _ params c.in-Some.is s.query_spelled))

pub bounds-text-0 : goal.bounds-text-0
bounds-text-0 c = grind arith
