use Rattle.std.proofs.Common.{refl, eqb, length, map, not, ap, ◌∙◌, arith, rules, tests}
use Rattle.std.specs.List.{slice_split}
use Rattle.std.proofs.lemmas.Bool.{cond-true}
use Rattle.std.proofs.lemmas.Iterator.Consumers.{YieldsList-turn, YieldsList-end}
use Rattle.std.proofs.lemmas.Iterator.Splits.{YieldsList-from_slice_split}
use Rattle.std.proofs.lemmas.List.{length_push}
use Rattle.sigtext.specs.Fields.{header_of}
use Rattle.sigtext.proofs.ValuesNamed.{goes_on, stops, all_came}
use Rattle.sigtext.proofs.values.values_named.Goals as goal

pub returns-in_default-signed_field-clause-err : goal.returns-in_default-signed_field-clause-err
returns-in_default-signed_field-clause-err c =
    let turn = YieldsList-turn (YieldsList-from_slice_split _ (λ b. eqb b 59) c.args.names.now (search rules) (search rules) (search rules) (λ x r q k. search (rules, tests))) c.loop-name.yielded _ c.loop-name.yielded_by _ c.next.new.self c.in-Some.name c.in-Some.is c.next.ensures.steps in
    λ _. (refl, stops (map header_of c.args.fields.now) _ _ c.in-Some.name.now turn c.in_default-signed_field.ensures.none)

pub loop-name-preserved : goal.loop-name-preserved
loop-name-preserved c =
    let turn = YieldsList-turn (YieldsList-from_slice_split _ (λ b. eqb b 59) c.args.names.now (search rules) (search rules) (search rules) (λ x r q k. search (rules, tests))) c.loop-name.yielded _ c.loop-name.yielded_by _ c.next.new.self c.in-Some.name c.in-Some.is c.next.ensures.steps in
    record {
      can = search rules;
      finite = tt;
      sofar =
          goes_on (map header_of c.args.fields.now) _ _ _ c.in-Some.name.now c.loop-name.values.items c.push.new.self.items c.in-Some-signed_field.field turn c.loop-name.invariant.sofar
          c.in-Some-signed_field.ensures.some (length_push c.loop-name.yielded c.in-Some.name)
          (c.push.ensures.items ∙ cond-true _ _ _ (c.is_err.ensures.negation ∙ ap not c.if-is_err.false));
    }

pub returns-clause-ok : goal.returns-clause-ok
returns-clause-ok c =
    let end = YieldsList-end (YieldsList-from_slice_split _ (λ b. eqb b 59) c.args.names.now (search rules) (search rules) (search rules) (λ x r q k. search (rules, tests))) c.loop-name.yielded _ c.loop-name.yielded_by _ c.next.new.self c.in-None.is c.next.ensures.steps in
    all_came (map header_of c.args.fields.now) (slice_split (λ b. eqb b 59) c.args.names.now) (length c.loop-name.yielded) _ (omega (arith, end.1)) c.loop-name.invariant.sofar

pub count-requires-clause-fits : goal.count-requires-clause-fits
count-requires-clause-fits c = grind arith

pub returns-in_default-signed_field-clause-ok : goal.returns-in_default-signed_field-clause-ok
returns-in_default-signed_field-clause-ok c = grind arith

pub returns-then-is_err-clause-err : goal.returns-then-is_err-clause-err
returns-then-is_err-clause-err c = grind arith

pub returns-then-is_err-clause-ok : goal.returns-then-is_err-clause-ok
returns-then-is_err-clause-ok c = grind arith
