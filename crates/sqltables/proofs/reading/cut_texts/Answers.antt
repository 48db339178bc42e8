use Rattle.std.proofs.Common.{eqb, length, ◌∙◌, arith, rules, tests}
use Rattle.std.specs.List.{slice_split}
use Rattle.std.proofs.lemmas.Iterator.Consumers.{YieldsList-turn, YieldsList-end}
use Rattle.std.proofs.lemmas.Iterator.Splits.{YieldsList-from_slice_split}
use Rattle.std.proofs.lemmas.List.{length_push, take_all}
use Rattle.sqltables.proofs.Readings.{one_more}
use Rattle.sqltables.proofs.reading.cut_texts.Goals as goal

pub loop-piece-preserved : goal.loop-piece-preserved
loop-piece-preserved c =
    let turn = YieldsList-turn (YieldsList-from_slice_split _ (λ b. eqb b 44) c.args.text.now (search rules) (search rules) (search rules) (λ x r q k. search (rules, tests))) c.loop-piece.yielded _ c.loop-piece.yielded_by _ c.next.new.self c.in-Some.piece c.in-Some.is c.next.ensures.steps in
    record {
      can = search rules;
      finite = tt;
      sofar = one_more (λ t. t.items) (slice_split (λ b. eqb b 44) c.args.text.now) (length c.loop-piece.yielded) _ c.in-Some.piece.now c.loop-piece.texts.items c.push.new.self.items c.in_ok-from_slice.field-0
          turn c.loop-piece.invariant.sofar (length_push c.loop-piece.yielded c.in-Some.piece) c.in_ok-push.ensures.items c.in_ok-from_slice.ensures.items;
    }

pub returns : goal.returns
returns c =
    let end = YieldsList-end (YieldsList-from_slice_split _ (λ b. eqb b 44) c.args.text.now (search rules) (search rules) (search rules) (λ x r q k. search (rules, tests))) c.loop-piece.yielded _ c.loop-piece.yielded_by _ c.next.new.self c.in-None.is c.next.ensures.steps in
    c.loop-piece.invariant.sofar ∙ take_all (length c.loop-piece.yielded) (slice_split (λ b. eqb b 44) c.args.text.now) (omega (arith, end.1))
