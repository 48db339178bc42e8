use Rattle.std.proofs.Common.{◌∙◌, ◌||◌, ap, sym, arith}
use Rattle.std.proofs.lemmas.List.{take_all}
use Rattle.std.proofs.lemmas.List.Sums.{fold_more}
use Rattle.clap.specs.Words.{with_rule, rule_of}
use Rattle.tasks.specs.Building.{app_in, rule_in}
use Rattle.tasks.proofs.words.built.Goals as goal

pub loop-argument-preserved : goal.loop-argument-preserved
loop-argument-preserved c =
    let added = c.in_ok-command.ensures in
    record {
      is = added.shape c.arg_of.ensures.local ∙ ap (λ app. with_rule app (rule_of c.arg_of.result)) c.loop-argument.invariant.is
          ∙ ap (with_rule _) c.arg_of.ensures.rule
          ∙ sym (fold_more (λ app a. with_rule app (rule_in a)) _ _ _ _ c.loop-argument-test.true);
      local = added.globals ∙ ap (λ b. b || c.arg_of.result.global) c.loop-argument.invariant.local ∙ c.arg_of.ensures.local;
    }

pub returns : goal.returns
unfolding app_in
returns c = rw (← take_all _ _ c.loop-argument-test.false) c.loop-argument.invariant

pub loop-argument-init : goal.loop-argument-init
loop-argument-init c = grind arith

pub offset_bounds-argument-items-argument-index : goal.offset_bounds-argument-items-argument-index
offset_bounds-argument-items-argument-index c = grind arith
