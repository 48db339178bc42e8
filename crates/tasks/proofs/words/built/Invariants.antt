use Rattle.std.proofs.Common.{fold, take}
use Rattle.clap.specs.Words.{new_app, with_rule}
use Rattle.tasks.specs.Building.{IsLocal, rule_in}
use Rattle.tasks.proofs.words.built.Given as goal

abbrev pub invariant-loop-argument : goal.invariant-loop-argument
invariant-loop-argument l = IsLocal (fold (λ app a. with_rule app (rule_in a)) (new_app l.form.name.now) (take l.argument-index l.form.arguments.now)) l.command
