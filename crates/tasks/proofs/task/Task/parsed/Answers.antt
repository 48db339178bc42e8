use Rattle.std.proofs.Common.{◌∙◌, inl, ap, map, subst}
use Rattle.clap.specs.Faults.{fault_of, is_simple_and_free}
use Rattle.clap.specs.Kinds.{HasKind}
use Rattle.clap.specs.Words.{App, takes}
use Rattle.clap.proofs.FaultLemmas.{failed_up}
use Rattle.clap.proofs.TakesLemmas.{passed_up}
use Rattle.tasks.proofs.TaskFaults.{fails_by_secret, fails_by_secret_or_words, has_fault, is_task}
use Rattle.tasks.proofs.TaskNames.{free_of, named_by, names_task, simple_and_free}
use Rattle.tasks.proofs.task.Task.parsed.Goals as goal

-- ---- clap refused the words

pub returns-in_err-matches-clause-passes : goal.returns-in_err-matches-clause-passes
returns-in_err-matches-clause-passes c =
    passed_up c.from_residual.result _ _ c.from_residual.ensures.1
    (λ taken. inl (c.in_err-matches.ensures.passes (ap (λ (a : App). takes a (map (λ w. w.now) c.args.words.now)) c.requires ∙ taken)))

pub returns-in_err-matches-clause-kinds : goal.returns-in_err-matches-clause-kinds
returns-in_err-matches-clause-kinds c =
    has_fault (map (λ w. w.now) c.args.words.now) c.from_residual.result
    (failed_up c.from_residual.result _ _ _ c.from_residual.ensures.1
    (subst (λ (a : App). HasKind (fault_of a (map (λ w. w.now) c.args.words.now)) c.in_err-matches.field-0.0) c.requires
    (c.in_err-matches.ensures.kinds (ap is_simple_and_free c.requires ∙ simple_and_free))))

-- ---- clap read them

pub matched-requires : goal.matched-requires
matched-requires c = names_task _ _ _ c.requires c.in_ok-matches.ensures.kinds (λ s. (c.in_ok-matches.ensures.ok.2 s).1)

pub returns-clause-task : goal.returns-clause-task
returns-clause-task c =
    is_task (map (λ w. w.now) c.args.words.now) _ c.matched.result (named_by _ _ _ c.requires (λ s. (c.in_ok-matches.ensures.ok.2 s).1)) c.matched.ensures.task

pub returns-clause-passes : goal.returns-clause-passes
returns-clause-passes c =
    fails_by_secret (map (λ w. w.now) c.args.words.now) _ c.matched.result (named_by _ _ _ c.requires (λ s. (c.in_ok-matches.ensures.ok.2 s).1)) c.matched.ensures.fault

pub returns-clause-kinds : goal.returns-clause-kinds
returns-clause-kinds c =
    fails_by_secret_or_words (map (λ w. w.now) c.args.words.now) _ c.matched.result (named_by _ _ _ c.requires (λ s. (c.in_ok-matches.ensures.ok.2 s).1))
    (free_of _ _ c.requires c.in_ok-matches.ensures.kinds) c.matched.ensures.fault
