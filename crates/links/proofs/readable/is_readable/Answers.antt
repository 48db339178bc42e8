use Rattle.std.proofs.Common.{ℕ, List, subst}
use Rattle.sigtext.specs.Target.{IsTargetOf}
use Rattle.sigtext.proofs.Targets.{reading_from}
use Rattle.links.proofs.readable.is_readable.Goals as goal

pub returns-in-Ok-clause-denied : goal.returns-in-Ok-clause-denied
returns-in-Ok-clause-denied c denied r method target readable =
    let is = subst (λ (text : List ℕ). IsTargetOf text readable.path readable.params) target readable.target in
    let spelled = reading_from c.in-Ok.target c.args.target.now readable.path readable.params c.in-Ok.ensures.ok.written is in
    c.has_names.ensures.denied readable.path readable.params spelled denied readable.named

pub returns-in-Err-clause-denied : goal.returns-in-Err-clause-denied
returns-in-Err-clause-denied c denied r method target readable =
    c.in-Err.ensures.err readable.path readable.params (subst (λ (text : List ℕ). IsTargetOf text readable.path readable.params) target readable.target)
