use Rattle.std.proofs.Common.{◌++◌, ◌+◌, ◌<◌, List, ℕ, length, subst, ap, ◌∙◌, vec_capacity, vec_len}
use Rattle.std.proofs.lemmas.Result.{on_ok_weaker, on_err_weaker}
use Rattle.sigtext.proofs.Targets.{decoded}
use Rattle.sigtext.proofs.target.Target.path_into.Goals as goal

pub returns-clause-ok : goal.returns-clause-ok
returns-clause-ok c =
    on_ok_weaker c.append_to.result
    (λ is path s. is ∙ ap (λ (t : List ℕ). c.args.out.now.items ++ t) (c.percent_decode.ensures.bytes ∙ decoded _ c.args.self.now.path.now path s))
    c.append_to.ensures.ok

pub returns-clause-full : goal.returns-clause-full
returns-clause-full c =
    on_err_weaker c.append_to.result
    (λ short path s. subst (λ (t : List ℕ). vec_capacity c.args.out.now < vec_len c.args.out.now + length t) (c.percent_decode.ensures.bytes ∙ decoded _ c.args.self.now.path.now path s) short)
    c.append_to.ensures.full
