use Rattle.std.proofs.Common.{Option, List, ℕ, ◌++◌, sym, ap, ◌∙◌, subst}
use Rattle.std.specs.Borrow.{Bor}
use Rattle.sigtext.specs.Signing.{SpellRawParams}
use Rattle.sigtext.specs.Targets.{SpellsOptionalQuery}
use Rattle.sigtext.specs.declared.target.Pairs.{Pairs}
use Rattle.sigtext.specs.declared.target.RawParam.{RawParam}
use Rattle.sigtext.proofs.OrderedParams.{all_spell}
use Rattle.sigtext.proofs.params.collect.Goals as goal

pub returns : goal.returns
returns c = λ path params s.
    let ran = c.in_ok-extend.ensures.ran in
    let query = ap (λ (p : Pairs). p.left) ran.2 ∙ c.pairs-2.ensures in
    let spelled = all_spell ran.0 ran.1 params ran.4 (subst (λ (q : Option (Bor (List ℕ))). SpellsOptionalQuery q params) (sym query) s.query_spelled) in
    subst (λ (raws : List RawParam). SpellRawParams raws params) (sym (ran.3.0 ∙ ap (λ (raws : List RawParam). raws ++ ran.1) c.in_ok-items.ensures.items)) spelled
