use Rattle.std.proofs.Common.{◌<◌, length, arith, get_or, take, List, [], ◌∷◌, ap, sym, subst₂, ◌∙◌}
use Rattle.std.specs.List.{AllZip}
use Rattle.std.proofs.Math.Numerals.{add-one}
use Rattle.std.proofs.Math.Seq.{take-suc}
use Rattle.std.proofs.lemmas.Grind.{common_steps}
use Rattle.sqlite_exec.proofs.AgreeLemmas.{zip-append}
use Rattle.sqlaudit.proofs.lines.lines_of.Goals as goal

pub loop-row-preserved : goal.loop-row-preserved
loop-row-preserved g c =
    let at = c.loop-row.row-index in
    let rows = c.args.rows.now in
    let within : at < length rows = omega arith in
    let more = ap (λ n. take n rows) (add-one at) ∙ take-suc rows at c.row-item.result within ∙ ap (λ x. Rattle.std.proofs.Common.◌++◌ (take at rows) (x ∷ [])) (sym c.row-item.is) in
    subst₂ (AllZip g.L.Line.reads) (sym more) (sym c.in_ok-push.ensures.items)
    (zip-append g.L.Line.reads (take at rows) (c.row-item.result ∷ []) c.loop-row.lines.items (c.in_ok-line.line ∷ []) c.loop-row.invariant (c.in_ok-line.ensures, tt))

pub returns : goal.returns
returns g c = grind (arith, common_steps)
