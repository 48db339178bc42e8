use Rattle.std.proofs.Common.{◌+◌, ◌∷◌, ◌++◌, [], append-nil, sym, subst, take}
use Rattle.std.specs.Prelude.{MatchBool}
use Rattle.std.proofs.lemmas.List.{take_all}
use Rattle.sqlaudit.specs.Sorting.{AreFiled, AreUnfiled, IsFiled}
use Rattle.sqlaudit.proofs.Entries.{more_behind, among_front}
use Rattle.sqlaudit.proofs.file_rules.add_lines.Goals as goal

pub loop-line-init : goal.loop-line-init
loop-line-init c rs before h old = subst (λ xs. AreFiled rs xs c.args.files.now c.args.sums.now) (sym (append-nil before)) old

pub loop-line-preserved : goal.loop-line-preserved
loop-line-preserved c rs before h old =
    let ls = c.args.lines.now in
    let i = c.loop-line.line-index in
    let line = c.line-item.result in
    let front = before ++ take i ls in
    let added = subst (λ b. MatchBool b (AreFiled rs (front ++ line ∷ []) c.add_line.new.files c.add_line.new.sums) (AreUnfiled rs (front ++ line ∷ []))) c.if-not-branch.false
    (c.in_ok-add_line.ensures rs front h (c.loop-line.invariant rs before h old)) in
    subst (λ xs. AreFiled rs xs c.add_line.new.files c.add_line.new.sums) (more_behind before ls i line c.loop-line-test.true (sym c.line-item.is)) added

pub returns-then-not-branch : goal.returns-then-not-branch
returns-then-not-branch c rs before h old look all =
    let ls = c.args.lines.now in
    let i = c.loop-line.line-index in
    let line = c.line-item.result in
    let front = before ++ take i ls in
    let unfiled = subst (λ b. MatchBool b (AreFiled rs (front ++ line ∷ []) c.add_line.new.files c.add_line.new.sums) (AreUnfiled rs (front ++ line ∷ []))) c.if-not-branch.true
    (c.in_ok-add_line.ensures rs front h (c.loop-line.invariant rs before h old)) in
    subst (AreUnfiled rs) (more_behind before ls i line c.loop-line-test.true (sym c.line-item.is)) unfiled look (among_front (IsFiled rs) look before ls (i + 1) all)

pub returns : goal.returns
returns c rs before h old =
    subst (λ xs. AreFiled rs (before ++ xs) c.loop-line.files c.loop-line.sums) (take_all c.loop-line.line-index c.args.lines.now c.loop-line-test.false) (c.loop-line.invariant rs before h old)
