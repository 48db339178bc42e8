use Rattle.std.proofs.Common.{Some, sym, ap, subst, ◌∙◌}
use Rattle.std.specs.Prelude.{option_map}
use Rattle.std.specs.List.{join_with_byte}
use Rattle.std.proofs.lemmas.Option.{none-some, same_Some}
use Rattle.boxes.specs.Rows.{settings_of}
use Rattle.boxes.specs.Steps.{AddBox}
use Rattle.links.proofs.SixLemmas.{whatever_err}
use Rattle.links.specs.CommandLines.{HasRuleWord}
use Rattle.links.proofs.DeskWords.{cut_once, not_cut}
use Rattle.links.proofs.Commands.{added_box, writes_box}
use Rattle.links.proofs.NineTexts.{some_at}
use Rattle.links.proofs.RuleWords.{further}
use Rattle.links.proofs.desk.reading.read_box.Goals as goal

pub returns-in_default-clause-all : goal.returns-in_default-clause-all
returns-in_default-clause-all c command is form =
    let b = added_box c.args.words.now command is form in
    absurd (not_cut 32 c.args.words.now b.name (join_with_byte 32 b.more) c.in_default.ensures b.word b.text)

pub returns-in-Some-2-clause-some : goal.returns-in-Some-2-clause-some
returns-in-Some-2-clause-some c =
    let said = some_at _ c.in_ok-row.field-0 c.in-Some-2.row c.in-Some-2.is c.in_ok-row.ensures.some in
    writes_box c.args.words.now c.in-Some.name.now c.in-Some.rest.now said.0 (settings_of c.in-Some-2.row) c.in-Some.ensures.0 said.1 said.2

pub returns-in-Some-2-clause-all : goal.returns-in-Some-2-clause-all
returns-in-Some-2-clause-all c command is form =
    let b = added_box c.args.words.now command is form in
    let first = cut_once 32 c.args.words.now c.in-Some.name.now c.in-Some.rest.now b.name (join_with_byte 32 b.more) c.in-Some.ensures b.word b.text in
    let row = same_Some (settings_of c.in-Some-2.row) b.settings (sym (ap (option_map settings_of) c.in-Some-2.is) ∙ c.in_ok-row.ensures.all b.more b.settings b.says b.are first.1) in
    (λ i. Some (AddBox (first.0 i) (row i))) ∙ ap Some (sym b.command)

pub returns-in-None-clause-all : goal.returns-in-None-clause-all
returns-in-None-clause-all c command is form =
    let b = added_box c.args.words.now command is form in
    let first = cut_once 32 c.args.words.now c.in-Some.name.now c.in-Some.rest.now b.name (join_with_byte 32 b.more) c.in-Some.ensures b.word b.text in
    absurd (none-some _ (sym (ap (option_map settings_of) c.in-None.is) ∙ c.in_ok-row.ensures.all b.more b.settings b.says b.are first.1))

pub returns-in_err-row-clause-memory : goal.returns-in_err-row-clause-memory
returns-in_err-row-clause-memory c =
    whatever_err c.from_residual.result (subst HasRuleWord (sym c.in-Some.ensures.0) (further c.in-Some.name.now c.in-Some.rest.now c.in_err-row.ensures.memory))
