use Rattle.std.proofs.Common.{Some, sym, ap, ◌∙◌, arith}
use Rattle.boxes.specs.Steps.{DropFile}
use Rattle.links.proofs.DeskWords.{cut_once, not_cut}
use Rattle.links.proofs.Commands.{dropped_file, writes_drop}
use Rattle.links.proofs.desk.reading.read_drop.Goals as goal

pub returns-in_err-in_box-clause-all : goal.returns-in_err-in_box-clause-all
returns-in_err-in_box-clause-all c command is form =
    let d = dropped_file c.args.words.now command is form in
    absurd (not_cut 32 c.args.words.now d.place.box d.place.name c.in_err-in_box.ensures d.word d.text)

pub returns-clause-some : goal.returns-clause-some
returns-clause-some c = writes_drop c.args.words.now c.in_ok-in_box.in_box.now c.in_ok-in_box.name.now c.in_ok-in_box.ensures.0

pub returns-clause-all : goal.returns-clause-all
returns-clause-all c command is form =
    let d = dropped_file c.args.words.now command is form in
    let first = cut_once 32 c.args.words.now c.in_ok-in_box.in_box.now c.in_ok-in_box.name.now d.place.box d.place.name c.in_ok-in_box.ensures d.word d.text in
    (λ i. Some (DropFile (record { box = first.0 i; name = first.1 i }))) ∙ ap Some (sym d.command)

pub returns-in_err-in_box-clause-some : goal.returns-in_err-in_box-clause-some
returns-in_err-in_box-clause-some c = grind arith
