use Rattle.std.proofs.Common.{Some, sym, ap, ◌∙◌, arith}
use Rattle.boxes.specs.Steps.{LimitKey}
use Rattle.links.proofs.DeskWords.{cut_once, not_cut}
use Rattle.links.proofs.Commands.{limited_key, writes_limit}
use Rattle.links.proofs.desk.reading.read_limit.Goals as goal

pub returns-in_err-id-clause-all : goal.returns-in_err-id-clause-all
returns-in_err-id-clause-all c command is form =
    let k = limited_key c.args.words.now command is form in
    absurd (not_cut 32 c.args.words.now k.id k.box c.in_err-id.ensures k.word k.text)

pub returns-clause-some : goal.returns-clause-some
returns-clause-some c = writes_limit c.args.words.now c.in_ok-id.id.now c.in_ok-id.in_box.now c.in_ok-id.ensures.0

pub returns-clause-all : goal.returns-clause-all
returns-clause-all c command is form =
    let k = limited_key c.args.words.now command is form in
    let first = cut_once 32 c.args.words.now c.in_ok-id.id.now c.in_ok-id.in_box.now k.id k.box c.in_ok-id.ensures k.word k.text in
    (λ i. Some (LimitKey (first.0 i) (first.1 i))) ∙ ap Some (sym k.command)

pub returns-in_err-id-clause-some : goal.returns-in_err-id-clause-some
returns-in_err-id-clause-some c = grind arith
