use Rattle.std.proofs.Common.{Some, sym, ap, ◌∙◌}
use Rattle.boxes.specs.Steps.{SetAllowance}
use Rattle.links.proofs.Commands.{set_allowance, writes_allowance}
use Rattle.links.proofs.desk.reading.read_allowance.Goals as goal

pub returns-in_err-seconds-clause-all : goal.returns-in_err-seconds-clause-all
returns-in_err-seconds-clause-all c command is form =
    let a = set_allowance c.args.word.now command is in
    absurd (c.in_err-seconds.ensures.none a.seconds a.number)

pub returns-clause-some : goal.returns-clause-some
returns-clause-some c = writes_allowance c.args.word.now c.in_ok-seconds.seconds c.in_ok-seconds.ensures.some

pub returns-clause-all : goal.returns-clause-all
returns-clause-all c command is form =
    let a = set_allowance c.args.word.now command is in
    ap (λ n. Some (SetAllowance n)) (c.in_ok-seconds.ensures.some.value ∙ sym a.number.value) ∙ ap Some (sym a.command)
