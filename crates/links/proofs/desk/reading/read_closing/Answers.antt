use Rattle.std.proofs.Common.{List, ℕ, Some, sym, ap, subst, ◌∙◌, arith}
use Rattle.sigv4.specs.Dates.{WritesMoment}
use Rattle.sigv4.proofs.Moments.{moment_once}
use Rattle.boxes.specs.Steps.{CloseBox}
use Rattle.links.proofs.DeskWords.{cut_once, not_cut}
use Rattle.links.proofs.Commands.{closed_box, writes_closing}
use Rattle.links.proofs.desk.reading.read_closing.Goals as goal

pub returns-in_err-name-clause-all : goal.returns-in_err-name-clause-all
returns-in_err-name-clause-all c command is form =
    let b = closed_box c.args.words.now command is form in
    absurd (not_cut 32 c.args.words.now b.name b.date c.in_err-name.ensures b.word b.text)

pub returns-in_err-read_moment-clause-all : goal.returns-in_err-read_moment-clause-all
returns-in_err-read_moment-clause-all c command is form =
    let b = closed_box c.args.words.now command is form in
    let first = cut_once 32 c.args.words.now c.in_ok-name.name.now c.in_ok-name.moment.now b.name b.date c.in_ok-name.ensures b.word b.text in
    absurd (c.in_err-read_moment.ensures.none b.moment (subst (λ (t : List ℕ). WritesMoment t b.moment) (sym first.1) b.writes))

pub returns-clause-some : goal.returns-clause-some
returns-clause-some c =
    writes_closing c.args.words.now c.in_ok-name.name.now c.in_ok-name.moment.now c.seconds-moment.result c.in_ok-name.ensures.0 (rw c.seconds-moment.ensures.value c.in_ok-read_moment.ensures.some)

pub returns-clause-all : goal.returns-clause-all
returns-clause-all c command is form =
    let b = closed_box c.args.words.now command is form in
    let first = cut_once 32 c.args.words.now c.in_ok-name.name.now c.in_ok-name.moment.now b.name b.date c.in_ok-name.ensures b.word b.text in
    let same = moment_once b.date b.moment c.seconds-moment.result b.writes (subst (λ (t : List ℕ). WritesMoment t c.seconds-moment.result) first.1 (rw c.seconds-moment.ensures.value c.in_ok-read_moment.ensures.some)) in
    (λ i. Some (CloseBox (first.0 i) (same i))) ∙ ap Some (sym b.command)

pub returns-in_err-name-clause-some : goal.returns-in_err-name-clause-some
returns-in_err-name-clause-some c = grind arith

pub returns-in_err-read_moment-clause-some : goal.returns-in_err-read_moment-clause-some
returns-in_err-read_moment-clause-some c = grind arith
