use Rattle.std.proofs.Common.{◌∙◌, Bool, ap, not, sym}
use Rattle.wire.specs.Answers.{Refused, answer_text}
use Rattle.wire.proofs.Texts.{closing_alike}
use Rattle.wire.proofs.answer.Answer.refused.Goals as goal
use Rattle.wire.proofs.answer.Answer.refused.Goals.{then-not-closes_connection, else-not-closes_connection}

pub returns-clause-text : goal.returns-clause-text
returns-clause-text c =
    let r = c.args.refusal in
    let text = λ (b : Bool). answer_text b (Refused r) in
    elim c.if-not-closes_connection.branch [
      | then-not-closes_connection w ↦ ap text w.result-is
      | else-not-closes_connection w ↦
          let closing = w.if-not-closes_connection.false in
          ap text w.result-is ∙ ap (λ (b : Bool). text (not b)) closing
          ∙ closing_alike c.args.is_head r (sym closing ∙ c.closes_connection.ensures)
    ]
