use Rattle.std.proofs.Common.{refl, arith}
use Rattle.lists.proofs.AnsweredLists.{unanswered}
use Rattle.lists.specs.LinkLists.{links_head, written_links_head, IsLinkRow}
use Rattle.lists.proofs.link_lists.links_from.Goals as goal

pub returns-then-not-can_sign-clause-answers : goal.returns-then-not-can_sign-clause-answers
returns-then-not-can_sign-clause-answers g c = unanswered links_head written_links_head IsLinkRow _ _ _ _ _ refl (λ text known. refl)

pub returns-clause-answers : goal.returns-clause-answers
returns-clause-answers g c =
    let told = c.answer_list.ensures.answers in
    record { rows = told.rows; formed = told.formed; tells = told.tells; written = λ w known. told.written w (tt, tt); unwritten = told.unwritten }

pub returns-clause-untouched : goal.returns-clause-untouched
returns-clause-untouched g c = λ is. absurd (c.answer_list.ensures.order is)

pub invariant_of-signer : goal.invariant_of-signer
invariant_of-signer g c = grind arith

pub returns-clause-count : goal.returns-clause-count
returns-clause-count g c = grind arith

pub returns-clause-order : goal.returns-clause-order
returns-clause-order g c = grind arith

pub returns-then-not-can_sign-clause-order : goal.returns-then-not-can_sign-clause-order
returns-then-not-can_sign-clause-order g c = grind arith

pub returns-then-not-can_sign-clause-untouched : goal.returns-then-not-can_sign-clause-untouched
returns-then-not-can_sign-clause-untouched g c = grind arith
