use Rattle.std.proofs.Common.{◌∷◌, ◌++◌, Some, sym, ap, ◌∙◌, arith}
use Rattle.boxes.specs.Steps.{AddKey}
use Rattle.links.specs.CommandTexts.{role_word}
use Rattle.links.proofs.DeskWords.{cut_once, not_cut, role_lacks_space, role_once}
use Rattle.links.proofs.Commands.{added_key, writes_key}
use Rattle.links.proofs.desk.reading.read_key.Goals as goal

pub returns-in_err-id-clause-all : goal.returns-in_err-id-clause-all
returns-in_err-id-clause-all c command is form =
    let k = added_key c.args.words.now command is form in
    absurd (not_cut 32 c.args.words.now k.id (role_word k.role ++ 32 ∷ k.secret) c.in_err-id.ensures k.word k.text)

pub returns-in_err-role-clause-all : goal.returns-in_err-role-clause-all
returns-in_err-role-clause-all c command is form =
    let k = added_key c.args.words.now command is form in
    let first = cut_once 32 c.args.words.now c.in_ok-id.id.now c.in_ok-id.rest.now k.id (role_word k.role ++ 32 ∷ k.secret) c.in_ok-id.ensures k.word k.text in
    absurd (not_cut 32 c.in_ok-id.rest.now (role_word k.role) k.secret c.in_err-role.ensures (role_lacks_space k.role) first.1)

pub returns-in_err-role-2-clause-all : goal.returns-in_err-role-2-clause-all
returns-in_err-role-2-clause-all c command is form =
    let k = added_key c.args.words.now command is form in
    let first = cut_once 32 c.args.words.now c.in_ok-id.id.now c.in_ok-id.rest.now k.id (role_word k.role ++ 32 ∷ k.secret) c.in_ok-id.ensures k.word k.text in
    let second = cut_once 32 c.in_ok-id.rest.now c.in_ok-role.role.now c.in_ok-role.secret.now (role_word k.role) k.secret c.in_ok-role.ensures (role_lacks_space k.role) first.1 in
    absurd (c.in_err-role-2.ensures.none k.role second.0)

pub returns-clause-some : goal.returns-clause-some
returns-clause-some c =
    writes_key c.args.words.now c.in_ok-id.id.now c.in_ok-id.rest.now c.in_ok-role.role.now c.in_ok-role.secret.now c.in_ok-role-2.role c.in_ok-id.ensures.0 c.in_ok-role.ensures.0 c.in_ok-role-2.ensures.some

pub returns-clause-all : goal.returns-clause-all
returns-clause-all c command is form =
    let k = added_key c.args.words.now command is form in
    let first = cut_once 32 c.args.words.now c.in_ok-id.id.now c.in_ok-id.rest.now k.id (role_word k.role ++ 32 ∷ k.secret) c.in_ok-id.ensures k.word k.text in
    let second = cut_once 32 c.in_ok-id.rest.now c.in_ok-role.role.now c.in_ok-role.secret.now (role_word k.role) k.secret c.in_ok-role.ensures (role_lacks_space k.role) first.1 in
    let role = role_once c.in_ok-role-2.role k.role (sym c.in_ok-role-2.ensures.some ∙ second.0) in
    (λ i. Some (AddKey (first.0 i) (role i) (second.1 i))) ∙ ap Some (sym k.command)

pub returns-in_err-id-clause-some : goal.returns-in_err-id-clause-some
returns-in_err-id-clause-some c = grind arith

pub returns-in_err-role-2-clause-some : goal.returns-in_err-role-2-clause-some
returns-in_err-role-2-clause-some c = grind arith

pub returns-in_err-role-clause-some : goal.returns-in_err-role-clause-some
returns-in_err-role-clause-some c = grind arith
