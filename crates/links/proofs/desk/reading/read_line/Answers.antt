use Rattle.std.proofs.Common.{◌≡◌, List, ℕ, Some, sym, subst, arith}
use Rattle.std.specs.Prelude.{codes, option_map, IfOk, IfSome}
use Rattle.std.proofs.lemmas.Result.{IfErr-weaker}
use Rattle.boxes.specs.Steps.{Command}
use Rattle.boxes.specs.Commands.{HasForm}
use Rattle.links.specs.CommandLines.{said}
use Rattle.links.specs.CommandTexts.{IsCommand}
use Rattle.links.proofs.DeskWords.{behind_front}
use Rattle.links.proofs.Commands.{writes_revoked}
use Rattle.links.proofs.desk.reading.read_line.Goals as goal

pub returns-in-Some-strip_prefix-clause-some : goal.returns-in-Some-strip_prefix-clause-some
returns-in-Some-strip_prefix-clause-some c =
    writes_revoked c.args.line.now c.in-Some-strip_prefix.id.now
    (behind_front c.args.line.now (codes "key revoke ") c.strip_prefix-2.result c.in-Some-strip_prefix.id c.in-Some-strip_prefix.is c.strip_prefix-2.ensures.cases)

pub returns-in-Some-strip_prefix-2-clause-some : goal.returns-in-Some-strip_prefix-2-clause-some
returns-in-Some-strip_prefix-2-clause-some c =
    let front = behind_front c.args.line.now (codes "box add ") c.strip_prefix-3.result c.in-Some-strip_prefix-2.words c.in-Some-strip_prefix-2.is c.strip_prefix-3.ensures.cases in
    subst (λ (t : List ℕ). IfOk c.read_box.result (λ found. IfSome found (λ l. IsCommand t (said l)))) (sym front) c.read_box.ensures.some

pub returns-in-Some-strip_prefix-2-clause-all : goal.returns-in-Some-strip_prefix-2-clause-all
returns-in-Some-strip_prefix-2-clause-all c =
    let front = behind_front c.args.line.now (codes "box add ") c.strip_prefix-3.result c.in-Some-strip_prefix-2.words c.in-Some-strip_prefix-2.is c.strip_prefix-3.ensures.cases in
    subst (λ (t : List ℕ). IfOk c.read_box.result (λ found. (command : Command) → IsCommand t command → HasForm command → option_map said found ≡ Some command)) (sym front) c.read_box.ensures.all

pub returns-in-Some-strip_prefix-3-clause-some : goal.returns-in-Some-strip_prefix-3-clause-some
returns-in-Some-strip_prefix-3-clause-some c =
    let front = behind_front c.args.line.now (codes "box close ") c.strip_prefix-4.result c.in-Some-strip_prefix-3.words c.in-Some-strip_prefix-3.is c.strip_prefix-4.ensures.cases in
    subst (λ (t : List ℕ). IfSome c.read_closing.result (λ l. IsCommand t (said l))) (sym front) c.read_closing.ensures.some

pub returns-in-Some-strip_prefix-3-clause-all : goal.returns-in-Some-strip_prefix-3-clause-all
returns-in-Some-strip_prefix-3-clause-all c command is form =
    let front = behind_front c.args.line.now (codes "box close ") c.strip_prefix-4.result c.in-Some-strip_prefix-3.words c.in-Some-strip_prefix-3.is c.strip_prefix-4.ensures.cases in
    c.read_closing.ensures.all command (subst (λ (t : List ℕ). IsCommand t command) front is) form

pub returns-in-Some-strip_prefix-4-clause-some : goal.returns-in-Some-strip_prefix-4-clause-some
returns-in-Some-strip_prefix-4-clause-some c =
    let front = behind_front c.args.line.now (codes "file drop ") c.strip_prefix-5.result c.in-Some-strip_prefix-4.words c.in-Some-strip_prefix-4.is c.strip_prefix-5.ensures.cases in
    subst (λ (t : List ℕ). IfSome c.read_drop.result (λ l. IsCommand t (said l))) (sym front) c.read_drop.ensures.some

pub returns-in-Some-strip_prefix-4-clause-all : goal.returns-in-Some-strip_prefix-4-clause-all
returns-in-Some-strip_prefix-4-clause-all c command is form =
    let front = behind_front c.args.line.now (codes "file drop ") c.strip_prefix-5.result c.in-Some-strip_prefix-4.words c.in-Some-strip_prefix-4.is c.strip_prefix-5.ensures.cases in
    c.read_drop.ensures.all command (subst (λ (t : List ℕ). IsCommand t command) front is) form

pub returns-in-Some-strip_prefix-2-clause-memory : goal.returns-in-Some-strip_prefix-2-clause-memory
returns-in-Some-strip_prefix-2-clause-memory c =
    let front = behind_front c.args.line.now (codes "box add ") c.strip_prefix-3.result c.in-Some-strip_prefix-2.words c.in-Some-strip_prefix-2.is c.strip_prefix-3.ensures.cases in
    IfErr-weaker c.read_box.result _ _ (λ e has. (c.in-Some-strip_prefix-2.words.now, front, has)) c.read_box.ensures.memory

pub returns-in-Some-strip_prefix-5-clause-some : goal.returns-in-Some-strip_prefix-5-clause-some
returns-in-Some-strip_prefix-5-clause-some c =
    let front = behind_front c.args.line.now (codes "key limit ") c.strip_prefix-6.result c.in-Some-strip_prefix-5.words c.in-Some-strip_prefix-5.is c.strip_prefix-6.ensures.cases in
    subst (λ (t : List ℕ). IfSome c.read_limit.result (λ l. IsCommand t (said l))) (sym front) c.read_limit.ensures.some

pub returns-in-Some-strip_prefix-5-clause-all : goal.returns-in-Some-strip_prefix-5-clause-all
returns-in-Some-strip_prefix-5-clause-all c command is form =
    let front = behind_front c.args.line.now (codes "key limit ") c.strip_prefix-6.result c.in-Some-strip_prefix-5.words c.in-Some-strip_prefix-5.is c.strip_prefix-6.ensures.cases in
    c.read_limit.ensures.all command (subst (λ (t : List ℕ). IsCommand t command) front is) form

pub returns-in-Some-strip_prefix-6-clause-some : goal.returns-in-Some-strip_prefix-6-clause-some
returns-in-Some-strip_prefix-6-clause-some c =
    let front = behind_front c.args.line.now (codes "office allow ") c.strip_prefix-7.result c.in-Some-strip_prefix-6.word c.in-Some-strip_prefix-6.is c.strip_prefix-7.ensures.cases in
    subst (λ (t : List ℕ). IfSome c.read_allowance.result (λ l. IsCommand t (said l))) (sym front) c.read_allowance.ensures.some

pub returns-in-Some-strip_prefix-6-clause-all : goal.returns-in-Some-strip_prefix-6-clause-all
returns-in-Some-strip_prefix-6-clause-all c command is form =
    let front = behind_front c.args.line.now (codes "office allow ") c.strip_prefix-7.result c.in-Some-strip_prefix-6.word c.in-Some-strip_prefix-6.is c.strip_prefix-7.ensures.cases in
    c.read_allowance.ensures.all command (subst (λ (t : List ℕ). IsCommand t command) front is) form

pub returns-in-None-clause-all : goal.returns-in-None-clause-all
returns-in-None-clause-all c = grind arith
