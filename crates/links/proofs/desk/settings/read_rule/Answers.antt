use Rattle.std.proofs.Common.{◌++◌, List, ℕ, Some, ap, sym, ◌∙◌, arith}
use Rattle.std.specs.Prelude.{codes}
use Rattle.std.specs.List.{join_with_byte}
use Rattle.std.proofs.lemmas.List.Splits.{join_with_byte-slice_split}
use Rattle.links.proofs.DeskWords.{behind_front}
use Rattle.links.proofs.NineTexts.{ends_once}
use Rattle.links.proofs.desk.settings.read_rule.Goals as goal

pub returns-in-Some-clause-some : goal.returns-in-Some-clause-some
returns-in-Some-clause-some c =
    behind_front c.args.words.now (codes "ends ") c.strip_prefix.result c.in-Some.list c.in-Some.is c.strip_prefix.ensures.cases
    ∙ ap (λ (t : List ℕ). codes "ends " ++ t) (sym (ap (join_with_byte 44) c.in_ok-read_texts.ensures ∙ join_with_byte-slice_split 44 c.in-Some.list.now))

pub returns-in-Some-clause-all : goal.returns-in-Some-clause-all
returns-in-Some-clause-all c rule form is =
    let front = behind_front c.args.words.now (codes "ends ") c.strip_prefix.result c.in-Some.list c.in-Some.is c.strip_prefix.ensures.cases in
    ap Some (ends_once c.args.words.now c.in-Some.list.now _ rule front c.in_ok-read_texts.ensures form is)

pub returns-in_ok-from_slice-in-Some-strip_prefix-clause-some : goal.returns-in_ok-from_slice-in-Some-strip_prefix-clause-some
returns-in_ok-from_slice-in-Some-strip_prefix-clause-some c =
    behind_front c.args.words.now (codes "begins ") c.strip_prefix-2.result c.in-Some-strip_prefix.text c.in-Some-strip_prefix.is c.strip_prefix-2.ensures.cases
    ∙ ap (λ (t : List ℕ). codes "begins " ++ t) (sym c.in_ok-from_slice-in-Some-strip_prefix.ensures.items)

pub returns-in-None-clause-all : goal.returns-in-None-clause-all
returns-in-None-clause-all c = grind arith

pub returns-in_err-read_texts-clause-memory : goal.returns-in_err-read_texts-clause-memory
returns-in_err-read_texts-clause-memory c = grind arith

pub returns-in_ok-from_slice-in-Some-strip_prefix-clause-all : goal.returns-in_ok-from_slice-in-Some-strip_prefix-clause-all
returns-in_ok-from_slice-in-Some-strip_prefix-clause-all c = grind arith

pub returns-then-eq-clause-all : goal.returns-then-eq-clause-all
returns-then-eq-clause-all c = grind arith
