use Rattle.std.proofs.Common.{None, Some, sym, ap, subst, ◌∙◌}
use Rattle.std.specs.Prelude.{option_map}
use Rattle.std.proofs.lemmas.Option.{none-some, same_Some}
use Rattle.boxes.specs.Rows.{name_rule_of, settings_of}
use Rattle.links.proofs.SixLemmas.{whatever_err}
use Rattle.links.specs.CommandLines.{texts_of, HasRuleWord}
use Rattle.links.proofs.NineTexts.{some_at, cut_settings, nine_texts, nine_say, say_settings, with_rule}
use Rattle.links.proofs.RuleWords.{in_settings}
use Rattle.links.proofs.desk.settings.read_settings.Goals as goal

pub returns-in_default-clause-all : goal.returns-in_default-clause-all
returns-in_default-clause-all c words b says are is =
    absurd (none-some _ (cut_settings c.args.text.now None words b says is c.in_default.ensures.all))

pub returns-in_default-read_row-clause-all : goal.returns-in_default-read_row-clause-all
returns-in_default-read_row-clause-all c words b says are is =
    let texts = cut_settings c.args.text.now (Some (texts_of c.in-Some.words)) words b says is c.in-Some.ensures.all in
    let row = nine_say c.in-Some.words words b says (same_Some (texts_of c.in-Some.words) (nine_texts words b says) texts) in
    absurd (none-some _ (c.in_default-read_row.ensures.all b row.0 are))

pub returns-in-Some-2-clause-some : goal.returns-in-Some-2-clause-some
returns-in-Some-2-clause-some c =
    let rule = some_at _ c.in_ok-rule.field-0 c.in-Some-2.rule c.in-Some-2.is c.in_ok-rule.ensures.some in
    say_settings c.args.text.now c.in-Some.words (settings_of c.in-Some-read_row.row) c.in-Some.ensures.some c.in-Some-read_row.ensures.some.0 (name_rule_of c.in-Some-2.rule) rule

pub returns-in-Some-2-clause-all : goal.returns-in-Some-2-clause-all
returns-in-Some-2-clause-all c words b says are is =
    let texts = cut_settings c.args.text.now (Some (texts_of c.in-Some.words)) words b says is c.in-Some.ensures.all in
    let row = nine_say c.in-Some.words words b says (same_Some (texts_of c.in-Some.words) (nine_texts words b says) texts) in
    let rule = sym (ap (option_map name_rule_of) c.in-Some-2.is) ∙ c.in_ok-rule.ensures.all b.rule are.rule row.1 in
    with_rule (settings_of c.in-Some-read_row.row) b (name_rule_of c.in-Some-2.rule) (c.in-Some-read_row.ensures.all b row.0 are) rule

pub returns-clause-all : goal.returns-clause-all
returns-clause-all c words b says are is =
    let texts = cut_settings c.args.text.now (Some (texts_of c.in-Some.words)) words b says is c.in-Some.ensures.all in
    let row = nine_say c.in-Some.words words b says (same_Some (texts_of c.in-Some.words) (nine_texts words b says) texts) in
    absurd (none-some _ (sym (ap (option_map name_rule_of) c.in-None.is) ∙ c.in_ok-rule.ensures.all b.rule are.rule row.1))

pub returns-in_err-rule-clause-memory : goal.returns-in_err-rule-clause-memory
returns-in_err-rule-clause-memory c =
    whatever_err c.from_residual.result (subst HasRuleWord (sym c.in-Some.ensures.some) (in_settings c.in-Some.words c.in_err-rule.ensures.memory))
