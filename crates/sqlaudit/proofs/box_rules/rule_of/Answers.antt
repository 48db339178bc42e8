use Rattle.std.proofs.Common.{◌≡◌, ◌∙◌, map, pos, sym, ap, rules, arith}
use Rattle.std.proofs.lemmas.List.Splits.{join_with_byte-slice_split}
use Rattle.std.specs.List.{join_with_byte}
use Rattle.std.proofs.lemmas.Grind.{common_steps}
use Rattle.sqlite_value.specs.declared.value.Value.TheVariants.{Int, Text}
use Rattle.sqltables.proofs.Readings.{ends_are, joined_is}
use Rattle.sqlaudit.proofs.box_rules.rule_of.Goals as goal

pub returns-in_ok-cut_texts-in-1 : goal.returns-in_ok-cut_texts-in-1
returns-in_ok-cut_texts-in-1 c =
    let one : c.args.kind ≡ pos 1 = search rules in
    let texts = map (λ t. t.items) c.in_ok-cut_texts-in-1.field-0.items in
    let cut = c.in_ok-cut_texts-in-1.ensures in
    record {
      kind_is = one;
      text_is = sym (joined_is texts ∙ ap (join_with_byte 44) cut ∙ join_with_byte-slice_split 44 c.args.text.now);
      alone = λ other good kind text. ends_are other texts c.args.text.now good (ap Int (sym one ∙ kind)) (ap Text text) cut;
    }

pub returns-in-0 : goal.returns-in-0
returns-in-0 c = grind (arith, common_steps)

pub returns-in_default : goal.returns-in_default
returns-in_default c = grind arith

pub returns-in_ok-from_slice-in-2 : goal.returns-in_ok-from_slice-in-2
returns-in_ok-from_slice-in-2 c = grind arith
