-- A line is only one box.
use Rattle.std.proofs.Common.{◌≡◌, ◌∙◌, map, eqb, refl, sym, ap}
use Rattle.boxes.specs.declared.rows.Mode.{Mode}
use Rattle.boxes.specs.declared.rows.Mode.TheVariants.{Keep, Replace}
use Rattle.boxes.specs.State.{NameRule, AnyName, Ends, Begins}
use Rattle.boxes.specs.Sound.{IsNameRule}
use Rattle.std.specs.List.{slice_split}
use Rattle.sqltables.specs.Tables.{mode_number, rule_number, rule_text}
use Rattle.sqlaudit.specs.Outlines.{IsBoxEntry, IsBoxRule}
use Rattle.sqlaudit.specs.Sorting.{IsGood}
use Rattle.sqlaudit.proofs.Entries.{IsFunctional}
use Rattle.sqlaudit.proofs.ReceiptEntries.{one_pos}
use Rattle.sqltables.proofs.Readings.{cut_joined, open_days}

one_mode : (a b : Mode) → mode_number a ≡ mode_number b → a ≡ b
one_mode Keep Keep e = refl
one_mode Replace Replace e = refl
one_mode Keep Replace e = absurd cc
one_mode Replace Keep e = absurd cc

one_rule : (a b : NameRule) → IsNameRule a → IsNameRule b → rule_number a ≡ rule_number b → rule_text a ≡ rule_text b → a ≡ b
one_rule AnyName AnyName p q n t = refl
one_rule (Begins x) (Begins y) p q n t = ap Begins t
one_rule (Ends xs) (Ends ys) p q n t = ap Ends (sym (cut_joined xs p.0 p.2) ∙ ap (slice_split (λ b. eqb b 44)) t ∙ cut_joined ys q.0 q.2)
one_rule AnyName (Ends ys) p q n t = absurd cc
one_rule AnyName (Begins y) p q n t = absurd cc
one_rule (Ends xs) AnyName p q n t = absurd cc
one_rule (Ends xs) (Begins y) p q n t = absurd cc
one_rule (Begins x) AnyName p q n t = absurd cc
one_rule (Begins x) (Ends ys) p q n t = absurd cc

pub one_box : IsFunctional (IsGood IsBoxEntry IsBoxRule)
one_box l j k v w a b =
    let p = v.settings in
    let q = w.settings in
    let opens = one_pos p.opens q.opens (sym a.entry.opens_is ∙ b.entry.opens_is) in
    let closes = one_pos p.closes q.closes (sym a.entry.closes_is ∙ b.entry.closes_is) in
    let days = sym (open_days p.days) ∙ ap (map (λ mark. eqb mark 49)) (sym a.entry.days_is ∙ b.entry.days_is) ∙ open_days q.days in
    let from = one_pos p.from_minute q.from_minute (sym a.entry.from_is ∙ b.entry.from_is) in
    let to = one_pos p.to_minute q.to_minute (sym a.entry.to_is ∙ b.entry.to_is) in
    let quota = one_pos p.quota q.quota (sym a.entry.quota_is ∙ b.entry.quota_is) in
    let most = one_pos p.max_files q.max_files (sym a.entry.max_is ∙ b.entry.max_is) in
    let mode = one_mode p.mode q.mode (sym a.entry.mode_is ∙ b.entry.mode_is) in
    let rule = one_rule p.rule q.rule a.rule.settings_form.rule b.rule.settings_form.rule (sym a.entry.kind_is ∙ b.entry.kind_is) (sym a.entry.text_is ∙ b.entry.text_is) in
    let used = one_pos v.used w.used (sym a.entry.used_is ∙ b.entry.used_is) in
    let count = one_pos v.count w.count (sym a.entry.count_is ∙ b.entry.count_is) in (
      sym a.entry.name_is ∙ b.entry.name_is,
      λ i. record {
        settings = record { opens = opens i; closes = closes i; days = days i; from_minute = from i; to_minute = to i; quota = quota i; max_files = most i; mode = mode i; rule = rule i };
        used = used i;
        count = count i;
      },
    )
