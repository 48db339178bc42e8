use Rattle.std.proofs.Common.{◌≡◌, true, false, refl, subst, arith}
use Rattle.std.specs.Prelude.{MatchBool}
use Rattle.std.specs.FinMap.{get}
use Rattle.sigtext.specs.Bytes.{bytes_cmp}
use Rattle.sqlaudit.specs.declared.rules.Lines.{Lines}
use Rattle.sqlaudit.specs.Outlines.{AreSoundLines, IsBoxEntry, IsBoxRule}
use Rattle.sqlaudit.specs.Sorting.{AreRuled, IsRead, HoldsBoxes, key_in, text_of, box_in}
use Rattle.sqlaudit.proofs.Entries.{rule_of_entries}
use Rattle.sqlaudit.proofs.WholeRules.{GoodKey, GoodBox, o, refuted, told, good_keys, good_boxes, given, has_clerk_too, limits_ruled}
use Rattle.sqlaudit.proofs.rules.are_sound.Goals as goal

pub returns-in_default : goal.returns-in_default
returns-in_default c rising =
    let lines : Lines = c.args.lines.now in
    let none = subst (IsRead bytes_cmp text_of key_in GoodKey lines.keys.now) c.in_default.is c.in_ok-keys.ensures in
    λ a. none (get (o lines a).keys) (good_keys lines a)

pub returns-in_default-2 : goal.returns-in_default-2
returns-in_default-2 c rising =
    let lines : Lines = c.args.lines.now in
    let none = subst (IsRead bytes_cmp text_of box_in GoodBox lines.boxes.now) c.in_default-2.is c.in_ok-boxes.ensures in
    λ a. none (get (o lines a).boxes) (good_boxes lines a)

pub returns-then-not-has_allowance : goal.returns-then-not-has_allowance
returns-then-not-has_allowance c rising =
    λ a. refuted c.if-not-has_allowance.true (c.has_allowance.ensures.1 (a.office.allowance, a.lines_are.rules, a.sound.allowance))

pub returns-then-not-are_limits : goal.returns-then-not-are_limits
returns-then-not-are_limits c rising =
    let lines : Lines = c.args.lines.now in
    let keys = subst (IsRead bytes_cmp text_of key_in GoodKey lines.keys.now) c.in-Some.is c.in_ok-keys.ensures in
    let ks = keys.map in
    let boxes = subst (IsRead bytes_cmp text_of box_in GoodBox lines.boxes.now) c.in-Some-2.is c.in_ok-boxes.ensures in
    let bs = boxes.map in
    let held : HoldsBoxes c.in-Some-2.boxes bs = record { means = boxes.means; good = rule_of_entries IsBoxEntry IsBoxRule (get bs) lines.boxes.now boxes.entries } in
    λ a. refuted c.if-not-are_limits.true ((c.are_limits.ensures ks bs keys.means held).1 (limits_ruled lines a ks bs keys.entries boxes.entries))

pub returns-then-not-are_receipts : goal.returns-then-not-are_receipts
returns-then-not-are_receipts c rising =
    let lines : Lines = c.args.lines.now in
    let keys = subst (IsRead bytes_cmp text_of key_in GoodKey lines.keys.now) c.in-Some.is c.in_ok-keys.ensures in
    let ks = keys.map in
    let boxes = subst (IsRead bytes_cmp text_of box_in GoodBox lines.boxes.now) c.in-Some-2.is c.in_ok-boxes.ensures in
    let bs = boxes.map in
    let held : HoldsBoxes c.in-Some-2.boxes bs = record { means = boxes.means; good = rule_of_entries IsBoxEntry IsBoxRule (get bs) lines.boxes.now boxes.entries } in
    λ a. refuted c.if-not-are_receipts.true (c.are_receipts.ensures.refused ks bs keys.means held rising (o lines a).receipts (given lines a ks bs keys.entries boxes.entries))

pub returns : goal.returns
returns c rising =
    let lines : Lines = c.args.lines.now in
    let keys = subst (IsRead bytes_cmp text_of key_in GoodKey lines.keys.now) c.in-Some.is c.in_ok-keys.ensures in
    let ks = keys.map in
    let boxes = subst (IsRead bytes_cmp text_of box_in GoodBox lines.boxes.now) c.in-Some-2.is c.in_ok-boxes.ensures in
    let bs = boxes.map in
    let held : HoldsBoxes c.in-Some-2.boxes bs = record { means = boxes.means; good = rule_of_entries IsBoxEntry IsBoxRule (get bs) lines.boxes.now boxes.entries } in
    let receipts = c.are_receipts.ensures.taken ks bs keys.means held (told c.if-not-are_receipts.false) in
    let clerk = c.has_clerk.ensures ks keys.entries in
    elim c.has_clerk.result as (λ b. c.has_clerk.result ≡ b → MatchBool b (AreRuled lines) (AreSoundLines lines → ⊥)) [
      | true ↦ λ is. record {
        office = c.is_office.ensures.0 (told c.if-not-is_office.false);
        allowance = c.has_allowance.ensures.0 (told c.if-not-has_allowance.false);
        keys = ks;
        keys_are = keys.entries;
        boxes = bs;
        boxes_are = boxes.entries;
        limits = (c.are_limits.ensures ks bs keys.means held).0 (told c.if-not-are_limits.false);
        receipts = receipts.0;
        held = receipts.1;
        receipts_are = receipts.2;
        clerk = clerk.0 (told is);
      }
      | false ↦ λ not. λ a. refuted not (clerk.1 (has_clerk_too lines a ks bs keys.entries boxes.entries))
    ] refl

pub returns-then-not-is_office : goal.returns-then-not-is_office
returns-then-not-is_office c = grind arith
