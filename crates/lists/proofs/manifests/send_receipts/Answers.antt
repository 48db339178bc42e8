use Rattle.std.proofs.Common.{arith, ◌≡◌, ◌∙◌, ◌+◌, ◌-◌, [], ◌++◌, map, min, take, drop, refl, sym, ap, subst, take-append-drop, append-nil}
use Rattle.std.proofs.lemmas.Result.{err_from_is_err_and}
use Rattle.boxes.specs.Rows.{numbered, numbered_receipt}
use Rattle.wire.proofs.Written.{sends_both, sends_same}
use Rattle.lists.specs.Asking.{stays_err, stays_joined, stays_ok, stays_unasked}
use Rattle.lists.specs.Lists.{AreLines}
use Rattle.lists.specs.Manifests.{IsReceiptLine}
use Rattle.lists.proofs.AnsweredLists.{lines_none, sends_err, sends_nothing, sends_whole}
use Rattle.lists.proofs.Portions.{behind_portion, front_behind, length-numbered, portion_moments}
use Rattle.std.proofs.lemmas.List.{take_all}
use Rattle.lists.proofs.manifests.send_receipts.Goals as goal

pub portions-init : goal.portions-init
portions-init g c = record {
  from = omega arith;
  stays = stays_unasked _;
  staged = λ bytes staged. staged;
  count = refl;
  sent = λ s means sound honest end. ([], lines_none _, sends_nothing _);
}

pub returns-clause-sent : goal.returns-clause-sent
returns-clause-sent g c = λ s means sound honest end.
    let (text, lines, sent) = c.portions.invariant.sent s means sound honest end in
    let ns = numbered 1 s.receipts in
    let all = take_all (c.portions.from - 1) ns (omega (arith, length-numbered 1 s.receipts, end, c.portions-test.false)) in
    record {
      first = take (c.portions.from - 1) ns;
      are_first = record { rest = []; receipts = sym all ∙ sym (append-nil _); all = refl };
      text = text;
      lines = lines;
      sent = sent;
    }

pub returns-in-Err-clause-sent : goal.returns-in-Err-clause-sent
returns-in-Err-clause-sent g c = λ s means sound honest end.
    let before = c.receipts.ensures.rest.honest honest in
    let (text, lines, sent) = c.portions.invariant.sent s means sound before end in
    let ns = numbered 1 s.receipts in
    record {
      first = take (c.portions.from - 1) ns;
      are_first = record { rest = drop (c.portions.from - 1) ns; receipts = sym (take-append-drop (c.portions.from - 1) ns); all = tt };
      text = text;
      lines = lines;
      sent = sends_whole tt _ sent;
    }

pub returns-in_err-text-clause-sent : goal.returns-in_err-text-clause-sent
returns-in_err-text-clause-sent g c =
    let told = err_from_is_err_and c.from_residual.result c.from_residual.ensures.1 in
    λ s means sound honest end.
    let before = c.receipts.ensures.rest.honest honest in
    let (text, lines, sent) = c.portions.invariant.sent s means sound before end in
    let ns = numbered 1 s.receipts in
    rw told.1 (record {
      first = take (c.portions.from - 1) ns;
      are_first = record { rest = drop (c.portions.from - 1) ns; receipts = sym (take-append-drop (c.portions.from - 1) ns); all = tt };
      text = text;
      lines = lines;
      sent = sends_whole tt _ sent;
    })

pub returns-in_err-send_text-clause-sent : goal.returns-in_err-send_text-clause-sent
returns-in_err-send_text-clause-sent g c =
    let told = err_from_is_err_and c.from_residual-in_err-send_text.result c.from_residual-in_err-send_text.ensures.1 in
    λ s means sound honest end.
    let before = c.receipts.ensures.rest.honest honest in
    let (text, lines, sent) = c.portions.invariant.sent s means sound before end in
    let ns = numbered 1 s.receipts in
    let known = c.portions.invariant.stays.same s means in
    let rows = ap (map numbered_receipt) c.deref.ensures.value ∙ c.in-Ok.ensures.value s known sound honest in
    let more = c.in_ok-text.ensures.lines (portion_moments s c.portions.from c.from.result _ sound rows) in
    let rest = sends_same c.deref-in-portions.ensures.value (sends_err c.in_err-send_text.field-0.0 told.0 c.in_err-send_text.ensures.sent) in
    rw told.1 (record {
      first = take (c.portions.from - 1 + c.from.result) ns;
      are_first = record { rest = drop (c.portions.from - 1 + c.from.result) ns; receipts = sym (take-append-drop (c.portions.from - 1 + c.from.result) ns); all = tt };
      text = text ++ c.in_ok-text.text.items;
      lines = behind_portion s c.portions.from c.from.result _ text c.in_ok-text.text.items rows lines more;
      sent = sends_both text c.in_ok-text.text.items _ _ _ tt _ sent rest;
    })

pub portions-preserved : goal.portions-preserved
portions-preserved g c =
    let next = c.saturating_add-from.ensures ∙ ap (λ k. min (c.portions.from + k) 18446744073709551615) (c.from-in-portions.ensures ∙ sym c.from.ensures) in
    record {
      from = omega (arith, next, c.portions.invariant.from);
      stays = stays_joined _ _ _ _ c.portions.invariant.stays (stays_ok _ _ _ (rw c.in-Ok.is at c.receipts.ensures.rest));
      staged = λ bytes staged. c.receipts.ensures.staged bytes (c.portions.invariant.staged bytes staged);
      count = c.in_ok-send_text.ensures.count.ok ∙ c.portions.invariant.count;
      sent = λ s means sound honest end.
          let before = c.receipts.ensures.rest.honest honest in
          let (text, lines, sent) = c.portions.invariant.sent s means sound before end in
          let ns = numbered 1 s.receipts in
          let known = c.portions.invariant.stays.same s means in
          let rows = ap (map numbered_receipt) c.deref.ensures.value ∙ c.in-Ok.ensures.value s known sound honest in
          let more = c.in_ok-text.ensures.lines (portion_moments s c.portions.from c.from.result _ sound rows) in
          let front : take (c.portions.from - 1 + c.from.result) ns ≡ take (c.saturating_add-from.result - 1) ns = front_behind s c.portions.from c.from.result c.saturating_add-from.result c.portions.invariant.from c.from.ensures next (omega (arith, end, c.ranges.end.fits)) in (
            text ++ c.in_ok-text.text.items,
            subst (λ xs. AreLines IsReceiptLine xs (text ++ c.in_ok-text.text.items)) front (behind_portion s c.portions.from c.from.result _ text c.in_ok-text.text.items rows lines more),
            sends_both text c.in_ok-text.text.items _ _ _ tt _ sent (sends_same c.deref-in-portions.ensures.value c.in_ok-send_text.ensures.sent),
          );
    }

pub returns-in-Err-clause-stays : goal.returns-in-Err-clause-stays
returns-in-Err-clause-stays g c = stays_joined _ _ _ _ c.portions.invariant.stays (stays_err _ _ _ c.in-Err.ensures.rest)

pub returns-in-Err-clause-staged : goal.returns-in-Err-clause-staged
returns-in-Err-clause-staged g c = grind arith

pub returns-in_err-send_text-clause-fault : goal.returns-in_err-send_text-clause-fault
returns-in_err-send_text-clause-fault g c = grind arith

pub returns-in_err-send_text-clause-staged : goal.returns-in_err-send_text-clause-staged
returns-in_err-send_text-clause-staged g c = grind arith

pub returns-in_err-text-clause-staged : goal.returns-in_err-text-clause-staged
returns-in_err-text-clause-staged g c = grind arith
