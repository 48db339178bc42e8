use Rattle.std.proofs.Common.{◌≡◌, ◌∙◌, ◌++◌, ◌∷◌, [], ap, map, sym, subst, take, arith}
use Rattle.std.proofs.lemmas.Grind.{common_steps}
use Rattle.boxes.specs.Rows.{numbered_receipt}
use Rattle.lists.specs.Lists.{AreLines}
use Rattle.lists.specs.Manifests.{HasMoment, IsReceiptLine}
use Rattle.lists.proofs.AnsweredLists.{lines_none, lines_push}
use Rattle.lists.proofs.ReceiptLines.{all_at, map_more}
use Rattle.lists.proofs.manifests.receipts_text.Goals as goal

pub receipts-init : goal.receipts-init
receipts-init c =
    let under = ap (λ v. v.items) c.from_writer-writer.ensures.wtr ∙ c.new-2.ensures.items in
    let empty : c.from_writer-writer.result.wtr.inner.items ++ c.from_writer-writer.result.wtr.buf ≡ [] = λ i. under i ++ c.from_writer-writer.ensures.empty i in
    record {
      clean = record { fields = c.from_writer-writer.ensures.fields; wrote = c.from_writer-writer.ensures.wrote; setup = c.from_writer-writer.ensures.cfg ∙ c.new.ensures };
      lines = λ all. subst (AreLines IsReceiptLine []) (sym empty) (lines_none IsReceiptLine);
    }

pub receipts-preserved : goal.receipts-preserved
receipts-preserved c =
    let rows = c.args.receipts.now in
    let at = c.receipts.receipt-index in
    record {
      clean = c.in_ok-write_receipt.ensures.clean;
      lines = λ all.
          let more = map_more numbered_receipt rows at _ c.receipt-item.result c.receipts-test.true c.receipt-item.is in
          let moment = all_at HasMoment numbered_receipt rows at _ c.receipt-item.result c.receipts-test.true c.receipt-item.is all in
          let (one, line, written) = c.in_ok-write_receipt.ensures.written moment in
          let lines = lines_push IsReceiptLine _ _ _ one (c.receipts.invariant.lines all) line in
          subst (λ xs. AreLines IsReceiptLine xs (c.write_receipt.new.writer.wtr.inner.items ++ c.write_receipt.new.writer.wtr.buf)) (sym more)
          (subst (AreLines IsReceiptLine (map numbered_receipt (take at rows) ++ _ ∷ [])) (sym written) lines);
    }

pub returns-clause-lines : goal.returns-clause-lines
returns-clause-lines c = grind (arith, common_steps)
