-- Adding a receipt to a published manifest.
use Rattle.std.proofs.Common.{◌≡◌, ◌∙◌, ℕ, ◌+◌, List, [], ◌∷◌, ◌++◌, length, Option, None, Some, refl, sym, ap, subst, append_assoc, arith}
use Rattle.boxes.specs.State.{Receipt, State}
use Rattle.boxes.specs.Rows.{numbered}
use Rattle.boxes.specs.Steps.{Command, CommandStep, receipt_of, key_added, key_revoked, box_added, box_closed, file_dropped, key_limited, allowance_set}
use Rattle.boxes.specs.Changes.{IsChangeOf, IsFileSet, MayChange, upload_in}
use Rattle.boxes.specs.declared.change.Change.{Change}
use Rattle.boxes.specs.declared.change.Change.TheVariants as change
use Rattle.boxes.specs.declared.change.NewFile.{NewFile}
use Rattle.shelf.specs.Shelves.{set_receipt}
use Rattle.shelf.proofs.ShelfLemmas.{numbered-push}
use Rattle.lists.specs.Lists.{line, AreLines, IsTable}
use Rattle.lists.specs.Manifests.{manifest_head, IsReceiptLine}
use Rattle.lists.proofs.AnsweredLists.{lines_joined}
use Rattle.lists.specs.Published.{AddsAll, IsPublished}

-- a change allowed with the staged bytes is allowed whatever is staged
pub may_change : (Stages : List ℕ → Type 0) (s : State) (c : Change) (after : State) → IsChangeOf Stages s c after → MayChange s c after
may_change Stages s (change.SetFile f) after is = (is.0, tt, is.2)
may_change Stages s (change.Desk c) after is = is

-- a desk command does not change the receipts
pub same_receipts : (s after : State) (c : Command) → CommandStep s c after → after.receipts ≡ s.receipts
same_receipts s _ _ (key_added id role secret) = refl
same_receipts s _ _ (key_revoked id k there) = refl
same_receipts s _ _ (box_added name settings) = refl
same_receipts s _ _ (box_closed name moment b there) = refl
same_receipts s _ _ (file_dropped place) = refl
same_receipts s _ _ (key_limited id box) = refl
same_receipts s _ _ (allowance_set seconds) = refl

pub published_as : (s after : State) (contents : Option (List ℕ)) → after.receipts ≡ s.receipts → IsPublished s contents → IsPublished after contents
published_as s after None same published = tt
published_as s after (Some text) same published = subst (λ rs. IsTable manifest_head IsReceiptLine (numbered 1 rs) text) (sym same) published

-- the receipts after a file is set
pub receipts_with : (s after : State) (f : NewFile) (bytes : List ℕ) → IsFileSet s f bytes after → numbered 1 after.receipts ≡ numbered 1 s.receipts ++ set_receipt f ∷ []
receipts_with s after f bytes set =
    let number : 1 + length s.receipts ≡ f.number = omega (arith, set.file.number) in
    let size = sym set.file.size in
    let digest = sym set.file.digest in
    let same : ◌≡◌ {A = ℕ × Receipt} (1 + length s.receipts, receipt_of (upload_in f bytes)) (set_receipt f) =
    λ i. (number i, record { box = f.in_box.now; name = f.name.now; size = size i; digest = digest i; moment = f.moment; key = f.key.now }) in
    ap (λ (a : State). numbered 1 a.receipts) set.sets ∙ numbered-push 1 s.receipts (receipt_of (upload_in f bytes)) ∙ ap (λ r. numbered 1 s.receipts ++ r ∷ []) same

pub published_with : (s after : State) (f : NewFile) (bytes text : List ℕ) (old new : Option (List ℕ)) → IsFileSet s f bytes after → IsPublished s old
    → AreLines IsReceiptLine (set_receipt f ∷ []) text → AddsAll text old new → IsPublished after new
published_with s after f bytes text None new set published lines added = subst (IsPublished after) (sym added) tt
published_with s after f bytes text (Some before) new set published lines added =
    let more = lines_joined IsReceiptLine (numbered 1 s.receipts) (set_receipt f ∷ []) published.lines text published.are lines in
    subst (IsPublished after) (sym added) (record {
      lines = published.lines ++ text;
      are = subst (λ rs. AreLines IsReceiptLine rs (published.lines ++ text)) (sym (receipts_with s after f bytes set)) more;
      is = ap (λ t. t ++ text) published.is ∙ append_assoc (line manifest_head) published.lines text;
    })
