-- A manifest that is begun stays a beginning.
use Rattle.std.proofs.Common.{◌≡◌, ◌∙◌, ℕ, List, [], ◌∷◌, ◌++◌, ◌⊎◌, inl, inr, Option, None, Some, Result, Err, refl, sym, ap, subst, append_assoc, append-nil}
use Rattle.std.specs.Prelude.{Vec, ⊤}
use Rattle.std.specs.declared.alloc.Global.{Global}
use Rattle.sigtext.specs.Bytes.{IsBeginning}
use Rattle.boxes.specs.State.{Receipt, State}
use Rattle.boxes.specs.Rows.{numbered}
use Rattle.boxes.specs.Changes.{IsFileSet}
use Rattle.boxes.specs.declared.change.NewFile.{NewFile}
use Rattle.shelf.specs.Shelves.{set_receipt}
use Rattle.lists.specs.Lists.{line, AreLines, IsTable}
use Rattle.lists.specs.Manifests.{manifest_head, IsReceiptLine}
use Rattle.lists.proofs.AnsweredLists.{none_table}
use Rattle.lists.specs.Published.{Adds, AddsAll, IsBegun, IsBlank, IsPublished, with_held}
use Rattle.lists.proofs.Added.{published_with, receipts_with}

-- at least a beginning of the bytes was appended
pub adds_front : {T E : Type 0} (bytes : List ℕ) (old new : Option (List ℕ)) (r : Result T E) → Adds bytes old new r → Adds {T = ⊤} {E = ⊤} bytes old new (Err tt)
adds_front bytes None new r added = added
adds_front bytes (Some text) new r (after, is, added) = (after, is, record { front = added.front; is_front = added.is_front; is = added.is; whole = tt })

pub begun_blank : (s : State) (contents : Option (List ℕ)) → IsBlank contents → IsBegun s contents
begun_blank s None blank = tt
begun_blank s (Some text) blank = record {
  first = [];
  are_first = record { rest = numbered 1 s.receipts; receipts = refl; all = tt };
  text = line manifest_head;
  table = none_table manifest_head IsReceiptLine;
  sent = record { front = []; is_front = record { rest = line manifest_head; joined = refl }; written = blank; whole = tt };
}

-- a beginning of the manifest of all receipts
begun_front : (s : State) (manifest front : List ℕ) → IsTable manifest_head IsReceiptLine (numbered 1 s.receipts) manifest → IsBeginning front manifest → IsBegun s (Some front)
begun_front s manifest front table is = record {
  first = numbered 1 s.receipts;
  are_first = record { rest = []; receipts = sym (append-nil (numbered 1 s.receipts)); all = tt };
  text = manifest;
  table = table;
  sent = record { front = front; is_front = is; written = refl; whole = tt };
}

-- the manifest was added to a blank sheet, perhaps in part
pub begun_put : (s : State) (text : List ℕ) (old new : Option (List ℕ)) → IsBlank old → IsPublished s (Some text) → Adds {T = ⊤} {E = ⊤} text old new (Err tt) → IsBegun s new
begun_put s text None new blank published added = subst (IsBegun s) (sym added) tt
begun_put s text (Some before) new blank published (after, is, added) =
    let same : after ≡ added.front = added.is ∙ ap (λ t. t ++ added.front) blank in
    let joined = added.is_front.joined ∙ ap (λ t. t ++ added.is_front.rest) (sym same) in
    subst (IsBegun s) (sym is) (begun_front s text after published (record { rest = added.is_front.rest; joined = joined }))

-- the whole manifest was added to a blank sheet
pub published_put : (s : State) (text : List ℕ) (old new : Option (List ℕ)) → IsBlank old → IsPublished s (Some text) → AddsAll text old new → IsPublished s new
published_put s text None new blank published added = subst (IsPublished s) (sym added) tt
published_put s text (Some before) new blank published added = subst (IsPublished s) (sym (added ∙ ap (λ t. Some (t ++ text)) blank)) published

-- receipts were added
pub begun_grown : (s after : State) (contents : Option (List ℕ)) (more : List (ℕ × Receipt)) → numbered 1 after.receipts ≡ numbered 1 s.receipts ++ more → IsBegun s contents → IsBegun after contents
begun_grown s after None more grown begun = tt
begun_grown s after (Some text) more grown begun = record {
  first = begun.first;
  are_first = record {
    rest = begun.are_first.rest ++ more;
    receipts = grown ∙ ap (λ rs. rs ++ more) begun.are_first.receipts ∙ append_assoc begun.first begun.are_first.rest more;
    all = tt;
  };
  text = begun.text;
  table = begun.table;
  sent = begun.sent;
}

-- the text that makes the manifest whole was added, perhaps in part
pub begun_added : (s : State) (before bytes : List ℕ) (new : Option (List ℕ)) → IsPublished s (Some (before ++ bytes)) → Adds {T = ⊤} {E = ⊤} bytes (Some before) new (Err tt) → IsBegun s new
begun_added s before bytes new published (now, is, added) =
    let rest = added.is_front.rest in
    let joined = ap (λ t. before ++ t) added.is_front.joined ∙ sym (append_assoc before added.front rest) ∙ ap (λ t. t ++ rest) (sym added.is) in
    subst (IsBegun s) (sym is) (begun_front s (before ++ bytes) now published (record { rest = rest; joined = joined }))

-- a file was set, and its line was added, perhaps in part
begun_with : (s after : State) (f : NewFile) (bytes text : List ℕ) (old new : Option (List ℕ)) → IsFileSet s f bytes after → IsPublished s old
    → AreLines IsReceiptLine (set_receipt f ∷ []) text → Adds {T = ⊤} {E = ⊤} text old new (Err tt) → IsBegun after new
begun_with s after f bytes text None new set published lines added = subst (IsBegun after) (sym added) tt
begun_with s after f bytes text (Some before) new set published lines added =
    begun_added after before text new (published_with s after f bytes text (Some before) (Some (before ++ text)) set published lines refl) added

-- A file was set. To a whole manifest its line was added, perhaps in part, if no lines are held; or nothing was added.
pub begun_set : (s after : State) (f : NewFile) (bytes : List ℕ) (held : Option (Vec ℕ Global)) (old new : Option (List ℕ)) (whole : Type 0) → IsFileSet s f bytes after
    → (whole → IsPublished s (with_held held old)) → IsBegun s old
    → (new ≡ old) ⊎ ((text : List ℕ) × whole × AreLines IsReceiptLine (set_receipt f ∷ []) text × (held ≡ None) × Adds {T = ⊤} {E = ⊤} text old new (Err tt)) → IsBegun after new
begun_set s after f bytes held old new whole set published begun (inl same) =
    subst (IsBegun after) (sym same) (begun_grown s after old (set_receipt f ∷ []) (receipts_with s after f bytes set) begun)
begun_set s after f bytes held old new whole set published begun (inr (text, is, lines, none, added)) =
    begun_with s after f bytes text old new set (subst (λ h. IsPublished s (with_held h old)) none (published is)) lines added
