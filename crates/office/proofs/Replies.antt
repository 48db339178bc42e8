-- The replies to an upload and to a fetch, by what was decided about them.
use Rattle.std.proofs.Common.{◌≡◌, ◌≤◌, ℕ, List, Option, Some, None, Result, Ok, Err, length, ◌+◌, refl, sym, ap, subst, ◌∙◌}
use Rattle.std.specs.Prelude.{IsSome, IfErr, IfOk, OnOk}
use Rattle.std.specs.FinMap.{get}
use Rattle.std.specs.Borrow.{Bor}
use Rattle.sigtext.specs.declared.refusal.Refusal.{Refusal}
use Rattle.sigtext.specs.declared.refusal.Refusal.TheVariants as rule
use Rattle.sigtext.specs.Bytes.{AreBytes}
use Rattle.sigtext.specs.Limits.{most_body}
use Rattle.sigtext.specs.Request.{Request}
use Rattle.sigtext.specs.Rules.{IsFirstToFail}
use Rattle.links.specs.WellFormed.{LinkValues}
use Rattle.boxes.specs.declared.rows.FileRow.{FileRow}
use Rattle.boxes.specs.declared.rows.ReceiptRow.{ReceiptRow}
use Rattle.boxes.specs.declared.change.NewFile.{NewFile}
use Rattle.boxes.specs.declared.uploads.Uploading.TheVariants as uploading
use Rattle.boxes.specs.Changes.{IsBrought, IsFileSet, IsTaken}
use Rattle.boxes.specs.Deciding.{DecidesFetch, DecidesUpload}
use Rattle.boxes.specs.Rows.{receipt_in}
use Rattle.boxes.specs.Rules.{Upload}
use Rattle.boxes.specs.Sound.{IsMoment}
use Rattle.boxes.specs.State.{Key, Place, State}
use Rattle.boxes.specs.Steps.{FetchStep, receipt_of, after_upload, taken}
use Rattle.boxes.specs.Steps as step
use Rattle.hex.specs.Hex.{encode_lower}
use Rattle.wire.specs.Answers as said
use Rattle.wire.specs.declared.answer.Reply.{Reply}
use Rattle.wire.specs.declared.answer.Reply.TheVariants as reply
use Rattle.office.specs.Admitted.{ReachesBoxes}
use Rattle.office.specs.Answering.{put, fetch}
use Rattle.office.specs.Crashes.{IsAsked}
use Rattle.office.specs.Premise.{IsLeft}
use Rattle.office.specs.Replying.{IsReceiptFor, IsReplied}
use Rattle.office.specs.Rules.{IsPut, IsFetch, Rule, known, place_of, upload_of}
use Rattle.office.proofs.Deciding.{known_none, none_some, holds_put, holds_fetch, first_put, first_fetch}

-- a known key exists
there : (s : State) (id : List ℕ) (o : Option Key) → get s.keys id ≡ o → IsSome (known s id) → IsSome (get s.keys id)
there s id None e h = let is : known s id ≡ None = known_none s id e in absurd (none_some (known s id) is h)
there s id (Some k) e h = subst (λ (x : Option Key). IsSome x) (sym e) refl

module _ (means : State → Type 0) (s : State) (r : Request) (now : ℕ) (p : LinkValues) (reached : ReachesBoxes s r now p) where
  -- ---- fetches

  pub fetched : (place : Place) (f : FileRow) → IsFetch r → place ≡ place_of p.path → IsLeft means s → DecidesFetch s place (Ok f)
      → IsReplied means s r now (Ok (reply.Found f.receipt.number f.receipt.digest f.bytes))
  fetched place f is_fetch same left decided =
      let at : DecidesFetch s (place_of p.path) (Ok f) = subst (λ (x : Place). DecidesFetch s x (Ok f)) same decided in
      (step.Found f.receipt.number (receipt_in f.receipt) f.bytes.items, s, fetch p _ _ (holds_fetch s r now p reached is_fetch at.0) is_fetch at.1, left, refl)

  pub not_fetched : (place : Place) (q : Refusal) → IsFetch r → place ≡ place_of p.path → DecidesFetch s place (Err q) → IsFirstToFail (Rule s r now) q
  not_fetched place q is_fetch same decided = first_fetch s r now p reached q is_fetch (subst (λ (x : Place). DecidesFetch s x (Err q)) same decided)

  -- ---- uploads

  pub brought : length r.body ≤ most_body → AreBytes r.body → IsMoment now → IsBrought s (upload_of r now p)
  brought short bytes moment = record { short = short; bytes = bytes; moment = moment; key = there s p.key_id (get s.keys p.key_id) refl (reached.link rule.KeyUnknown) }

  pub again : (x : Bor ReceiptRow) → IsPut r → IsLeft means s → DecidesUpload s (upload_of r now p) (uploading.Again x)
      → IsReplied means s r now (Ok (reply.Kept x.now.number x.now.size x.now.digest))
  again x is_put left decided =
      (step.Kept x.now.number (receipt_in x.now), s, put p _ _ (holds_put s r now p reached is_put decided.0) is_put decided.1, left, refl)

  pub not_put : (q : Refusal) → IsPut r → DecidesUpload s (upload_of r now p) (uploading.Refused q) → IsFirstToFail (Rule s r now) q
  not_put q is_put decided = first_put s r now p reached q is_put decided

  -- the file to set
  pub sets : (f : NewFile) → IsBrought s (upload_of r now p) → DecidesUpload s (upload_of r now p) (uploading.Taken f)
      → IsFileSet s f r.body (after_upload s (upload_of r now p))
  sets f brings decided =
      let u = upload_of r now p in
      let same = sym decided.2 in
      record {
        taken = subst (λ (x : Upload). IsTaken s x) same (record { brought = brings; rules = decided.0; new = decided.1 });
        file = decided.3;
        sets = ap (after_upload s) same;
      }

  -- the state in which it is set
  pub asks : (f : NewFile) → IsPut r → DecidesUpload s (upload_of r now p) (uploading.Taken f) → IsAsked s r now (after_upload s (upload_of r now p))
  asks f is_put decided =
      record { reply = step.Kept (length s.receipts + 1) (receipt_of (upload_of r now p)); accepts = put p _ _ (holds_put s r now p reached is_put decided.0) is_put (taken decided.1) }

  pub kept : (f : NewFile) → IsPut r → IsLeft means (after_upload s (upload_of r now p)) → DecidesUpload s (upload_of r now p) (uploading.Taken f)
      → IsReplied means s r now (Ok (reply.Kept f.number f.size f.digest))
  unfolding asks
  kept f is_put left decided =
      let asked = asks f is_put decided in
      let file = decided.3 in (
        asked.reply,
        after_upload s (upload_of r now p),
        asked.accepts,
        left,
        ap (λ (n : ℕ). said.Kept n f.size (encode_lower f.digest)) file.number
            ∙ ap (λ (n : ℕ). said.Kept (length s.receipts + 1) n (encode_lower f.digest)) file.size
            ∙ ap (λ (d : List ℕ). said.Kept (length s.receipts + 1) (length r.body) (encode_lower d)) file.digest,
      )

  -- the result of setting the file
  pub set_replied : (f : NewFile) (result : Result Reply Refusal) → IsPut r → DecidesUpload s (upload_of r now p) (uploading.Taken f) → IfOk result (IsReceiptFor f)
      → IfErr result (λ q. q ≡ rule.TryAgain) → OnOk result (IsLeft means (after_upload s (upload_of r now p))) → IsReplied means s r now result
  set_replied f (Ok x) is_put decided receipt none left = subst (λ (y : Reply). IsReplied means s r now (Ok y)) (sym receipt) (kept f is_put left decided)
  set_replied f (Err q) is_put decided none again left = λ other. absurd (other again)
