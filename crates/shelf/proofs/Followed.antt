-- The cache is still right after a change.
use Rattle.std.proofs.Common.{◌≡◌, ◌≢◌, ◌∙◌, ℕ, ◌+◌, ◌<◌, ◌^◌, length, true, false, cond, List, [], ◌∷◌, Option, Some, None, inl, inr, arith, refl, sym, ap, subst, length-append}
use Rattle.std.specs.Prelude.{Vec, Result, Ok, Err, IfOk, IfSome, is_some, option_map}
use Rattle.std.specs.Result.{result_ok}
use Rattle.std.specs.declared.alloc.Global.{Global}
use Rattle.std.specs.Ordering.{eq_by_cmp}
use Rattle.std.specs.FinMap.{FinMap, get, insert, remove, get-insert}
use Rattle.std.specs.BTreeMap.{BTreeMap}
use Rattle.sigtext.specs.Bytes.{bytes_cmp, same_bytes}
use Rattle.boxes.specs.declared.rows.BoxRow.{BoxRow}
use Rattle.boxes.specs.declared.rows.OfficeRow.{OfficeRow}
use Rattle.boxes.specs.declared.rows.Role.{Role}
use Rattle.boxes.specs.declared.change.NewFile.{NewFile}
use Rattle.boxes.specs.declared.totals.Totals.{Totals}
use Rattle.sigtext.specs.declared.refusal.Refusal.TheVariants.{NoSuchBox}
use Rattle.boxes.specs.State.{Key, Settings, Place, File, Limit, limit_cmp, State}
use Rattle.boxes.specs.Changes.{IsObeyed, IsFileSet, upload_in}
use Rattle.boxes.specs.Limits.{IsLimitedTo, MayUse}
use Rattle.boxes.specs.Rows.{IsOfficeOf, settings_of}
use Rattle.boxes.specs.Sound.{IsSound}
use Rattle.boxes.specs.Steps.{after_upload, receipt_of, AddKey, RevokeKey, AddBox, CloseBox, DropFile, LimitKey, SetAllowance}
use Rattle.boxes.specs.Totals.{used, count}
use Rattle.boxes.specs.Views.{AreTotals}
use Rattle.boxes.proofs.CommandSteps.{key_added_is, key_revoked_is, box_added_is, box_closed_is, file_dropped_is, key_limited_is, allowance_set_is}
use Rattle.boxes.proofs.FileBoxes.{there_is}
use Rattle.boxes.proofs.FileTotals.{texts_apart, used_still, count_still, used_there, count_there}
use Rattle.boxes.proofs.LimitedKeys.{limit_total, limit_got}
use Rattle.boxes.proofs.Lookups.{bytes_total, bytes_same, equal_is, some_none}
use Rattle.boxes.proofs.MapLemmas.{is_none_is}
use Rattle.shelf.specs.declared.cache.CachedKey.{CachedKey}
use Rattle.shelf.specs.declared.cache.CachedBox.{CachedBox}
use Rattle.shelf.specs.declared.cache.Cache.{Cache}
use Rattle.shelf.specs.declared.last_size.LastSize.{LastSize}
use Rattle.shelf.specs.Recalled.{IsPart, IsSizeIn, Lacks, HasTotals, Recalls, RecallsKeys, RecallsBoxes}

more_some : {X : Type 0} (o : Option X) (P Q : X → Type 0) → ((x : X) → P x → Q x) → IfSome o P → IfSome o Q
more_some None P Q more h = h
more_some (Some x) P Q more h = more x h

-- another key of a map after an insertion
get_other : {X : Type 0} (m : FinMap bytes_cmp X) (k q : List ℕ) (v : X) → q ≢ k → get (insert m k v) q ≡ get m q
get_other m k q v far =
    get-insert bytes_total m k v q ∙
    elim (eq_by_cmp bytes_cmp q k) as (λ t. eq_by_cmp bytes_cmp q k ≡ t → cond t (Some v) (get m q) ≡ get m q) [
      | true ↦ λ t. absurd (far (bytes_same q k (equal_is (bytes_cmp q k) t)))
      | false ↦ λ t. refl
    ] refl

same_office : (s after : State) (o : Option OfficeRow) → after.offset ≡ s.offset → after.allowance ≡ s.allowance → IfSome o (IsOfficeOf s) → IfSome o (IsOfficeOf after)
same_office s after o offset allowance = more_some o (IsOfficeOf s) (IsOfficeOf after) (λ x h. record { offset = h.offset ∙ sym offset; allowance = h.allowance ∙ sym allowance })

-- ---- keys

pub keys_fewer : (s : State) (es after : List (Vec ℕ Global × CachedKey)) → IsPart es after → RecallsKeys s es → RecallsKeys s after
keys_fewer s es after part each q x e = each q x (part q x e)

pub lacks_part : {X : Type 0} (k : List ℕ) (es after : List (Vec ℕ Global × X)) → Lacks k es after → IsPart es after
lacks_part k es after lacks q x e = (lacks q x e).1

-- a key that does not exist is not cached
key_absent : (s : State) (id : List ℕ) (es : List (Vec ℕ Global × CachedKey)) → RecallsKeys s es → get s.keys id ≡ None → Lacks id es es
key_absent s id es each none q x e = (λ same. some_none _ (sym (each q x e).row ∙ ap (get s.keys) same ∙ none), e)

keys_but : (s : State) (id : List ℕ) (k : Key) (es after : List (Vec ℕ Global × CachedKey)) → Lacks id es after → RecallsKeys s es
    → RecallsKeys (record s { keys = insert s.keys id k }) after
keys_but s id k es after lacks each q x e =
    let was = lacks q x e in
    let is = each q x was.1 in
    record { row = get_other s.keys id q k was.0 ∙ is.row; uses = is.uses }

limit_kept : (m : FinMap limit_cmp (Unit {0})) (new l : Limit) → is_some (get m l) ≡ true → is_some (get (insert m new tt) l) ≡ true
limit_kept m new l h =
    ap is_some (get-insert limit_total m new tt l) ∙
    elim (eq_by_cmp limit_cmp l new) as (λ t. is_some (cond t (Some tt) (get m l)) ≡ true) [ true ↦ refl | false ↦ h ]

-- what another key may use does not change
may_still : (s : State) (id limit q box : List ℕ) → q ≢ id → MayUse s q box → MayUse (record s { limits = insert s.limits (record { key = id; box = limit }) tt }) q box
may_still s id limit q box far may limited =
    let had : IsLimitedTo s q limited.0 = limit_got s.limits id limit q limited.0 (IsLimitedTo s q limited.0) limited.1 (λ same other. absurd (far same)) (λ h. h) in
    limit_kept s.limits (record { key = id; box = limit }) (record { key = q; box = box }) (may (limited.0, had))

keys_limited : (s : State) (id limit : List ℕ) (es after : List (Vec ℕ Global × CachedKey)) → Lacks id es after → RecallsKeys s es
    → RecallsKeys (record s { limits = insert s.limits (record { key = id; box = limit }) tt }) after
keys_limited s id limit es after lacks each q x e =
    let was = lacks q x e in
    let is = each q x was.1 in
    record { row = is.row; uses = λ box has. may_still s id limit q box was.0 (is.uses box has) }

keys_as : (s after : State) (es : List (Vec ℕ Global × CachedKey)) → after.keys ≡ s.keys → after.limits ≡ s.limits → RecallsKeys s es → RecallsKeys after es
keys_as s after es keys limits each q x e =
    let is = each q x e in
    record { row = ap (λ m. get m q) keys ∙ is.row; uses = λ box has. subst (λ m. MayUse (record s { limits = m }) q box) (sym limits) (is.uses box has) }

-- ---- boxes

box_absent : (s : State) (name : List ℕ) (es : List (Vec ℕ Global × CachedBox)) → RecallsBoxes s es → get s.boxes name ≡ None → Lacks name es es
box_absent s name es each none q x e = (λ same. some_none _ (sym (each q x e).row ∙ ap (get s.boxes) same ∙ none), e)

boxes_but : (s : State) (name : List ℕ) (b : Settings) (es after : List (Vec ℕ Global × CachedBox)) → Lacks name es after → RecallsBoxes s es
    → RecallsBoxes (record s { boxes = insert s.boxes name b }) after
boxes_but s name b es after lacks each q x e =
    let was = lacks q x e in
    let is = each q x was.1 in
    record {
      row = get_other s.boxes name q b was.0 ∙ is.row;
      totals = more_some x.totals (AreTotals s q) (AreTotals (record s { boxes = insert s.boxes name b }) q) (λ t h. record { used = h.used; count = h.count }) is.totals;
    }

-- files of one box changed; these are its totals now, if they are known
pub boxes_with : (s after : State) (box : List ℕ) (totals : Option Totals) (es new : List (Vec ℕ Global × CachedBox)) → after.boxes ≡ s.boxes
    → ((q : List ℕ) → same_bytes box q ≡ false → (used after q ≡ used s q) × (count after q ≡ count s q)) → IfSome totals (AreTotals after box)
    → HasTotals box totals es new → RecallsBoxes s es → RecallsBoxes after new
boxes_with s after box totals es new boxes sums are has each q x e =
    let was = has q x e in
    let is = each q was.0 was.1 in
    record {
      row = ap (λ m. get m q) boxes ∙ is.row ∙ ap (λ (r : BoxRow). Some (settings_of r)) (sym was.2);
      totals = elim was.3 [
        | inl far ↦
            let still = sums q (texts_apart box q (λ same. far.0 (sym same))) in
            subst (λ o. IfSome o (AreTotals after q)) (sym far.1)
            (more_some was.0.totals (AreTotals s q) (AreTotals after q) (λ t h. record { used = h.used ∙ sym still.0; count = h.count ∙ sym still.1 }) is.totals)
        | inr here ↦ subst (λ o. IfSome o (AreTotals after q)) (sym here.1) (subst (λ n. IfSome totals (AreTotals after n)) (sym here.0) are)
      ];
    }

boxes_as : (s after : State) (es : List (Vec ℕ Global × CachedBox)) → after.boxes ≡ s.boxes → after.files ≡ s.files → RecallsBoxes s es → RecallsBoxes after es
boxes_as s after es boxes files each q x e =
    let is = each q x e in
    record {
      row = ap (λ m. get m q) boxes ∙ is.row;
      totals = more_some x.totals (AreTotals s q) (AreTotals after q) (λ t h. record {
        used = h.used ∙ ap (λ m. used (record s { files = m }) q) (sym files);
        count = h.count ∙ ap (λ m. count (record s { files = m }) q) (sym files);
      }) is.totals;
    }

-- ---- the file that was asked for last

size_as : (s after : State) (o : Option LastSize) → after.files ≡ s.files → IfSome o (IsSizeIn s) → IfSome o (IsSizeIn after)
size_as s after o files = more_some o (IsSizeIn s) (IsSizeIn after) (λ l h. h ∙ ap (λ m. option_map (λ (f : File). length f.bytes) (get m (record { box = l.in_box.items; name = l.name.items }))) (sym files))

-- what a receipt states about the file
pub size_told : {E : Type 0} (s : State) (r : Result LastSize E) (o : Option LastSize) (box name : List ℕ) (size : Option ℕ) → o ≡ result_ok r
    → IfOk r (λ l. (l.in_box.items ≡ box) × (l.name.items ≡ name) × (l.size ≡ size)) → size ≡ option_map (λ (f : File). length f.bytes) (get s.files (record { box = box; name = name }))
    → IfSome o (IsSizeIn s)
size_told s (Ok l) o box name size is told stands =
    let asked : Place = record { box = box; name = name } in
    let kept : Place = record { box = l.in_box.items; name = l.name.items } in
    let place : asked ≡ kept = λ i. record { box = sym told.0 i; name = sym told.1 i } in
    subst (λ p. IfSome p (IsSizeIn s)) (sym is) (told.2 ∙ stands ∙ ap (λ p. option_map (λ (f : File). length f.bytes) (get s.files p)) place)
size_told s (Err e) o box name size is told stands = subst (λ p. IfSome p (IsSizeIn s)) (sym is) tt

-- ---- the state before

pub with_size : (c : Cache) (s : State) (last : Option LastSize) → Recalls c s → IfSome last (IsSizeIn s) → Recalls (record c { last_size = last }) s
with_size c s last h is = record { office = h.office; next = h.next; keys = h.keys; boxes = h.boxes; last = is }

pub with_keys : (c : Cache) (s : State) (keys : BTreeMap (Vec ℕ Global) CachedKey) → Recalls c s → RecallsKeys s keys.entries → Recalls (record c { keys = keys }) s
with_keys c s keys h each = record { office = h.office; next = h.next; keys = each; boxes = h.boxes; last = h.last }

pub with_boxes : (c : Cache) (s : State) (boxes : BTreeMap (Vec ℕ Global) CachedBox) → Recalls c s → RecallsBoxes s boxes.entries → Recalls (record c { boxes = boxes }) s
with_boxes c s boxes h each = record { office = h.office; next = h.next; keys = h.keys; boxes = each; last = h.last }

-- ---- the state after each command

pub added_key : (c : Cache) (s after : State) (id : List ℕ) (role : Role) (secret : List ℕ) → IsObeyed s (AddKey id role secret) after → Recalls c s → Recalls c after
added_key c s after id role secret obeyed h =
    let lacks = key_absent s id c.keys.entries h.keys (is_none_is (get s.keys id) obeyed.possible) in
    subst (Recalls c) (sym (key_added_is s id role secret after obeyed.step)) (record {
      office = same_office s (record s { keys = insert s.keys id _ }) c.office refl refl h.office;
      next = h.next;
      keys = keys_but s id _ c.keys.entries c.keys.entries lacks h.keys;
      boxes = boxes_as s (record s { keys = insert s.keys id _ }) c.boxes.entries refl refl h.boxes;
      last = more_some c.last_size (IsSizeIn s) _ (λ l is. is) h.last;
    })

pub revoked_key : (c : Cache) (keys : BTreeMap (Vec ℕ Global) CachedKey) (s after : State) (id : List ℕ) → IsObeyed s (RevokeKey id) after
    → Lacks id c.keys.entries keys.entries → Recalls c s → Recalls (record c { keys = keys }) after
revoked_key c keys s after id obeyed lacks h =
    let is = key_revoked_is s id after obeyed.step in
    let revoked : Key = record is.0 { revoked = true } in
    let new : State = record s { keys = insert s.keys id revoked } in
    subst (Recalls (record c { keys = keys })) (sym is.2) (record {
      office = same_office s new c.office refl refl h.office;
      next = h.next;
      keys = keys_but s id revoked c.keys.entries keys.entries lacks h.keys;
      boxes = boxes_as s new c.boxes.entries refl refl h.boxes;
      last = size_as s new c.last_size refl h.last;
    })

pub limited_key : (c : Cache) (keys : BTreeMap (Vec ℕ Global) CachedKey) (s after : State) (id box : List ℕ) → IsObeyed s (LimitKey id box) after
    → Lacks id c.keys.entries keys.entries → Recalls c s → Recalls (record c { keys = keys }) after
limited_key c keys s after id box obeyed lacks h =
    let new : State = record s { limits = insert s.limits (record { key = id; box = box }) tt } in
    subst (Recalls (record c { keys = keys })) (sym (key_limited_is s id box after obeyed.step)) (record {
      office = same_office s new c.office refl refl h.office;
      next = h.next;
      keys = keys_limited s id box c.keys.entries keys.entries lacks h.keys;
      boxes = boxes_as s new c.boxes.entries refl refl h.boxes;
      last = size_as s new c.last_size refl h.last;
    })

pub added_box : (c : Cache) (s after : State) (name : List ℕ) (b : Settings) → IsObeyed s (AddBox name b) after → Recalls c s → Recalls c after
added_box c s after name b obeyed h =
    let new : State = record s { boxes = insert s.boxes name b } in
    let lacks = box_absent s name c.boxes.entries h.boxes (is_none_is (get s.boxes name) obeyed.possible) in
    subst (Recalls c) (sym (box_added_is s name b after obeyed.step)) (record {
      office = same_office s new c.office refl refl h.office;
      next = h.next;
      keys = keys_as s new c.keys.entries refl refl h.keys;
      boxes = boxes_but s name b c.boxes.entries c.boxes.entries lacks h.boxes;
      last = size_as s new c.last_size refl h.last;
    })

pub closed_box : (c : Cache) (boxes : BTreeMap (Vec ℕ Global) CachedBox) (s after : State) (name : List ℕ) (moment : ℕ) → IsObeyed s (CloseBox name moment) after
    → Lacks name c.boxes.entries boxes.entries → Recalls c s → Recalls (record c { boxes = boxes }) after
closed_box c boxes s after name moment obeyed lacks h =
    let is = box_closed_is s name moment after obeyed.step in
    let closed : Settings = record is.0 { closes = moment } in
    let new : State = record s { boxes = insert s.boxes name closed } in
    subst (Recalls (record c { boxes = boxes })) (sym is.2) (record {
      office = same_office s new c.office refl refl h.office;
      next = h.next;
      keys = keys_as s new c.keys.entries refl refl h.keys;
      boxes = boxes_but s name closed c.boxes.entries boxes.entries lacks h.boxes;
      last = size_as s new c.last_size refl h.last;
    })

pub dropped_file : (c : Cache) (boxes : BTreeMap (Vec ℕ Global) CachedBox) (s after : State) (place : Place) → IsObeyed s (DropFile place) after
    → HasTotals place.box None c.boxes.entries boxes.entries → Recalls c s → Recalls (record c { boxes = boxes; last_size = None }) after
dropped_file c boxes s after place obeyed has h =
    let f = there_is (get s.files place) obeyed.possible in
    let is = file_dropped_is s place after obeyed.step in
    let new : State = record s { files = remove s.files place } in
    subst (Recalls (record c { boxes = boxes; last_size = None })) (sym is) (record {
      office = same_office s new c.office refl refl h.office;
      next = h.next;
      keys = keys_as s new c.keys.entries refl refl h.keys;
      boxes = boxes_with s new place.box None c.boxes.entries boxes.entries refl (λ q far. (used_still s place f.0 f.1 q far, count_still s place f.0 f.1 q far)) tt has h.boxes;
      last = tt;
    })

pub set_allowance : (c : Cache) (s after : State) (seconds : ℕ) → IsObeyed s (SetAllowance seconds) after → Recalls c s → Recalls (record c { office = None }) after
set_allowance c s after seconds obeyed h =
    let new : State = record s { allowance = seconds } in
    subst (Recalls (record c { office = None })) (sym (allowance_set_is s seconds after obeyed.step)) (record {
      office = tt;
      next = h.next;
      keys = keys_as s new c.keys.entries refl refl h.keys;
      boxes = boxes_as s new c.boxes.entries refl refl h.boxes;
      last = size_as s new c.last_size refl h.last;
    })

-- ---- the state after an upload

module _ (s after : State) (f : NewFile) (bytes : List ℕ) (sound : IsSound s) (set : IsFileSet s f bytes after) where
  in_box : (b : Settings) × (get s.boxes f.in_box.now ≡ Some b)
  in_box = there_is (get s.boxes f.in_box.now) (set.taken.rules NoSuchBox).0

  pub fits_used : used s f.in_box.now + f.size < 2 ^ 64
  fits_used =
      let most = (sound.boxes f.in_box.now in_box.0 in_box.1).1.quota in
      let quota = (sound.quotas f.in_box.now in_box.0 in_box.1).0 in
      let short = set.taken.brought.short in
      let size = set.file.size in omega (arith, most, quota, short, size)

  pub fits_count : count s f.in_box.now + 1 < 2 ^ 64
  fits_count =
      let most = (sound.boxes f.in_box.now in_box.0 in_box.1).1.max_files in
      let files = (sound.quotas f.in_box.now in_box.0 in_box.1).1 in omega (arith, most, files)

  abbrev pub stored : File
  stored = record { bytes = bytes; receipt = length s.receipts + 1 }

  abbrev pub place : Place
  place = record { box = f.in_box.now; name = f.name.now }

  -- the totals with the file in place
  pub totals_after : (t : Totals) → AreTotals (record s { files = insert s.files place stored }) f.in_box.now t → AreTotals after f.in_box.now t
  totals_after t are = subst (λ (x : State). AreTotals x f.in_box.now t) (sym set.sets) (record { used = are.used; count = are.count })

  pub followed_file : (c : Cache) (boxes : BTreeMap (Vec ℕ Global) CachedBox) (totals : Option Totals) (next : Option ℕ) → IfSome totals (AreTotals after f.in_box.now)
      → IfSome next (λ n. n ≡ f.number + 1) → HasTotals f.in_box.now totals c.boxes.entries boxes.entries → Recalls c s
      → Recalls (record c { next_number = next; boxes = boxes; last_size = None }) after
  followed_file c boxes totals next are number has h =
      let u = upload_in f bytes in
      let new = after_upload s u in
      let known : IfSome totals (AreTotals new f.in_box.now) = subst (λ (x : State). IfSome totals (AreTotals x f.in_box.now)) set.sets are in
      subst (Recalls (record c { next_number = next; boxes = boxes; last_size = None })) (sym set.sets) (record {
        office = same_office s new c.office refl refl h.office;
        next = more_some next (λ n. n ≡ f.number + 1) (λ n. n ≡ length new.receipts + 1) (λ n is. let at = set.file.number in let long = length-append s.receipts (receipt_of u ∷ []) in omega (arith, is, at, long)) number;
        keys = keys_as s new c.keys.entries refl refl h.keys;
        boxes = boxes_with s new f.in_box.now totals c.boxes.entries boxes.entries refl (λ q far. (used_there s u.place stored new.receipts q far, count_there s u.place stored new.receipts q far)) known has h.boxes;
        last = tt;
      })
