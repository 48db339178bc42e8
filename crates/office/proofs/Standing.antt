-- A file that is stored with its receipt: which steps keep it, and the answer to an upload of its bytes.
use Rattle.std.proofs.Common.{◌≡◌, ◌∙◌, ◌≤◌, ℕ, zero, suc, ◌+◌, List, [], ◌∷◌, ◌++◌, length, true, false, cond, Option, Some, None, inl, refl, sym, ap, subst, arith}
use Rattle.std.specs.Prelude.{slice_get, IsSome, IsNone, IfSome, IsSomeAnd}
use Rattle.std.specs.FinMap.{get, insert, remove, get-insert, get-remove}
use Rattle.std.specs.Ordering.{eq_by_cmp, is_eq}
use Rattle.std.specs.Cmp.{tied_itself}
use Rattle.sigtext.specs.declared.refusal.Refusal.{Refusal}
use Rattle.sigtext.specs.declared.refusal.Refusal.TheVariants as rule
use Rattle.sigtext.specs.Bytes.{bytes_cmp}
use Rattle.boxes.specs.Opening.{Fits}
use Rattle.boxes.specs.Rules.{IsName, PlaceRule, Stands, Upload, UploadRule}
use Rattle.boxes.specs.State.{File, Place, place_cmp, Receipt, Settings, State}
use Rattle.boxes.specs.Steps.{Command, AddKey, RevokeKey, AddBox, CloseBox, DropFile, CommandStep, key_added, key_revoked, box_added, box_closed, file_dropped, key_limited, allowance_set, HasReceipt, IsPossible, UploadStep, after_upload, again, receipt_of, taken}
use Rattle.boxes.specs.Steps as step
use Rattle.boxes.proofs.FileTotals.{place_same}
use Rattle.boxes.proofs.Lookups.{bytes_same, bytes_total, equal_is, place_total}
use Rattle.wire.specs.Answers.{Said}
use Rattle.office.specs.Answering.{shown}

-- these bytes are stored at the place, in a box that takes the name, and said is their receipt
pub record StandsWith (place : Place) (bytes : List ℕ) (said : Said) (s : State) : Type 0 where
  pub file : File
  pub there : get s.files place ≡ Some file
  pub holds : file.bytes ≡ bytes
  pub receipt : Receipt
  pub listed : HasReceipt s file.receipt receipt
  pub told : shown (step.Kept file.receipt receipt) ≡ said
  pub box : Settings
  pub in_box : get s.boxes place.box ≡ Some box
  pub short : length place.name ≤ 1024
  pub named : IsName place.name
  pub fits : Fits box.rule place.name

-- the file at the place, the receipts and the name rule of the box are the same in both states
record Keeps (place : Place) (s t : State) : Type 0 where
  file : get t.files place ≡ get s.files place
  receipts : (n : ℕ) (r : Receipt) → HasReceipt s n r → HasReceipt t n r
  box : (b : Settings) → get s.boxes place.box ≡ Some b → (c : Settings) × (get t.boxes place.box ≡ Some c) × (c.rule ≡ b.rule)

carried : (place : Place) (bytes : List ℕ) (said : Said) (s t : State) → Keeps place s t → StandsWith place bytes said s → StandsWith place bytes said t
carried place bytes said s t k h =
    let b = k.box h.box h.in_box in
    record {
      file = h.file;
      there = k.file ∙ h.there;
      holds = h.holds;
      receipt = h.receipt;
      listed = k.receipts h.file.receipt h.receipt h.listed;
      told = h.told;
      box = b.0;
      in_box = b.1;
      short = h.short;
      named = h.named;
      fits = subst (λ x. Fits x place.name) (sym b.2) h.fits;
    }

-- ---- lists and options

get_front : {X : Type 0} (xs : List X) (y : X) (i : ℕ) (x : X) → slice_get xs i ≡ Some x → slice_get (xs ++ y ∷ []) i ≡ Some x
get_front [] y i x e = absurd cc
get_front (z ∷ xs) y zero x e = e
get_front (z ∷ xs) y (suc i) x e = get_front xs y i x e

get_last : {X : Type 0} (xs : List X) (y : X) → slice_get (xs ++ y ∷ []) (length xs) ≡ Some y
get_last [] y = refl
get_last (x ∷ xs) y = get_last xs y

none_there : {X : Type 0} (o : Option X) (x : X) → IsNone o → o ≡ Some x → ⊥
none_there None x h e = cc
none_there (Some y) x h e = cc

there_is : {X : Type 0} (o : Option X) → IsSome o → (x : X) × (o ≡ Some x)
there_is None h = absurd cc
there_is (Some x) h = (x, refl)

if_some : {X : Type 0} (P : X → Type 0) (o : Option X) (x : X) → o ≡ Some x → IfSome o P → P x
if_some P None x e h = absurd cc
if_some P (Some y) x e h = let is : y ≡ x = cc in subst P is h

of_some : {X : Type 0} (P : X → Type 0) (o : Option X) (x : X) → o ≡ Some x → P x → IfSome o P
of_some {X = X} P o x e h = subst (λ (p : Option X). IfSome p P) (sym e) h

pub some_and : {X : Type 0} (P : X → Type 0) (o : Option X) (x : X) → o ≡ Some x → P x → IsSomeAnd o P
some_and {X = X} P o x e h = subst (λ (p : Option X). IsSomeAnd p P) (sym e) h

pub same_some : {X : Type 0} (x y : X) (o : Option X) → o ≡ Some x → o ≡ Some y → x ≡ y
same_some x y o e f = cc

-- a number has at most one receipt
pub receipt_once : (s : State) (n : ℕ) (r q : Receipt) → HasReceipt s n r → HasReceipt s n q → r ≡ q
receipt_once s n r q h k =
    let counted = h.counted in
    let counted' = k.counted in
    let same : h.place ≡ k.place = omega (arith, counted, counted') in
    same_some r q (slice_get s.receipts k.place) (ap (slice_get s.receipts) (sym same) ∙ h.listed) k.listed

-- ---- desk commands

-- each command keeps the file, except the one that drops it
pub command_keeps : (place : Place) (bytes : List ℕ) (said : Said) (s : State) (command : Command) (after : State) → IsPossible s command → (command ≡ DropFile place → ⊥)
    → CommandStep s command after → StandsWith place bytes said s → StandsWith place bytes said after
command_keeps place bytes said s command after possible other does h = carried place bytes said s after (keeps command after possible other does) h
  where
    listed : (t : State) → t.receipts ≡ s.receipts → (n : ℕ) (r : Receipt) → HasReceipt s n r → HasReceipt t n r
    listed t e n r h = record { place = h.place; counted = h.counted; listed = ap (λ (x : List Receipt). slice_get x h.place) e ∙ h.listed }

    added : (name : List ℕ) (settings b : Settings) → IsNone (get s.boxes name) → get s.boxes place.box ≡ Some b
        → (c : Settings) × (get (insert s.boxes name settings) place.box ≡ Some c) × (c.rule ≡ b.rule)
    added name settings b none e =
        elim (eq_by_cmp bytes_cmp place.box name) as (λ t. eq_by_cmp bytes_cmp place.box name ≡ t → get (insert s.boxes name settings) place.box ≡ cond t (Some settings) (get s.boxes place.box)
        → (c : Settings) × (get (insert s.boxes name settings) place.box ≡ Some c) × (c.rule ≡ b.rule)) [
          | true ↦ λ t is. absurd (none_there (get s.boxes name) b none (ap (get s.boxes) (sym (bytes_same place.box name (equal_is (bytes_cmp place.box name) t))) ∙ e))
          | false ↦ λ t is. (b, is ∙ e, refl)
        ] refl (get-insert bytes_total s.boxes name settings place.box)

    closed : (name : List ℕ) (moment : ℕ) (old b : Settings) → get s.boxes name ≡ Some old → get s.boxes place.box ≡ Some b
        → (c : Settings) × (get (insert s.boxes name (record old { closes = moment })) place.box ≡ Some c) × (c.rule ≡ b.rule)
    closed name moment old b was e =
        elim (eq_by_cmp bytes_cmp place.box name) as (λ t. eq_by_cmp bytes_cmp place.box name ≡ t
        → get (insert s.boxes name (record old { closes = moment })) place.box ≡ cond t (Some (record old { closes = moment })) (get s.boxes place.box)
        → (c : Settings) × (get (insert s.boxes name (record old { closes = moment })) place.box ≡ Some c) × (c.rule ≡ b.rule)) [
          | true ↦ λ t is.
              let at = bytes_same place.box name (equal_is (bytes_cmp place.box name) t) in
              (record old { closes = moment }, is, ap (λ (x : Settings). x.rule) (same_some old b (get s.boxes place.box) (ap (get s.boxes) at ∙ was) e))
          | false ↦ λ t is. (b, is ∙ e, refl)
        ] refl (get-insert bytes_total s.boxes name (record old { closes = moment }) place.box)

    left : (dropped : Place) → (DropFile dropped ≡ DropFile place → ⊥) → get (remove s.files dropped) place ≡ get s.files place
    left dropped other =
        get-remove place_total s.files dropped place ∙ elim (eq_by_cmp place_cmp place dropped) as (λ t. eq_by_cmp place_cmp place dropped ≡ t → cond t None (get s.files place) ≡ get s.files place) [
          | true ↦ λ t. absurd (other (ap DropFile (sym (place_same place dropped (equal_is (place_cmp place dropped) t)))))
          | false ↦ λ t. refl
        ] refl

    keeps : (command : Command) (after : State) → IsPossible s command → (command ≡ DropFile place → ⊥) → CommandStep s command after → Keeps place s after
    keeps _ _ possible other (key_added id role secret) = record { file = refl; receipts = listed _ refl; box = λ b e. (b, e, refl) }
    keeps _ _ possible other (key_revoked id k e) = record { file = refl; receipts = listed _ refl; box = λ b e. (b, e, refl) }
    keeps _ _ possible other (box_added name settings) = record { file = refl; receipts = listed _ refl; box = λ b e. added name settings b possible e }
    keeps _ _ possible other (box_closed name moment old was) = record { file = refl; receipts = listed _ refl; box = λ b e. closed name moment old b was e }
    keeps _ _ possible other (file_dropped dropped) = record { file = left dropped other; receipts = listed _ refl; box = λ b e. (b, e, refl) }
    keeps _ _ possible other (key_limited id box) = record { file = refl; receipts = listed _ refl; box = λ b e. (b, e, refl) }
    keeps _ _ possible other (allowance_set seconds) = record { file = refl; receipts = listed _ refl; box = λ b e. (b, e, refl) }

-- ---- uploads

stands : (said : Said) (s : State) (u : Upload) → StandsWith u.place u.bytes said s → Stands s u
stands said s u h = some_and (λ f. f.bytes ≡ u.bytes) (get s.files u.place) h.file h.there h.holds

-- an upload keeps the file, unless it brings other bytes to the place
pub upload_keeps : (place : Place) (bytes : List ℕ) (said : Said) (s : State) (u : Upload) (reply : step.StepReply) (after : State) → (u.place ≡ place → u.bytes ≡ bytes)
    → UploadStep s u reply after → StandsWith place bytes said s → StandsWith place bytes said after
upload_keeps place bytes said s u _ _ same (again f r there holds listed) h = h
upload_keeps place bytes said s u _ _ same (taken new) h =
    elim (eq_by_cmp place_cmp place u.place) as (λ t. eq_by_cmp place_cmp place u.place ≡ t → get (after_upload s u).files place ≡ cond t (Some file) (get s.files place)
    → StandsWith place bytes said (after_upload s u)) [
      | true ↦ λ t is.
          let at : u.place ≡ place = sym (place_same place u.place (equal_is (place_cmp place u.place) t)) in
          absurd (new (stands said s u (subst (λ (b : List ℕ). StandsWith u.place b said s) (sym (same at)) (subst (λ (p : Place). StandsWith p bytes said s) (sym at) h))))
      | false ↦ λ t is.
          carried place bytes said s (after_upload s u) (record {
            file = is;
            receipts = λ n r k. record { place = k.place; counted = k.counted; listed = get_front s.receipts (receipt_of u) k.place r k.listed };
            box = λ b e. (b, e, refl);
          }) h
    ] refl (get-insert place_total s.files u.place file place)
  where
    file : File
    file = record { bytes = u.bytes; receipt = length s.receipts + 1 }

-- an accepted upload is stored, with the receipt of its answer
pub upload_stands : (s : State) (u : Upload) (reply : step.StepReply) (after : State) → ((q : Refusal) → UploadRule q s u) → UploadStep s u reply after
    → StandsWith u.place u.bytes (shown reply) after
upload_stands s u _ _ rules (again f r there holds listed) =
    let b = there_is (get s.boxes u.place.box) (rules rule.NoSuchBox).0 in
    let named = (rules rule.NameNotAllowed).0 in
    record {
      file = f;
      there = there;
      holds = holds;
      receipt = r;
      listed = listed;
      told = refl;
      box = b.0;
      in_box = b.1;
      short = (rules rule.NameTooLong).0;
      named = named.0;
      fits = if_some (λ x. Fits x.rule u.place.name) (get s.boxes u.place.box) b.0 b.1 named.1;
    }
upload_stands s u _ _ rules (taken new) =
    let b = there_is (get s.boxes u.place.box) (rules rule.NoSuchBox).0 in
    let named = (rules rule.NameNotAllowed).0 in
    record {
      file = file;
      there = get-insert place_total s.files u.place file u.place ∙ ap (λ r. cond (is_eq r) (Some file) (get s.files u.place)) (tied_itself place_total u.place);
      holds = refl;
      receipt = receipt_of u;
      listed = record { place = length s.receipts; counted = refl; listed = get_last s.receipts (receipt_of u) };
      told = refl;
      box = b.0;
      in_box = b.1;
      short = (rules rule.NameTooLong).0;
      named = named.0;
      fits = if_some (λ x. Fits x.rule u.place.name) (get s.boxes u.place.box) b.0 b.1 named.1;
    }
  where
    file : File
    file = record { bytes = u.bytes; receipt = length s.receipts + 1 }

place_rule : (place : Place) (bytes : List ℕ) (said : Said) (s : State) → StandsWith place bytes said s → (q : Refusal) → PlaceRule q s place
place_rule place bytes said s h rule.NoSuchBox = rw h.in_box refl
place_rule place bytes said s h rule.NameTooLong = h.short
place_rule place bytes said s h rule.NameNotAllowed = (h.named, of_some (λ b. Fits b.rule place.name) (get s.boxes place.box) h.box h.in_box h.fits)
place_rule place bytes said s h _ = tt

-- if its bytes are there already, no rule refuses an upload
pub upload_rules : (said : Said) (s : State) (u : Upload) → StandsWith u.place u.bytes said s → (q : Refusal) → UploadRule q s u
upload_rules said s u h q = (place_rule u.place u.bytes said s h q, inl (stands said s u h))

-- it is answered with their receipt, and changes nothing
pub upload_again : (said : Said) (s : State) (u : Upload) (reply : step.StepReply) (after : State) → StandsWith u.place u.bytes said s → UploadStep s u reply after
    → (shown reply ≡ said) × (after ≡ s)
upload_again said s u _ _ h (again f r there holds listed) =
    let same = same_some f h.file (get s.files u.place) there h.there in
    let one = receipt_once s h.file.receipt r h.receipt (subst (λ (x : File). HasReceipt s x.receipt r) same listed) h.listed in
    (ap (λ (x : File). shown (step.Kept x.receipt r)) same ∙ ap (λ (x : Receipt). shown (step.Kept h.file.receipt x)) one ∙ h.told, refl)
upload_again said s u _ _ h (taken new) = absurd (new (stands said s u h))
