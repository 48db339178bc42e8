-- Several queries in sequence, and the receipts that they list.
use Rattle.std.proofs.Common.{Ok, ◌≡◌, ℕ, ◌+◌, ◌≤◌, zero, suc, List, [], ◌∷◌, ◌++◌, map, take, drop, length, slice_get, Option, None, Some, option_map, IsTrue, arith, refl, sym, ap, subst, ◌∙◌}
use Rattle.std.proofs.lemmas.List.{take_all, map-append, length-drop}
use Rattle.std.specs.Prelude.{Result}
use Rattle.sqlite.specs.declared.error.Error.{Error}
use Rattle.sqltables.specs.Inside.{GoesOnBegun, GoesOnWhere, IsSameLedger, View, seen}
use Rattle.sqlite.specs.State.{State, HasCleanDisk, KeepsCommit, Survives}
use Rattle.boxes.specs.State.{Receipt}
use Rattle.std.specs.List.{AllByRecursion}
use Rattle.boxes.specs.Sound.{IsDigest}
use Rattle.boxes.specs.declared.rows.ReceiptRow.{ReceiptRow}
use Rattle.boxes.specs.Rows.{receipt_in, numbered, numbered_receipt}
use Rattle.sqltables.specs.Schema.{Version, IsVersion}
use Rattle.sqltables.specs.Tables.{Tables}
use Rattle.sqltables.specs.Means.{Pends, IsRunning}
use Rattle.sqltables.specs.Questions.{IsReceiptOf}
use Rattle.sqltables.proofs.Building.{survives_then, keeps_then}
use Rattle.sqltables.proofs.Onward.{same_then}

-- ---- queries change nothing, however many there are

pub record Unmoved (entry now : State) : Type 0 where
  pub uncommitted : HasCleanDisk now → IsTrue entry.in_transaction → KeepsCommit entry now
  pub survives : Survives entry now (λ db. ⊥)
  pub inside : HasCleanDisk now → IsTrue entry.in_transaction → IsTrue now.in_transaction
  pub running : HasCleanDisk now → IsRunning entry → IsRunning now
  pub still : (v : Version) (tables : Tables) → IsVersion v → Pends v entry tables → Pends v now tables

-- the effect of the queries so far
pub unmoved_goes : {S : Type 0} {g : S → View} {old now : S} → IsSameLedger g old now → Unmoved (seen g old) (seen g now) → {T : Type 0} (value : T) → GoesOnWhere (IsRunning (seen g old)) (IsTrue (seen g old).in_transaction) g old now (Ok value)
unmoved_goes same unmoved value = record { same_reference = same; running = unmoved.running; uncommitted = unmoved.uncommitted; survives = unmoved.survives }

-- the effect of the queries so far, and of the next
pub unmoved_and : {S : Type 0} {g : S → View} {old mid new : S} {T : Type 0} {result : Result T Error} → IsSameLedger g old mid → Unmoved (seen g old) (seen g mid) → GoesOnBegun g mid new result
    → GoesOnWhere (IsRunning (seen g old)) (IsTrue (seen g old).in_transaction) g old new result
unmoved_and {g = g} {old = old} {mid = mid} {new = new} same unmoved next =
    let early : HasCleanDisk (seen g new) → HasCleanDisk (seen g mid) = λ clean. omega (arith, clean, next.survives.clean) in
    record {
      same_reference = same_then same next.same_reference;
      running = λ clean running. next.running clean (unmoved.running (early clean) running).0;
      uncommitted = λ clean inside. keeps_then (seen g old) (seen g mid) (seen g new) (unmoved.uncommitted (early clean) inside) (next.uncommitted clean (unmoved.inside (early clean) inside));
      survives = survives_then (seen g old) (seen g mid) (seen g new) unmoved.survives next.survives;
    }

pub unmoved_then : (a b c : State) → Unmoved a b → (HasCleanDisk c → IsTrue b.in_transaction → IsRunning c) → (HasCleanDisk c → IsTrue b.in_transaction → KeepsCommit b c) → Survives b c (λ db. ⊥)
    → ((v : Version) (tables : Tables) → IsVersion v → Pends v b tables → Pends v c tables) → Unmoved a c
unmoved_then a b c one running uncommitted survives still =
    let early : HasCleanDisk c → HasCleanDisk b = λ clean. omega (arith, survives.clean) in
    record {
      uncommitted = λ clean inside. keeps_then a b c (one.uncommitted (early clean) inside) (uncommitted clean (one.inside (early clean) inside));
      survives = survives_then a b c one.survives survives;
      inside = λ clean inside. (running clean (one.inside (early clean) inside)).0;
      running = λ clean run. running clean (one.running (early clean) run).0;
      still = λ v tables ours pends. still v tables ours (one.still v tables ours pends);
    }

-- ---- receipts with their numbers

length_numbered : (k : ℕ) (rs : List Receipt) → length (numbered k rs) ≡ length rs
length_numbered k [] = refl
length_numbered k (r ∷ rs) = ap suc (length_numbered (k + 1) rs)

one_numbered : (k : ℕ) (rs : List Receipt) (n : ℕ) (r : Receipt) (m : ℕ) → m ≡ k + n → slice_get rs n ≡ Some r → take (suc n) (numbered k rs) ≡ take n (numbered k rs) ++ (m, r) ∷ []
one_numbered k [] n r m is h = cc
one_numbered k (x ∷ rs) zero r m is h = let same : x ≡ r = cc in let number : k ≡ m = omega (arith, is) in λ i. (number i, same i) ∷ []
one_numbered k (x ∷ rs) (suc n) r m is h = ap (◌∷◌ (k, x)) (one_numbered (k + 1) rs n r m (omega (arith, is)) h)

drop_numbered : (k : ℕ) (rs : List Receipt) (i m : ℕ) → m ≡ k + i → drop i (numbered k rs) ≡ numbered m (drop i rs)
drop_numbered k rs zero m is = let same : k ≡ m = omega (arith, is) in ap (λ a. numbered a rs) same
drop_numbered k [] (suc i) m is = refl
drop_numbered k (x ∷ rs) (suc i) m is = drop_numbered (k + 1) rs i m (omega (arith, is))

get_dropped : {X : Type 0} (xs : List X) (i n : ℕ) (m : ℕ) → m ≡ i + n → slice_get (drop i xs) n ≡ slice_get xs m
get_dropped xs zero n m is = let same : n ≡ m = omega (arith, is) in ap (slice_get xs) same
get_dropped [] (suc i) n m is = refl
get_dropped (x ∷ xs) (suc i) n zero is = absurd (omega (arith, is))
get_dropped (x ∷ xs) (suc i) n (suc m) is = get_dropped xs i n m (omega (arith, is))

past_end : {X : Type 0} (xs : List X) (n : ℕ) → slice_get xs n ≡ None → length xs ≤ n
past_end [] n none = omega arith
past_end (x ∷ xs) zero none = cc
past_end (x ∷ xs) (suc n) none = let low = past_end xs n none in omega (arith, low)

pub no_more : (found : Option ReceiptRow) (there : Option Receipt) (number : ℕ) → found ≡ None → IsReceiptOf number there found → there ≡ None
no_more found there number none is = sym is.0 ∙ ap (option_map receipt_in) none

-- the first `length rows` receipts after `first` were listed
abbrev pub Lists : ℕ → List Receipt → List ReceiptRow → Type 0
Lists first receipts rows = map numbered_receipt rows ≡ take (length rows) (drop first (numbered 1 receipts))

-- the next receipt exists
pub lists_more : (first : ℕ) (receipts : List Receipt) (rows others : List ReceiptRow) (row : ReceiptRow) (number : ℕ) → Lists first receipts rows → number ≡ first + length rows + 1 → others ≡ rows ++ row ∷ []
    → length others ≡ suc (length rows) → (found : Option ReceiptRow) → found ≡ Some row → IsReceiptOf number (slice_get receipts (first + length rows)) found → Lists first receipts others
lists_more first receipts rows others row number listed at more long found some is =
    let n = length rows in
    let there : slice_get (drop first receipts) n ≡ Some (receipt_in row) = get_dropped receipts first n (first + n) refl ∙ sym is.0 ∙ ap (option_map receipt_in) some in
    let from = drop_numbered 1 receipts first (1 + first) refl in
    let one = one_numbered (1 + first) (drop first receipts) n (receipt_in row) number (omega (arith, at)) there in
    ap (map numbered_receipt) more ∙ map-append numbered_receipt rows (row ∷ []) ∙ ap (λ l. l ++ numbered_receipt row ∷ []) (listed ∙ ap (take n) from)
    ∙ ap (λ m. take n (numbered (1 + first) (drop first receipts)) ++ (m, receipt_in row) ∷ []) (is.1 row some) ∙ sym one ∙ ap (λ k. take k (numbered (1 + first) (drop first receipts))) (sym long)
    ∙ ap (take (length others)) (sym from)

-- no receipt is left
pub lists_all : (first : ℕ) (receipts : List Receipt) (rows : List ReceiptRow) (most : ℕ) → Lists first receipts rows → length rows ≤ most → slice_get receipts (first + length rows) ≡ None
    → map numbered_receipt rows ≡ take most (drop first (numbered 1 receipts))
lists_all first receipts rows most listed few none =
    let short : length receipts ≤ first + length rows = past_end receipts (first + length rows) none in
    let long : length (drop first (numbered 1 receipts)) ≡ _ = length-drop first (numbered 1 receipts) in
    let same = length_numbered 1 receipts in
    listed ∙ take_all (length rows) (drop first (numbered 1 receipts)) (omega (arith, short, long, same)) ∙ sym (take_all most (drop first (numbered 1 receipts)) (omega (arith, short, long, same, few)))

-- ---- a receipt that was queried

all_at : {X : Type 0} (P : X → Type 0) (xs : List X) (n : ℕ) (x : X) → AllByRecursion P xs → slice_get xs n ≡ Some x → P x
all_at P [] n x all h = cc
all_at P (y ∷ ys) zero x all h = let same : y ≡ x = cc in subst P same all.0
all_at P (y ∷ ys) (suc n) x all h = all_at P ys n x all.1 h

pub digests_at : (tables : Tables) (receipts : List Receipt) (at : ℕ) → tables.receipt ≡ slice_get receipts → AllByRecursion (λ r. IsDigest r.digest) receipts → (r : Receipt) → tables.receipt at ≡ Some r → IsDigest r.digest
digests_at tables receipts at listed all r some = all_at (λ r. IsDigest r.digest) receipts at r all (ap (λ f. f at) (sym listed) ∙ some)

pub receipt_at : (tables : Tables) (receipts : List Receipt) (at number : ℕ) (found : Option ReceiptRow) → tables.receipt ≡ slice_get receipts → IsReceiptOf number (tables.receipt at) found → IsReceiptOf number (slice_get receipts at) found
receipt_at tables receipts at number found listed is = subst (λ o. IsReceiptOf number o found) (ap (λ f. f at) listed) is
