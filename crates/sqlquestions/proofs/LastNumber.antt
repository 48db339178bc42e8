-- The number of the last receipt.
use Rattle.std.proofs.Common.{◌≡◌, inl, inr, ℕ, ◌+◌, ◌<◌, ◌≤◌, zero, suc, pos, List, [], ◌∷◌, map, filter, length, slice_get, true, false, Ordering, Less, Equal, Greater, Some, None, Result, Ok, Err, IfOk, IsTrue, arith, refl, sym, ap, ◌∙◌}
use Rattle.std.proofs.lemmas.Bool.{cases_Bool, ltb-true, ltb-false}
use Rattle.std.specs.Prelude.{nat_lt}
use Rattle.std.specs.List.Sorted.{IsPermutation}
use Rattle.std.proofs.lemmas.List.Sorted.{IsPermutation-sym}
use Rattle.std.specs.Ordering.{is_gt, int_cmp, ordering_then}
use Rattle.sqlite_value.specs.declared.value.Value.TheVariants.{Null, Int}
use Rattle.sqlite_value.specs.Order.{Row, column}
use Rattle.sqlite_value.proofs.OrderLemmas.{value_cmp-Int}
use Rattle.sqlite_sql.specs.Term.{col, eval_all}
use Rattle.sqlite_sql.specs.Query.{Query, output, output_cmp, page}
use Rattle.sqlite_sql.specs.Program.{overlay}
use Rattle.sqlite_trees.specs.Tree.{IsAscending}
use Rattle.sqlite_rules.proofs.ProbeLemmas.{mapped_has}
use Rattle.sqlite_rules.specs.Lists.{Has}
use Rattle.sqlite_rules.proofs.ListLemmas.{has_filtered, has_kept, all_has}
use Rattle.sqlite.specs.declared.error.Error.{Error}
use Rattle.sqlite.specs.State.{State, Shown}
use Rattle.sqlite.proofs.Callers.{reads_as}
use Rattle.boxes.specs.State.{Receipt}
use Rattle.sqltables.specs.Schema.{Version}
use Rattle.sqltables.specs.Tables.{Tables, TablesMean}
use Rattle.sqltables.specs.Questions.{last_rows}
use Rattle.sqltables.specs.Means.{Holds}
use Rattle.sqltables.proofs.Says.{Asks}
use Rattle.sqltables.proofs.Forms.{query, falling, whole_number}
use Rattle.sqltables.proofs.Texts.{next_number, next_number_command}
use Rattle.sqltables.proofs.Queries.{has_permuted}
use Rattle.sqltables.proofs.Runs.{shown_keeps}
use Rattle.sqltables.proofs.Ordered.{arranged}

abbrev q : Query
q = query 5 [] (col 1 0 ∷ []) (falling 0 ∷ []) (whole_number 1)

not_above : (a b : ℕ) → is_gt (int_cmp (pos b) (pos a)) ≡ false → b ≤ a
not_above a b h = elim (cases_Bool (nat_lt b a)) [
  | inl below ↦ let e = ltb-true b a below in omega (arith, e)
  | inr above ↦ elim (cases_Bool (nat_lt a b)) [
    | inl over ↦ absurd (let e = rw (above, over) at h in cc)
    | inr under ↦ ltb-false a b under
  ]
]

get_below : {X : Type 0} (xs : List X) (i : ℕ) (x : X) → slice_get xs i ≡ Some x → i < length xs
get_below [] i x h = cc
get_below (y ∷ ys) zero x h = omega arith
get_below (y ∷ ys) (suc i) x h = let e = get_below ys i x h in omega (arith, e)

get_last : {X : Type 0} (x : X) (xs : List X) → (y : X) × (slice_get (x ∷ xs) (length xs) ≡ Some y)
get_last x [] = (x, refl)
get_last x (y ∷ ys) = get_last y ys

at_end : {X : Type 0} (xs : List X) (n : ℕ) → length xs ≡ suc n → (x : X) × (slice_get xs n ≡ Some x)
at_end [] n some = cc
at_end (x ∷ xs) n some = let same : length xs ≡ n = omega (arith, some) in let last = get_last x xs in (last.0, ap (slice_get (x ∷ xs)) (sym same) ∙ last.1)

alone : (o : Ordering) → is_gt (ordering_then o Equal) ≡ is_gt o
alone Less = refl
alone Equal = refl
alone Greater = refl

module _ (v : Version) (tables : Tables) (receipts : List Receipt) (s : State) (means : TablesMean v s.now.trees tables) (listed : tables.receipt ≡ slice_get receipts) where
  abbrev rows : List Row
  rows = s.now.trees 5

  found_at : (r : Row) → Has rows r → (at : ℕ) × (at < length receipts) × (column r 0 ≡ Int (pos (at + 1)))
  found_at r has =
      let e = means.receipts.each r has in
      let some : slice_get receipts e.0 ≡ Some e.1 = ap (λ f. f e.0) (sym listed) ∙ e.3 in
      (e.0, get_below receipts e.0 e.1 some, e.2.number_is)

  of_table : (r : Row) (found : List Row) → IsPermutation (filter (λ r. true) rows) found → Has found r → Has rows r
  of_table r found same has = (has_filtered (λ r. true) rows r (has_permuted (filter (λ r. true) rows) found r same has)).0

  -- the row of the last receipt
  there : (n : ℕ) → length receipts ≡ suc n → (r : Row) × Has rows r × (column r 0 ≡ Int (pos (n + 1)))
  there n some =
      let last = at_end receipts n some in
      let r = means.receipts.all n last.0 (ap (λ f. f n) listed ∙ last.1) in (r.0, r.1, r.2.number_is)

  -- no later row has a greater number
  after : (r x : Row) (a b : ℕ) → column r 0 ≡ Int (pos a) → column x 0 ≡ Int (pos b) → is_gt (output_cmp q (output q ([] ∷ r ∷ [])) (output q ([] ∷ x ∷ []))) ≡ false → b ≤ a
  after r x a b first second at_most = not_above a b (sym (alone (int_cmp (pos b) (pos a))) ∙ (rw (first, second, value_cmp-Int (pos b) (pos a)) at at_most))

  is_last : (n : ℕ) → length receipts ≡ n → (found shown : List Row) → IsPermutation (filter (λ r. true) rows) found
      → IsAscending (λ a b. is_gt (output_cmp q a b) ≡ false) (map (λ r. output q ([] ∷ r ∷ [])) found) → shown ≡ page q [] (map (λ r. eval_all q.project ([] ∷ r ∷ [])) found) → shown ≡ last_rows n
  is_last zero none [] shown same rising is = is
  is_last (suc n) some [] shown same rising is = absurd (let last = there n some in has_permuted [] (filter (λ r. true) rows) last.0 (IsPermutation-sym _ _ same) (has_kept (λ r. true) rows last.0 last.1 refl))
  is_last zero none (r ∷ found) shown same rising is =
      let e = found_at r (of_table r (r ∷ found) same (inl refl)) in absurd (let low = e.1 in omega (arith, low, none))
  is_last (suc n) some (r ∷ found) shown same rising is =
      let e = found_at r (of_table r (r ∷ found) same (inl refl)) in
      let last = there n some in
      let has : Has (r ∷ found) last.0 = has_permuted (r ∷ found) (filter (λ r. true) rows) last.0 (IsPermutation-sym _ _ same) (has_kept (λ r. true) rows last.0 last.1 refl) in
      let high : n ≤ e.0 = elim has [
        | inl here ↦ let both : Int (pos (n + 1)) ≡ Int (pos (e.0 + 1)) = sym last.2 ∙ ap (λ (x : Row). column x 0) here ∙ e.2 in let same_number : n + 1 ≡ e.0 + 1 = cc in omega (arith, same_number)
        | inr later ↦
            let o = all_has (λ b. is_gt (output_cmp q (output q ([] ∷ r ∷ [])) b) ≡ false) (map (λ r. output q ([] ∷ r ∷ [])) found) (output q ([] ∷ last.0 ∷ [])) rising.0 (mapped_has (λ r. output q ([] ∷ r ∷ [])) found last.0 later) in
            let le = after r last.0 (e.0 + 1) (n + 1) e.2 last.2 o in omega (arith, le)
      ] in
      let number : e.0 + 1 ≡ suc n = let low = e.1 in omega (arith, low, some, high) in
      is ∙ ap (λ x. (x ∷ []) ∷ []) (e.2 ∙ ap (λ m. Int (pos m)) number)

pub last_number : (v : Version) (asks : Asks v.schema next_number next_number_command) (old new : State) (tables : Tables) (receipts : List Receipt) (rows : List Row)
    → old.now.schema ≡ v.schema → TablesMean v old.now.trees tables → tables.receipt ≡ slice_get receipts → Shown next_number [] old new rows → rows ≡ last_rows (length receipts)
last_number v asks old new tables receipts rows has means listed h =
    let read = reads_as next_number [] old new v.schema has next_number_command asks.says.is asks.says.plain asks.unlisted rows h in
    let it = arranged 5 [] (col 1 0 ∷ []) (falling 0 ∷ []) (whole_number 1) (overlay old.now.trees []) [] rows (read.answer Null) in
    is_last v tables receipts old means listed (length receipts) refl it.found rows it.same it.rising it.is

pub shows_last : {X : Type 0} (rows_of : X → List Row) (r : Result X Error) (v : Version) (asks : Asks v.schema next_number next_number_command) (old new : State) (tables : Tables) (receipts : List Receipt)
    → IsTrue old.in_transaction → (IsTrue old.is_open → Holds v old.now tables) → tables.receipt ≡ slice_get receipts
    → IfOk r (λ x. Shown next_number [] old new (rows_of x)) → IfOk r (λ x. rows_of x ≡ last_rows (length receipts))
shows_last rows_of (Ok x) v asks old new tables receipts inside pends listed h =
    let it = pends (shown_keeps next_number [] old new (rows_of x) inside h).0 in last_number v asks old new tables receipts (rows_of x) it.schema it.means listed h
shows_last rows_of (Err e) v asks old new tables receipts inside pends listed h = tt

pub none_last : (n : ℕ) → slice_get (last_rows n) 0 ≡ None → n ≡ 0
none_last zero h = refl
none_last (suc n) h = cc

pub some_last : (n m : ℕ) (row : Row) → slice_get (last_rows n) 0 ≡ Some row → column row 0 ≡ Int (pos m) → n ≡ m
some_last zero m row h is = cc
some_last (suc n) m row h is =
    let same : Int (pos (suc n)) ∷ [] ≡ row = cc in
    let number : Int (pos (suc n)) ≡ Int (pos m) = ap (λ (r : Row). column r 0) same ∙ is in cc
