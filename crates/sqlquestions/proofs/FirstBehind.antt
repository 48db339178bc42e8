-- What a query for the first text after a given text shows.
use Rattle.std.proofs.Common.{◌≡◌, inl, inr, ℕ, List, [], ◌∷◌, map, filter, Bool, true, false, Ordering, Less, Equal, Greater, Option, None, Some, Result, Ok, Err, IfOk, IsTrue, refl, sym, ap, subst, ◌∙◌}
use Rattle.std.specs.List.{list_all}
use Rattle.std.specs.List.Sorted.{IsPermutation}
use Rattle.std.proofs.lemmas.List.Sorted.{IsPermutation-sym}
use Rattle.std.specs.Ordering.{is_gt, ordering_then, ordering_reverse}
use Rattle.sigtext.specs.Bytes.{bytes_cmp}
use Rattle.sigtext.proofs.Ascending.{never_below_itself}
use Rattle.sqlite_value.specs.declared.value.Value.TheVariants.{Null, Text}
use Rattle.sqlite_value.specs.Order.{Row, column, value_cmp}
use Rattle.sqlite_value.proofs.OrderLemmas.{value_cmp-Text}
use Rattle.sqlite_value.specs.declared.keys.Collation.TheVariants.{Binary}
use Rattle.sqlite_sql.specs.declared.ops.BinaryOp.TheVariants.{Compare}
use Rattle.sqlite_sql.specs.declared.ops.CompareOp.TheVariants.{Gt}
use Rattle.sqlite_sql.specs.Ops.{binary, is_true, from_truth}
use Rattle.sqlite_sql.specs.Term.{Term, col, holds, eval_all}
use Rattle.sqlite_sql.specs.Query.{Query, output, output_cmp, page}
use Rattle.sqlite_sql.specs.Program.{overlay}
use Rattle.sqlite_trees.specs.Tree.{Trees, IsAscending}
use Rattle.sqlite_rules.specs.Lists.{Has}
use Rattle.sqlite_rules.proofs.ProbeLemmas.{mapped_has}
use Rattle.sqlite_rules.proofs.ListLemmas.{has_filtered, has_kept, all_has}
use Rattle.sqlite.specs.declared.error.Error.{Error}
use Rattle.sqlite.specs.State.{State}
use Rattle.sqlite.proofs.Callers.{reads_as}
use Rattle.boxes.proofs.Lookups.{bytes_total}
use Rattle.sqltables.specs.Schema.{Version}
use Rattle.sqltables.specs.Tables.{Tables, TablesMean, RowsMean}
use Rattle.sqltables.specs.Means.{Holds}
use Rattle.sqltables.proofs.Says.{Asks}
use Rattle.sqltables.proofs.Forms.{select}
use Rattle.sqltables.proofs.Queries.{has_permuted}
use Rattle.sqltables.proofs.Runs.{shown_keeps}
use Rattle.sqltables.proofs.Ordered.{Arranged, arranged}
use Rattle.sqlquestions.specs.Following.{IsFirstBehind, ShowsFirstText}
use Rattle.sqlquestions.proofs.FollowingTexts.{first_of}

-- ---- > between texts

truth_of : (b : Bool) → is_true (from_truth (Some b)) ≡ b
truth_of true = refl
truth_of false = refl

-- WHERE with > keeps a row exactly if its text comes after the given text
pub greater_texts : (a b : List ℕ) → is_true (binary (Compare Gt Binary) (Text a) (Text b)) ≡ is_gt (bytes_cmp a b)
unfolding binary
greater_texts a b = truth_of (is_gt (value_cmp (Text a) (Text b))) ∙ ap is_gt (value_cmp-Text a b)

turned : (a b : Ordering) → a ≡ ordering_reverse b → is_gt b ≡ true → a ≡ Less
turned a Less same h = cc
turned a Equal same h = cc
turned a Greater same h = same

turned_back : (a b : Ordering) → b ≡ ordering_reverse a → a ≡ Less → is_gt b ≡ true
turned_back a b same h = let e : b ≡ Greater = same ∙ ap ordering_reverse h in ap is_gt e

-- a text that passes > comes after
pub is_behind : (after text : List ℕ) → is_gt (bytes_cmp text after) ≡ true → bytes_cmp after text ≡ Less
is_behind after text h = turned (bytes_cmp after text) (bytes_cmp text after) (bytes_total.antisymm after text) h

-- a text that comes after passes >
pub passes_behind : (after text : List ℕ) → bytes_cmp after text ≡ Less → is_gt (bytes_cmp text after) ≡ true
passes_behind after text h = turned_back (bytes_cmp after text) (bytes_cmp text after) (bytes_total.antisymm text after) h

alone : (o : Ordering) → is_gt (ordering_then o Equal) ≡ is_gt o
alone Less = refl
alone Equal = refl
alone Greater = refl

module _ {K V : Type 0} (IsRow : Row → K → V → Type 0) (lookup : K → Option V) (tests : List Term) (place : ℕ) (given : Row) (Stands : List ℕ → Type 0) (after : List ℕ) where
  abbrev passes : Row → Bool
  passes row = list_all (holds (given ∷ row ∷ [])) tests

  -- This column of the rows that pass holds texts that come after the given text, and each such text is in each row of its entry.
  pub record Follows : Type 0 where
    pub sound : (row : Row) (k : K) (v : V) → IsRow row k v → lookup k ≡ Some v → passes row ≡ true
        → (text : List ℕ) × (column row place ≡ Text text) × Stands text × (bytes_cmp after text ≡ Less)
    pub complete : (text : List ℕ) → Stands text → bytes_cmp after text ≡ Less
        → (k : K) × (v : V) × (lookup k ≡ Some v) × ((row : Row) → IsRow row k v → (column row place ≡ Text text) × (passes row ≡ true))

  module _ (follows : Follows) (tree : ℕ) (rows found shown : List Row) (means : RowsMean IsRow lookup rows) (same : IsPermutation (filter passes rows) found) where
    abbrev q : Query
    q = first_of tree tests place

    of_table : (r : Row) → Has found r → Has rows r × (passes r ≡ true)
    of_table r has = has_filtered passes rows r (has_permuted (filter passes rows) found r same has)

    tells : (r : Row) → Has found r → (text : List ℕ) × (column r place ≡ Text text) × Stands text × (bytes_cmp after text ≡ Less)
    tells r has = let t = of_table r has in let e = means.each r t.0 in follows.sound r e.0 e.1 e.2 e.3 t.1

    there : (text : List ℕ) → Stands text → bytes_cmp after text ≡ Less → (r : Row) × Has found r × (column r place ≡ Text text)
    there text stands behind =
        let e = follows.complete text stands behind in
        let r = means.all e.0 e.1 e.2 in
        let p = e.3 r.0 r.2 in
        (r.0, has_permuted found (filter passes rows) r.0 (IsPermutation-sym _ _ same) (has_kept passes rows r.0 r.1 p.1), p.0)

    -- none of the others comes before the first
    least : (r x : Row) (t u : List ℕ) → column r place ≡ Text t → column x place ≡ Text u → is_gt (output_cmp q (output q (given ∷ r ∷ [])) (output q (given ∷ x ∷ []))) ≡ false
        → bytes_cmp u t ≡ Less → ⊥
    least r x t u first second at_most before =
        let none : is_gt (bytes_cmp t u) ≡ false = sym (alone (bytes_cmp t u)) ∙ (rw (first, second, value_cmp-Text t u) at at_most) in
        let e : ◌≡◌ true false = sym (passes_behind u t before) ∙ none in cc

    pub first_text : IsAscending (λ a b. is_gt (output_cmp q a b) ≡ false) (map (λ r. output q (given ∷ r ∷ [])) found) → shown ≡ page q given (map (λ r. eval_all q.project (given ∷ r ∷ [])) found)
        → (text : Option (List ℕ)) → ((t : List ℕ) → text ≡ Some t → (row : Row) × Has shown row × (column row 0 ≡ Text t)) → (text ≡ None → shown ≡ []) → IsFirstBehind Stands after text
    first_text rising is text some none = go found refl rising is text some none
      where
        go : (of_found : List Row) → found ≡ of_found → IsAscending (λ a b. is_gt (output_cmp q a b) ≡ false) (map (λ r. output q (given ∷ r ∷ [])) of_found)
            → shown ≡ page q given (map (λ r. eval_all q.project (given ∷ r ∷ [])) of_found)
            → (text : Option (List ℕ)) → ((t : List ℕ) → text ≡ Some t → (row : Row) × Has shown row × (column row 0 ≡ Text t)) → (text ≡ None → shown ≡ []) → IsFirstBehind Stands after text
        go [] are rising is None some none = λ text stands behind. let r = there text stands behind in absurd (subst (λ l. Has l r.0) are r.1)
        go [] are rising is (Some t) some none = absurd (let r = some t refl in subst (λ l. Has l r.0) is r.1)
        go (r ∷ more) are rising is None some none = absurd (let e : ◌≡◌ {A = List Row} [] ((column r place ∷ []) ∷ []) = sym (none refl) ∙ is in cc)
        go (r ∷ more) are rising is (Some t) some none =
            let first : Has found r = subst (λ l. Has l r) (sym are) (inl refl) in
            let told = tells r first in
            let row = some t refl in
            let told_is : column r place ≡ Text t = elim (subst (λ l. Has l row.0) is row.1) [
              | inl here ↦ sym (ap (λ (x : Row). column x 0) here) ∙ row.2
              | inr later ↦ absurd later
            ] in
            let same_text : told.0 ≡ t = let both : Text told.0 ≡ Text t = sym told.1 ∙ told_is in cc in (
              subst Stands same_text told.2,
              subst (λ u. bytes_cmp after u ≡ Less) same_text told.3,
              λ other stands behind before.
                  let x = there other stands behind in
                  elim (subst (λ l. Has l x.0) are x.1) [
                    | inl here ↦
                        let both : Text t ≡ Text other = sym told_is ∙ sym (ap (λ (y : Row). column y place) here) ∙ x.2 in
                        let same_other : t ≡ other = cc in never_below_itself t (subst (λ u. bytes_cmp u t ≡ Less) (sym same_other) before)
                    | inr later ↦
                        let o = all_has (λ b. is_gt (output_cmp q (output q (given ∷ r ∷ [])) b) ≡ false) (map (λ r. output q (given ∷ r ∷ [])) more) (output q (given ∷ x.0 ∷ [])) rising.0 (mapped_has (λ r. output q (given ∷ r ∷ [])) more x.0 later) in
                        least r x.0 t other told_is x.2 o before
                  ],
            )

  -- the text that is shown is the first existing text after the given one
  pub finds_first : Follows → (v : Version) (tree : ℕ) (names : List (List ℕ)) (sql : List ℕ) (asks : Asks v.schema sql (select (first_of tree tests place) names)) (old new : State) (tables : Tables)
      → (own : (db : Trees) → overlay db [] tree ≡ db tree) → (TablesMean v old.now.trees tables → RowsMean IsRow lookup (old.now.trees tree))
      → IsTrue old.in_transaction → (IsTrue old.is_open → Holds v old.now tables)
      → {T : Type 0} (text_of : T → Option (List ℕ)) (r : Result T Error) → IfOk r (λ t. ShowsFirstText sql given old new (text_of t)) → IfOk r (λ t. IsFirstBehind Stands after (text_of t))
  finds_first follows v tree names sql asks old new tables own means inside pends text_of (Err e) h = tt
  finds_first follows v tree names sql asks old new tables own means inside pends text_of (Ok t) h =
      let it = pends (shown_keeps sql given old new h.rows inside h.shown).0 in
      let read = reads_as sql given old new v.schema it.schema (select (first_of tree tests place) names) asks.says.is asks.says.plain asks.unlisted h.rows h.shown in
      let are = subst (λ rows. Arranged (first_of tree tests place) rows given h.rows) (own old.now.trees) (arranged tree tests (col 1 place ∷ []) _ _ (overlay old.now.trees []) given h.rows (read.answer Null)) in
      first_text follows tree (old.now.trees tree) are.found h.rows (means it.means) are.same are.rising are.is (text_of t) h.some h.none
