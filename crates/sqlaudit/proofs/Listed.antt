-- What a query for a whole table says about its rows.
use Rattle.std.proofs.Common.{◌≡◌, inl, inr, ℕ, ℤ, List, [], ◌∷◌, map, filter, true, Result, Ok, Err, IfOk, OnOk, IsTrue, Less, int_cmp, refl, sym, ap, ap₂, subst, ◌∙◌}
use Rattle.std.specs.List.{AllZip}
use Rattle.std.specs.Ordering.{ordering_reverse}
use Rattle.std.proofs.lemmas.List.Sorted.{IsPermutation-sym}
use Rattle.std.proofs.lemmas.Cmp.{int_cmp_total}
use Rattle.sqlite_value.specs.declared.value.Value.{Value}
use Rattle.sqlite_value.specs.declared.value.Value.TheVariants.{Null, Int}
use Rattle.sqlite_value.specs.declared.keys.Key.{Key as Sort}
use Rattle.sqlite_value.specs.Order.{Row, column}
use Rattle.sqlite_trees.specs.Tree.{Trees, IsAscending, rowid}
use Rattle.sqlite_sql.specs.Term.{Term, eval_all}
use Rattle.sqlite_sql.specs.Program.{overlay}
use Rattle.sqlite_rules.specs.Lists.{Has}
use Rattle.sqlite_rules.proofs.ListLemmas.{all_has}
use Rattle.sqlite_rules.proofs.ProbeLemmas.{has_mapped, mapped_has}
use Rattle.sqlite.specs.declared.error.Error.{Error}
use Rattle.sqlite.specs.State.{State, IsUnchanged}
use Rattle.sqlite_sql.specs.Query.{IsAnswer}
use Rattle.std.specs.List.Sorted.{IsPermutation}
use Rattle.sqlite_trees.proofs.ListLemmas.{map-map, pull_back}
use Rattle.sqlite.proofs.Callers.{reads_as}
use Rattle.sqltables.specs.Schema.{Version}
use Rattle.sqlaudit.specs.Lines.{AreLines, AreNumbersOf, AreRead, HaveRowids}
use Rattle.sqltables.proofs.Forms.{all_rows, no_limit, select}
use Rattle.sqltables.proofs.Says.{Asks}
use Rattle.sqltables.proofs.Shown.{shown_open, shown_unchanged}
use Rattle.sqltables.proofs.Queries.{has_permuted}
use Rattle.sqltables.proofs.Ordered.{arranged}

-- ---- rows and lines, position by position

module _ {L : Type 0} (reads : Row → L → Type 0) where
  pub line_of : (rows : List Row) (lines : List L) → AllZip reads rows lines → (row : Row) → Has rows row → (line : L) × Has lines line × reads row line
  line_of [] lines zip row has = absurd has
  line_of (r ∷ rows) [] zip row has = absurd zip
  line_of (r ∷ rows) (l ∷ lines) zip row (inl here) = (l, inl refl, subst (λ x. reads x l) (sym here) zip.0)
  line_of (r ∷ rows) (l ∷ lines) zip row (inr later) = let rest = line_of rows lines zip.1 row later in (rest.0, inr rest.1, rest.2)

  pub row_of : (rows : List Row) (lines : List L) → AllZip reads rows lines → (line : L) → Has lines line → (row : Row) × Has rows row × reads row line
  row_of [] [] zip line has = absurd has
  row_of [] (l ∷ lines) zip line has = absurd zip
  row_of (r ∷ rows) [] zip line has = absurd has
  row_of (r ∷ rows) (l ∷ lines) zip line (inl here) = (r, inl refl, subst (reads r) (sym here) zip.0)
  row_of (r ∷ rows) (l ∷ lines) zip line (inr later) = let rest = row_of rows lines zip.1 line later in (rest.0, inr rest.1, rest.2)

-- ---- rows that are distinguished by numbers

one_number : (x y : ℤ) → Int x ≡ Int y → x ≡ y
one_number x y same = cc

irreflexive : (x : ℤ) → int_cmp x x ≡ Less → ⊥
irreflexive x h = absurd (let e = sym h ∙ int_cmp_total.antisymm x x ∙ ap ordering_reverse h in cc)

abbrev first : Row → Value
first r = column r 0

number_of : (rows : List Row) (numbers : List ℤ) → map first rows ≡ map Int numbers → (row : Row) → Has rows row → (n : ℤ) × Has numbers n × (first row ≡ Int n)
number_of [] numbers same row has = absurd has
number_of (r ∷ rows) [] same row has = cc
number_of (r ∷ rows) (n ∷ numbers) same row (inl here) = (n, inl refl, ap first here ∙ (let head : first r ≡ Int n = cc in head))
number_of (r ∷ rows) (n ∷ numbers) same row (inr later) = let rest = number_of rows numbers (cc) row later in (rest.0, inr rest.1, rest.2)

abbrev Rising : List ℤ → Type 0
Rising = IsAscending (λ a b. int_cmp a b ≡ Less)

alone : (r : Row) (rows : List Row) (n : ℤ) (numbers : List ℤ) → map first (r ∷ rows) ≡ map Int (n ∷ numbers) → Rising (n ∷ numbers) → (b : Row) → Has rows b → first r ≡ first b → ⊥
alone r rows n numbers same rising b has equal =
    let head : first r ≡ Int n = cc in
    let other = number_of rows numbers (cc) b has in
    let number : n ≡ other.0 = one_number n other.0 (sym head ∙ equal ∙ other.2) in
    irreflexive n (subst (λ m. int_cmp n m ≡ Less) (sym number) (all_has (λ m. int_cmp n m ≡ Less) numbers other.0 rising.0 other.1))

apart : (rows : List Row) (numbers : List ℤ) → map first rows ≡ map Int numbers → Rising numbers → (a b : Row) → Has rows a → Has rows b → first a ≡ first b → a ≡ b
apart [] numbers same rising a b has_a has_b equal = absurd has_a
apart (r ∷ rows) [] same rising a b has_a has_b equal = cc
apart (r ∷ rows) (n ∷ numbers) same rising a b (inl a_is) (inl b_is) equal = a_is ∙ sym b_is
apart (r ∷ rows) (n ∷ numbers) same rising a b (inl a_is) (inr b_in) equal = absurd (alone r rows n numbers same rising b b_in (ap first (sym a_is) ∙ equal))
apart (r ∷ rows) (n ∷ numbers) same rising a b (inr a_in) (inl b_is) equal = absurd (alone r rows n numbers same rising a a_in (ap first (sym b_is) ∙ sym equal))
apart (r ∷ rows) (n ∷ numbers) same rising a b (inr a_in) (inr b_in) equal = apart rows numbers (cc) rising.1 a b a_in b_in equal

-- ---- the whole table

-- the rows of the table in some order, and what is shown of each
pub record Lists (show : Row → Row) (rows shown : List Row) : Type 0 where
  pub found : List Row
  pub same : IsPermutation rows found
  pub is : shown ≡ map show found

all_pass : (rows : List Row) → filter (λ r. true) rows ≡ rows
all_pass [] = refl
all_pass (r ∷ rows) = ap (◌∷◌ r) (all_pass rows)

-- SELECT of these terms for each row of a table, in this order
pub lists : (tree : ℕ) (project : List Term) (order : List (Term × Sort)) (db : Trees) (shown : List Row) → IsAnswer (all_rows tree project order) db [] shown → Lists (λ r. eval_all project ([] ∷ r ∷ [])) (db tree) shown
lists tree project order db shown answer =
    let it = arranged tree [] project order no_limit db [] shown answer in
    record { found = it.found; same = subst (λ rows. IsPermutation rows it.found) (all_pass (db tree)) it.same; is = it.is }

module _ {L : Type 0} (reads IsLine : Row → L → Type 0) (show : Row → Row) (rows shown : List Row) (listed : Lists show rows shown) where
  lines_are : (lines : List L) → AllZip reads shown lines → ((row : Row) (line : L) → Has rows row → reads (show row) line → IsLine row line) → AreLines IsLine rows lines
  lines_are lines zip fits = record {
    each = λ row has.
        let in_order = has_permuted listed.found rows row (IsPermutation-sym _ _ listed.same) has in
        let l = line_of reads shown lines zip (show row) (subst (λ xs. Has xs (show row)) (sym listed.is) (mapped_has show listed.found row in_order)) in
        (l.0, l.1, fits row l.0 has l.2);
    all = λ line has.
        let x = row_of reads shown lines zip line has in
        let r = has_mapped show listed.found x.0 (subst (λ xs. Has xs x.0) listed.is x.1) in
        let there = has_permuted rows listed.found r.0 listed.same r.1 in
        (r.0, there, fits r.0 line there (subst (λ y. reads y line) r.2 x.2));
  }

module _ (show : Row → Row) (keeps : (r : Row) → column (show r) 0 ≡ rowid r) (rows shown : List Row) (listed : Lists show rows shown) (numbers : List ℤ) (numbered : AreNumbersOf shown numbers) where
  abbrev from : (xs : List Row) × IsPermutation listed.found xs × (numbered.found ≡ map show xs)
  from = pull_back show shown numbered.found numbered.same listed.found listed.is

  firsts : map rowid from.0 ≡ map Int numbers
  firsts = sym (map-map first show from.0 ∙ same_map from.0) ∙ ap (map first) (sym from.2) ∙ numbered.are
    where
      same_map : (xs : List Row) → map (λ r. first (show r)) xs ≡ map rowid xs
      same_map [] = refl
      same_map (x ∷ xs) = ap₂ ◌∷◌ (keeps x) (same_map xs)

  inside : (row : Row) → Has rows row → Has from.0 row
  inside row has = has_permuted from.0 listed.found row (IsPermutation-sym _ _ from.1) (has_permuted listed.found rows row (IsPermutation-sym _ _ listed.same) has)

  -- the rowid of each row is one of the numbers
  pub rowid_of : (row : Row) → Has rows row → (n : ℤ) × Has numbers n × (rowid row ≡ Int n)
  rowid_of row has = number_of from.0 numbers firsts row (inside row has)

  pub rowids : HaveRowids rows
  rowids = record {
    keyed = λ row has. let n = rowid_of row has in (n.0, n.2);
    apart = λ a b has_a has_b equal. apart from.0 numbers firsts numbered.rising a b (inside a has_a) (inside b has_b) equal;
  }

-- ---- the query

module _ {L : Type 0} (reads IsLine : Row → L → Type 0) (v : Version) (text : List ℕ) (tree : ℕ) (project : List Term) (order : List (Term × Sort)) (names : List (List ℕ))
    (asks : Asks v.schema text (select (all_rows tree project order) names)) (old new : State) (has : old.now.schema ≡ v.schema) (lines : List L) (read : AreRead reads text old new lines) where
  abbrev table : List Row
  table = overlay old.now.trees [] tree

  listed : Lists (λ r. eval_all project ([] ∷ r ∷ [])) table read.rows
  listed =
      let shown = reads_as text [] old new v.schema has (select (all_rows tree project order) names) asks.says.is asks.says.plain asks.unlisted read.rows read.shown in
      lists tree project order (overlay old.now.trees []) read.rows (shown.answer Null)

  pub lines_listed : ((row : Row) (line : L) → Has table row → reads (eval_all project ([] ∷ row ∷ [])) line → IsLine row line) → AreLines IsLine table lines
  lines_listed = lines_are reads IsLine (λ r. eval_all project ([] ∷ r ∷ [])) table read.rows listed lines read.each

  pub rowids_listed : ((row : Row) → column (eval_all project ([] ∷ row ∷ [])) 0 ≡ rowid row) → HaveRowids table
  rowids_listed keeps = rowids (λ r. eval_all project ([] ∷ r ∷ [])) keeps table read.rows listed read.numbers read.numbered

  pub unchanged : IsUnchanged old new
  unchanged = shown_unchanged v text (select (all_rows tree project order) names) asks [] old new has read.rows read.shown

-- ---- any query

-- what was read, if the schema is ours
pub as_read : {L X : Type 0} (lines_of : X → List L) (reads : Row → L → Type 0) (text : List ℕ) (old new : State) (P : X → Type 0) (r : Result X Error)
    → IfOk r (λ x. AreRead reads text old new (lines_of x)) → ((x : X) → IsTrue old.is_open → AreRead reads text old new (lines_of x) → P x) → IfOk r P
as_read lines_of reads text old new P (Ok x) read more = more x (shown_open text [] old new read.rows read.shown) read
as_read lines_of reads text old new P (Err e) read more = tt

pub on_read : {L X : Type 0} (lines_of : X → List L) (reads : Row → L → Type 0) (text : List ℕ) (old new : State) (P : Type 0) (r : Result X Error)
    → IfOk r (λ x. AreRead reads text old new (lines_of x)) → ((x : X) → IsTrue old.is_open → AreRead reads text old new (lines_of x) → P) → OnOk r P
on_read lines_of reads text old new P (Ok x) read more = more x (shown_open text [] old new read.rows read.shown) read
on_read lines_of reads text old new P (Err e) read more = tt
