-- The rows of the unrevoked clerk keys, and how many different ids they show.
use Rattle.std.proofs.Common.{◌≡◌, inl, inr, ℕ, ◌+◌, ◌&&◌, ◌||◌, pos, List, [], ◌∷◌, map, Bool, true, false, cond, Option, Some, None, Ordering, Less, Equal, Greater, Result, Ok, Err, IfOk, IsTrue, refl, sym, ap, subst, arith, ◌∙◌}
use Rattle.std.specs.Prelude.{T, not, count_by}
use Rattle.std.specs.List.{list_all, list_any, filter}
use Rattle.std.specs.Ordering.{is_eq, is_lt, eq_by_cmp}
use Rattle.std.specs.Cmp.{tied_itself}
use Rattle.std.specs.FinMap.{get, entries, entries_sorted, get-entries, find, is_sorted}
use Rattle.std.specs.FinMap.Entries.{below_all}
use Rattle.std.specs.FinSet.{len, contains, from_list, contains-from_list, same_set, len-insert, len-empty}
use Rattle.std.proofs.lemmas.List.Sums.{sum_by-cons}
use Rattle.sigtext.specs.Bytes.{bytes_cmp}
use Rattle.sqlite_value.specs.declared.value.Value.TheVariants.{Null, Int}
use Rattle.sqlite_value.specs.declared.keys.Collation.TheVariants.{Binary}
use Rattle.sqlite_value.specs.Order.{Row}
use Rattle.sqlite_sql.specs.declared.ops.BinaryOp.TheVariants.{Compare}
use Rattle.sqlite_sql.specs.declared.ops.CompareOp.TheVariants.{Eq}
use Rattle.sqlite_sql.specs.Ops.{binary, is_true}
use Rattle.sqlite_sql.specs.Term.{Term, col, op2, holds}
use Rattle.sqlite_sql.specs.Program.{overlay}
use Rattle.sqlite_rules.specs.Lists.{Has}
use Rattle.sqlite.specs.declared.error.Error.{Error}
use Rattle.sqlite.specs.State.{State, Shown}
use Rattle.sqlite.proofs.Callers.{reads_as}
use Rattle.boxes.specs.declared.rows.Role.{Role}
use Rattle.boxes.specs.declared.rows.Role.TheVariants.{Clerk, Link}
use Rattle.boxes.specs.State.{Key, State as Office}
use Rattle.boxes.specs.Clerks.{clerks, is_clerk, is_acting}
use Rattle.boxes.proofs.Lookups.{bytes_total, bytes_same, equal_is}
use Rattle.sqltables.specs.Schema.{Version}
use Rattle.sqltables.specs.Tables.{Tables, RowsMean, IsKeyRow, role_number, flag}
use Rattle.sqltables.specs.Means.{Holds}
use Rattle.sqltables.specs.Questions.{AreActing, shown_id, first_text, different_texts}
use Rattle.sqltables.proofs.Says.{Asks}
use Rattle.sqltables.proofs.Forms.{whole_number}
use Rattle.sqltables.proofs.Texts.{select_clerks, select_clerks_command}
use Rattle.sqltables.proofs.Rows.{equal_numbers}
use Rattle.sqltables.proofs.Queries.{AreFound, answered}
use Rattle.sqltables.proofs.Runs.{shown_keeps}

-- ---- the query

abbrev tests : List Term
tests = op2 (Compare Eq Binary) (col 1 2) (whole_number 1) ∷ op2 (Compare Eq Binary) (col 1 4) (whole_number 0) ∷ []

abbrev shows : List Term
shows = col 1 1 ∷ []

both_pass : (r : Role) (b : Bool)
    → (is_true (binary (Compare Eq Binary) (Int (role_number r)) (Int (pos 1))) && (is_true (binary (Compare Eq Binary) (Int (flag b)) (Int (pos 0))) && true)) ≡ (is_clerk r && not b)
both_pass Clerk true = rw (equal_numbers 1 1, equal_numbers 1 0) refl
both_pass Clerk false = rw (equal_numbers 1 1, equal_numbers 0 0) refl
both_pass Link b = rw (equal_numbers 0 1) refl

passes : (row : Row) (id : List ℕ) (key : Key) → IsKeyRow row id key → list_all (holds ([] ∷ row ∷ [])) tests ≡ is_acting key
passes row id key is = rw (is.role_is, is.revoked_is) (both_pass key.role key.revoked)

acting_rows : (lookup : List ℕ → Option Key) (rows found : List Row) → RowsMean IsKeyRow lookup rows → AreFound tests shows rows [] found → AreActing lookup found
acting_rows lookup rows found means are = record {
  sound = λ x has.
      let r = are.sound x has in
      let e = means.each r.0 r.1 in
      (e.0, e.1, r.3 ∙ (rw e.2.id_is), e.3, sym (passes r.0 e.0 e.1 e.2) ∙ r.2);
  complete = λ id key there acts.
      let r = means.all id key there in
      let shown : shown_id id ≡ Rattle.sqlite_sql.specs.Term.eval_all shows ([] ∷ r.0 ∷ []) = rw r.2.id_is in
      subst (Has found) (sym shown) (are.complete r.0 r.1 (passes r.0 id key r.2 ∙ acts));
}

pub shows_acting : {X : Type 0} (rows_of : X → List Row) (r : Result X Error) (v : Version) (asks : Asks v.schema select_clerks select_clerks_command) (old new : State) (tables : Tables)
    → IsTrue old.in_transaction → (IsTrue old.is_open → Holds v old.now tables)
    → IfOk r (λ x. Shown select_clerks [] old new (rows_of x)) → IfOk r (λ x. AreActing tables.key (rows_of x))
shows_acting rows_of (Err e) v asks old new tables inside pends h = tt
shows_acting rows_of (Ok x) v asks old new tables inside pends h =
    let it = pends (shown_keeps select_clerks [] old new (rows_of x) inside h).0 in
    let read = reads_as select_clerks [] old new v.schema it.schema select_clerks_command asks.says.is asks.says.plain asks.unlisted (rows_of x) h in
    let are : AreFound tests shows (old.now.trees 1) [] (rows_of x) = answered 1 tests shows (overlay old.now.trees []) [] (rows_of x) (read.answer Null) in
    acting_rows tables.key (old.now.trees 1) (rows_of x) it.means.keys are

-- ---- the ids of the acting entries

parts : (a b : Bool) → T (a && b) → T a × T b
parts true b h = (tt, h)
parts false b h = absurd h

not_equal : (o : Ordering) → T (is_lt o) → is_eq o ≡ false
not_equal Less h = refl
not_equal Equal h = absurd h
not_equal Greater h = absurd h

none_below : (q : List ℕ) (es : List (List ℕ × Key)) → T (below_all bytes_cmp q es) → find bytes_cmp q es ≡ None
none_below q [] h = refl
none_below q (e ∷ es) h = ap (λ b. cond b (Some e.1) (find bytes_cmp q es)) (not_equal _ (parts _ _ h).0) ∙ none_below q es (parts _ _ h).1

abbrev acts : Option Key → Bool
acts None = false
acts (Some key) = is_acting key

abbrev ids_of : List (List ℕ × Key) → List (List ℕ)
ids_of es = map (λ e. e.0) (filter (λ e. is_acting e.1) es)

abbrev stands : List ℕ → List (List ℕ) → Bool
stands q ids = list_any (eq_by_cmp bytes_cmp q) ids

at_front : (p : Bool) (q : List ℕ) (e : List ℕ × Key) (es : List (List ℕ × Key)) → stands q (map (λ e. e.0) (cond p (e ∷ es) es)) ≡ ((p && eq_by_cmp bytes_cmp q e.0) || stands q (map (λ e. e.0) es))
at_front true q e es = refl
at_front false q e es = refl

alone : (p : Bool) → ((p && true) || false) ≡ p
alone true = refl
alone false = refl

beside : (p rest : Bool) → ((p && false) || rest) ≡ rest
beside true rest = refl
beside false rest = refl

-- an id is among them exactly if the entry found for it is acting
named : (es : List (List ℕ × Key)) (q : List ℕ) → T (is_sorted bytes_cmp es) → stands q (ids_of es) ≡ acts (find bytes_cmp q es)
named [] q h = refl
named (e ∷ es) q h =
    let rest = named es q (parts _ _ h).1 in
    at_front (is_acting e.1) q e (filter (λ e. is_acting e.1) es)
    ∙ elim (eq_by_cmp bytes_cmp q e.0) as (λ t. eq_by_cmp bytes_cmp q e.0 ≡ t → ((is_acting e.1 && t) || stands q (ids_of es)) ≡ acts (cond t (Some e.1) (find bytes_cmp q es))) [
      | true ↦ λ t.
          let same : q ≡ e.0 = bytes_same q e.0 (equal_is (bytes_cmp q e.0) t) in
          let none : find bytes_cmp q es ≡ None = none_below q es (subst (λ x. T (below_all bytes_cmp x es)) (sym same) (parts _ _ h).0) in
          ap (λ b. (is_acting e.1 && true) || b) (rest ∙ ap acts none) ∙ alone (is_acting e.1)
      | false ↦ λ t. beside (is_acting e.1) (stands q (ids_of es)) ∙ rest
    ] refl

counted : (es : List (List ℕ × Key)) → T (is_sorted bytes_cmp es) → count_by (λ e. is_acting e.1) es ≡ len (from_list {R = bytes_cmp} (ids_of es))
counted [] h = sym (len-empty bytes_cmp)
counted (e ∷ es) h =
    let both = parts _ _ h in
    let rest = counted es both.1 in
    let others = from_list {R = bytes_cmp} (ids_of es) in
    let fresh : contains others e.0 ≡ false = contains-from_list bytes_total (ids_of es) e.0 ∙ named es e.0 both.1 ∙ ap acts (none_below e.0 es both.0) in
    let more : len (from_list {R = bytes_cmp} (e.0 ∷ ids_of es)) ≡ len others + 1 = len-insert bytes_total others e.0 ∙ ap (λ b. cond b (len others) (len others + 1)) fresh in
    sum_by-cons (λ (x : List ℕ × Key). cond (is_acting x.1) 1 0) e es
    ∙ elim (is_acting e.1) as (λ b. cond b 1 0 + count_by (λ x. is_acting x.1) es ≡ len (from_list {R = bytes_cmp} (map (λ x. x.0) (cond b (e ∷ filter (λ x. is_acting x.1) es) (filter (λ x. is_acting x.1) es))))) [
      | true ↦ omega (arith, rest, more)
      | false ↦ omega (arith, rest)
    ]

-- ---- the ids that the rows show

shown_there : (q : List ℕ) (rows : List Row) (row : Row) → Has rows row → eq_by_cmp bytes_cmp q (first_text row) ≡ true → stands q (map first_text rows) ≡ true
shown_there q [] row has tied = absurd has
shown_there q (r ∷ rows) row (inl same) tied = ap (λ x. eq_by_cmp bytes_cmp q (first_text x) || stands q (map first_text rows)) (sym same) ∙ ap (λ b. b || stands q (map first_text rows)) tied
shown_there q (r ∷ rows) row (inr later) tied = ap (λ b. eq_by_cmp bytes_cmp q (first_text r) || b) (shown_there q rows row later tied) ∙ or_true (eq_by_cmp bytes_cmp q (first_text r))
  where
    or_true : (b : Bool) → (b || true) ≡ true
    or_true true = refl
    or_true false = refl

there_shown : (q : List ℕ) (rows : List Row) → stands q (map first_text rows) ≡ true → (row : Row) × Has rows row × (q ≡ first_text row)
there_shown q [] h = cc
there_shown q (r ∷ rows) h =
    elim (eq_by_cmp bytes_cmp q (first_text r)) as (λ t. eq_by_cmp bytes_cmp q (first_text r) ≡ t → (t || stands q (map first_text rows)) ≡ true → (row : Row) × Has (r ∷ rows) row × (q ≡ first_text row)) [
      | true ↦ λ t h. (r, inl refl, bytes_same q (first_text r) (equal_is (bytes_cmp q (first_text r)) t))
      | false ↦ λ t h. let it = there_shown q rows h in (it.0, inr it.1, it.2)
    ] refl h

acting_there : (there : Option Key) → acts there ≡ true → (key : Key) × (there ≡ Some key) × (is_acting key ≡ true)
acting_there None h = cc
acting_there (Some key) h = (key, refl, h)

same_truth : (a b : Bool) → (a ≡ true → b ≡ true) → (b ≡ true → a ≡ true) → a ≡ b
same_truth true b there back = sym (there refl)
same_truth false true there back = back refl
same_truth false false there back = refl

shows_ids : (lookup : List ℕ → Option Key) (rows : List Row) → AreActing lookup rows → (q : List ℕ) → stands q (map first_text rows) ≡ acts (lookup q)
shows_ids lookup rows are q = same_truth _ _
    (λ h. let it = there_shown q rows h in
    let e = are.sound it.0 it.1 in
    let same : q ≡ e.0 = it.2 ∙ ap first_text e.2 in
    ap (λ x. acts (lookup x)) same ∙ ap acts e.3 ∙ e.4)
    (λ h. let it = acting_there (lookup q) h in
    shown_there q rows (shown_id q) (are.complete q it.0 it.1 it.2) (ap is_eq (tied_itself bytes_total q)))

-- the rows show as many ids as the state has unrevoked clerk keys
clerks_are : (s : Office) (rows : List Row) → AreActing (get s.keys) rows → different_texts rows ≡ clerks s
clerks_are s rows are =
    let es = entries s.keys in
    let same : from_list {R = bytes_cmp} (map first_text rows) ≡ from_list (ids_of es) = same_set bytes_total bytes_same _ _ (λ q.
    contains-from_list bytes_total (map first_text rows) q ∙ shows_ids (get s.keys) rows are q ∙ ap acts (get-entries s.keys q)
    ∙ sym (named es q (entries_sorted s.keys)) ∙ sym (contains-from_list bytes_total (ids_of es) q)) in
    ap len same ∙ sym (counted es (entries_sorted s.keys))

pub counts_clerks : (s : Office) (lookup : List ℕ → Option Key) (rows seen : List Row) (r : Result ℕ Error) → lookup ≡ get s.keys → seen ≡ rows → AreActing lookup rows
    → IfOk r (λ count. count ≡ different_texts seen) → IfOk r (λ count. count ≡ clerks s)
counts_clerks s lookup rows seen (Err e) keys same are h = tt
counts_clerks s lookup rows seen (Ok count) keys same are h = h ∙ ap different_texts same ∙ clerks_are s rows (subst (λ f. AreActing f rows) keys are)
