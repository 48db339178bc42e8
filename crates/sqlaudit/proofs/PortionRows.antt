-- What the queries for a long table say about its rows.
use Rattle.std.proofs.Common.{Ok, ◌≡◌, ◌⊎◌, inl, inr, ℕ, ◌-◌, ◌<◌, ◌≤◌, ℤ, pos, List, [], ◌∷◌, ◌++◌, length, get_or, Bool, true, false, Some, Less, Greater, int_cmp, IsTrue, arith, refl, sym, ap, subst, ◌∙◌}
use Rattle.std.specs.Prelude.{nat_lt, nat_le, ◌^◌, None, unwrap_or, if◌then◌else◌}
use Rattle.std.specs.List.{list_all}
use Rattle.std.specs.Ordering.{is_ge, is_le, ordering_reverse}
use Rattle.std.proofs.lemmas.Bool.{cases_Bool, ltb-true, ltb-false}
use Rattle.std.proofs.lemmas.List.{get_or_default}
use Rattle.std.proofs.lemmas.Cmp.{int_cmp_total, tied_itself}
use Rattle.sqlite_value.specs.declared.value.Value.TheVariants.{Null, Int}
use Rattle.sqlite_value.specs.declared.keys.Collation.TheVariants.{Binary}
use Rattle.sqlite_value.specs.Order.{Row, value_cmp}
use Rattle.sqlite_value.proofs.OrderLemmas.{value_cmp-Int}
use Rattle.sqlite_trees.specs.Tree.{Trees, IsAscending, rowid}
use Rattle.sqlite_trees.proofs.ListLemmas.{ascending-get_or}
use Rattle.sqlite_sql.specs.Ops.{binary, is_true, from_truth}
use Rattle.sqlite_sql.specs.Term.{Term, col, holds, eval_all}
use Rattle.sqlite_sql.specs.Program.{overlay}
use Rattle.sqlite_sql.specs.declared.ops.BinaryOp.TheVariants.{Compare}
use Rattle.sqlite_sql.specs.declared.ops.CompareOp.TheVariants.{Ge, Le}
use Rattle.sqlite_rules.specs.Lists.{Has}
use Rattle.sqlite_rules.proofs.ListLemmas.{has_left, has_right, has_either, contains_had}
use Rattle.sqlite.specs.Effect.{Database}
use Rattle.sqlite.specs.State.{State, HasCleanDisk, KeepsCommit, Survives}
use Rattle.sqlite.proofs.Callers.{reads_as}
use Rattle.sqltables.specs.Schema.{Version, IsVersion}
use Rattle.sqltables.specs.Means.{IsRunning, IsWhole}
use Rattle.sqltables.specs.Inside.{GoesOnWhere, IsSameLedger, View, seen}
use Rattle.sqltables.proofs.Building.{survives_then, survives_itself, keeps_then}
use Rattle.sqltables.proofs.Forms.{all_rows, some_rows, select}
use Rattle.sqltables.proofs.Queries.{AreFound, answered}
use Rattle.sqltables.proofs.Runs.{itself_keeps}
use Rattle.sqltables.proofs.Shown.{shown_open, shown_unchanged}
use Rattle.sqlaudit.specs.Lines.{AreLinesWhere, HaveRowids}
use Rattle.sqlaudit.specs.Portions.{AsksNumbers, AsksBetween, between, Passes, AreRowids, ShowsNumbers, Shows}
use Rattle.sqlaudit.proofs.Listed.{Lists, lists, rowids, rowid_of, line_of, row_of}

-- a query's own tables come after those of the database
of_database : (b : Bool) (rows : List Row) → unwrap_or (if b then None else None) rows ≡ rows
of_database true rows = refl
of_database false rows = refl

no_overlay : (db : Trees) (tree : ℕ) → overlay db [] tree ≡ db tree
no_overlay db tree = of_database (nat_le (2 ^ 31) tree) (db tree)

-- ---- the rowids

module _ (v : Version) (sql : List ℕ) (tree : ℕ) (asks : AsksNumbers v sql tree) (old new : State) (has : old.now.schema ≡ v.schema) (numbers : List ℤ) (shows : ShowsNumbers sql old new numbers) where
  abbrev number : Row → Row
  number r = eval_all (col 1 0 ∷ []) ([] ∷ r ∷ [])

  listed : Lists number (old.now.trees tree) shows.rows
  listed =
      let read = reads_as sql [] old new v.schema has (select (all_rows tree (col 1 0 ∷ []) asks.order) asks.names) asks.asks.says.is asks.asks.says.plain asks.asks.unlisted shows.rows shows.shown in
      subst (λ rows. Lists number rows shows.rows) (no_overlay old.now.trees tree) (lists tree (col 1 0 ∷ []) asks.order (overlay old.now.trees []) shows.rows (read.answer Null))

  are_rowids : AreRowids (old.now.trees tree) numbers
  are_rowids = record { rising = shows.are.rising; each = rowid_of number (λ r. refl) (old.now.trees tree) shows.rows listed numbers shows.are }

  have_rowids : HaveRowids (old.now.trees tree)
  have_rowids = rowids number (λ r. refl) (old.now.trees tree) shows.rows listed numbers shows.are

  numbers_same : new.now ≡ old.now
  numbers_same = (shown_unchanged v sql (select (all_rows tree (col 1 0 ∷ []) asks.order) asks.names) asks.asks [] old new has shows.rows shows.shown).0.now_is

-- the numbers are the rowids of a table, and the query wrote nothing
pub record Counted (tree : ℕ) (old new : State) (numbers : List ℤ) : Type 0 where
  pub rowids : AreRowids (old.now.trees tree) numbers
  pub have : HaveRowids (old.now.trees tree)
  pub same : new.now ≡ old.now

numbers_open : {sql : List ℕ} {old new : State} {numbers : List ℤ} → ShowsNumbers sql old new numbers → IsTrue old.is_open
numbers_open {sql = sql} {old = old} {new = new} shows = shown_open sql [] old new shows.rows shows.shown

pub counted : (v : Version) (sql : List ℕ) (tree : ℕ) → AsksNumbers v sql tree → (old new : State) → (IsTrue old.is_open → old.now.schema ≡ v.schema) → (numbers : List ℤ) → ShowsNumbers sql old new numbers → Counted tree old new numbers
counted v sql tree asks old new has numbers shows =
    let schema = has (numbers_open shows) in
    record {
      rowids = are_rowids v sql tree asks old new schema numbers shows;
      have = have_rowids v sql tree asks old new schema numbers shows;
      same = numbers_same v sql tree asks old new schema numbers shows;
    }

-- ---- >= and <= between integers

pub truth_of : (b : Bool) → is_true (from_truth (Some b)) ≡ b
truth_of true = refl
truth_of false = refl

at_least : (a b : ℤ) → is_true (binary (Compare Ge Binary) (Int a) (Int b)) ≡ is_ge (int_cmp a b)
unfolding binary
at_least a b = truth_of (is_ge (value_cmp (Int a) (Int b))) ∙ ap is_ge (value_cmp-Int a b)

at_most : (a b : ℤ) → is_true (binary (Compare Le Binary) (Int a) (Int b)) ≡ is_le (int_cmp a b)
unfolding binary
at_most a b = truth_of (is_le (value_cmp (Int a) (Int b))) ∙ ap is_le (value_cmp-Int a b)

passes : (test : List Term) (row : Row) (a b n : ℤ) → Passes test row → rowid row ≡ Int n → is_ge (int_cmp n a) ≡ true → is_le (int_cmp n b) ≡ true → list_all (holds ((Int a ∷ Int b ∷ []) ∷ row ∷ [])) (between ++ test) ≡ true
passes test row a b n more is low high = rw (is, at_least n a, at_most n b, low, high) (more (Int a ∷ Int b ∷ []))

-- ---- one portion

module _ {L : Type 0} (reads : Row → L → Type 0) (v : Version) (sql : List ℕ) (tree : ℕ) (test : List Term) (show : Row → Row) (asks : AsksBetween v sql tree test show) (first last : ℤ)
    (old new : State) (has : old.now.schema ≡ v.schema) (lines : List L) (shows : Shows reads sql (Int first ∷ Int last ∷ []) old new lines) where
  abbrev given : Row
  given = Int first ∷ Int last ∷ []

  found : AreFound (between ++ test) asks.project (old.now.trees tree) given shows.rows
  found =
      let read = reads_as sql given old new v.schema has (select (some_rows tree (between ++ test) asks.project) asks.names) asks.asks.says.is asks.asks.says.plain asks.asks.unlisted shows.rows shows.shown in
      subst (λ rows. AreFound (between ++ test) asks.project rows given shows.rows) (no_overlay old.now.trees tree) (answered tree (between ++ test) asks.project (overlay old.now.trees []) given shows.rows (read.answer Null))

  -- each row in the range of rowids that passes has a line
  pub line_shown : (row : Row) → Has (old.now.trees tree) row → Passes test row → (n : ℤ) → rowid row ≡ Int n → is_ge (int_cmp n first) ≡ true → is_le (int_cmp n last) ≡ true → (line : L) × Has lines line × reads (show row) line
  line_shown row there pass n is low high =
      let shown = found.complete row there (passes test row first last n pass is low high) in
      let l = line_of reads shows.rows lines shows.each (eval_all asks.project (given ∷ row ∷ [])) shown in
      (l.0, l.1, subst (λ r. reads r l.0) (asks.shows given row) l.2)

  -- each line is the line of a row
  pub row_shown : (line : L) → Has lines line → (row : Row) × Has (old.now.trees tree) row × reads (show row) line
  row_shown line there =
      let x = row_of reads shows.rows lines shows.each line there in
      let r = found.sound x.0 x.1 in
      (r.0, r.1, subst (λ y. reads y line) (r.3 ∙ asks.shows given r.0) x.2)

  pub portion_same : new.now ≡ old.now
  portion_same = (shown_unchanged v sql (select (some_rows tree (between ++ test) asks.project) asks.names) asks.asks given old new has shows.rows shows.shown).0.now_is

-- ---- strictly ascending numbers

abbrev Below : ℤ → ℤ → Type 0
Below a b = int_cmp a b ≡ Less

abbrev Rising : List ℤ → Type 0
Rising = IsAscending Below

is_le_below : (a b : ℤ) → int_cmp a b ≡ Less → is_le (int_cmp a b) ≡ true
is_le_below a b h = rw h refl

is_ge_above : (a b : ℤ) → int_cmp b a ≡ Less → is_ge (int_cmp a b) ≡ true
is_ge_above a b h = let e : int_cmp a b ≡ Greater = int_cmp_total.antisymm a b ∙ ap ordering_reverse h in rw e refl

le_itself : (a : ℤ) → is_le (int_cmp a a) ≡ true
le_itself a = rw (tied_itself int_cmp_total a) refl

ge_itself : (a : ℤ) → is_ge (int_cmp a a) ≡ true
ge_itself a = rw (tied_itself int_cmp_total a) refl

-- ---- one portion after another

-- the numbers in a portion lie between its first and its last
within_portion : (numbers : List ℤ) (at i end : ℕ) (d : ℤ) → Rising numbers → at ≤ i → i < end → end ≤ length numbers
    → (is_ge (int_cmp (get_or numbers i d) (get_or numbers at d)) ≡ true) × (is_le (int_cmp (get_or numbers i d) (get_or numbers (end - 1) d)) ≡ true)
within_portion numbers at i end d rising from to within = (low (cases_order at i), high (cases_order i (end - 1)))
  where
    cases_order : (a b : ℕ) → (a < b) ⊎ (b ≤ a)
    cases_order a b = elim (cases_Bool (nat_lt a b)) [ inl less ↦ inl (ltb-true a b less) | inr not ↦ inr (ltb-false a b not) ]

    low : (at < i) ⊎ (i ≤ at) → is_ge (int_cmp (get_or numbers i d) (get_or numbers at d)) ≡ true
    low (inl less) = is_ge_above (get_or numbers i d) (get_or numbers at d) (ascending-get_or Below numbers at i d rising less (omega (arith, to, within)))
    low (inr not) = subst (λ k. is_ge (int_cmp (get_or numbers i d) (get_or numbers k d)) ≡ true) (let e : i ≡ at = omega (arith, from, not) in e) (ge_itself (get_or numbers i d))

    high : (i < end - 1) ⊎ (end - 1 ≤ i) → is_le (int_cmp (get_or numbers i d) (get_or numbers (end - 1) d)) ≡ true
    high (inl less) = is_le_below (get_or numbers i d) (get_or numbers (end - 1) d) (ascending-get_or Below numbers i (end - 1) d rising less (omega (arith, less, to, within)))
    high (inr not) = subst (λ k. is_le (int_cmp (get_or numbers i d) (get_or numbers k d)) ≡ true) (let e : i ≡ end - 1 = omega (arith, to, not) in e) (le_itself (get_or numbers i d))

-- the table that is read, in a transaction that goes on
pub record Opens (v : Version) (sql : List ℕ) (tree : ℕ) (test : List Term) (show : Row → Row) (entry : State) : Type 0 where
  pub asks : AsksBetween v sql tree test show
  pub schema : IsTrue entry.is_open → entry.now.schema ≡ v.schema
  pub running : IsRunning entry

-- the rows with the first `at` numbers were read, and the lines belong to rows of the table
pub record Portioned {L : Type 0} (reads : Row → L → Type 0) (sql : List ℕ) (entry now : State) (numbers : List ℤ) (at : ℕ) (lines : List L) : Type 0 where
  pub uncommitted : HasCleanDisk now → IsRunning entry → KeepsCommit entry now
  pub survives : Survives entry now (λ db. ⊥)
  pub running : HasCleanDisk now → IsRunning entry → IsRunning now
  pub same : (v : Version) (tree : ℕ) (test : List Term) (show : Row → Row) → Opens v sql tree test show entry → HasCleanDisk now → now.now ≡ entry.now
  pub all : (v : Version) (tree : ℕ) (test : List Term) (show : Row → Row) → Opens v sql tree test show entry → HasCleanDisk now
      → (line : L) → Has lines line → (row : Row) × Has (entry.now.trees tree) row × reads (show row) line
  pub each : (v : Version) (tree : ℕ) (test : List Term) (show : Row → Row) → Opens v sql tree test show entry → HasCleanDisk now → Rising numbers
      → (row : Row) → Has (entry.now.trees tree) row → Passes test row → (i : ℕ) → i < at → rowid row ≡ Int (get_or numbers i (pos 0)) → (line : L) × Has lines line × reads (show row) line

module _ {L : Type 0} (reads : Row → L → Type 0) (sql : List ℕ) where
  pub none_read : (s : State) (numbers : List ℤ) → Portioned reads sql s s numbers 0 []
  none_read s numbers = record {
    uncommitted = λ clean running. itself_keeps s;
    survives = survives_itself s;
    running = λ clean running. running;
    same = λ v tree test show opens clean. refl;
    all = λ v tree test show opens clean line there. absurd there;
    each = λ v tree test show opens clean rising row there pass i before is. absurd (omega (arith, before));
  }

  -- the effect of the next query
  pub record ReadsOn (mid now : State) (first last : ℤ) (more : List L) : Type 0 where
    pub read : HasCleanDisk now → Shows reads sql (Int first ∷ Int last ∷ []) mid now more
    pub running : HasCleanDisk now → IsTrue mid.in_transaction → IsRunning now
    pub uncommitted : HasCleanDisk now → IsTrue mid.in_transaction → KeepsCommit mid now
    pub survives : Survives mid now (λ db. ⊥)

  module _ (entry mid now : State) (numbers : List ℤ) (at end : ℕ) (lines more : List L) (p : Portioned reads sql entry mid numbers at lines)
      (next : ReadsOn mid now (get_or numbers at (pos 0)) (get_or numbers (end - 1) (pos 0)) more) (within : end ≤ length numbers) where
    early : HasCleanDisk now → HasCleanDisk mid
    early clean = omega (arith, clean, next.survives.clean)

    module _ (v : Version) (tree : ℕ) (test : List Term) (show : Row → Row) (opens : Opens v sql tree test show entry) (clean : HasCleanDisk now) where
      still : mid.now ≡ entry.now
      still = p.same v tree test show opens (early clean)

      has : mid.now.schema ≡ v.schema
      has = ap (λ (d : Database). d.schema) still ∙ opens.schema ((p.uncommitted (early clean) opens.running).was_open (p.running (early clean) opens.running).1)

      abbrev rows : List Row
      rows = entry.now.trees tree

      into : (row : Row) → Has rows row → Has (mid.now.trees tree) row
      into row there = subst (λ (d : Database). Has (d.trees tree) row) (sym still) there

      new_line : Rising numbers → (row : Row) → Has rows row → Passes test row → (i : ℕ) → at ≤ i → i < end → rowid row ≡ Int (get_or numbers i (pos 0)) → (line : L) × Has more line × reads (show row) line
      new_line rising row there pass i from to is =
          let bounds = within_portion numbers at i end (pos 0) rising from to within in
          line_shown reads v sql tree test show opens.asks _ _ mid now has more (next.read clean) row (into row there) pass (get_or numbers i (pos 0)) is bounds.0 bounds.1

      new_row : (line : L) → Has more line → (row : Row) × Has rows row × reads (show row) line
      new_row line there =
          let r = row_shown reads v sql tree test show opens.asks _ _ mid now has more (next.read clean) line there in
          (r.0, subst (λ (d : Database). Has (d.trees tree) r.0) still r.1, r.2)

    pub read_on : Portioned reads sql entry now numbers end (lines ++ more)
    read_on = record {
      uncommitted = λ clean running. keeps_then entry mid now (p.uncommitted (early clean) running) (next.uncommitted clean (p.running (early clean) running).0);
      survives = survives_then entry mid now p.survives next.survives;
      running = λ clean running. next.running clean (p.running (early clean) running).0;
      same = λ v tree test show opens clean. portion_same reads v sql tree test show opens.asks _ _ mid now (has v tree test show opens clean) more (next.read clean) ∙ still v tree test show opens clean;
      all = λ v tree test show opens clean line there. elim (has_either lines more line there) [
        | inl old ↦ p.all v tree test show opens (early clean) line old
        | inr new ↦ new_row v tree test show opens clean line new
      ];
      each = λ v tree test show opens clean rising row there pass i before is. elim (cases_Bool (nat_lt i at)) [
        | inl old ↦ let l = p.each v tree test show opens (early clean) rising row there pass i (ltb-true i at old) is in (l.0, has_left lines more l.0 l.1, l.2)
        | inr new ↦ let l = new_line v tree test show opens clean rising row there pass i (ltb-false i at new) before is in (l.0, has_right lines more l.0 l.1, l.2)
      ];
    }

  -- all rows that pass were read
  pub all_read : (entry now : State) (numbers : List ℤ) (at : ℕ) (lines : List L) → Portioned reads sql entry now numbers at lines → length numbers ≤ at
      → (v : Version) (tree : ℕ) (test : List Term) (show : Row → Row) → Opens v sql tree test show entry → HasCleanDisk now → AreRowids (entry.now.trees tree) numbers
      → AreLinesWhere (Passes test) (λ row line. reads (show row) line) (entry.now.trees tree) lines
  all_read entry now numbers at lines p done v tree test show opens clean are = record {
    each = λ row there pass.
        let n = are.each row there in
        let c = contains_had numbers n.0 n.1 in
        p.each v tree test show opens clean are.rising row there pass c.0 (omega (arith, c.1, done)) (n.2 ∙ ap Int (sym c.2 ∙ get_or_default numbers c.0 n.0 (pos 0) c.1));
    all = p.all v tree test show opens clean;
  }

-- ---- a call between two portions

-- the effect of a call that writes nothing
pub record GoesFrom (mid now : State) : Type 0 where
  pub uncommitted : HasCleanDisk now → IsRunning mid → KeepsCommit mid now
  pub survives : Survives mid now (λ db. ⊥)
  pub running : HasCleanDisk now → IsRunning mid → IsRunning now
  pub same : (v : Version) → IsVersion v → (IsTrue mid.is_open → mid.now.schema ≡ v.schema) → IsRunning mid → HasCleanDisk now → now.now ≡ mid.now

-- a transaction that sees the same as at first
pub record Sees (v : Version) (entry now : State) : Type 0 where
  pub same : now.now ≡ entry.now
  pub schema : IsTrue now.is_open → now.now.schema ≡ v.schema
  pub whole : (IsTrue entry.is_open → IsWhole entry.now) → IsTrue now.is_open → IsWhole now.now
  pub running : IsRunning now

module _ {L : Type 0} (reads : Row → L → Type 0) (sql : List ℕ) (entry mid : State) (numbers : List ℤ) (at : ℕ) (lines : List L) (p : Portioned reads sql entry mid numbers at lines) where
  pub sees : (v : Version) (tree : ℕ) (test : List Term) (show : Row → Row) → Opens v sql tree test show entry → HasCleanDisk mid → Sees v entry mid
  sees v tree test show opens clean =
      let still = p.same v tree test show opens clean in
      let keeps = p.uncommitted clean opens.running in
      record {
        same = still;
        schema = λ is_open. ap (λ (d : Database). d.schema) still ∙ opens.schema (keeps.was_open is_open);
        whole = λ whole is_open. subst IsWhole (sym still) (whole (keeps.was_open is_open));
        running = p.running clean opens.running;
      }

  pub portioned_on : (now : State) → GoesFrom mid now → Portioned reads sql entry now numbers at lines
  portioned_on now goes = record {
    uncommitted = λ clean running. keeps_then entry mid now (p.uncommitted (early clean) running) (goes.uncommitted clean (p.running (early clean) running));
    survives = survives_then entry mid now p.survives goes.survives;
    running = λ clean running. goes.running clean (p.running (early clean) running);
    same = λ v tree test show opens clean. let s = sees v tree test show opens (early clean) in goes.same v opens.asks.version s.schema s.running clean ∙ s.same;
    all = λ v tree test show opens clean. p.all v tree test show opens (early clean);
    each = λ v tree test show opens clean. p.each v tree test show opens (early clean);
  }
    where
      early : HasCleanDisk now → HasCleanDisk mid
      early clean = omega (arith, clean, goes.survives.clean)

-- the effect of the calls so far
pub portioned_goes : {S L : Type 0} {g : S → View} {reads : Row → L → Type 0} {sql : List ℕ} {old now : S} {numbers : List ℤ} {at : ℕ} {lines : List L} → IsSameLedger g old now → Portioned reads sql (seen g old) (seen g now) numbers at lines
    → {T : Type 0} (value : T) → GoesOnWhere (IsRunning (seen g old)) (IsRunning (seen g old)) g old now (Ok value)
portioned_goes same p value = record { same_reference = same; running = p.running; uncommitted = p.uncommitted; survives = p.survives }
