-- What a query by key shows in general, and that it changes nothing.
use Rattle.std.proofs.Common.{◌≡◌, inl, ℕ, List, [], ◌∷◌, ◌++◌, length, Option, None, Some, option_map, Bool, Result, Ok, Err, IfOk, OnOk, IsTrue, refl, sym, ap, subst, ◌∙◌}
use Rattle.std.specs.Prelude.{option_to_list}
use Rattle.std.specs.List.{list_all}
use Rattle.sqlite_value.specs.declared.value.Value.TheVariants.{Null}
use Rattle.sqlite_value.specs.Order.{Row}
use Rattle.sqlite_trees.specs.Tree.{Trees}
use Rattle.sqlite_sql.specs.Term.{Term, holds, eval_all}
use Rattle.sqlite_sql.specs.Program.{overlay}
use Rattle.sqlite_rules.specs.Lists.{Has}
use Rattle.sqlite_rules.proofs.ListLemmas.{has_right}
use Rattle.sqlite.specs.declared.error.Error.{Error}
use Rattle.sqlite.specs.Clock.{timed}
use Rattle.sqlite.specs.Given.{IsPlain}
use Rattle.sqlite.specs.Listing.{understood}
use Rattle.sqlite.specs.State.{State, HasCleanDisk, Shown, ShowsRows}
use Rattle.sqlite.proofs.Callers.{reads_as}
use Rattle.sqltables.specs.Schema.{Version}
use Rattle.sqltables.specs.Tables.{Tables, TablesMean, RowsMean}
use Rattle.sqltables.specs.Questions.{ShowsRow}
use Rattle.sqltables.specs.Means.{Holds, Pends}
use Rattle.sqltables.proofs.Says.{Asks}
use Rattle.sqltables.proofs.Forms.{some_rows, select}
use Rattle.sqltables.proofs.Queries.{AreFound, answered}
use Rattle.sqltables.proofs.Keys.{Tells}
use Rattle.sqltables.proofs.Runs.{shown_keeps, shown_runs}

-- ---- nothing changes

shown_stays : (sql : List ℕ) (params : Row) (old new : State) (rows : List Row) → IsPlain (understood old.now.schema sql) → Shown sql params old new rows → new.now ≡ old.now
unfolding Shown
shown_stays sql params old new rows plain h =
    let none = (subst IsPlain h.1.is plain).0 in
    let it = subst (ShowsRows old new sql h.0 (timed params h.0.formats h.1.now) rows) none h.2 in it.3.0.now_is

pub still_pends : (v : Version) (tables : Tables) (sql : List ℕ) (params : Row) (old new : State) (rows : List Row) → IsPlain (understood v.schema sql)
    → HasCleanDisk old → Pends v old tables → Shown sql params old new rows → IsTrue new.in_transaction → Holds v new.now tables
still_pends v tables sql params old new rows plain early pends shown inside =
    let run = shown_runs sql params old new rows shown in
    let it = pends early (subst IsTrue run.2 inside) run.0 in
    let same = shown_stays sql params old new rows (subst (λ s. IsPlain (understood s sql)) (sym it.schema) plain) shown in
    subst (λ db. Holds v db tables) (sym same) it

-- ---- the last of the rows

pub last_has : {X : Type 0} (before : List X) (row : Option X) (x : X) → row ≡ Some x → Has (before ++ option_to_list row) x
last_has before None x some = cc
last_has before (Some y) x some = has_right before (y ∷ []) x (inl (let same : y ≡ x = cc in sym same))

pub no_items : {X : Type 0} (xs : List X) → length xs ≡ 0 → xs ≡ []
no_items [] none = refl
no_items (x ∷ xs) none = cc

-- ---- a query by key

module _ {K V : Type 0} (IsRow : Row → K → V → Type 0) (lookup : K → Option V) (same : K → K → Bool) (tells : Tells same) (filter project : List Term) (shown : V → Row) (given : Row) (k : K) where
  -- WHERE passes the rows of this key, and these columns of them are shown
  pub record Picks : Type 0 where
    pub passes : (row : Row) (q : K) (v : V) → IsRow row q v → list_all (holds (given ∷ row ∷ [])) filter ≡ same q k
    pub shows : (row : Row) (v : V) → IsRow row k v → eval_all project (given ∷ row ∷ []) ≡ shown v

  module _ (picks : Picks) (rows found : List Row) (means : RowsMean IsRow lookup rows) (are : AreFound filter project rows given found) where
    of_entry : (x : Row) → Has found x → (v : V) × (x ≡ shown v) × (lookup k ≡ Some v)
    of_entry x has =
        let r = are.sound x has in
        let e = means.each r.0 r.1 in
        let at : e.0 ≡ k = tells.only e.0 k (sym (picks.passes r.0 e.0 e.1 e.2) ∙ r.2) in
        (e.1, r.3 ∙ picks.shows r.0 e.1 (subst (λ q. IsRow r.0 q e.1) at e.2), ap lookup (sym at) ∙ e.3)

    of_none : (there : Option V) → lookup k ≡ there → found ≡ [] → None ≡ option_map shown there
    of_none None is none = refl
    of_none (Some v) is none =
        let r = means.all k v is in
        absurd (subst (λ l. Has l (eval_all project (given ∷ r.0 ∷ []))) none (are.complete r.0 r.1 (picks.passes r.0 k v r.2 ∙ tells.itself k)))

    one_row : (row : Option Row) → ((r : Row) → row ≡ Some r → Has found r) → (row ≡ None → found ≡ []) → row ≡ option_map shown (lookup k)
    one_row None some none = of_none (lookup k) refl (none refl)
    one_row (Some r) some none = let e = of_entry r (some r refl) in ap Some e.1 ∙ sym (ap (option_map shown) e.2)

-- the row that is shown is the row of the entry, if the entry exists
pub finds_row : {K V : Type 0} (IsRow : Row → K → V → Type 0) (lookup : K → Option V) (same : K → K → Bool) (tells : Tells same) (filter project : List Term) (shown : V → Row) (given : Row) (k : K)
    → Picks IsRow lookup same tells filter project shown given k
    → (v : Version) (tree : ℕ) (names : List (List ℕ)) (sql : List ℕ) (asks : Asks v.schema sql (select (some_rows tree filter project) names)) (old new : State) (tables : Tables)
    → (own : (db : Trees) → overlay db [] tree ≡ db tree) → (TablesMean v old.now.trees tables → RowsMean IsRow lookup (old.now.trees tree))
    → IsTrue old.in_transaction → (IsTrue old.is_open → Holds v old.now tables)
    → (r : Result (Option Row) Error) → IfOk r (ShowsRow sql given old new) → IfOk r (λ row. row ≡ option_map shown (lookup k))
finds_row IsRow lookup same tells filter project shown given k picks v tree names sql asks old new tables own means inside pends (Err e) h = tt
finds_row IsRow lookup same tells filter project shown given k picks v tree names sql asks old new tables own means inside pends (Ok row) h =
    let it = pends (shown_keeps sql given old new h.rows inside h.shown).0 in
    let read = reads_as sql given old new v.schema it.schema (select (some_rows tree filter project) names) asks.says.is asks.says.plain asks.unlisted h.rows h.shown in
    let are = subst (λ rows. AreFound filter project rows given h.rows) (own old.now.trees) (answered tree filter project (overlay old.now.trees []) given h.rows (read.answer Null)) in
    one_row IsRow lookup same tells filter project shown given k picks (old.now.trees tree) h.rows (means it.means) are row h.some h.none

-- ---- what such a row means

pub none_there : {V : Type 0} (shown : V → Row) (there : Option V) → None ≡ option_map shown there → there ≡ None
none_there shown None h = refl
none_there shown (Some v) h = cc

pub some_there : {V : Type 0} (shown : V → Row) (there : Option V) (row : Row) → Some row ≡ option_map shown there → (v : V) × (row ≡ shown v) × (there ≡ Some v)
some_there shown None row h = cc
some_there shown (Some v) row h = (v, (let same : row ≡ shown v = cc in same), refl)

-- ---- a query as it was answered

pub query_stays : {X : Type 0} (rows_of : X → List Row) (v : Version) (tables : Tables) (sql : List ℕ) (params : Row) (old new : State) (r : Result X Error) → IsPlain (understood v.schema sql)
    → (HasCleanDisk new → HasCleanDisk old) → Pends v old tables → (HasCleanDisk new → IfOk r (λ x. Shown sql params old new (rows_of x))) → OnOk r (Pends v new tables)
query_stays rows_of v tables sql params old new (Ok x) plain early pends shown = λ clean inside is_open. still_pends v tables sql params old new (rows_of x) plain (early clean) pends (shown clean) inside
query_stays rows_of v tables sql params old new (Err e) plain early pends shown = tt

pub none_is_some : {X : Type 0} (x : X) → ◌≡◌ {A = Option X} None (Some x) → ⊥
none_is_some x e = cc

pub some_is_some : {X : Type 0} (x y : X) → ◌≡◌ {A = Option X} (Some x) (Some y) → x ≡ y
some_is_some x y e = cc
