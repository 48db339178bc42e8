-- The rows of the boxes that a key is limited to.
use Rattle.std.proofs.Common.{◌≡◌, ℕ, List, [], ◌∷◌, Bool, Option, true, false, None, Some, Result, Ok, Err, IfOk, IsTrue, refl, sym, ap, subst, ◌∙◌}
use Rattle.std.specs.Prelude.{◌↔◌, is_some, IsSome}
use Rattle.sqlite_value.specs.declared.value.Value.TheVariants.{Null, Text}
use Rattle.sqlite_value.specs.Order.{Row}
use Rattle.sqlite_sql.specs.Term.{eval_all}
use Rattle.sqlite_sql.specs.Program.{overlay}
use Rattle.sqlite_rules.specs.Lists.{Has}
use Rattle.sqlite.specs.declared.error.Error.{Error}
use Rattle.sqlite.specs.State.{State, Shown}
use Rattle.sqlite.specs.Term.{Term, col}
use Rattle.sqlite.proofs.Callers.{reads_as}
use Rattle.boxes.specs.State.{Limit}
use Rattle.sqltables.specs.Schema.{v2, s9}
use Rattle.sqltables.specs.Tables.{Tables, RowsMean, IsLimitRow}
use Rattle.sqltables.specs.Means.{Holds}
use Rattle.sqltables.specs.Questions.{AreLimits, HasLimit, ReachesBox, ShowsText, first_text, shown_name}
use Rattle.sqltables.proofs.Forms.{is}
use Rattle.sqltables.proofs.AddedTexts.{select_limits, select_limits_command, select_limits_is}
use Rattle.sqltables.proofs.Runs.{shown_keeps}
use Rattle.sqltables.proofs.Keys.{tells_bytes}
use Rattle.sqltables.proofs.Queries.{AreFound, answered}
use Rattle.sqlquestions.proofs.PointQueries.{passes_text}

abbrev tests : List Term
tests = is 1 0 ∷ []

abbrev shows : List Term
shows = col 1 2 ∷ []

some_there : {X : Type 0} (o : Option X) → IsSome o → (x : X) × (o ≡ Some x)
some_there None h = absurd (let e : false ≡ true = h in cc)
some_there (Some x) h = (x, refl)

limit_rows : (lookup : Limit → Option (Unit {0})) (id : List ℕ) (rows found : List Row) → RowsMean IsLimitRow lookup rows → AreFound tests shows rows (Text id ∷ []) found → AreLimits lookup id found
limit_rows lookup id rows found means are = record {
  sound = λ x has.
      let r = are.sound x has in
      let e = means.each r.0 r.1 in
      let limit : Limit = e.0 in
      let same : limit.key ≡ id = tells_bytes.only limit.key id (sym (passes_text id limit.key r.0 e.2.key_is) ∙ r.2) in
      (limit.box, r.3 ∙ (rw e.2.box_is), ap is_some (ap (λ k. lookup (record { key = k; box = limit.box })) (sym same) ∙ e.3));
  complete = λ box some.
      let limit : Limit = record { key = id; box = box } in
      let there = some_there (lookup limit) some in
      let r = means.all limit there.0 there.1 in
      let shown : shown_name box ≡ eval_all shows ((Text id ∷ []) ∷ r.0 ∷ []) = rw r.2.box_is in
      subst (Has found) (sym shown) (are.complete r.0 r.1 (passes_text id id r.0 r.2.key_is ∙ tells_bytes.itself id));
}

pub shows_limits : {X : Type 0} (rows_of : X → List Row) (r : Result X Error) (id : List ℕ) (old new : State) (tables : Tables)
    → IsTrue old.in_transaction → (IsTrue old.is_open → Holds v2 old.now tables)
    → IfOk r (λ x. Shown select_limits (Text id ∷ []) old new (rows_of x)) → IfOk r (λ x. AreLimits tables.limit id (rows_of x))
shows_limits rows_of (Err e) id old new tables inside pends h = tt
shows_limits rows_of (Ok x) id old new tables inside pends h =
    let it = pends (shown_keeps select_limits (Text id ∷ []) old new (rows_of x) inside h).0 in
    let read = reads_as select_limits (Text id ∷ []) old new s9 it.schema select_limits_command select_limits_is.says.is select_limits_is.says.plain select_limits_is.unlisted (rows_of x) h in
    let are : AreFound tests shows (old.now.trees 12) (Text id ∷ []) (rows_of x) = answered 12 tests shows (overlay old.now.trees []) (Text id ∷ []) (rows_of x) (read.answer Null) in
    limit_rows tables.limit id (old.now.trees 12) (rows_of x) (it.means.limits refl) are

-- ---- what the rows mean

-- a row exists, so the key is limited and may use the boxes that are shown
reaches : (tables : Tables) (id box : List ℕ) (rows : List Row) (b : Bool) → AreLimits tables.limit id rows → (row : Row) → Has rows row → (IsTrue b ↔ ShowsText rows box)
    → IsTrue b ↔ ReachesBox tables id box
reaches tables id box rows b are row has tells = (
  λ shown limited.
      let s = tells.0 shown in
      let e = are.sound s.row s.there in
      let same : e.0 ≡ box = sym (ap first_text e.1) ∙ s.first in
      subst (λ q. HasLimit tables id q) same e.2,
  λ may.
      let first = are.sound row has in
      tells.1 (record { row = shown_name box; there = are.complete box (may (first.0, first.2)); first = refl }),
)

pub reaches_box : (tables : Tables) (id box : List ℕ) (rows : List Row) (r : Result Bool Error) → AreLimits tables.limit id rows → (row : Row) → Has rows row
    → IfOk r (λ b. IsTrue b ↔ ShowsText rows box) → IfOk r (λ b. IsTrue b ↔ ReachesBox tables id box)
reaches_box tables id box rows (Ok b) are row has tells = reaches tables id box rows b are row has tells
reaches_box tables id box rows (Err e) are row has tells = tt
