-- What is known about a connection over which a query succeeded.
use Rattle.std.proofs.Common.{◌≡◌, None, Some, Option, List, ℕ, IsTrue, sym, ap, subst, ◌∙◌}
use Rattle.sqlite_value.specs.Order.{Row}
use Rattle.sqlite_schema.specs.declared.command.Command.{Command}
use Rattle.sqlite_schema.specs.declared.command.Returning.{Returning}
use Rattle.sqlite.specs.Clock.{timed}
use Rattle.sqlite.proofs.Callers.{IsPlain}
use Rattle.sqlite.specs.Listing.{understood}
use Rattle.sqlite.specs.State.{State, IsUnchanged, Shown, ShowsRows}
use Rattle.sqltables.specs.Schema.{Version}
use Rattle.sqltables.proofs.Says.{Asks}

-- a query of the schema's own tables changes nothing
pub shown_unchanged : (v : Version) (text : List ℕ) (command : Command) (asks : Asks v.schema text command) (params : Row) (old new : State) → old.now.schema ≡ v.schema → (rows : List Row) → Shown text params old new rows → IsUnchanged old new
unfolding Shown
shown_unchanged v text command asks params old new has rows h =
    let known = sym h.1.is ∙ ap (λ s. understood s text) has in
    let bare = subst IsPlain (sym known) asks.says.plain in
    (rw bare.0 at h.2).3

pub shown_open : (sql : List ℕ) (params : Row) (old new : State) (rows : List Row) → Shown sql params old new rows → IsTrue old.is_open
unfolding Shown
shown_open sql params old new rows h = go h.0.returning h.2
  where
    go : (o : Option Returning) → ShowsRows old new sql h.0 (timed params h.0.formats h.1.now) rows o → IsTrue old.is_open
    go None s = s.3.0.was_open
    go (Some what) s = s.1.shown.was_open
