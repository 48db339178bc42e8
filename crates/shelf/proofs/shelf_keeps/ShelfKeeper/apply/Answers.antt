use Rattle.std.proofs.Common.{◌≡◌, List, ℕ, inl, inr, subst, sym, arith}
use Rattle.std.proofs.lemmas.Result.{on_ok_weaker, on_err_weaker}
use Rattle.boxes.specs.State.{State}
use Rattle.boxes.specs.declared.change.Change.{Change}
use Rattle.boxes.specs.declared.change.Change.TheVariants as change
use Rattle.boxes.specs.declared.change.NewFile.{NewFile}
use Rattle.boxes.specs.Changes.{IsChangeOf, IsFileSet}
use Rattle.shelf.specs.OneState.{one_state}
use Rattle.shelf.proofs.shelf_keeps.ShelfKeeper.apply.Goals as goal

-- a file is set to the staged bytes
of_staged : (held : List ℕ) (s after : State) (it : Change) (f : NewFile) → it ≡ change.SetFile f → IsChangeOf (λ bytes. held ≡ bytes) s it after → IsFileSet s f held after
of_staged held s after it f is h =
    let set = subst (λ (x : Change). IsChangeOf (λ bytes. held ≡ bytes) s x after) is h in
    subst (λ (bytes : List ℕ). IsFileSet s f bytes after) (sym set.1) set.2

pub returns-in-SetFile-clause-made : goal.returns-in-SetFile-clause-made
returns-in-SetFile-clause-made c s after h sound change =
    c.set_staged.ensures.made s after h sound (of_staged c.args.self.now.staged.items s after c.args.change.now c.in-SetFile.file c.in-SetFile.is change)

pub returns-in-SetFile-clause-durable : goal.returns-in-SetFile-clause-durable
returns-in-SetFile-clause-durable c s after h sound change honest =
    let set = of_staged c.args.self.now.staged.items s after c.args.change.now c.in-SetFile.file c.in-SetFile.is change in
    on_ok_weaker c.set_staged.result (λ now. record { there = now; alone = λ t l. one_state c.set_staged.new.self t after l now; whole = tt }) (c.set_staged.ensures.made s after h sound set)

pub returns-in-Desk-clause-durable : goal.returns-in-Desk-clause-durable
returns-in-Desk-clause-durable c s after h sound change honest =
    let there = subst (λ x. IsChangeOf (λ bytes. c.args.self.now.staged.items ≡ bytes) s x after) c.in-Desk.is change in
    on_ok_weaker c.obey.result (λ now. record { there = now; alone = λ t l. one_state c.obey.new.self t after l now; whole = tt }) (c.obey.ensures.made s after h sound there)

pub returns-in-SetFile-clause-crash : goal.returns-in-SetFile-clause-crash
returns-in-SetFile-clause-crash c s after h sound change honest =
    on_err_weaker c.set_staged.result (λ now. record { either = λ t l. inr (inl (one_state c.set_staged.new.self t s l now)); whole = λ whole. tt }) (c.set_staged.ensures.same s h)

pub returns-in-Desk-clause-crash : goal.returns-in-Desk-clause-crash
returns-in-Desk-clause-crash c s after h sound change honest =
    on_err_weaker c.obey.result (λ now. record { either = λ t l. inr (inl (one_state c.obey.new.self t s l now)); whole = λ whole. tt }) (c.obey.ensures.same s h)

pub returns-in-SetFile-clause-count : goal.returns-in-SetFile-clause-count
returns-in-SetFile-clause-count c = c.set_staged.ensures.count

pub returns-in-SetFile-clause-same : goal.returns-in-SetFile-clause-same
returns-in-SetFile-clause-same c = c.set_staged.ensures.same

pub returns-in-SetFile-clause-honest : goal.returns-in-SetFile-clause-honest
returns-in-SetFile-clause-honest c = λ h. tt

pub returns-in-Desk-clause-count : goal.returns-in-Desk-clause-count
returns-in-Desk-clause-count c = c.obey.ensures.count

pub returns-in-Desk-clause-same : goal.returns-in-Desk-clause-same
returns-in-Desk-clause-same c = c.obey.ensures.same

pub returns-in-Desk-clause-honest : goal.returns-in-Desk-clause-honest
returns-in-Desk-clause-honest c = λ h. tt

pub returns-in-Desk-clause-made : goal.returns-in-Desk-clause-made
returns-in-Desk-clause-made c s after h sound change = c.obey.ensures.made s after h sound (subst (λ x. IsChangeOf (λ bytes. c.args.self.now.staged.items ≡ bytes) s x after) c.in-Desk.is change)

pub returns-in-Desk-clause-emptied : goal.returns-in-Desk-clause-emptied
returns-in-Desk-clause-emptied c = grind arith

pub returns-in-Desk-clause-first : goal.returns-in-Desk-clause-first
returns-in-Desk-clause-first c = grind arith

pub returns-in-Desk-clause-full : goal.returns-in-Desk-clause-full
returns-in-Desk-clause-full c = grind arith

pub returns-in-Desk-clause-opened : goal.returns-in-Desk-clause-opened
returns-in-Desk-clause-opened c = grind arith

pub returns-in-Desk-clause-room : goal.returns-in-Desk-clause-room
returns-in-Desk-clause-room c = grind arith

pub returns-in-Desk-clause-staged : goal.returns-in-Desk-clause-staged
returns-in-Desk-clause-staged c = grind arith

pub returns-in-SetFile-clause-emptied : goal.returns-in-SetFile-clause-emptied
returns-in-SetFile-clause-emptied c = grind arith

pub returns-in-SetFile-clause-first : goal.returns-in-SetFile-clause-first
returns-in-SetFile-clause-first c = grind arith

pub returns-in-SetFile-clause-full : goal.returns-in-SetFile-clause-full
returns-in-SetFile-clause-full c = grind arith

pub returns-in-SetFile-clause-opened : goal.returns-in-SetFile-clause-opened
returns-in-SetFile-clause-opened c = grind arith

pub returns-in-SetFile-clause-room : goal.returns-in-SetFile-clause-room
returns-in-SetFile-clause-room c = grind arith

pub returns-in-SetFile-clause-staged : goal.returns-in-SetFile-clause-staged
returns-in-SetFile-clause-staged c = grind arith
