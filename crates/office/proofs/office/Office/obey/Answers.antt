use Rattle.std.proofs.Common.{◌≡◌, ◌∙◌, Result, Err, Ok, ap, inl, rules, arith}
use Rattle.boxes.specs.declared.keep.KeepFault.{KeepFault}
use Rattle.boxes.specs.declared.keep.KeepFault.TheVariants.{Full}
use Rattle.office.specs.declared.requests.commanding.DeskFault.{DeskFault}
use Rattle.office.specs.declared.requests.commanding.DeskFault.TheVariants as fault
use Rattle.boxes.specs.Changes.{command_of}
use Rattle.boxes.specs.declared.change.Change.TheVariants as change
use Rattle.office.specs.Crashes.{changed}
use Rattle.office.proofs.Endurance.{asked_standing, of_either, then_asked}
use Rattle.office.proofs.Possible.{decided, obeys}
use Rattle.office.proofs.Holding.{holds_less, holds_then}
use Rattle.office.proofs.Unstaged.{asked_holds, failed_holds}
use Rattle.office.proofs.KeeperCalls.{changed_holds}
use Rattle.office.proofs.office.Office.obey.Goals as goal

pub returns-in-Ok-apply-clause-does : goal.returns-in-Ok-apply-clause-does
returns-in-Ok-apply-clause-does g c s kept form =
    let command = command_of c.args.command.now in
    let view = c.in-Ok.ensures.view s (record { means = kept.means; is_honest = c.apply.ensures.honest kept.is_honest; sound = kept.sound }) in
    let possible = decided s command c.desk.result (c.desk.ensures s kept.sound view) (search rules) in
    let it = obeys s command form possible in
    let means = c.look_at.ensures.rest.same s kept.means in (
      it.0,
      it.1,
      record {
        means = record { meant = c.in-Ok-apply.ensures.made s it.0 means kept.sound it.1; lasts = changed (c.in-Ok-apply.ensures.durable s it.0 means kept.sound it.1 kept.is_honest) };
        sound = c.law_of_changes.ensures s it.0 (change.Desk c.args.command.now) kept.sound it.1;
      },
    )

kept_full : {T : Type 0} (f : KeepFault) → ◌≡◌ {A = Result T DeskFault} (Err (fault.Kept f)) (Err (fault.Kept Full)) → f ≡ Full
kept_full f e = inner (first _ _ e)
  where
    first : {T : Type 0} (x y : DeskFault) → ◌≡◌ {A = Result T DeskFault} (Err x) (Err y) → x ≡ y
    first x y e = cc

    inner : fault.Kept f ≡ fault.Kept Full → f ≡ Full
    inner e = cc

pub returns-clause-room : goal.returns-clause-room
returns-clause-room g c s kept form full =
    let command = command_of c.args.command.now in
    let view = c.in-Ok.ensures.view s (record { means = kept.means; is_honest = c.apply.ensures.honest kept.is_honest; sound = kept.sound }) in
    let possible = decided s command c.desk.result (c.desk.ensures s kept.sound view) (search rules) in
    let it = obeys s command form possible in
    c.apply.ensures.full s it.0 (c.look_at.ensures.rest.same s kept.means) kept.sound it.1 (c.in-Err-apply.is ∙ ap Err (kept_full c.in-Err-apply.fault full))

pub returns-clause-crash : goal.returns-clause-crash
returns-clause-crash g c s kept form =
    let command = command_of c.args.command.now in
    let before = c.apply.ensures.honest kept.is_honest in
    let view = c.in-Ok.ensures.view s (record { means = kept.means; is_honest = before; sound = kept.sound }) in
    let possible = decided s command c.desk.result (c.desk.ensures s kept.sound view) (search rules) in
    let it = obeys s command form possible in
    then_asked (asked_standing c.look_at.ensures.rest kept.means before)
    (of_either it.1 (c.in-Err-apply.ensures.crash s it.0 (c.look_at.ensures.rest.same s kept.means) kept.sound it.1 kept.is_honest))

pub returns-in-Err-clause-rest : goal.returns-in-Err-clause-rest
returns-in-Err-clause-rest g c = failed_holds g.K.Keeper _ _ _ c.in-Err.ensures.rest tt

pub returns-in-Err-clause-unstaged : goal.returns-in-Err-clause-unstaged
returns-in-Err-clause-unstaged g c = λ none. inl (c.look_at.ensures.staged _ none)

pub returns-in-Err-clause-same : goal.returns-in-Err-clause-same
returns-in-Err-clause-same g c = c.look_at.ensures.rest.same

pub returns-in-Ok-apply-clause-rest : goal.returns-in-Ok-apply-clause-rest
returns-in-Ok-apply-clause-rest g c = holds_then (asked_holds g.K.Keeper _ _ _ c.in-Ok.ensures.rest) (holds_less (λ is. absurd is) (changed_holds (Ok tt) c.in-Ok-apply.ensures.honest c.in-Ok-apply.ensures.opened c.in-Ok-apply.ensures.count c.in-Ok-apply.ensures.group))

pub returns-clause-rest : goal.returns-clause-rest
returns-clause-rest g c = holds_then (asked_holds g.K.Keeper _ _ _ c.in-Ok.ensures.rest) (holds_less (λ _. tt) (changed_holds {T = Unit {0}} (Err c.in-Err-apply.fault) c.in-Err-apply.ensures.honest c.in-Err-apply.ensures.opened c.in-Err-apply.ensures.count c.in-Err-apply.ensures.group))

pub returns-clause-same : goal.returns-clause-same
returns-clause-same g c = λ s means. c.in-Err-apply.ensures.same s (c.look_at.ensures.rest.same s means)

pub returns-in-Ok-apply-clause-unstaged : goal.returns-in-Ok-apply-clause-unstaged
returns-in-Ok-apply-clause-unstaged g c = λ none. inl (c.in-Ok-apply.ensures.staged (λ is. is) _ (c.look_at.ensures.staged _ none))

pub returns-clause-formed : goal.returns-clause-formed
returns-clause-formed g c = grind arith

pub returns-clause-kept : goal.returns-clause-kept
returns-clause-kept g c = grind arith

pub returns-clause-refused : goal.returns-clause-refused
returns-clause-refused g c = grind arith

pub returns-clause-store : goal.returns-clause-store
returns-clause-store g c = grind arith

pub returns-clause-unstaged : goal.returns-clause-unstaged
returns-clause-unstaged g c = grind arith

pub returns-in-Err-clause-crash : goal.returns-in-Err-clause-crash
returns-in-Err-clause-crash g c = grind arith

pub returns-in-Err-clause-formed : goal.returns-in-Err-clause-formed
returns-in-Err-clause-formed g c = grind arith

pub returns-in-Err-clause-refused : goal.returns-in-Err-clause-refused
returns-in-Err-clause-refused g c = grind arith

pub returns-in-Err-clause-room : goal.returns-in-Err-clause-room
returns-in-Err-clause-room g c = grind arith

pub returns-in-Err-clause-store : goal.returns-in-Err-clause-store
returns-in-Err-clause-store g c = grind arith

pub returns-in-Ok-apply-clause-formed : goal.returns-in-Ok-apply-clause-formed
returns-in-Ok-apply-clause-formed g c = grind arith

pub returns-in-Ok-apply-clause-refused : goal.returns-in-Ok-apply-clause-refused
returns-in-Ok-apply-clause-refused g c = grind arith

pub returns-in-Ok-apply-clause-room : goal.returns-in-Ok-apply-clause-room
returns-in-Ok-apply-clause-room g c = grind arith

pub returns-in-Ok-apply-clause-store : goal.returns-in-Ok-apply-clause-store
returns-in-Ok-apply-clause-store g c = grind arith

pub returns-then-is_err-clause-crash : goal.returns-then-is_err-clause-crash
returns-then-is_err-clause-crash g c = grind arith

pub returns-then-is_err-clause-formed : goal.returns-then-is_err-clause-formed
returns-then-is_err-clause-formed g c = grind arith

pub returns-then-is_err-clause-kept : goal.returns-then-is_err-clause-kept
returns-then-is_err-clause-kept g c = grind arith

pub returns-then-is_err-clause-refused : goal.returns-then-is_err-clause-refused
returns-then-is_err-clause-refused g c = grind arith

pub returns-then-is_err-clause-rest : goal.returns-then-is_err-clause-rest
returns-then-is_err-clause-rest g c = grind arith

pub returns-then-is_err-clause-room : goal.returns-then-is_err-clause-room
returns-then-is_err-clause-room g c = grind arith

pub returns-then-is_err-clause-same : goal.returns-then-is_err-clause-same
returns-then-is_err-clause-same g c = grind arith

pub returns-then-is_err-clause-store : goal.returns-then-is_err-clause-store
returns-then-is_err-clause-store g c = grind arith

pub returns-then-is_err-clause-unstaged : goal.returns-then-is_err-clause-unstaged
returns-then-is_err-clause-unstaged g c = grind arith
