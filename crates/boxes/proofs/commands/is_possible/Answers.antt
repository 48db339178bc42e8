-- The key that was found is the state's. There are two clerks exactly if another clerk exists.
use Rattle.std.proofs.Common.{◌≡◌, List, ℕ, ◌≤◌, Option, Some, sym, ap, ◌∙◌, subst, arith}
use Rattle.std.specs.Prelude.{IsSomeAnd, IsFalse, option_map, ◌↔◌}
use Rattle.std.specs.FinMap.{get}
use Rattle.boxes.specs.declared.rows.KeyRow.{KeyRow}
use Rattle.boxes.specs.declared.rows.Role.TheVariants.{Clerk}
use Rattle.boxes.specs.declared.view.DeskView.{DeskView}
use Rattle.boxes.specs.Changes.{command_of}
use Rattle.boxes.specs.Rows.{key_of}
use Rattle.boxes.specs.State.{Key, State}
use Rattle.boxes.specs.Steps.{CanRevoke, IsPossible, RevokeKey}
use Rattle.boxes.specs.Views.{IsDeskViewOf}
use Rattle.boxes.proofs.OtherClerks.{two_clerks}
use Rattle.boxes.proofs.commands.is_possible.Goals as goal

of_key : (s : State) (id : List ℕ) (o : Option Key) (k : Key) → o ≡ Some k → IsSomeAnd o (CanRevoke s id) ↔ CanRevoke s id k
of_key s id o k e = (λ h. subst (λ (p : Option Key). IsSomeAnd p (CanRevoke s id)) e h, λ h. subst (λ (p : Option Key). IsSomeAnd p (CanRevoke s id)) (sym e) h)

revocable : (s : State) (id : List ℕ) (v : DeskView) (k : KeyRow) → v.key ≡ Some k → IsDeskViewOf s (RevokeKey id) v
    → (IsFalse k.revoked × (k.role ≡ Clerk → 2 ≤ v.clerks)) ↔ IsPossible s (RevokeKey id)
revocable s id v k found view =
    let there : get s.keys id ≡ Some (key_of k) = sym view.0 ∙ ap (option_map key_of) found in
    let at = of_key s id (get s.keys id) (key_of k) there in (
      λ h. at.1 (h.0, λ role. (two_clerks s id (key_of k) there role h.0).0 (subst (λ (n : ℕ). 2 ≤ n) view.1 (h.1 role))),
      λ possible. let can = at.0 possible in (can.0, λ role. subst (λ (n : ℕ). 2 ≤ n) (sym view.1) ((two_clerks s id (key_of k) there role can.0).1 (can.1 role))),
    )

pub returns-in-Some : goal.returns-in-Some
returns-in-Some c s sound view =
    let is : command_of c.args.command.now ≡ RevokeKey c.in-RevokeKey.id.now = ap command_of c.in-RevokeKey.is in
    let both = revocable s c.in-RevokeKey.id.now c.args.view.now c.in-Some.key c.in-Some.is (subst (λ x. IsDeskViewOf s x c.args.view.now) is view) in
    let test = c.may_be_revoked.ensures in (
      λ t. subst (IsPossible s) (sym is) (both.0 (test.0 t)),
      λ possible. test.1 (both.1 (subst (IsPossible s) is possible)),
    )

pub returns-else-view : goal.returns-else-view
returns-else-view c = grind arith

pub returns-in-AddBox : goal.returns-in-AddBox
returns-in-AddBox c = grind arith

pub returns-in-AddKey : goal.returns-in-AddKey
returns-in-AddKey c = grind arith

pub returns-in-CloseBox : goal.returns-in-CloseBox
returns-in-CloseBox c = grind arith

pub returns-in-DropFile : goal.returns-in-DropFile
returns-in-DropFile c = grind arith

pub returns-in-None : goal.returns-in-None
returns-in-None c = grind arith

pub returns-in-None-key : goal.returns-in-None-key
returns-in-None-key c = grind arith

pub returns-in-SetAllowance : goal.returns-in-SetAllowance
returns-in-SetAllowance c = grind arith

pub returns-then-view : goal.returns-then-view
returns-then-view c = grind arith
