-- Laws of a keeper over a connection, within a group and outside.
use Rattle.std.specs.Prelude.{◌≡◌, ◌⊎◌, ◌↔◌}
use Rattle.std.proofs.Common.{inl, inr, sym, subst}
use Rattle.sqlite_trees.specs.Tree.{Trees}
use Rattle.sqlite.specs.State.{State, HasCleanDisk}
use Rattle.boxes.specs.State.{State as Office}
use Rattle.sqltables.specs.Schema.{v2, second_version}
use Rattle.sqltables.specs.Kept.{KeepsState, LeavesStates, MayLeave, RowsKeep}
use Rattle.sqltables.specs.OneState.{one_kept, one_left, one_office}
use Rattle.sqlkeeper.specs.Grouping.{IsGrouped, IsOpenIn, LeavesIn, LeavesStatesIn, MeansIn}
use Rattle.sqlkeeper.specs.declared.grouping.Group.{Group}
use Rattle.sqlkeeper.specs.declared.grouping.Group.TheVariants.{Alone, Idle, Begun}

-- at most one state is meant
pub one_in : (group : Group) (s : State) (a b : Office) → HasCleanDisk s → IsOpenIn group s → MeansIn group s a → MeansIn group s b → a ≡ b
one_in Alone s a b clean is_open one two = one_kept s a b clean is_open one two
one_in Idle s a b clean is_open one two = one_kept s a b clean is_open one two
one_in Begun s a b clean is_open one two =
    let first = one.pends clean is_open.0 is_open.1 in
    let second = two.pends clean is_open.0 is_open.1 in
    one_office v2 second_version s.now.trees a b one.sound two.sound first.means second.means

-- ---- outside a group

pub leaves_alone : (group : Group) (s : State) (t : Office) → group ≡ Alone → MayLeave s t ↔ LeavesIn group s t
leaves_alone group s t is = (λ left. subst (λ x. LeavesIn x s t) (sym is) left, λ left. subst (λ x. LeavesIn x s t) is left)

pub states_alone : (group : Group) (s : State) → group ≡ Alone → LeavesStates s ↔ LeavesStatesIn group s
states_alone group s is = (λ whole. subst (λ x. LeavesStatesIn x s) (sym is) whole, λ whole. subst (λ x. LeavesStatesIn x s) is whole)

-- ---- within a group, which began with `first`

module _ (group_of_first : Group) (first : State) (group : Group) (now : State) (s : Office) (is : group_of_first ≡ Alone) (grouped : IsGrouped first group now) (clean : HasCleanDisk now) (meant : MeansIn group_of_first first s) where
  keeps : KeepsState first s
  keeps = subst (λ x. MeansIn x first s) is meant

  pub loses : (t : Office) → MayLeave now t → LeavesIn group_of_first first t ⊎ (t ≡ s)
  loses t left = elim (grouped.crash s keeps.means clean left.trees left.left) [
    | inl was ↦ inl ((leaves_alone group_of_first first t is).0 (record { trees = left.trees; left = was; keep = left.keep }))
    | inr means ↦ inr (one_left left.trees t s left.keep (record { means = means; sound = keeps.sound }))
  ]

  pub loses_whole : LeavesStatesIn group_of_first first → LeavesStates now
  loses_whole whole again trees left = elim (grouped.crash s keeps.means clean trees left) [
    | inl was ↦ (states_alone group_of_first first is).1 whole (grouped.honest clean) trees was
    | inr means ↦ (s, record { means = means; sound = keeps.sound })
  ]
