use Rattle.std.proofs.Common.{◌≡◌, ◌<◌, ◌-◌, ◌++◌, [], List, ℕ, take, length, ap, refl, rules, subst, sym, ◌∙◌, arith}
use Rattle.std.proofs.lemmas.List.{append-nil, append_assoc, take-append-drop, nil_from_length}
use Rattle.office.proofs.Foreseen.{failed_is, whatever_err}
use Rattle.office.proofs.KeeperCalls.{quiet_answered, quiet_failed, quiet_less, quiet_then}
use Rattle.office.proofs.Unstaged.{rose_later}
use Rattle.office.proofs.office.Office.stage_whole.Goals as goal

pub pieces-init : goal.pieces-init
pieces-init g c = (record { given = []; staged = c.in_ok-stage_begin.ensures.empty; whole = refl }, quiet_answered c.in_ok-stage_begin.ensures.rest)

pub pieces-smaller : goal.pieces-smaller
pieces-smaller g c =
    let some : 0 < length c.pieces.rest.now = search rules in
    let long : c.min.result ≡ length c.pieces.rest.now - length c.split_at.result.1.now = search rules in
    search rules

pub pieces-preserved : goal.pieces-preserved
pieces-preserved g c =
    let front = c.pieces.invariant.0 in
    let cut : c.split_at.result.0.now ++ c.split_at.result.1.now ≡ c.pieces.rest.now =
    ap (λ (l : List ℕ). l ++ c.split_at.result.1.now) c.split_at.ensures.front ∙ ap (λ (l : List ℕ). take c.min.result c.pieces.rest.now ++ l) c.split_at.ensures.back
    ∙ take-append-drop c.min.result c.pieces.rest.now in (
      record {
        given = front.given ++ c.split_at.result.0.now;
        staged = c.in_ok-stage.ensures.added front.given front.staged;
        whole = append_assoc front.given c.split_at.result.0.now c.split_at.result.1.now ∙ ap (λ (l : List ℕ). front.given ++ l) cut ∙ front.whole;
      },
      quiet_then c.pieces.invariant.1 (quiet_answered c.in_ok-stage.ensures.rest),
    )

pub returns-in_err-stage_begin-clause-quiet : goal.returns-in_err-stage_begin-clause-quiet
returns-in_err-stage_begin-clause-quiet g c = quiet_failed c.in_err-stage_begin.ensures.rest (failed_is c.from_residual.result c.from_residual.ensures.0)

pub returns-in_err-stage-clause-quiet : goal.returns-in_err-stage-clause-quiet
returns-in_err-stage-clause-quiet g c =
    quiet_then c.pieces.invariant.1 (quiet_failed c.in_err-stage.ensures.rest (failed_is c.from_residual-in_err-stage.result c.from_residual-in_err-stage.ensures.0))

pub returns-in_err-stage-clause-fault : goal.returns-in_err-stage-clause-fault
returns-in_err-stage-clause-fault g c =
    whatever_err c.from_residual-in_err-stage.result
    (rose_later (g.K.Keeper.faults c.args.self.now.keeper) (g.K.Keeper.faults c.pieces.self.keeper) (g.K.Keeper.faults c.stage.new.self) c.pieces.invariant.1.rest.never_less c.in_err-stage.ensures.rest.count.err)

pub returns-clause-staged : goal.returns-clause-staged
returns-clause-staged g c =
    let front = c.pieces.invariant.0 in
    let none : c.pieces.rest.now ≡ [] = nil_from_length c.pieces.rest.now (search rules) in
    subst (g.K.Keeper.stages c.pieces.self.keeper) (sym (append-nil front.given) ∙ ap (λ (l : List ℕ). front.given ++ l) (sym none) ∙ front.whole) front.staged

pub returns-clause-quiet : goal.returns-clause-quiet
returns-clause-quiet g c = quiet_less (λ none. absurd none) c.pieces.invariant.1

pub stage-requires-clause-short : goal.stage-requires-clause-short
stage-requires-clause-short g c = grind arith

pub stage-requires-clause-some : goal.stage-requires-clause-some
stage-requires-clause-some g c = grind arith
