use Rattle.std.proofs.Common.{◌∙◌, arith}
use Rattle.std.proofs.lemmas.List.{take_rest}
use Rattle.std.proofs.lemmas.Grind.{common_steps}
use Rattle.wire.proofs.Heads.{head_end_behind_at, no_head_end_behind}
use Rattle.wire.proofs.head.head_end_behind.Goals as goal

pub returns-in_err-at-clause-none : goal.returns-in_err-at-clause-none
returns-in_err-at-clause-none c =
    let bytes = c.args.bytes.now in
    let from = c.saturating_sub-from.result in
    let rest = c.in_ok-get.ensures.lookup.0.2 ∙ take_rest bytes from in
    rw c.from_residual-in_err-at.ensures
    (no_head_end_behind bytes c.in_ok-get.field-0.now c.args.searched from rest c.requires (omega (arith, c.saturating_sub-from.ensures))
    (λ j occurs. c.in_err-at.ensures j (omega arith) (omega (arith, occurs.fits)) occurs))

pub returns-clause-found : goal.returns-clause-found
returns-clause-found c =
    let bytes = c.args.bytes.now in
    let from = c.saturating_sub-from.result in
    let rest = c.in_ok-get.ensures.lookup.0.2 ∙ take_rest bytes from in
    let first = c.in_ok-at.ensures in
    head_end_behind_at bytes c.in_ok-get.field-0.now c.args.searched from c.in_ok-at.at rest c.requires (omega (arith, c.saturating_sub-from.ensures)) first.1
    (λ j early occurs. first.0.before j (omega arith) early occurs)

pub overflow_add-result : goal.overflow_add-result
overflow_add-result c = grind arith

pub overflow_add-result-2 : goal.overflow_add-result-2
overflow_add-result-2 c = grind arith

pub returns-in_err-at-clause-found : goal.returns-in_err-at-clause-found
returns-in_err-at-clause-found c = grind arith

pub returns-in_err-get-clause-found : goal.returns-in_err-get-clause-found
returns-in_err-get-clause-found c = grind arith

pub returns-in_err-get-clause-none : goal.returns-in_err-get-clause-none
returns-in_err-get-clause-none c = grind (arith, common_steps)
