use Rattle.std.proofs.Common.{◌≢◌, ℕ, sym, subst, arith}
use Rattle.std.specs.Prelude.{MatchBool}
use Rattle.boxes.specs.State.{Receipt}
use Rattle.sqlaudit.specs.Sorting.{IsGiven}
use Rattle.sqlaudit.proofs.ReceiptOrder.{none_stand, one_stands, all_stand, none_stands}
use Rattle.sqlaudit.proofs.receipt_rules.are_receipts.Goals as goal

pub loop-at-init : goal.loop-at-init
loop-at-init c ks bs hk hb = none_stand ks bs c.args.lines.now

pub loop-at-preserved : goal.loop-at-preserved
loop-at-preserved c ks bs hk hb =
    let at = c.loop-at.at in
    let line = c.index-lines-at.result in
    let is = subst (λ b. MatchBool b ((r : Receipt) × IsGiven ks bs line at r) ((place : ℕ) (r : Receipt) → IsGiven ks bs line place r → place ≢ at)) c.if-not-stands_at.false (c.stands_at.ensures ks bs hk hb) in
    one_stands ks bs c.args.lines.now at line c.loop-at-test.true (sym c.index-lines-at.is) (c.loop-at.invariant ks bs hk hb) is

pub returns-then-not-stands_at-clause-refused : goal.returns-then-not-stands_at-clause-refused
returns-then-not-stands_at-clause-refused c ks bs hk hb rising receipts are =
    let at = c.loop-at.at in
    let line = c.index-lines-at.result in
    let apart = subst (λ b. MatchBool b ((r : Receipt) × IsGiven ks bs line at r) ((place : ℕ) (r : Receipt) → IsGiven ks bs line place r → place ≢ at)) c.if-not-stands_at.true (c.stands_at.ensures ks bs hk hb) in
    absurd (none_stands ks bs c.args.lines.now receipts rising are at line c.loop-at-test.true (sym c.index-lines-at.is) (c.loop-at.invariant ks bs hk hb) apart)

pub returns-clause-taken : goal.returns-clause-taken
returns-clause-taken c ks bs hk hb h = all_stand ks bs c.args.lines.now c.loop-at.at c.loop-at-test.false (c.loop-at.invariant ks bs hk hb)

pub returns-then-not-stands_at-clause-taken : goal.returns-then-not-stands_at-clause-taken
returns-then-not-stands_at-clause-taken c = grind arith
