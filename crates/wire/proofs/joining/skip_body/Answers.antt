use Rattle.std.proofs.Common.{◌≡◌, List, ℕ, Result, Ok, Err, refl, sym, ap, subst, ◌∙◌, arith}
use Rattle.std.specs.Borrow.{Bor}
use Rattle.wire.specs.Feeding.{CountsReads}
use Rattle.wire.specs.Feeds.{given_of}
use Rattle.wire.specs.declared.fault.WireFault.{WireFault}
use Rattle.wire.specs.declared.feed.Piece.{Piece}
use Rattle.wire.specs.declared.joining.Ending.{Ending}
use Rattle.wire.specs.declared.joining.Ending.TheVariants.{Whole, Lacking}
use Rattle.wire.proofs.Beginnings.{counts_failed}
use Rattle.wire.proofs.Skips.{broke_off, lacks, skipped_none, skips_on, takes_given, counts_none}
use Rattle.wire.proofs.Spending.{spent_none, spent_on, waits_none}
use Rattle.wire.proofs.joining.skip_body.Goals as goal

pub pieces-preserved : goal.pieces-preserved
pieces-preserved g c =
    let is = c.in-Ok-Bytes.is ∙ ap Ok c.in-Ok-Bytes.field-0-is in
    let old = c.pieces.feed in
    let new = c.piece.follows.lender-at-none in
    let h = c.piece.follows.holds-at-none in
    record {
      skipped = skips_on g.R.Read.remaining c.args.size c.args.feed.now old new c.piece.result c.in-Ok-Bytes.field-0-0 c.pieces.invariant.skipped is h.1 h.3;
      same = h.0 ∙ c.pieces.invariant.same;
      count = counts_none c.piece.result _ old.reader.now.faults new.reader.now.faults is h.2 ∙ c.pieces.invariant.count;
      free = λ free. (h.4 (c.pieces.invariant.free free)).0;
      spent = spent_on g.R.Read.remaining c.args.feed.now old new c.pieces.invariant.spent h.5.0;
    }

pub returns-in-Ok-Refused-clause-lacking : goal.returns-in-Ok-Refused-clause-lacking
returns-in-Ok-Refused-clause-lacking g c = λ _.
    lacks g.R.Read.remaining c.args.size c.args.feed.now c.pieces.feed c.piece.follows.lender-at-none c.piece.result c.in-Ok-Refused.field-0-0 c.pieces.invariant.skipped
    (c.in-Ok-Refused.is ∙ ap Ok c.in-Ok-Refused.field-0-is) c.piece.follows.holds-at-none.1

failed_ended : (f : WireFault) (ending : Ending) → Err f ≡ Ok ending → ⊥
failed_ended f ending e = cc

differ : (a b : Result Ending WireFault) → a ≡ Ok Whole → b ≡ Ok Lacking → a ≡ b → ⊥
differ a b whole lacking e = cc

pub returns-in-Err-clause-same : goal.returns-in-Err-clause-same
returns-in-Err-clause-same g c = c.piece.follows.holds-at-none.0 ∙ c.pieces.invariant.same

pub returns-in-Err-clause-whole : goal.returns-in-Err-clause-whole
returns-in-Err-clause-whole g c = λ e. absurd (failed_ended c.in-Err.fault Whole e)

pub returns-in-Err-clause-lacking : goal.returns-in-Err-clause-lacking
returns-in-Err-clause-lacking g c = λ e. absurd (failed_ended c.in-Err.fault Lacking e)

pub returns-in-Err-clause-count : goal.returns-in-Err-clause-count
returns-in-Err-clause-count g c =
    let new = c.piece.follows.lender-at-none.reader.now.faults in
    subst (λ (old : ℕ). CountsReads {T = Ending} (Err c.in-Err.fault) old new) c.pieces.invariant.count
    (counts_failed (Piece (Bor (List ℕ))) Ending c.piece.result c.in-Err.fault _ new c.in-Err.is c.piece.follows.holds-at-none.2)

pub returns-in-Ok-Done-clause-same : goal.returns-in-Ok-Done-clause-same
returns-in-Ok-Done-clause-same g c = c.piece.follows.holds-at-none.0 ∙ c.pieces.invariant.same

pub returns-in-Ok-Done-clause-lacking : goal.returns-in-Ok-Done-clause-lacking
returns-in-Ok-Done-clause-lacking g c = λ e. absurd (differ _ _ refl refl e)

pub returns-in-Ok-Done-clause-count : goal.returns-in-Ok-Done-clause-count
returns-in-Ok-Done-clause-count g c = counts_none c.piece.result _ c.pieces.feed.reader.now.faults _ c.in-Ok-Done.is c.piece.follows.holds-at-none.2 ∙ c.pieces.invariant.count

pub returns-in-Ok-Refused-clause-same : goal.returns-in-Ok-Refused-clause-same
returns-in-Ok-Refused-clause-same g c = c.piece.follows.holds-at-none.0 ∙ c.pieces.invariant.same

pub returns-in-Ok-Refused-clause-whole : goal.returns-in-Ok-Refused-clause-whole
returns-in-Ok-Refused-clause-whole g c = λ e. absurd (differ _ _ refl refl (sym e))

pub returns-in-Ok-Refused-clause-count : goal.returns-in-Ok-Refused-clause-count
returns-in-Ok-Refused-clause-count g c = counts_none c.piece.result _ c.pieces.feed.reader.now.faults _ c.in-Ok-Refused.is c.piece.follows.holds-at-none.2 ∙ c.pieces.invariant.count

pub pieces-init : goal.pieces-init
pieces-init g c = record { skipped = skipped_none g.R.Read.remaining c.args.size c.args.feed.now c.requires; same = refl; count = refl; free = λ free. free; spent = spent_none g.R.Read.remaining c.args.feed.now }

pub returns-in-Ok-Done-clause-whole : goal.returns-in-Ok-Done-clause-whole
returns-in-Ok-Done-clause-whole g c = λ _.
    let h = c.piece.follows.holds-at-none in
    (given_of c.pieces.feed, takes_given g.R.Read.remaining c.args.size c.args.feed.now c.pieces.feed c.piece.follows.lender-at-none c.piece.result c.pieces.invariant.skipped (c.in-Ok-Done.is ∙ ap Ok c.in-Ok-Done.field-0-is) h.1 h.3)

pub returns-in-Ok-Done-clause-free : goal.returns-in-Ok-Done-clause-free
returns-in-Ok-Done-clause-free g c = λ free. ((c.piece.follows.holds-at-none.4 (c.pieces.invariant.free free)).0, tt)

pub returns-in-Ok-Refused-clause-free : goal.returns-in-Ok-Refused-clause-free
returns-in-Ok-Refused-clause-free g c = λ free. ((c.piece.follows.holds-at-none.4 (c.pieces.invariant.free free)).0, tt)

pub pieces-smaller : goal.pieces-smaller
pieces-smaller g c = grind arith

pub returns-in-Err-clause-fault : goal.returns-in-Err-clause-fault
returns-in-Err-clause-fault g c =
    let h = c.piece.follows.holds-at-none in
    broke_off g.R.Read.remaining c.args.size c.args.feed.now c.pieces.feed c.piece.follows.lender-at-none c.piece.result c.in-Err.fault c.pieces.invariant.skipped c.in-Err.is h.1 h.3

pub returns-in-Ok-Done-clause-spends : goal.returns-in-Ok-Done-clause-spends
returns-in-Ok-Done-clause-spends g c = (spent_on g.R.Read.remaining c.args.feed.now c.pieces.feed c.piece.follows.lender-at-none c.pieces.invariant.spent c.piece.follows.holds-at-none.5.0, tt)

pub returns-in-Ok-Refused-clause-spends : goal.returns-in-Ok-Refused-clause-spends
returns-in-Ok-Refused-clause-spends g c = (spent_on g.R.Read.remaining c.args.feed.now c.pieces.feed c.piece.follows.lender-at-none c.pieces.invariant.spent c.piece.follows.holds-at-none.5.0, tt)

pub returns-in-Err-clause-spends : goal.returns-in-Err-clause-spends
returns-in-Err-clause-spends g c =
    let h = c.piece.follows.holds-at-none in
    let new = c.piece.follows.lender-at-none in
    (spent_on g.R.Read.remaining c.args.feed.now c.pieces.feed new c.pieces.invariant.spent h.5.0, waits_none new.backlog.most c.piece.result c.in-Err.fault c.in-Err.is h.5.1)
