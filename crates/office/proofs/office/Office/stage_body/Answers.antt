use Rattle.std.proofs.Common.{List, ℕ, Ok, ap, refl, ◌∙◌, ◌++◌}
use Rattle.sigv4.specs.Hashers.{ShaHolds}
use Rattle.wire.proofs.Skips.{counts_none, lacks, skipped_none, skips_on}
use Rattle.wire.proofs.Spending.{spent_all, spent_none, spent_on, waits_none}
use Rattle.office.proofs.KeeperCalls.{on_ok, quiet_asked, quiet_less, quiet_still, quiet_then}
use Rattle.office.proofs.Stagings.{part_more, stages_whole, stops}
use Rattle.office.proofs.office.Office.stage_body.Goals as goal

pub returns-then-is_err-clause-stages : goal.returns-then-is_err-clause-stages
returns-then-is_err-clause-stages g c = λ _.
    let f = c.piece.follows.holds-at-none in
    stops c.args.feed.now c.pieces.feed c.piece.follows.lender-at-none c.piece.result c.in-Ok-Bytes.bytes c.pieces.invariant.skipped (c.in-Ok-Bytes.is ∙ ap Ok c.in-Ok-Bytes.field-0-is) f.1 f.3

pub pieces-preserved : goal.pieces-preserved
pieces-preserved g c =
    let is = c.in-Ok-Bytes.is ∙ ap Ok c.in-Ok-Bytes.field-0-is in
    let old = c.pieces.feed in
    let new = c.piece.follows.lender-at-none in
    let f = c.piece.follows.holds-at-none in
    let bytes = c.in-Ok-Bytes.bytes in
    let took = c.stage_piece.ensures in
    let no_err = c.is_err.ensures.value in
    record {
      skipped = skips_on g.R.Read.remaining c.args.size c.args.feed.now old new c.piece.result bytes c.pieces.invariant.skipped is f.1 f.3;
      staged = λ first. part_more old new c.pieces.self.keeper c.stage_piece.new.self.keeper c.pieces.sha c.stage_piece.new.sha c.piece.result bytes is f.3
          (λ (staged : List ℕ) holds. on_ok (g.K.Keeper.stages c.stage_piece.new.self.keeper (staged ++ bytes.now)) c.is_err.result c.stage_piece.result no_err c.if-is_err.false (took.added staged holds))
          (λ (fed : List ℕ) holds. on_ok (ShaHolds c.stage_piece.new.sha (fed ++ bytes.now)) c.is_err.result c.stage_piece.result no_err c.if-is_err.false (took.hashed fed holds)) took.octets (c.pieces.invariant.staged first);
      same = f.0 ∙ c.pieces.invariant.same;
      count = counts_none c.piece.result _ old.reader.now.faults new.reader.now.faults is f.2 ∙ c.pieces.invariant.count;
      quiet = quiet_then c.pieces.invariant.quiet
          (quiet_less (λ fault. on_ok ⊥ c.is_err.result c.stage_piece.result no_err c.if-is_err.false fault) (quiet_asked c.stage_piece.result took.rest));
      free = λ free. (f.4 (c.pieces.invariant.free free)).0;
      spent = spent_on g.R.Read.remaining c.args.feed.now old new c.pieces.invariant.spent f.5.0;
    }

pub returns-in-Ok-Done-clause-stages : goal.returns-in-Ok-Done-clause-stages
returns-in-Ok-Done-clause-stages g c = λ first.
    let f = c.piece.follows.holds-at-none in
    stages_whole c.args.feed.now c.pieces.feed c.piece.follows.lender-at-none c.pieces.self.keeper c.pieces.sha c.piece.result c.finish.result c.pieces.invariant.skipped (c.pieces.invariant.staged first)
    (c.in-Ok-Done.is ∙ ap Ok c.in-Ok-Done.field-0-is) f.1 f.3 (λ m holds. c.finish.ensures m (rw c.replace.ensures.value holds))

pub returns-in-Ok-Refused-clause-stages : goal.returns-in-Ok-Refused-clause-stages
returns-in-Ok-Refused-clause-stages g c = λ _.
    lacks g.R.Read.remaining c.args.size c.args.feed.now c.pieces.feed c.piece.follows.lender-at-none c.piece.result c.in-Ok-Refused.field-0-0 c.pieces.invariant.skipped
    (c.in-Ok-Refused.is ∙ ap Ok c.in-Ok-Refused.field-0-is) c.piece.follows.holds-at-none.1

pub pieces-init : goal.pieces-init
pieces-init g c = record {
  skipped = skipped_none g.R.Read.remaining c.args.size c.args.feed.now c.requires;
  staged = λ first. first;
  same = refl;
  count = refl;
  quiet = quiet_still;
  free = λ free. free;
  spent = spent_none g.R.Read.remaining c.args.feed.now;
}

pub returns-in-Err-Waits-clause-all : goal.returns-in-Err-Waits-clause-all
returns-in-Err-Waits-clause-all g c = λ _.
    let remaining = g.R.Read.remaining in
    let f = c.piece.follows.holds-at-none in
    let new = c.piece.follows.lender-at-none in
    spent_all remaining c.args.feed.now new (spent_on remaining c.args.feed.now c.pieces.feed new c.pieces.invariant.spent f.5.0)
    (waits_none new.backlog.most c.piece.result c.in-Err-Waits.field-0 c.in-Err-Waits.is f.5.1 c.in-Err-Waits.field-0-is)
