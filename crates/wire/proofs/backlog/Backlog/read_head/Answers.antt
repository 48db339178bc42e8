use Rattle.std.proofs.Common.{◌≡◌, ◌<◌, ◌≤◌, ◌++◌, ℕ, Bool, Err, List, length, take, arith, ap, sym, subst, ◌∙◌, lit≤, refl}
use Rattle.std.specs.Io.KnownBytes.{prepend_known}
use Rattle.wire.specs.Feeding.{CountsReads}
use Rattle.wire.specs.declared.feed.Step.{Step}
use Rattle.wire.proofs.Faults.{counts_same}
use Rattle.wire.specs.Heads.{IsHeadEnd, HasNoHeadEnd}
use Rattle.std.proofs.KnownBytes.{Keeps-refl}
use Rattle.std.proofs.lemmas.List.{append-nil, nil_from_length}
use Rattle.std.proofs.lemmas.Grind.{common_steps}
use Rattle.wire.specs.Waiting.{waiting}
use Rattle.wire.proofs.Heads.{no_end_in_nothing}
use Rattle.wire.proofs.Backlogs.{still_none, in_window, still_searched, kept_grown, kept_failed}
use Rattle.wire.proofs.Spending.{spends_on, spends_same}
use Rattle.wire.proofs.backlog.Backlog.read_head.Goals as goal

pub reads-init : goal.reads-init
reads-init g c = record { kept = Keeps-refl _; count = refl; room = c.requires; small = lit≤ tt; none = no_end_in_nothing; free = λ h. h; spends = spends_same c.args.self.now.most (g.R.Read.remaining c.args.reader.now.inner) }

pub head_end_behind-requires : goal.head_end_behind-requires
head_end_behind-requires g c = in_window c.window.result.now (waiting c.reads.self) c.reads.searched c.window.ensures c.reads.invariant.small c.reads.invariant.none

pub reads-preserved : goal.reads-preserved
reads-preserved g c =
    let remaining = g.R.Read.remaining in
    let old = waiting c.reads.self in
    let first = prepend_known (waiting c.args.self.now) (remaining c.args.reader.now.inner) in
    let here = remaining c.reads.reader.inner in
    let there = remaining c.read_more.new.reader.inner in
    let short : length old < 8192 = subst (λ (n : ℕ). n < 8192) (ap length c.waiting-searched.ensures) c.if-searched-ge-MOST_HEAD.false in
    let (bytes, more, consumed, some, none) = c.in-Ok-true.ensures.came in
    let size = c.waiting-searched.result.now in
    let searched : length size ≡ length old = ap length c.waiting-searched.ensures in
    record {
      kept = kept_grown first here there old bytes _ c.reads.invariant.kept consumed more;
      count = c.in-Ok-true.ensures.count ∙ c.reads.invariant.count;
      room = c.read_more.ensures.room ∙ c.reads.invariant.room;
      small = omega (arith, short, searched);
      none = subst (λ (n : ℕ). HasNoHeadEnd (take n (waiting c.read_more.new.self))) (sym searched)
          (still_searched c.window.result.now old _ bytes c.window.ensures short more c.in_default.ensures.none);
      free = λ h. (c.in-Ok-true.ensures.free (c.reads.invariant.free h)).0;
      spends = spends_on c.args.self.now.most c.reads.self.most c.read_more.new.self.most (remaining c.args.reader.now.inner) here there c.reads.invariant.spends c.in-Ok-true.ensures.spends.0;
    }

pub returns-in-Some : goal.returns-in-Some
returns-in-Some g c = record {
  shows = subst (λ (w : List ℕ). IsHeadEnd w c.in-Some.size) c.window.ensures c.in-Some.ensures.found;
  kept = c.reads.invariant.kept;
  fault = tt;
  count = c.reads.invariant.count;
  free = λ h. (c.reads.invariant.free h, tt);
  spends = (c.reads.invariant.spends, tt);
  room = c.reads.invariant.room;
}

pub returns-then-searched-ge-MOST_HEAD : goal.returns-then-searched-ge-MOST_HEAD
returns-then-searched-ge-MOST_HEAD g c = record {
  shows = (refl, subst (λ (n : ℕ). 8192 ≤ n) (ap length c.waiting-searched.ensures) c.if-searched-ge-MOST_HEAD.true, subst HasNoHeadEnd c.window.ensures c.in_default.ensures.none);
  kept = c.reads.invariant.kept;
  fault = tt;
  count = c.reads.invariant.count;
  free = λ h. (c.reads.invariant.free h, tt);
  spends = (c.reads.invariant.spends, tt);
  room = c.reads.invariant.room;
}

pub returns-then-searched-eq0 : goal.returns-then-searched-eq0
returns-then-searched-eq0 g c =
    let remaining = g.R.Read.remaining in
    let old = waiting c.reads.self in
    let first = prepend_known (waiting c.args.self.now) (remaining c.args.reader.now.inner) in
    let here = remaining c.reads.reader.inner in
    let there = remaining c.read_more.new.reader.inner in
    let (bytes, more, consumed, some, none) = c.in-Ok-false.ensures.came in
    let end = none c.in-Ok-false.field-0-test in
    let empty = nil_from_length old (sym (ap length c.waiting-searched.ensures) ∙ c.if-searched-eq0.true) in
    record {
      shows = (more ∙ ap (λ t. old ++ t) end.0 ∙ append-nil old ∙ empty, end.1);
      kept = kept_grown first here there old bytes _ c.reads.invariant.kept consumed more;
      fault = tt;
      count = c.in-Ok-false.ensures.count ∙ c.reads.invariant.count;
      free = λ h. ((c.in-Ok-false.ensures.free (c.reads.invariant.free h)).0, tt);
      spends = (spends_on c.args.self.now.most c.reads.self.most c.read_more.new.self.most (remaining c.args.reader.now.inner) here there c.reads.invariant.spends c.in-Ok-false.ensures.spends.0, tt);
      room = c.read_more.ensures.room ∙ c.reads.invariant.room;
    }

pub returns-else-searched-eq0 : goal.returns-else-searched-eq0
returns-else-searched-eq0 g c =
    let remaining = g.R.Read.remaining in
    let old = waiting c.reads.self in
    let first = prepend_known (waiting c.args.self.now) (remaining c.args.reader.now.inner) in
    let here = remaining c.reads.reader.inner in
    let there = remaining c.read_more.new.reader.inner in
    let short : length old < 8192 = subst (λ (n : ℕ). n < 8192) (ap length c.waiting-searched.ensures) c.if-searched-ge-MOST_HEAD.false in
    let (bytes, more, consumed, some, none) = c.in-Ok-false.ensures.came in
    let end = none c.in-Ok-false.field-0-test in
    let same = more ∙ ap (λ t. old ++ t) end.0 ∙ append-nil old in
    let still = still_none c.window.result.now old _ c.window.ensures short same c.in_default.ensures.none in
    record {
      shows = (omega (arith, c.if-searched-eq0.false, ap length c.waiting-searched.ensures, ap length same), still.0, still.1, end.1);
      kept = kept_grown first here there old bytes _ c.reads.invariant.kept consumed more;
      fault = tt;
      count = c.in-Ok-false.ensures.count ∙ c.reads.invariant.count;
      free = λ h. ((c.in-Ok-false.ensures.free (c.reads.invariant.free h)).0, tt);
      spends = (spends_on c.args.self.now.most c.reads.self.most c.read_more.new.self.most (remaining c.args.reader.now.inner) here there c.reads.invariant.spends c.in-Ok-false.ensures.spends.0, tt);
      room = c.read_more.ensures.room ∙ c.reads.invariant.room;
    }

pub returns-in-Err : goal.returns-in-Err
returns-in-Err g c =
    let remaining = g.R.Read.remaining in
    let old = waiting c.reads.self in
    let first = prepend_known (waiting c.args.self.now) (remaining c.args.reader.now.inner) in
    let here = remaining c.reads.reader.inner in
    let there = remaining c.read_more.new.reader.inner in
    let short : length old < 8192 = subst (λ (n : ℕ). n < 8192) (ap length c.waiting-searched.ensures) c.if-searched-ge-MOST_HEAD.false in
    let (is_read, same, kept) = c.in-Err.ensures.fault in
    record {
      shows = still_none c.window.result.now old _ c.window.ensures short same c.in_default.ensures.none;
      kept = kept_failed first here there old _ c.reads.invariant.kept kept same;
      fault = is_read;
      count = counts_same Bool (Step ℕ) c.in-Err.fault _ _ (subst (λ (n : ℕ). CountsReads {T = Bool} (Err c.in-Err.fault) n c.read_more.new.reader.faults) c.reads.invariant.count c.in-Err.ensures.count);
      free = λ h. c.in-Err.ensures.free (c.reads.invariant.free h);
      spends = (spends_on c.args.self.now.most c.reads.self.most c.read_more.new.self.most (remaining c.args.reader.now.inner) here there c.reads.invariant.spends c.in-Err.ensures.spends.0, c.in-Err.ensures.spends.1);
      room = c.read_more.ensures.room ∙ c.reads.invariant.room;
    }

pub read_more-requires : goal.read_more-requires
read_more-requires g c = grind arith

pub reads-smaller : goal.reads-smaller
reads-smaller g c = grind (arith, common_steps)
