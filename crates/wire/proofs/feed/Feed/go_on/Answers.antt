use Rattle.std.proofs.Common.{ℕ, Err, refl, subst, sym}
use Rattle.wire.specs.Feeding.{GivesPiece}
use Rattle.wire.specs.Feeds.{left}
use Rattle.wire.specs.declared.feed.Place.{Place}
use Rattle.wire.specs.declared.feed.Piece.{Piece}
use Rattle.wire.specs.Waiting.{taken, waiting}
use Rattle.wire.proofs.PiecesGiven.{at_least_none, none_open, complete, lacking, bytes_given, failed}
use Rattle.wire.proofs.Faults.{counts_same}
use Rattle.wire.proofs.Given.{none_noted, one_more}
use Rattle.wire.proofs.Spending.{spends_same}
use Rattle.wire.proofs.feed.Feed.go_on.Goals as goal

pub returns-in_default : goal.returns-in_default
returns-in_default g c =
    let old = c.args.self.now in
    record { same = refl; piece = none_open old.place (waiting old.backlog) (g.R.Read.remaining old.reader.now.inner) c.in_default.not-Body; size = at_least_none _; count = refl; given = none_noted c.new-self.result c.new-self.ensures; free = λ h. (h, tt); spends = (spends_same old.backlog.most (g.R.Read.remaining old.reader.now.inner), tt) }

pub returns-then-to_come-eq0 : goal.returns-then-to_come-eq0
returns-then-to_come-eq0 g c =
    let old = c.args.self.now in
    record {
      same = refl;
      piece = complete old.place c.in-Body.to_come (waiting old.backlog) (g.R.Read.remaining old.reader.now.inner) c.in-Body.is c.if-to_come-eq0.true;
      size = at_least_none _;
      count = refl;
      given = none_noted c.new-self-then-to_come-eq0.result c.new-self-then-to_come-eq0.ensures;
      free = λ h. (h, tt);
      spends = (spends_same old.backlog.most (g.R.Read.remaining old.reader.now.inner), tt);
    }

pub returns-in-Ok-eq0 : goal.returns-in-Ok-eq0
returns-in-Ok-eq0 g c =
    let remaining = g.R.Read.remaining in
    let old = c.args.self.now in
    let new = c.cut_piece.new.backlog in
    let reader = remaining c.cut_piece.new.reader.inner in
    let cut = c.in-Ok-eq0.ensures in
    let zero = c.in-Ok-eq0.field-0-test in
    record {
      same = refl;
      piece = lacking old.place c.in-Body.to_come c.in-Ok-eq0.field-0 (left remaining old) reader (waiting new) (taken new c.in-Ok-eq0.field-0) c.in-Body.is c.if-to_come-eq0.false zero cut.size.3 (cut.end zero) cut.taken;
      size = at_least_none _;
      count = cut.count;
      given = refl;
      free = λ h. ((cut.free h).0, tt);
      spends = (cut.spends.0, tt);
    }

pub returns-in-Ok : goal.returns-in-Ok
returns-in-Ok g c =
    let remaining = g.R.Read.remaining in
    let old = c.args.self.now in
    let new = c.cut_piece.new.backlog in
    let reader = remaining c.cut_piece.new.reader.inner in
    let cut = c.in-Ok.ensures in
    let (within, most, there, long) = cut.size in
    record {
      same = refl;
      piece = bytes_given old.place c.in-Body.to_come c.in-Ok.size (left remaining old) reader (waiting new) (taken new c.in-Ok.size) c.in-Body.is c.in-Ok.size-test.1 long within most cut.taken;
      size = there;
      count = cut.count;
      given = one_more old.given c.and-self.result new c.in-Ok.size c.and-self.ensures;
      free = λ h. ((cut.free h).0, tt);
      spends = (cut.spends.0, tt);
    }

pub returns-in-Err : goal.returns-in-Err
returns-in-Err g c =
    let remaining = g.R.Read.remaining in
    let old = c.args.self.now in
    let new = c.cut_piece.new.backlog in
    let reader = remaining c.cut_piece.new.reader.inner in
    let (is, none, kept) = c.in-Err.ensures.fault in
    record {
      same = refl;
      piece = subst (λ (p : Place). GivesPiece old.place (left remaining old) (Err c.in-Err.fault) p (waiting new) reader) (sym c.after-self.ensures)
          (failed old.place c.in-Body.to_come c.in-Err.fault (left remaining old) reader (waiting new) c.in-Body.is c.if-to_come-eq0.false is none kept);
      size = at_least_none _;
      count = counts_same ℕ (Piece ℕ) c.in-Err.fault _ _ c.in-Err.ensures.count;
      given = refl;
      free = λ h. c.in-Err.ensures.free h;
      spends = c.in-Err.ensures.spends;
    }
