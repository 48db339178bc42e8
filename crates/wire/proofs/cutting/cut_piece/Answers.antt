use Rattle.std.proofs.Common.{Option, ℕ, refl, subst, sym, ◌∙◌, arith}
use Rattle.std.specs.Io.KnownBytes.{prepend_known}
use Rattle.std.proofs.KnownBytes.{Keeps-refl}
use Rattle.std.proofs.lemmas.Grind.{common_steps}
use Rattle.wire.specs.Waiting.{Spends, taken, waiting}
use Rattle.wire.proofs.Backlogs.{kept_grown}
use Rattle.wire.proofs.ReadAhead.{not_empty, empty, gave, consumes_later, at_end}
use Rattle.wire.proofs.Spending.{spends_same}
use Rattle.wire.proofs.cutting.cut_piece.Goals as goal

pub returns : goal.returns
returns g c =
    let r = g.R.Read.remaining c.args.reader.now.inner in
    let s = g.R.Read.remaining c.read_more.new.reader.inner in
    let old = waiting c.args.backlog.now in
    let mid = waiting c.read_more.new.self in
    let new = c.take_some-2.new.backlog in
    let part = c.take_some-2.ensures in
    let (bytes, more, consumed, some, none) = c.in_ok-read_more.ensures.came in
    let kept = kept_grown (prepend_known old r) r s old bytes mid (Keeps-refl _) consumed more in
    record {
      taken = consumes_later (prepend_known old r) (prepend_known mid s) (prepend_known (waiting new) s) _ kept (gave s mid (waiting new) (taken new c.take_some-2.result) part.taken);
      size = (part.most, part.piece, part.within, part.size);
      end = λ zero. at_end c.in_ok-read_more.field-0 r s old mid bytes (empty _ _ c.if-not-is_empty.ensures c.waiting.ensures) (part.none c.requires.some zero) more consumed some none;
      fault = tt;
      room = part.room ∙ c.read_more.ensures.room ∙ c.requires.room;
      count = c.in_ok-read_more.ensures.count;
      free = λ h. (part.kept ∙ (c.in_ok-read_more.ensures.free h).0, tt);
      spends = (subst (λ (o : Option ℕ). Spends c.args.backlog.now.most o r s) (sym part.kept) c.in_ok-read_more.ensures.spends.0, tt);
    }

pub returns-then-not-is_empty : goal.returns-then-not-is_empty
returns-then-not-is_empty g c =
    let r = g.R.Read.remaining c.args.reader.now.inner in
    let old = waiting c.args.backlog.now in
    let new = c.take_some.new.backlog in
    let part = c.take_some.ensures in
    record {
      taken = gave r old (waiting new) (taken new c.take_some.result) part.taken;
      size = (part.most, part.piece, part.within, part.size);
      end = λ zero. absurd (not_empty _ _ c.if-not-is_empty.ensures c.waiting.ensures (part.none c.requires.some zero));
      fault = tt;
      room = part.room ∙ c.requires.room;
      count = refl;
      free = λ h. (part.kept ∙ h, tt);
      spends = (subst (λ (o : Option ℕ). Spends c.args.backlog.now.most o r r) (sym part.kept) (spends_same c.args.backlog.now.most r), tt);
    }

pub read_more-requires : goal.read_more-requires
read_more-requires g c = grind arith

pub returns-in_err-read_more-clause-fault : goal.returns-in_err-read_more-clause-fault
returns-in_err-read_more-clause-fault g c = grind (arith, common_steps)
