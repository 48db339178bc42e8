use Rattle.std.proofs.Common.{◌≡◌, Option, ℕ, sym, subst, ◌<◌, ◌-◌, ◌+◌, ◌++◌, length, take, drop, ap, ◌∙◌, arith, inl}
use Rattle.std.proofs.lemmas.Bool.Decides.{nat_tests}
use Rattle.std.proofs.lemmas.List.{with_items_is, nil_from_length}
use Rattle.wire.specs.Waiting.{Spends, waiting}
use Rattle.wire.proofs.Backlogs.{waits, range_more, range_kept}
use Rattle.wire.proofs.Spending.{spends_none, spends_some}
use Rattle.wire.proofs.backlog.Backlog.read_behind.Goals as goal

pub returns-in-Ok-clause-came : goal.returns-in-Ok-clause-came
unfolding waiting
returns-in-Ok-clause-came g c =
    let b = c.args.self.now in
    let n = c.in-Ok.n in
    let ys = c.read_at.new.bytes in
    let value = c.deref_mut.ensures.value in
    let (came, size, more, consumed) = c.in-Ok.ensures.came in
    let items = with_items_is b.bytes ys (omega (arith, c.read_at.auto.bytes, ap length value, b.bytes.ok.0)) in
    let end = b.end in (
      came,
      ap (λ xs. take ((end + n) - b.start) (drop b.start xs)) items ∙ range_more b.bytes.items ys came b.start end n c.requires.front (more ∙ ap (λ xs. take end xs ++ came) value),
      consumed,
      λ e x. let some : 0 < n = grind (arith, nat_tests) in omega (arith, some, size, ap length x),
      λ e. let none : n ≡ 0 = grind (arith, nat_tests) in
          (nil_from_length came (size ∙ none), c.in-Ok.ensures.end none (omega (arith, waits b, c.requires.room, c.requires.front, ap length value, b.bytes.ok.0))),
    )

pub returns-in-Err-clause-fault : goal.returns-in-Err-clause-fault
unfolding waiting
returns-in-Err-clause-fault g c =
    let b = c.args.self.now in
    let ys = c.read_at.new.bytes in
    let value = c.deref_mut.ensures.value in
    let items = with_items_is b.bytes ys (omega (arith, c.read_at.auto.bytes, ap length value, b.bytes.ok.0)) in
    let fault = c.in-Err.ensures.fault in
    (inl fault.0, ap (λ xs. take (b.end - b.start) (drop b.start xs)) items ∙ range_kept b.bytes.items ys b.start b.end c.requires.front (c.in-Err.ensures.kept ∙ ap (take b.end) value), fault.1)

pub returns-in-Ok-clause-spends : goal.returns-in-Ok-clause-spends
returns-in-Ok-clause-spends g c =
    let most = c.args.self.now.most in
    let known = g.R.Read.remaining c.args.reader.now.inner in
    let known' = g.R.Read.remaining c.read_at.new.reader.inner in
    let (came, size, more, consumed) = c.in-Ok.ensures.came in
    (subst (λ (o : Option ℕ). Spends most o known known') (sym c.lessened-self.ensures.less) (spends_some most c.in-Ok.n known known' came size consumed), tt)

pub returns-in-Err-clause-spends : goal.returns-in-Err-clause-spends
returns-in-Err-clause-spends g c =
    let fault = c.in-Err.ensures.fault in
    (spends_none c.args.self.now.most (g.R.Read.remaining c.args.reader.now.inner) (g.R.Read.remaining c.read_at.new.reader.inner) fault.1, λ waits. let both = sym fault.0 ∙ waits in absurd cc)
