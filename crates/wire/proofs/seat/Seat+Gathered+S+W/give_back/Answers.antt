use Rattle.std.proofs.Common.{◌∙◌, ◌++◌, ◌≡◌, ap, true, refl, subst, sym, List, ℕ}
use Rattle.std.specs.Io.KnownBytes.{Keeps, prepend_known}
use Rattle.wire.specs.Feeds.{ahead_of, given_before}
use Rattle.wire.specs.Begins.{may_begin}
use Rattle.wire.specs.Gathering.{ahead_in}
use Rattle.wire.specs.Underways.{begun_by}
use Rattle.wire.proofs.Ahead.{put_back}
use Rattle.wire.proofs.Underways.{kept_behind, still_underway}
use Rattle.wire.proofs.seat.Seat+Gathered+S+W.give_back.Goals as goal

pub returns-clause-gathers : goal.returns-clause-gathers
returns-clause-gathers g c =
    let old = c.args.self.now in
    let room = c.give_back-room.new in
    let first = prepend_known (ahead_of old.standing) (prepend_known (ahead_in old.reader.inner) (g.S.Read.remaining old.reader.inner.inner)) in
    let last = prepend_known (ahead_of room.self) (prepend_known (ahead_in c.let_go.new.self) (g.S.Read.remaining c.let_go.new.self.inner)) in
    let same : Keeps first last = put_back (g.S.Read.remaining old.reader.inner.inner) (g.S.Read.remaining c.let_go.new.self.inner) (ahead_of old.standing) (ahead_in old.reader.inner) (ahead_of room.self) (ahead_in c.let_go.new.self)
    (ap g.S.Read.remaining (c.let_go.ensures.inner ∙ c.give_back-room.ensures.inner)) (ap (λ l. ahead_of room.self ++ l) c.let_go.ensures.ahead ∙ c.give_back-room.ensures.kept) in
    record {
      place = c.give_back-room.ensures.place;
      underway = refl;
      waited = refl;
      keeps = subst (λ (given : List ℕ). Keeps (prepend_known (begun_by old.underway) (prepend_known (given_before old.standing) first)) (prepend_known (begun_by old.underway) (prepend_known given last))) (sym c.give_back-room.ensures.given)
          (kept_behind (begun_by old.underway) (given_before old.standing) first last same);
      read = refl;
      writer = refl;
      served = refl;
      end = refl;
    }

pub invariant_of-self : goal.invariant_of-self
invariant_of-self g c =
    let old = c.args.self.now in
    let place = c.give_back-room.ensures.place in
    let given = c.give_back-room.ensures.given in
    record {
      few = old.few;
      begins = λ end none. subst (λ p. may_begin p ≡ true) (sym place) (old.begins end none);
      fresh = λ end at. old.fresh end (sym place ∙ at);
      forgot = λ end none. given ∙ old.forgot end none;
      goes_on = still_underway old.underway old.standing c.give_back-room.new.self place given old.goes_on;
    }
