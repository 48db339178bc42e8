use Rattle.std.proofs.Common.{◌≡◌, ◌∙◌, ap, inr, refl, subst, sym}
use Rattle.std.specs.Prelude.{List, ℕ, None, Option, take}
use Rattle.std.specs.Io.KnownBytes.{Keeps, prepend_known}
use Rattle.wire.specs.Feeds.{left, place_of, reader_of, stood_at, whole_left}
use Rattle.wire.specs.declared.feed.Place.TheVariants as place
use Rattle.wire.specs.declared.underway.Underway.{Underway}
use Rattle.wire.proofs.Begins.{resumed_between}
use Rattle.wire.proofs.Ties.{none_is, some_is}
use Rattle.office.specs.Stepping.{ReadsOn}
use Rattle.office.specs.declared.connections.stepping.Begun.{Begun}
use Rattle.office.proofs.Asides.{HasSame, all_aside, awaits_aside, begun_aside_as, begun_there, done_not_waits, keeps_begun, keeps_none, none_aside, none_there, stands_done, stands_none, tells_done, tells_waits, turn_done}
use Rattle.office.proofs.SeatTurns.{steps_by}
use Rattle.office.proofs.Told.{if_answer}
use Rattle.office.proofs.office.Office.begin.Goals as goal

pub step-stepped-requires : goal.step-stepped-requires
step-stepped-requires g c = inr (c.resume-feed.ensures.place ∙ resumed_between (stood_at c.args.standing) c.requires.begins)

pub invariant_of-result : goal.invariant_of-result
invariant_of-result g c =
    record { short = (begun_there c.step-stepped.new.feed c.step-stepped.new.block c.in-Waits-Some.field-0 c.in-Waits-Some.field-0-0 c.in-Waits-Some.field-0-is c.in-Waits-Some.ensures.stands).0 }

pub returns-in-Done : goal.returns-in-Done
returns-in-Done g c =
    let remaining = g.R.Read.remaining in
    let feed = c.step-stepped.new.feed in
    let first : HasSame c.resume-feed.result c.args.standing c.args.reader.now = record { ahead = c.resume-feed.ensures.waiting; given = c.resume-feed.ensures.given; read_by = c.resume-feed.ensures.reader } in
    let back : reader_of feed ≡ c.reader-1.given.0 =
    sym (c.reader-1.given.1 (sym (c.into_reader.ensures.same ∙ c.set_aside-standing.ensures.same ∙ c.in-Done.ensures.same ∙ c.resume-feed.ensures.same)) ∙ c.into_reader.ensures.now ∙ c.set_aside-standing.ensures.reader) in
    let last : HasSame feed c.set_aside-standing.result.0 c.reader-1.given.0 = record { ahead = sym c.set_aside-standing.ensures.waiting; given = sym c.set_aside-standing.ensures.given; read_by = back } in
    record {
      stands = stands_done feed c.set_aside-standing.result.0 None c.in-Done.response refl c.set_aside-standing.ensures.place (sym c.set_aside-standing.ensures.given) c.in-Done.ensures.goes_on;
      turns = λ s kept.
          turn_done g.C.Clock.now_gives remaining c.args.clock.now c.step-stepped.new.clock g.K.Keeper c.args.self.now.keeper c.step-stepped.new.self.keeper s
          _ c.set_aside-standing.result.0 c.in-Done.response last (if_answer c.in-Done.response (λ at. at.1) c.in-Done.ensures.goes_on)
          (steps_by g.C.Clock.now_gives (place_of c.resume-feed.result) place.Between (left remaining c.resume-feed.result) _ (left remaining feed) (remaining (reader_of feed).inner)
          _ _ g.K.Keeper _ _ s c.in-Done.response
          (c.resume-feed.ensures.place ∙ resumed_between (stood_at c.args.standing) c.requires.begins) (none_aside remaining first (c.resume-feed.ensures.given ∙ c.requires.none))
          (c.in-Done.ensures.steps s kept));
      faults = tells_done c.in-Done.response (reader_of c.resume-feed.result) _ (reader_of feed) _ c.resume-feed.ensures.reader back c.in-Done.ensures.faults;
      all = λ is. done_not_waits c.in-Done.response is;
      unstaged = c.in-Done.ensures.unstaged;
      rest = c.in-Done.ensures.rest;
    }

pub returns-in-Waits-None : goal.returns-in-Waits-None
returns-in-Waits-None g c =
    let remaining = g.R.Read.remaining in
    let feed = c.step-stepped.new.feed in
    let first : HasSame c.resume-feed.result c.args.standing c.args.reader.now = record { ahead = c.resume-feed.ensures.waiting; given = c.resume-feed.ensures.given; read_by = c.resume-feed.ensures.reader } in
    let back : reader_of feed ≡ c.reader-1.given.0 =
    sym (c.reader-1.given.1 (sym (c.into_reader.ensures.same ∙ c.set_aside-standing.ensures.same ∙ c.in-Waits-None.ensures.same ∙ c.resume-feed.ensures.same)) ∙ c.into_reader.ensures.now ∙ c.set_aside-standing.ensures.reader) in
    let last : HasSame feed c.set_aside-standing.result.0 c.reader-1.given.0 = record { ahead = sym c.set_aside-standing.ensures.waiting; given = sym c.set_aside-standing.ensures.given; read_by = back } in
    record {
      stands =
          stands_none feed c.set_aside-standing.result.0 None refl c.set_aside-standing.ensures.place (sym c.set_aside-standing.ensures.given) (sym c.set_aside-standing.ensures.waiting)
          (none_there feed c.step-stepped.new.block c.in-Waits-None.field-0 c.in-Waits-None.field-0-is c.in-Waits-None.ensures.stands);
      turns = λ s kept.
          let h = c.in-Waits-None.ensures.steps s kept in
          let reads = subst (λ (o : Option Begun). ReadsOn remaining (left remaining c.resume-feed.result) feed c.step-stepped.new.block o) c.in-Waits-None.field-0-is h.0 in (
            keeps_none remaining last _ reads.1
                (subst (λ (l : Option (List ℕ)). Keeps l (left remaining feed)) (none_aside remaining first (c.resume-feed.ensures.given ∙ c.requires.none)) reads.2),
            h.1,
          );
      faults = tells_waits (reader_of c.resume-feed.result) _ (reader_of feed) _ c.resume-feed.ensures.reader back c.in-Waits-None.ensures.faults;
      all = λ _. all_aside remaining c.resume-feed.result feed c.args.due.most c.args.reader.now c.reader-1.given.0 c.resume-feed.ensures.most c.resume-feed.ensures.reader back c.in-Waits-None.ensures.all;
      unstaged = c.in-Waits-None.ensures.unstaged;
      rest = c.in-Waits-None.ensures.rest;
    }

pub returns-in-Waits-Some : goal.returns-in-Waits-Some
returns-in-Waits-Some g c =
    let remaining = g.R.Read.remaining in
    let feed = c.step-stepped.new.feed in
    let block = c.step-stepped.new.block in
    let first : HasSame c.resume-feed.result c.args.standing c.args.reader.now = record { ahead = c.resume-feed.ensures.waiting; given = c.resume-feed.ensures.given; read_by = c.resume-feed.ensures.reader } in
    let back : reader_of feed ≡ c.reader-1.given.0 =
    sym (c.reader-1.given.1 (sym (c.into_reader.ensures.same ∙ c.set_aside-standing.ensures.same ∙ c.in-Waits-Some.ensures.same ∙ c.resume-feed.ensures.same)) ∙ c.into_reader.ensures.now ∙ c.set_aside-standing.ensures.reader) in
    let last : HasSame feed c.set_aside-standing.result.0 c.reader-1.given.0 = record { ahead = sym c.set_aside-standing.ensures.waiting; given = sym c.set_aside-standing.ensures.given; read_by = back } in
    let there = begun_there feed block c.in-Waits-Some.field-0 c.in-Waits-Some.field-0-0 c.in-Waits-Some.field-0-is c.in-Waits-Some.ensures.stands in
    record {
      stands = (
        λ none. absurd (none_is _ (sym none)),
        λ u at.
            let same = some_is _ u at in
            begun_aside_as feed c.set_aside-standing.result.0 block c.in-Waits-Some.field-0-0 u (sym (ap (λ (w : Underway). w.text.value) same)) (sym (ap (λ (w : Underway). w.len) same))
            (sym (ap (λ (w : Underway). w.size) same)) (sym (ap (λ (w : Underway). w.kept) same)) c.set_aside-standing.ensures.place (sym c.set_aside-standing.ensures.given) there.1.0,
        awaits_aside feed c.set_aside-standing.result.0 _ (sym c.set_aside-standing.ensures.given) (sym c.set_aside-standing.ensures.waiting) there.1.1,
      );
      turns = λ s kept.
          let h = c.in-Waits-Some.ensures.steps s kept in
          let known = none_aside remaining first (c.resume-feed.ensures.given ∙ c.requires.none) in
          let reads = subst (λ (o : Option Begun). ReadsOn remaining (left remaining c.resume-feed.result) feed block o) c.in-Waits-Some.field-0-is h.0 in
          let head = take c.in-Waits-Some.field-0-0.len block in
          (keeps_begun remaining last _ head (subst (λ (l : Option (List ℕ)). Keeps l (prepend_known head (whole_left remaining feed))) known reads.1.1), h.1);
      faults = tells_waits (reader_of c.resume-feed.result) _ (reader_of feed) _ c.resume-feed.ensures.reader back c.in-Waits-Some.ensures.faults;
      all = λ _. all_aside remaining c.resume-feed.result feed c.args.due.most c.args.reader.now c.reader-1.given.0 c.resume-feed.ensures.most c.resume-feed.ensures.reader back c.in-Waits-Some.ensures.all;
      unstaged = c.in-Waits-Some.ensures.unstaged;
      rest = c.in-Waits-Some.ensures.rest;
    }
