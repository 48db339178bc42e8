use Rattle.std.proofs.Common.{◌≡◌, ◌∙◌, None, refl, sym}
use Rattle.wire.specs.Feeds.{reader_of, stood_at}
use Rattle.wire.specs.Underways.{head_of}
use Rattle.wire.specs.declared.feed.Place.TheVariants as place
use Rattle.office.proofs.Asides.{HasSame, all_aside, awaits_aside, done_not_waits, keeps_begun, keeps_resumed, resumed_begun, stands_begun, stands_done, tells_done, tells_waits, turn_done, underway_aside}
use Rattle.office.proofs.Told.{if_answer}
use Rattle.office.proofs.office.Office.go_on.Goals as goal

pub resume-resumed-requires : goal.resume-resumed-requires
resume-resumed-requires g c = resumed_begun (head_of c.args.underway) c.args.underway _ (stood_at c.args.standing) _ _ c.resume-feed.ensures.place c.resume-feed.ensures.given c.requires

pub returns-in-Done : goal.returns-in-Done
returns-in-Done g c =
    let remaining = g.R.Read.remaining in
    let feed = c.resume-resumed.new.feed in
    let first : HasSame c.resume-feed.result c.args.standing c.args.reader.now = record { ahead = c.resume-feed.ensures.waiting; given = c.resume-feed.ensures.given; read_by = c.resume-feed.ensures.reader } in
    let back : reader_of feed ≡ c.reader-1.given.0 =
    sym (c.reader-1.given.1 (sym (c.into_reader.ensures.same ∙ c.set_aside-standing.ensures.same ∙ c.in-Done.ensures.same ∙ c.resume-feed.ensures.same)) ∙ c.into_reader.ensures.now ∙ c.set_aside-standing.ensures.reader) in
    let last : HasSame feed c.set_aside-standing.result.0 c.reader-1.given.0 = record { ahead = sym c.set_aside-standing.ensures.waiting; given = sym c.set_aside-standing.ensures.given; read_by = back } in
    record {
      stands = stands_done feed c.set_aside-standing.result.0 None c.in-Done.response refl c.set_aside-standing.ensures.place (sym c.set_aside-standing.ensures.given) c.in-Done.ensures.goes_on;
      turns = λ s kept.
          turn_done g.C.Clock.now_gives remaining c.args.clock.now c.resume-resumed.new.clock g.K.Keeper c.args.self.now.keeper c.resume-resumed.new.self.keeper s
          _ c.set_aside-standing.result.0 c.in-Done.response last (if_answer c.in-Done.response (λ at. at.1) c.in-Done.ensures.goes_on)
          (c.in-Done.ensures.steps s place.Between _ kept (keeps_resumed remaining first c.args.underway));
      faults = tells_done c.in-Done.response (reader_of c.resume-feed.result) _ (reader_of feed) _ c.resume-feed.ensures.reader back c.in-Done.ensures.faults;
      all = λ is. done_not_waits c.in-Done.response is;
      unstaged = c.in-Done.ensures.unstaged;
      rest = c.in-Done.ensures.rest;
    }

pub returns-in-Waits : goal.returns-in-Waits
returns-in-Waits g c =
    let remaining = g.R.Read.remaining in
    let feed = c.resume-resumed.new.feed in
    let u = c.in-Waits.underway in
    let first : HasSame c.resume-feed.result c.args.standing c.args.reader.now = record { ahead = c.resume-feed.ensures.waiting; given = c.resume-feed.ensures.given; read_by = c.resume-feed.ensures.reader } in
    let back : reader_of feed ≡ c.reader-1.given.0 =
    sym (c.reader-1.given.1 (sym (c.into_reader.ensures.same ∙ c.set_aside-standing.ensures.same ∙ c.in-Waits.ensures.same ∙ c.resume-feed.ensures.same)) ∙ c.into_reader.ensures.now ∙ c.set_aside-standing.ensures.reader) in
    let last : HasSame feed c.set_aside-standing.result.0 c.reader-1.given.0 = record { ahead = sym c.set_aside-standing.ensures.waiting; given = sym c.set_aside-standing.ensures.given; read_by = back } in
    record {
      stands =
          stands_begun c.set_aside-standing.result.0 u (underway_aside feed c.set_aside-standing.result.0 u c.set_aside-standing.ensures.place (sym c.set_aside-standing.ensures.given) c.in-Waits.ensures.stands.0)
          (awaits_aside feed c.set_aside-standing.result.0 u (sym c.set_aside-standing.ensures.given) (sym c.set_aside-standing.ensures.waiting) c.in-Waits.ensures.stands.1);
      turns = λ s kept.
          let h = c.in-Waits.ensures.steps s place.Between _ kept (keeps_resumed remaining first c.args.underway) in
          (keeps_begun remaining last _ (head_of u) h.0.1, h.1);
      faults = tells_waits (reader_of c.resume-feed.result) _ (reader_of feed) _ c.resume-feed.ensures.reader back c.in-Waits.ensures.faults;
      all = λ _. all_aside remaining c.resume-feed.result feed c.args.due.most c.args.reader.now c.reader-1.given.0 c.resume-feed.ensures.most c.resume-feed.ensures.reader back c.in-Waits.ensures.all;
      unstaged = c.in-Waits.ensures.unstaged;
      rest = c.in-Waits.ensures.rest;
    }
