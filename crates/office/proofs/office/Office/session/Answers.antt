use Rattle.std.proofs.Common.{◌≡◌, ◌∙◌, List, ℕ, Option, ap, subst, sym, arith}
use Rattle.wire.specs.Feeds.{left, reader_of, waits_in}
use Rattle.office.specs.Connections.{Serves, TellsFaults}
use Rattle.office.specs.Sessions.{most_messages}
use Rattle.office.proofs.SessionSteps.{fresh_left}
use Rattle.office.proofs.office.Office.session.Goals as goal

pub returns-clause-serves : goal.returns-clause-serves
returns-clause-serves g c s kept =
    let remaining = g.R.Read.remaining in
    let h = c.serve_feed-end.ensures.serves s kept in
    let first : left remaining c.new-feed.result ≡ remaining c.args.reader.now.inner =
    fresh_left (waits_in c.new-feed.result) (remaining (reader_of c.new-feed.result).inner) c.new-feed.ensures.waiting ∙ ap (λ r. remaining r.inner) c.new-feed.ensures.reader in
    let last : reader_of c.serve_feed-end.new.feed ≡ c.reader-1.given.0 =
    sym (c.reader-1.given.1 (sym (c.into_reader.ensures.same ∙ c.serve_feed-end.ensures.same ∙ c.new-feed.ensures.same)) ∙ c.into_reader.ensures.now) in
    let served = subst (λ r. Serves most_messages g.C.Clock.now_gives (left remaining c.new-feed.result) (remaining r.inner) (g.W.Write.contents c.args.writer.now.inner) (g.W.Write.contents c.serve_feed-end.new.writer.inner)
    c.args.clock.now c.serve_feed-end.new.clock g.K.Keeper c.args.self.now.keeper c.serve_feed-end.new.self.keeper s h.0 c.serve_feed-end.result) last h.2 in (
      h.0,
      h.1,
      subst (λ (input : Option (List ℕ)). Serves most_messages g.C.Clock.now_gives input (remaining c.reader-1.given.0.inner) (g.W.Write.contents c.args.writer.now.inner) (g.W.Write.contents c.serve_feed-end.new.writer.inner)
          c.args.clock.now c.serve_feed-end.new.clock g.K.Keeper c.args.self.now.keeper c.serve_feed-end.new.self.keeper s h.0 c.serve_feed-end.result) first served,
    )

pub returns-clause-faults : goal.returns-clause-faults
returns-clause-faults g c =
    let last : reader_of c.serve_feed-end.new.feed ≡ c.reader-1.given.0 =
    sym (c.reader-1.given.1 (sym (c.into_reader.ensures.same ∙ c.serve_feed-end.ensures.same ∙ c.new-feed.ensures.same)) ∙ c.into_reader.ensures.now) in
    subst (λ r. TellsFaults c.serve_feed-end.result r c.reader-1.given.0 c.args.writer.now c.serve_feed-end.new.writer) c.new-feed.ensures.reader
    (subst (λ r. TellsFaults c.serve_feed-end.result (reader_of c.new-feed.result) r c.args.writer.now c.serve_feed-end.new.writer) last c.serve_feed-end.ensures.faults)

pub returns-clause-rest : goal.returns-clause-rest
returns-clause-rest g c = grind arith

pub returns-clause-unstaged : goal.returns-clause-unstaged
returns-clause-unstaged g c = grind arith

pub serve_feed-end-requires : goal.serve_feed-end-requires
serve_feed-end-requires g c = grind arith
