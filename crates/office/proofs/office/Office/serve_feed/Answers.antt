use Rattle.std.proofs.Common.{◌∙◌, ℕ, Option, None, Some, inl, inr, refl, subst, arith}
use Rattle.sigtext.specs.Counts.{Rose}
use Rattle.wire.specs.Feeds.{left, place_of, reader_of}
use Rattle.wire.specs.declared.session.SessionEnd.{SessionEnd}
use Rattle.office.specs.Responding.{IsTold, TellsWritten}
use Rattle.office.proofs.Endings.{limit_no_read, limit_no_write}
use Rattle.office.proofs.KeeperCalls.{unstaged_then}
use Rattle.office.proofs.Holding.{holds_less, holds_still, holds_then}
use Rattle.office.proofs.SessionSteps.{follows_first, follows_more, follows_end, follows_limit, not_fresh}
use Rattle.office.proofs.Told.{steps_told, told_answer, told_faults, told_gives_up}
use Rattle.office.proofs.Unstaged.{may_later}
use Rattle.office.proofs.office.Office.serve_feed.Goals as goal

pub messages-init : goal.messages-init
messages-init g c = (
  (c.requires.begins, λ fresh. refl),
  refl,
  refl,
  refl,
  holds_still,
  λ none. inl none,
  λ s kept. (
    s,
    record { means = kept.means; sound = kept.sound },
    follows_first g.C.Clock.now_gives (left g.R.Read.remaining c.args.feed.now) (g.W.Write.contents c.args.writer.now.inner) c.args.clock.now g.K.Keeper c.args.self.now.keeper s,
  ),
  c.requires.free,
)

pub step-requires : goal.step-requires
step-requires g c = c.messages.invariant.0.0

pub returns-in-Some-clause-same : goal.returns-in-Some-clause-same
returns-in-Some-clause-same g c = c.step.ensures.same ∙ c.messages.invariant.1

pub returns-in-Some-clause-serves : goal.returns-in-Some-clause-serves
returns-in-Some-clause-serves g c s kept =
    let x = c.messages.invariant.6 s (record { means = kept.means; is_honest = c.in-Done.ensures.rest.honest kept.is_honest; sound = kept.sound }) in
    let by = c.in-Done.ensures.steps x.0 (record { means = x.1.means; is_honest = kept.is_honest; sound = x.1.sound }) in
    let old = g.W.Write.contents c.messages.writer.inner in
    let new = g.W.Write.contents c.respond.new.writer.inner in
    let h = steps_told g.C.Clock.now_gives (place_of c.messages.feed) (left g.R.Read.remaining c.messages.feed) (left g.R.Read.remaining c.step.new.feed) (g.R.Read.remaining (reader_of c.step.new.feed).inner) c.messages.clock c.step.new.clock
    g.K.Keeper c.messages.self.keeper c.step.new.self.keeper x.0 old new c.in-Done.response (Some c.in-Some.end) by (subst (IsTold old new c.in-Done.response) c.in-Some.is c.respond.ensures.told) in (
      h.0,
      h.1,
      follows_end g.C.Clock.now_gives c.messages.counter (left g.R.Read.remaining c.args.feed.now) (left g.R.Read.remaining c.messages.feed) (g.W.Write.contents c.args.writer.now.inner) old c.args.clock.now c.messages.clock g.K.Keeper c.args.self.now.keeper c.messages.self.keeper s x.0 x.2
          (place_of c.messages.feed) (g.R.Read.remaining (reader_of c.step.new.feed).inner) new c.step.new.clock c.step.new.self.keeper h.0 c.in-Some.end c.messages-test.true c.messages.invariant.0.1 h.2,
    )

pub returns-in-Some-clause-faults : goal.returns-in-Some-clause-faults
returns-in-Some-clause-faults g c =
    let old = g.W.Write.contents c.messages.writer.inner in
    let new = g.W.Write.contents c.respond.new.writer.inner in
    let f = told_faults c.in-Done.response (Some c.in-Some.end) (reader_of c.messages.feed) (reader_of c.step.new.feed) c.messages.writer c.respond.new.writer old new
    (subst (IsTold old new c.in-Done.response) c.in-Some.is c.respond.ensures.told) c.in-Done.ensures.faults
    (subst (λ (o : Option SessionEnd). TellsWritten o c.messages.writer c.respond.new.writer) c.in-Some.is c.respond.ensures.faults) in
    record {
      read = λ is. subst (λ (n : ℕ). Rose n (reader_of c.step.new.feed).faults) c.messages.invariant.2 (f.read is);
      not_read = λ other. f.not_read other ∙ c.messages.invariant.2;
      written = λ is. subst (λ (n : ℕ). Rose n c.respond.new.writer.faults) c.messages.invariant.3 (f.written is);
      not_written = λ other. f.not_written other ∙ c.messages.invariant.3;
    }

pub messages-preserved : goal.messages-preserved
messages-preserved g c =
    let old = g.W.Write.contents c.messages.writer.inner in
    let new = g.W.Write.contents c.respond.new.writer.inner in
    let is_told = subst (IsTold old new c.in-Done.response) c.in_default.is c.respond.ensures.told in
    let on = told_answer old new c.in-Done.response is_told c.in-Done.ensures.goes_on in
    let told = told_faults c.in-Done.response None (reader_of c.messages.feed) (reader_of c.step.new.feed) c.messages.writer c.respond.new.writer old new is_told c.in-Done.ensures.faults
    (subst (λ (o : Option SessionEnd). TellsWritten o c.messages.writer c.respond.new.writer) c.in_default.is c.respond.ensures.faults) in
    let rest = holds_less (told_gives_up g.K.Keeper c.messages.self.keeper c.step.new.self.keeper old new c.in-Done.response None is_told) c.in-Done.ensures.rest in (
      (inr on.0, λ fresh. absurd (not_fresh _ on.0 fresh)),
      c.step.ensures.same ∙ c.messages.invariant.1,
      told.0 ∙ c.messages.invariant.2,
      told.1 ∙ c.messages.invariant.3,
      holds_then c.messages.invariant.4 rest,
      unstaged_then g.K.Keeper c.args.self.now.keeper c.messages.self.keeper c.step.new.self.keeper c.messages.invariant.5 c.messages.invariant.4.never_less c.step.ensures.unstaged c.in-Done.ensures.rest.never_less,
      λ s kept.
          let x = c.messages.invariant.6 s (record { means = kept.means; is_honest = c.in-Done.ensures.rest.honest kept.is_honest; sound = kept.sound }) in
          let by = c.in-Done.ensures.steps x.0 (record { means = x.1.means; is_honest = kept.is_honest; sound = x.1.sound }) in
          let h = steps_told g.C.Clock.now_gives (place_of c.messages.feed) (left g.R.Read.remaining c.messages.feed) (left g.R.Read.remaining c.step.new.feed) (g.R.Read.remaining (reader_of c.step.new.feed).inner) c.messages.clock c.step.new.clock
          g.K.Keeper c.messages.self.keeper c.step.new.self.keeper x.0 old new c.in-Done.response None by is_told in (
            h.0,
            h.1,
            follows_more g.C.Clock.now_gives c.messages.counter (left g.R.Read.remaining c.args.feed.now) (left g.R.Read.remaining c.messages.feed) (g.W.Write.contents c.args.writer.now.inner) old c.args.clock.now c.messages.clock g.K.Keeper c.args.self.now.keeper c.messages.self.keeper s x.0 x.2
                (left g.R.Read.remaining c.step.new.feed) new c.step.new.clock c.step.new.self.keeper h.0 h.2,
          ),
      c.in-Done.ensures.free c.messages.invariant.7,
    )

pub returns-clause-same : goal.returns-clause-same
returns-clause-same g c = c.messages.invariant.1

pub returns-clause-serves : goal.returns-clause-serves
returns-clause-serves g c s kept =
    let x = c.messages.invariant.6 s kept in (
      x.0,
      x.1,
      follows_limit g.C.Clock.now_gives c.messages.counter (left g.R.Read.remaining c.args.feed.now) (left g.R.Read.remaining c.messages.feed) (g.W.Write.contents c.args.writer.now.inner) (g.W.Write.contents c.messages.writer.inner) c.args.clock.now c.messages.clock g.K.Keeper c.args.self.now.keeper c.messages.self.keeper s x.0 x.2
          (g.R.Read.remaining (reader_of c.messages.feed).inner) (omega (arith, c.messages.auto.counter-end, c.messages-test.false)),
    )

pub returns-clause-faults : goal.returns-clause-faults
returns-clause-faults g c = record {
  read = λ is. absurd (limit_no_read is);
  not_read = λ other. c.messages.invariant.2;
  written = λ is. absurd (limit_no_write is);
  not_written = λ other. c.messages.invariant.3;
}

pub returns-in-Some-clause-rest : goal.returns-in-Some-clause-rest
returns-in-Some-clause-rest g c =
    let old = g.W.Write.contents c.messages.writer.inner in
    let new = g.W.Write.contents c.respond.new.writer.inner in
    let is_told = subst (IsTold old new c.in-Done.response) c.in-Some.is c.respond.ensures.told in
    holds_then c.messages.invariant.4
    (holds_less (λ gives. may_later g.K.Keeper c.args.self.now.keeper c.messages.self.keeper c.step.new.self.keeper c.in-Some.end c.messages.invariant.4.never_less
    (told_gives_up g.K.Keeper c.messages.self.keeper c.step.new.self.keeper old new c.in-Done.response (Some c.in-Some.end) is_told gives)) c.in-Done.ensures.rest)

pub returns-clause-rest : goal.returns-clause-rest
returns-clause-rest g c = holds_less (λ none. absurd none) c.messages.invariant.4

pub returns-in-Some-clause-unstaged : goal.returns-in-Some-clause-unstaged
returns-in-Some-clause-unstaged g c =
    unstaged_then g.K.Keeper c.args.self.now.keeper c.messages.self.keeper c.step.new.self.keeper c.messages.invariant.5 c.messages.invariant.4.never_less c.step.ensures.unstaged c.step.ensures.rest.never_less

pub returns-clause-unstaged : goal.returns-clause-unstaged
returns-clause-unstaged g c = c.messages.invariant.5
