use Rattle.std.proofs.Common.{◌≡◌, ◌∙◌, None, Option, [], ap, arith, inl, length, refl, subst, sym}
use Rattle.std.specs.Prelude.{is_some, not}
use Rattle.std.proofs.lemmas.List.{length_push}
use Rattle.wire.specs.declared.session.SessionEnd.{SessionEnd}
use Rattle.wire.specs.declared.session.SessionEnd.TheVariants.{Limit}
use Rattle.wire.specs.declared.standing.Standing.{Standing}
use Rattle.wire.specs.declared.underway.Underway.{Underway}
use Rattle.wire.specs.Feeds.{given_before, stood_at}
use Rattle.wire.specs.declared.feed.Place.TheVariants as place
use Rattle.wire.specs.Seats.{left_behind, left_of}
use Rattle.wire.specs.Underways.{IsUnderway}
use Rattle.wire.specs.Whole.{MayBegin}
use Rattle.wire.proofs.Begins.{may_begin_there}
use Rattle.wire.proofs.Ends.{none_of, some_of}
use Rattle.wire.proofs.Ties.{none_is}
use Rattle.wire.proofs.Underways.{still_underway}
use Rattle.office.specs.Responding.{IsTold}
use Rattle.office.specs.Seats.{TellsTurnOf, ended, had_ended}
use Rattle.office.proofs.Holding.{holds_less, holds_still}
use Rattle.office.proofs.SeatAsides.{answered_turn, begins_aside, begins_at, ended_turn, never_fresh, none_underway, read_on_turn}
use Rattle.office.proofs.SeatTurns.{turn_tells}
use Rattle.office.proofs.SessionSteps.{none_ends, none_gives_up, not_fresh, serves_none}
use Rattle.office.proofs.Told.{steps_told, told_answer, told_faults, told_gives_up}
use Rattle.office.proofs.office.Office.take_turn.Goals as goal

pub returns-then-is_some-clause-turns : goal.returns-then-is_some-clause-turns
returns-then-is_some-clause-turns g c s kept =
    let e = some_of c.args.seat.now.end (sym (ap is_some c.end.ensures) ∙ sym c.is_some.ensures ∙ c.if-is_some.true) in
    (s, record { means = kept.means; sound = kept.sound }, had_ended e.0 e.1 refl refl refl refl)

pub returns-then-seat-ge-MOST_MESSAGES-clause-turns : goal.returns-then-seat-ge-MOST_MESSAGES-clause-turns
returns-then-seat-ge-MOST_MESSAGES-clause-turns g c s kept =
    let seat = c.args.seat.now in
    let was_open = none_of seat.end (sym (ap is_some c.end.ensures) ∙ sym c.is_some.ensures ∙ c.if-is_some.false) in (
      s,
      record { means = kept.means; sound = kept.sound },
      ended 0 Limit was_open refl refl refl (omega (arith, c.if-seat-ge-MOST_MESSAGES.true, seat.few))
          (serves_none g.C.Clock.now_gives (left_of g.R.Read.remaining seat) (g.R.Read.remaining seat.reader.inner) (g.W.Write.contents seat.writer.inner) c.args.clock.now g.K.Keeper c.args.self.now.keeper s)
          (none_ends g.C.Clock.now_gives (left_of g.R.Read.remaining seat) (g.R.Read.remaining seat.reader.inner) (g.W.Write.contents seat.writer.inner) c.args.clock.now g.K.Keeper c.args.self.now.keeper s)
          (none_gives_up g.C.Clock.now_gives (left_of g.R.Read.remaining seat) (g.R.Read.remaining seat.reader.inner) (g.W.Write.contents seat.writer.inner) c.args.clock.now g.K.Keeper c.args.self.now.keeper s),
    )

pub turn_aside-aside-requires-clause-begins : goal.turn_aside-aside-requires-clause-begins
turn_aside-aside-requires-clause-begins g c none =
    let seat = c.args.seat.now in
    let was_open = none_of seat.end (sym (ap is_some c.end.ensures) ∙ sym c.is_some.ensures ∙ c.if-is_some.false) in
    subst (λ (l : Standing). MayBegin (stood_at l)) (sym c.replace-standing.ensures.value) (may_begin_there (stood_at seat.standing) (seat.begins was_open (sym c.take-underway.ensures.value ∙ none)))

pub turn_aside-aside-requires-clause-none : goal.turn_aside-aside-requires-clause-none
turn_aside-aside-requires-clause-none g c none =
    let seat = c.args.seat.now in
    let was_open = none_of seat.end (sym (ap is_some c.end.ensures) ∙ sym c.is_some.ensures ∙ c.if-is_some.false) in
    subst (λ (l : Standing). given_before l ≡ []) (sym c.replace-standing.ensures.value) (seat.forgot was_open (sym c.take-underway.ensures.value ∙ none))

pub turn_aside-aside-requires-clause-goes_on : goal.turn_aside-aside-requires-clause-goes_on
turn_aside-aside-requires-clause-goes_on g c u is =
    subst (λ (l : Standing). IsUnderway u l) (sym c.replace-standing.ensures.value) (c.args.seat.now.goes_on u (sym c.take-underway.ensures.value ∙ is))

pub invariant_of-seat : goal.invariant_of-seat
invariant_of-seat g c =
    let seat = c.args.seat.now in
    record {
      few = seat.few;
      begins = λ over none. absurd (none_is Limit (sym over));
      forgot = λ over none. absurd (none_is Limit (sym over));
      goes_on = still_underway seat.underway seat.standing c.let_go.new.self c.let_go.ensures.place c.let_go.ensures.given seat.goes_on;
      fresh = λ over at. absurd (none_is Limit (sym over));
    }

pub returns-then-is_some-clause-unstaged : goal.returns-then-is_some-clause-unstaged
returns-then-is_some-clause-unstaged g c = λ none. inl none

pub returns-then-is_some-clause-rest : goal.returns-then-is_some-clause-rest
returns-then-is_some-clause-rest g c = holds_still

pub returns-then-seat-ge-MOST_MESSAGES-clause-unstaged : goal.returns-then-seat-ge-MOST_MESSAGES-clause-unstaged
returns-then-seat-ge-MOST_MESSAGES-clause-unstaged g c = λ none. inl none

pub returns-then-seat-ge-MOST_MESSAGES-clause-rest : goal.returns-then-seat-ge-MOST_MESSAGES-clause-rest
returns-then-seat-ge-MOST_MESSAGES-clause-rest g c = holds_still

pub returns-then-is_some-clause-faults : goal.returns-then-is_some-clause-faults
returns-then-is_some-clause-faults g c =
    let seat = c.args.seat.now in
    let e = some_of seat.end (sym (ap is_some c.end.ensures) ∙ sym c.is_some.ensures ∙ c.if-is_some.true) in
    subst (λ (o : Option SessionEnd). TellsTurnOf o seat seat) (sym e.1) refl

pub returns-then-is_some-clause-all : goal.returns-then-is_some-clause-all
returns-then-is_some-clause-all g c = λ other. absurd (other refl)

pub returns-then-is_some-clause-awaits : goal.returns-then-is_some-clause-awaits
returns-then-is_some-clause-awaits g c = λ other. absurd (other refl)

pub returns-then-seat-ge-MOST_MESSAGES-clause-all : goal.returns-then-seat-ge-MOST_MESSAGES-clause-all
returns-then-seat-ge-MOST_MESSAGES-clause-all g c = λ other. absurd (other refl)

pub returns-then-seat-ge-MOST_MESSAGES-clause-awaits : goal.returns-then-seat-ge-MOST_MESSAGES-clause-awaits
returns-then-seat-ge-MOST_MESSAGES-clause-awaits g c = λ other. absurd (other refl)

-- ---- the turn only read on

pub returns-in_default-clause-turns : goal.returns-in_default-clause-turns
returns-in_default-clause-turns g c s kept =
    let seat = c.args.seat.now in
    let was_open = none_of c.args.seat.now.end (sym (ap is_some c.end.ensures) ∙ sym c.is_some.ensures ∙ c.if-is_some.false) in
    let rest = g.R.Read.remaining seat.reader.inner in
    let known : left_behind c.take-underway.result c.replace-standing.result rest ≡ left_of g.R.Read.remaining seat =
    ap (λ (u : Option Underway). left_behind u c.replace-standing.result rest) c.take-underway.ensures.value ∙ ap (λ (l : Standing). left_behind seat.underway l rest) c.replace-standing.ensures.value in
    let longer = ap length c.and-seat.ensures in
    read_on_turn g.C.Clock.now_gives g.R.Read.remaining g.W.Write.contents seat _ c.turn_aside-aside.result c.args.clock.now c.turn_aside-aside.new.clock g.K.Keeper c.args.self.now.keeper c.turn_aside-aside.new.self.keeper s
    was_open _ c.turn_aside-aside.result.turn known c.in_default.is was_open refl (longer ∙ omega (arith, length_push seat.waited.items (seat.served, seat.served))) refl refl refl (c.turn_aside-aside.ensures.turns s kept)

pub returns-in_default-clause-faults : goal.returns-in_default-clause-faults
returns-in_default-clause-faults g c =
    let seat = c.args.seat.now in
    let was_open = none_of c.args.seat.now.end (sym (ap is_some c.end.ensures) ∙ sym c.is_some.ensures ∙ c.if-is_some.false) in
    turn_tells seat _ None was_open was_open (rw c.in_default.is at c.turn_aside-aside.ensures.faults, refl)

pub returns-in_default-clause-unstaged : goal.returns-in_default-clause-unstaged
returns-in_default-clause-unstaged g c = c.turn_aside-aside.ensures.unstaged

pub returns-in_default-clause-rest : goal.returns-in_default-clause-rest
returns-in_default-clause-rest g c = holds_less (λ (is : ⊥). absurd is) (rw c.in_default.is at c.turn_aside-aside.ensures.rest)

pub returns-in_default-clause-free : goal.returns-in_default-clause-free
returns-in_default-clause-free g c = λ none. absurd (rw none at c.turn_aside-aside.ensures.all c.in_default.is)

pub returns-in_default-clause-all : goal.returns-in_default-clause-all
returns-in_default-clause-all g c = λ _. c.turn_aside-aside.ensures.all c.in_default.is

pub returns-in_default-clause-awaits : goal.returns-in_default-clause-awaits
returns-in_default-clause-awaits g c = λ _.
    let stands = rw c.in_default.is at c.turn_aside-aside.ensures.stands in
    stands.2

pub invariant_of-seat-in_default : goal.invariant_of-seat-in_default
invariant_of-seat-in_default g c =
    let aside = c.turn_aside-aside.result in
    let stands = rw c.in_default.is at c.turn_aside-aside.ensures.stands in
    record {
      few = c.args.seat.now.few;
      begins = λ still none. begins_aside aside stands none;
      forgot = λ still none. (stands.0 none).1;
      goes_on = stands.1;
      fresh = λ still at. absurd (never_fresh aside aside.underway refl stands at);
    }

-- ---- a message was heard, and the connection goes on

pub returns-then-is_none-clause-turns : goal.returns-then-is_none-clause-turns
returns-then-is_none-clause-turns g c s kept =
    let seat = c.args.seat.now in
    let was_open = none_of c.args.seat.now.end (sym (ap is_some c.end.ensures) ∙ sym c.is_some.ensures ∙ c.if-is_some.false) in
    let rest = g.R.Read.remaining seat.reader.inner in
    let known : left_behind c.take-underway.result c.replace-standing.result rest ≡ left_of g.R.Read.remaining seat =
    ap (λ (u : Option Underway). left_behind u c.replace-standing.result rest) c.take-underway.ensures.value ∙ ap (λ (l : Standing). left_behind seat.underway l rest) c.replace-standing.ensures.value in
    let aside = c.turn_aside-aside.result in
    let old = g.W.Write.contents seat.writer.inner in
    let new = g.W.Write.contents c.respond-seat.new.writer.inner in
    let by = rw c.in-Done.is at c.turn_aside-aside.ensures.turns s kept in
    let h = steps_told g.C.Clock.now_gives place.Between (left_behind c.take-underway.result c.replace-standing.result rest) (left_behind None aside.standing (g.R.Read.remaining c.turn_aside-aside.new.reader.inner)) (g.R.Read.remaining c.turn_aside-aside.new.reader.inner)
    c.args.clock.now c.turn_aside-aside.new.clock g.K.Keeper c.args.self.now.keeper c.turn_aside-aside.new.self.keeper s old new c.in-Done.response c.respond-seat.result by (rw c.in-Done.is at c.respond-seat.ensures.told) in
    let still = none_of c.respond-seat.result (c.is_none.ensures ∙ ap not c.if-is_none.true) in
    let stands = rw c.in-Done.is at c.turn_aside-aside.ensures.stands in
    answered_turn g.C.Clock.now_gives g.R.Read.remaining g.W.Write.contents seat _ aside c.args.clock.now c.turn_aside-aside.new.clock g.K.Keeper c.args.self.now.keeper c.turn_aside-aside.new.self.keeper s
    was_open _ c.respond-seat.result known still still refl refl refl refl stands.0 h

pub invariant_of-seat-then-is_none : goal.invariant_of-seat-then-is_none
invariant_of-seat-then-is_none g c =
    let aside = c.turn_aside-aside.result in
    let stands = rw c.in-Done.is at c.turn_aside-aside.ensures.stands in
    let old = g.W.Write.contents c.args.seat.now.writer.inner in
    let new = g.W.Write.contents c.respond-seat.new.writer.inner in
    let still = none_of c.respond-seat.result (c.is_none.ensures ∙ ap not c.if-is_none.true) in
    let at = told_answer old new c.in-Done.response (subst (IsTold old new c.in-Done.response) still (rw c.in-Done.is at c.respond-seat.ensures.told)) stands.1 in
    record {
      few = omega (arith, c.if-seat-ge-MOST_MESSAGES.false);
      begins = λ still none. begins_at aside.standing at.0;
      forgot = λ still none. at.1;
      goes_on = none_underway aside.underway aside.standing stands.0;
      fresh = λ still fresh. absurd (not_fresh (stood_at aside.standing) at.0 fresh);
    }

-- ---- the connection ended

pub returns-clause-turns : goal.returns-clause-turns
returns-clause-turns g c s kept =
    let seat = c.args.seat.now in
    let was_open = none_of c.args.seat.now.end (sym (ap is_some c.end.ensures) ∙ sym c.is_some.ensures ∙ c.if-is_some.false) in
    let rest = g.R.Read.remaining seat.reader.inner in
    let known : left_behind c.take-underway.result c.replace-standing.result rest ≡ left_of g.R.Read.remaining seat =
    ap (λ (u : Option Underway). left_behind u c.replace-standing.result rest) c.take-underway.ensures.value ∙ ap (λ (l : Standing). left_behind seat.underway l rest) c.replace-standing.ensures.value in
    let aside = c.turn_aside-aside.result in
    let old = g.W.Write.contents seat.writer.inner in
    let new = g.W.Write.contents c.respond-seat.new.writer.inner in
    let by = rw c.in-Done.is at c.turn_aside-aside.ensures.turns s kept in
    let h = steps_told g.C.Clock.now_gives place.Between (left_behind c.take-underway.result c.replace-standing.result rest) (left_behind None aside.standing (g.R.Read.remaining c.turn_aside-aside.new.reader.inner)) (g.R.Read.remaining c.turn_aside-aside.new.reader.inner)
    c.args.clock.now c.turn_aside-aside.new.clock g.K.Keeper c.args.self.now.keeper c.turn_aside-aside.new.self.keeper s old new c.in-Done.response c.respond-seat.result by (rw c.in-Done.is at c.respond-seat.ensures.told) in
    let over = some_of c.respond-seat.result (c.is_none.ensures ∙ ap not c.if-is_none.false) in
    ended_turn g.C.Clock.now_gives g.R.Read.remaining g.W.Write.contents seat _ aside c.args.clock.now c.turn_aside-aside.new.clock g.K.Keeper c.args.self.now.keeper c.turn_aside-aside.new.self.keeper s
    was_open _ c.respond-seat.result over.0 known over.1 (omega (arith, c.if-seat-ge-MOST_MESSAGES.false)) over.1 refl refl h

-- ---- either way

pub returns-then-is_none-clause-faults : goal.returns-then-is_none-clause-faults
returns-then-is_none-clause-faults g c =
    let seat = c.args.seat.now in
    let was_open = none_of c.args.seat.now.end (sym (ap is_some c.end.ensures) ∙ sym c.is_some.ensures ∙ c.if-is_some.false) in
    let old = g.W.Write.contents seat.writer.inner in
    let new = g.W.Write.contents c.respond-seat.new.writer.inner in
    turn_tells seat _ c.respond-seat.result was_open refl
    (told_faults c.in-Done.response c.respond-seat.result seat.reader c.turn_aside-aside.new.reader seat.writer c.respond-seat.new.writer old new (rw c.in-Done.is at c.respond-seat.ensures.told) (rw c.in-Done.is at c.turn_aside-aside.ensures.faults) c.respond-seat.ensures.faults)

pub returns-then-is_none-clause-unstaged : goal.returns-then-is_none-clause-unstaged
returns-then-is_none-clause-unstaged g c = c.turn_aside-aside.ensures.unstaged

pub returns-then-is_none-clause-rest : goal.returns-then-is_none-clause-rest
returns-then-is_none-clause-rest g c =
    let old = g.W.Write.contents c.args.seat.now.writer.inner in
    let new = g.W.Write.contents c.respond-seat.new.writer.inner in
    holds_less (told_gives_up g.K.Keeper c.args.self.now.keeper c.turn_aside-aside.new.self.keeper old new c.in-Done.response c.respond-seat.result (rw c.in-Done.is at c.respond-seat.ensures.told))
    (rw c.in-Done.is at c.turn_aside-aside.ensures.rest)

pub returns-then-is_none-clause-all : goal.returns-then-is_none-clause-all
returns-then-is_none-clause-all g c = λ other. absurd (other refl)

pub returns-then-is_none-clause-awaits : goal.returns-then-is_none-clause-awaits
returns-then-is_none-clause-awaits g c = λ other. absurd (other refl)

pub returns-clause-faults : goal.returns-clause-faults
returns-clause-faults g c =
    let seat = c.args.seat.now in
    let was_open = none_of c.args.seat.now.end (sym (ap is_some c.end.ensures) ∙ sym c.is_some.ensures ∙ c.if-is_some.false) in
    let old = g.W.Write.contents seat.writer.inner in
    let new = g.W.Write.contents c.respond-seat.new.writer.inner in
    turn_tells seat _ c.respond-seat.result was_open refl
    (told_faults c.in-Done.response c.respond-seat.result seat.reader c.turn_aside-aside.new.reader seat.writer c.respond-seat.new.writer old new (rw c.in-Done.is at c.respond-seat.ensures.told) (rw c.in-Done.is at c.turn_aside-aside.ensures.faults) c.respond-seat.ensures.faults)

pub returns-clause-unstaged : goal.returns-clause-unstaged
returns-clause-unstaged g c = c.turn_aside-aside.ensures.unstaged

pub returns-clause-rest : goal.returns-clause-rest
returns-clause-rest g c =
    let old = g.W.Write.contents c.args.seat.now.writer.inner in
    let new = g.W.Write.contents c.respond-seat.new.writer.inner in
    holds_less (told_gives_up g.K.Keeper c.args.self.now.keeper c.turn_aside-aside.new.self.keeper old new c.in-Done.response c.respond-seat.result (rw c.in-Done.is at c.respond-seat.ensures.told))
    (rw c.in-Done.is at c.turn_aside-aside.ensures.rest)

pub returns-clause-all : goal.returns-clause-all
returns-clause-all g c = λ other. absurd (other refl)

pub returns-clause-awaits : goal.returns-clause-awaits
returns-clause-awaits g c = λ other. absurd (other refl)
