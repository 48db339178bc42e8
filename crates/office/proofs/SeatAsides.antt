-- What a turn makes of a seat: from its feed, which was set aside, to the turn that its connection took.
use Rattle.std.proofs.Common.{◌≡◌, ◌∙◌, ◌+◌, ◌-◌, ◌<◌, ℕ, suc, List, length, Option, None, Some, refl, sym, ap, subst, arith}
use Rattle.std.specs.Prelude.{IsTrue}
use Rattle.std.specs.Io.KnownBytes.{Keeps}
use Rattle.std.specs.Option.{ForSome}
use Rattle.boxes.specs.State.{State}
use Rattle.boxes.specs.declared.keep.Keeper.{Ghosts}
use Rattle.wire.specs.Begins.{may_begin}
use Rattle.wire.specs.Feeds.{given_before, stood_at}
use Rattle.wire.specs.Seats.{left_behind, left_of}
use Rattle.wire.specs.Underways.{IsUnderway}
use Rattle.wire.specs.declared.feed.Place.TheVariants as place
use Rattle.wire.specs.declared.seat.Seat.{Seat}
use Rattle.wire.specs.declared.session.SessionEnd.{SessionEnd}
use Rattle.wire.specs.declared.standing.Standing.{Standing}
use Rattle.wire.specs.declared.underway.Underway.{Underway}
use Rattle.wire.proofs.Ties.{none_is}
use Rattle.office.specs.Premise.{IsLeft}
use Rattle.office.specs.Seats.{TakesTurn, ended, read_on, waits_of, went_on}
use Rattle.office.specs.Stepping.{Goes, Steps}
use Rattle.office.specs.Turning.{StandsAside, TurnsTo}
use Rattle.office.specs.declared.connections.turning.Aside.{Aside}
use Rattle.office.specs.declared.connections.turning.Turn.{Turn}
use Rattle.office.specs.declared.connections.turning.Turn.TheVariants as turn
use Rattle.office.proofs.SessionSteps.{not_fresh}

module _ {C K R W : Type 0} (gives : C → ℕ → C → Type 0) (remaining : R → Option (List ℕ)) (contents : W → Option (List ℕ)) (old new : Seat R W) (aside : Aside) (clock clock' : C) (k : Ghosts K) (keeper keeper' : K) (s : State)
    (was_open : old.end ≡ None) where
  abbrev IsTaken : Type 0
  IsTaken = (after : State) × IsLeft (k.means keeper') after × TakesTurn gives remaining contents old new clock clock' k keeper keeper' s after

  -- what the connection has left behind the feed that was set aside is what it has left in its seat
  same_left : (u : Option Underway) → aside.underway ≡ u → new.standing ≡ aside.standing → new.underway ≡ aside.underway → left_behind u aside.standing (remaining new.reader.inner) ≡ left_of remaining new
  same_left u is standing underway =
      ap (λ (o : Option Underway). left_behind o aside.standing (remaining new.reader.inner)) (sym (underway ∙ is))
      ∙ ap (λ (l : Standing). left_behind new.underway l (remaining new.reader.inner)) (sym standing)

  abbrev pub StepsSo : Option (List ℕ) → Option SessionEnd → Type 0
  StepsSo known end =
      Steps gives place.Between known (left_behind None aside.standing (remaining new.reader.inner)) (remaining new.reader.inner) (contents old.writer.inner) (contents new.writer.inner) clock clock' k keeper keeper' s end

  -- a message was answered
  pub answered_turn : (known : Option (List ℕ)) (end : Option SessionEnd) → known ≡ left_of remaining old → end ≡ None → new.end ≡ None → new.served ≡ old.served + 1 → new.waited ≡ old.waited
      → new.standing ≡ aside.standing → new.underway ≡ aside.underway → aside.underway ≡ None → StepsSo known end → IsTaken
  answered_turn known end from is open_still served waited standing underway none h =
      let steps = subst (λ (o : Option SessionEnd). StepsSo (left_of remaining old) o) is (subst (λ (l : Option (List ℕ)). StepsSo l end) from h) in (
        steps.0,
        steps.1,
        went_on was_open open_still served waited
            (subst (λ (l : Option (List ℕ)). Goes gives (left_of remaining old) l (contents old.writer.inner) (contents new.writer.inner) clock clock' k keeper keeper' s steps.0) (same_left None none standing underway) steps.2),
      )

  -- the connection read on
  pub read_on_turn : (known : Option (List ℕ)) (t : Turn) → known ≡ left_of remaining old → t ≡ turn.ReadOn → new.end ≡ None → new.served ≡ old.served → waits_of new ≡ waits_of old + 1
      → new.standing ≡ aside.standing → new.underway ≡ aside.underway → new.writer ≡ old.writer → TurnsTo gives known remaining new.reader clock clock' k keeper keeper' s aside t → IsTaken
  read_on_turn known t from is open_still served longer standing underway unwritten h =
      let turns = subst (λ (u : Turn). TurnsTo gives (left_of remaining old) remaining new.reader clock clock' k keeper keeper' s aside u) is
      (subst (λ (l : Option (List ℕ)). TurnsTo gives l remaining new.reader clock clock' k keeper keeper' s aside t) from h) in
      (s, turns.1.left, read_on was_open open_still served longer (subst (Keeps (left_of remaining old)) (same_left aside.underway refl standing underway) turns.0) unwritten turns.1 refl)

  -- the connection ended
  pub ended_turn : (known : Option (List ℕ)) (end : Option SessionEnd) (e : SessionEnd) → known ≡ left_of remaining old → end ≡ Some e → old.served < 1000 → new.end ≡ Some e → new.served ≡ old.served → new.waited ≡ old.waited
      → StepsSo known end → IsTaken
  ended_turn known end e from is few over served waited h =
      let steps = subst (λ (o : Option SessionEnd). StepsSo (left_of remaining old) o) is (subst (λ (l : Option (List ℕ)). StepsSo l end) from h) in
      let last = steps.2 (999 - old.served) (λ fresh. absurd (not_fresh place.Between refl fresh)) in (
        steps.0,
        steps.1,
        ended (suc (999 - old.served)) e was_open over served waited (omega (arith, few)) last.0 last.1 (last.2 (not_fresh place.Between refl)),
      )

-- ---- where the feed of the seat stands

-- a message may begin there
pub begins_at : (standing : Standing) → stood_at standing ≡ place.Between → IsTrue (may_begin (stood_at standing))
begins_at standing here = ap may_begin here

-- a feed stands that was set aside in a turn that only read on
pub begins_aside : (aside : Aside) → StandsAside turn.ReadOn aside → aside.underway ≡ None → IsTrue (may_begin (stood_at aside.standing))
begins_aside aside stands none = begins_at aside.standing (stands.0 none).0

-- the feed is not fresh any more
pub never_fresh : (aside : Aside) (u : Option Underway) → aside.underway ≡ u → StandsAside turn.ReadOn aside → stood_at aside.standing ≡ place.Fresh → ⊥
never_fresh aside None is stands fresh = not_fresh (stood_at aside.standing) (stands.0 is).0 fresh
never_fresh aside (Some u) is stands fresh =
    let b = stands.1 u is in
    let both : place.Body (u.size - length (given_before aside.standing)) ≡ place.Fresh = sym b.stands ∙ fresh in
    absurd cc

-- no message is under way
pub none_underway : (underway : Option Underway) (standing : Standing) → underway ≡ None → ForSome underway (λ u. IsUnderway u standing)
none_underway underway standing none u is = absurd (none_is u (sym none ∙ is))
