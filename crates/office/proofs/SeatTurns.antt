-- Seats in turns: how they relate to sittings, and the effect of a turn.
use Rattle.std.proofs.Common.{◌≡◌, ◌<◌, ◌≤◌, ◌+◌, ℕ, zero, suc, Bool, false, List, [], ◌∷◌, ◌++◌, length, get_or, map, set, Option, Some, None, refl, sym, ap, subst, ◌∙◌, arith}
use Rattle.std.specs.Prelude.{⊤}
use Rattle.std.specs.List.{AllByRecursion, sum_by}
use Rattle.std.proofs.lemmas.List.Sums.{sum_by-cons}
use Rattle.std.specs.Io.KnownBytes.{Appends, Keeps}
use Rattle.sigtext.specs.Counts.{Rose}
use Rattle.boxes.specs.declared.keep.Keeper.{Ghosts}
use Rattle.boxes.specs.State.{State}
use Rattle.wire.specs.declared.counted.Counted.{Counted}
use Rattle.wire.specs.declared.feed.Place.{Place}
use Rattle.wire.specs.declared.standing.Standing.{Standing}
use Rattle.office.specs.Connections.{TellsMoments}
use Rattle.office.specs.Crashes.{Survives}
use Rattle.office.specs.Interleaved.{GaveUpWithinMessages, HaveGivenUp, Interleaved, ReadOn, SpeakInTurns, Thread, Turn, acts_in, own_turns}
use Rattle.office.specs.Premise.{IsLeft}
use Rattle.office.specs.Repeats.{RepeatsOnce}
use Rattle.wire.specs.Crowds.{GivenTurn}
use Rattle.wire.specs.Seats.{Gathers, Sends, IsNew, left_behind, left_of}
use Rattle.office.specs.Seats.{AreThreads, HaveReadOn, HaveTurns, LastsOver, IsStreamOf, ReadsInFull, StaysSo, TakesTurn, TellsOneMoment, TellsTurn, TellsTurnOf, had_ended, went_on, read_on, ended, turns_of, waits_of}
use Rattle.office.specs.Sessions.{most_messages}
use Rattle.office.specs.declared.connections.responding.Response.{Response}
use Rattle.office.specs.Stepping.{StepsBy, TellsStep}
use Rattle.wire.specs.declared.seat.Seat.{Seat}
use Rattle.wire.specs.declared.underway.Underway.{Underway}
use Rattle.wire.specs.declared.session.SessionEnd.{SessionEnd}
use Rattle.office.proofs.Counting.{AllTook, took_of, turn_by}
use Rattle.office.proofs.Endurance.{survives_more}
use Rattle.office.proofs.Repeats.{repeats_once}
use Rattle.office.proofs.Needs.{more_needed, part_gathered, part_of, part_sent}
use Rattle.office.proofs.RunSoFar.{MeansOne}
use Rattle.office.proofs.Sitting.{Lost, Sitting, answered, closed, gathered, reads_on, sent_on}
use Rattle.wire.proofs.Ties.{none_is}
use Rattle.office.proofs.Weaving.{AllReadOn, AreThreadsOf, IsThreadOf, SoFar, all_last, answered_more, closed_more, finishes, gathered_more, lost_of, none_gave_up, opens, read_on_more, sent_more, threads_rose}

-- the same step, with equal places and bytes
pub steps_by : {C K : Type 0} (gives : C → ℕ → C → Type 0) (p p' : Place) (old old' new reader : Option (List ℕ)) (clock clock' : C) (k : Ghosts K) (keeper keeper' : K) (s : State) (x : Response)
    → p ≡ p' → old ≡ old' → StepsBy gives p old new reader clock clock' k keeper keeper' s x → StepsBy gives p' old' new reader clock clock' k keeper keeper' s x
steps_by gives p p' old old' new reader clock clock' k keeper keeper' s x ep eo steps =
    subst (λ (q : Place). StepsBy gives q old' new reader clock clock' k keeper keeper' s x) ep
    (subst (λ (l : Option (List ℕ)). StepsBy gives p l new reader clock clock' k keeper keeper' s x) eo steps)

-- ---- the faults that were told

tells_then : {R W : Type 0} (e : Option SessionEnd) (a b c : Counted R) (x y z : Counted W) → TellsStep None a b x y → TellsStep e b c y z → TellsStep e a c x z
tells_then None a b c x y z f g = (g.0 ∙ f.0, g.1 ∙ f.1)
tells_then (Some e) a b c x y z f g = record {
  read = λ is. subst (λ (n : ℕ). Rose n c.faults) f.0 (g.read is);
  not_read = λ other. g.not_read other ∙ f.0;
  written = λ is. subst (λ (n : ℕ). Rose n z.faults) f.1 (g.written is);
  not_written = λ other. g.not_written other ∙ f.1;
}

module _ {R W : Type 0} where
  -- counted since the beginning
  abbrev pub TellsSince : Seat R W → Seat R W → Type 0
  TellsSince first now = TellsStep now.end first.reader now.reader first.writer now.writer

  tells_since : (first old new : Seat R W) (e : Option SessionEnd) → old.end ≡ e → TellsSince first old → TellsTurnOf e old new → TellsSince first new
  tells_since first old new None is f g =
      tells_then new.end first.reader old.reader new.reader first.writer old.writer new.writer
      (subst (λ e. TellsStep e first.reader old.reader first.writer old.writer) is f) g
  tells_since first old new (Some e) is f g = subst (TellsSince first) (sym g) f

  abbrev pub AllTell : List (Seat R W) → List (Seat R W) → Type 0
  AllTell [] [] = ⊤
  AllTell (f ∷ fs) (n ∷ ns) = TellsSince f n × AllTell fs ns
  AllTell fs ns = ⊥

  tells_new : (x : Seat R W) → IsNew x → TellsSince x x
  tells_new x new = subst (λ e. TellsStep e x.reader x.reader x.writer x.writer) (sym new.open_still) (refl, refl)

  pub tell_more : (fs ns : List (Seat R W)) (p : ℕ) (d new : Seat R W) → p < length ns → TellsTurn (get_or ns p d) new → AllTell fs ns → AllTell fs (set ns p new)
  tell_more [] [] p d new lt t h = absurd (omega (arith, lt))
  tell_more [] (n ∷ ns) p d new lt t h = absurd h
  tell_more (f ∷ fs) [] p d new lt t h = absurd h
  tell_more (f ∷ fs) (n ∷ ns) zero d new lt t h = (tells_since f n new n.end refl h.0 t, h.1)
  tell_more (f ∷ fs) (n ∷ ns) (suc p) d new lt t h = (h.0, tell_more fs ns p d new (omega (arith, lt)) t h.1)

  -- sending waiting bytes counts no fault
  sent_tells : (contents : W → Option (List ℕ)) (first old new : Seat R W) (e : Option SessionEnd) → old.end ≡ e → Sends contents old new → TellsSince first old → TellsSince first new
  sent_tells contents first old new None is g f =
      let h : TellsStep None first.reader old.reader first.writer old.writer = subst (λ e. TellsStep e first.reader old.reader first.writer old.writer) is f in
      subst (λ e. TellsStep e first.reader new.reader first.writer new.writer) (sym (g.end ∙ is)) (ap (λ (r : Counted R). r.faults) g.reader ∙ h.0, g.written ∙ h.1)
  sent_tells contents first old new (Some e) is g f =
      let h : TellsStep (Some e) first.reader old.reader first.writer old.writer = subst (λ e. TellsStep e first.reader old.reader first.writer old.writer) is f in
      let read : new.reader.faults ≡ old.reader.faults = ap (λ (r : Counted R). r.faults) g.reader in
      let all : TellsStep (Some e) first.reader new.reader first.writer new.writer = record {
        read = λ at. subst (λ (n : ℕ). Rose first.reader.faults n) (sym read) (h.read at);
        not_read = λ other. read ∙ h.not_read other;
        written = λ at. subst (λ (n : ℕ). Rose first.writer.faults n) (sym g.written) (h.written at);
        not_written = λ other. g.written ∙ h.not_written other;
      } in
      subst (λ e. TellsStep e first.reader new.reader first.writer new.writer) (sym (g.end ∙ is)) all

  pub tell_sent : (contents : W → Option (List ℕ)) (fs ns : List (Seat R W)) (p : ℕ) (d new : Seat R W) → p < length ns → Sends contents (get_or ns p d) new → AllTell fs ns → AllTell fs (set ns p new)
  tell_sent contents [] [] p d new lt g h = absurd (omega (arith, lt))
  tell_sent contents [] (n ∷ ns) p d new lt g h = absurd h
  tell_sent contents (f ∷ fs) [] p d new lt g h = absurd h
  tell_sent contents (f ∷ fs) (n ∷ ns) zero d new lt g h = (sent_tells contents f n new n.end refl g h.0, h.1)
  tell_sent contents (f ∷ fs) (n ∷ ns) (suc p) d new lt g h = (h.0, tell_sent contents fs ns p d new (omega (arith, lt)) g h.1)

  pub tell_comes : (fs ns : List (Seat R W)) (x : Seat R W) → IsNew x → AllTell fs ns → AllTell (fs ++ x ∷ []) (ns ++ x ∷ [])
  tell_comes [] [] x new h = (tells_new x new, tt)
  tell_comes [] (n ∷ ns) x new h = absurd h
  tell_comes (f ∷ fs) [] x new h = absurd h
  tell_comes (f ∷ fs) (n ∷ ns) x new h = (h.0, tell_comes fs ns x new h.1)

  pub as_many : (fs ns : List (Seat R W)) → AllTell fs ns → length fs ≡ length ns
  as_many [] [] h = refl
  as_many [] (n ∷ ns) h = absurd h
  as_many (f ∷ fs) [] h = absurd h
  as_many (f ∷ fs) (n ∷ ns) h = ap suc (as_many fs ns h.1)

-- ---- seats as sittings

module _ {R W : Type 0} (remaining : R → Option (List ℕ)) (contents : W → Option (List ℕ)) where
  abbrev pub sitting_of : Seat R W → Seat R W → Bool → Option Lost → Sitting
  sitting_of first now gave_up lost = record {
    input = left_of remaining first;
    left = left_of remaining now;
    reader = remaining now.reader.inner;
    output = contents first.writer.inner;
    written = contents now.writer.inner;
    served = now.served;
    waited = waits_of now;
    part = part_of now;
    end = now.end;
    gave_up = gave_up;
    lost = lost;
  }

  abbrev pub AreSittings : List (Seat R W) → List (Seat R W) → List Sitting → Type 0
  AreSittings [] [] [] = ⊤
  AreSittings (f ∷ fs) (n ∷ ns) (x ∷ xs) = (x ≡ sitting_of f n x.gave_up x.lost) × AreSittings fs ns xs
  AreSittings fs ns xs = ⊥

  -- The sitting in place p: its connection as it was at first, and that another seat of the same connection
  -- may take the place.
  record StandsThere (fs ns : List (Seat R W)) (xs : List Sitting) (p : ℕ) (now : Seat R W) (x : Sitting) : Type 0 where
    pub first : Seat R W
    pub is : x ≡ sitting_of first now x.gave_up x.lost
    pub within : p < length xs
    pub more : (new : Seat R W) (y : Sitting) → y ≡ sitting_of first new y.gave_up y.lost → AreSittings fs (set ns p new) (set xs p y)

  stands_there : (fs ns : List (Seat R W)) (xs : List Sitting) (p : ℕ) (d : Seat R W) (dx : Sitting) → p < length ns → AreSittings fs ns xs
      → StandsThere fs ns xs p (get_or ns p d) (get_or xs p dx)
  stands_there [] [] [] p d dx lt h = absurd (omega (arith, lt))
  stands_there [] [] (x ∷ xs) p d dx lt h = absurd h
  stands_there [] (n ∷ ns) xs p d dx lt h = absurd h
  stands_there (f ∷ fs) [] xs p d dx lt h = absurd h
  stands_there (f ∷ fs) (n ∷ ns) [] p d dx lt h = absurd h
  stands_there (f ∷ fs) (n ∷ ns) (x ∷ xs) zero d dx lt h = record { first = f; is = h.0; within = omega arith; more = λ new y is. (is, h.1) }
  stands_there (f ∷ fs) (n ∷ ns) (x ∷ xs) (suc p) d dx lt h =
      let rest = stands_there fs ns xs p d dx (omega (arith, lt)) h.1 in
      record { first = rest.first; is = rest.is; within = omega (arith, rest.within); more = λ new y is. (h.0, rest.more new y is) }

  are_more : (fs ns : List (Seat R W)) (xs : List Sitting) (new : Seat R W) → AreSittings fs ns xs → AreSittings (fs ++ new ∷ []) (ns ++ new ∷ []) (xs ++ sitting_of new new false None ∷ [])
  are_more [] [] [] new h = (refl, tt)
  are_more [] [] (x ∷ xs) new h = absurd h
  are_more [] (n ∷ ns) xs new h = absurd h
  are_more (f ∷ fs) [] xs new h = absurd h
  are_more (f ∷ fs) (n ∷ ns) [] new h = absurd h
  are_more (f ∷ fs) (n ∷ ns) (x ∷ xs) new h = (h.0, are_more fs ns xs new h.1)

  -- ---- a turn

  pub record TurnsMore {C K : Type 0} (gives : C → ℕ → C → Type 0) (k : Ghosts K) (fs ns : List (Seat R W)) (whose : List GivenTurn) (clock clock' : C) (keeper keeper' : K) (s after : State) : Type 0 where
    pub sittings : List Sitting
    pub are : AreSittings fs ns sittings
    pub so_far : SoFar gives k sittings whose clock clock' keeper keeper' s after

  -- The sitting is the same if as many messages were served, as many turns only read on, and the connection
  -- ended the same way.
  same_sitting : (first new : Seat R W) (served waited : ℕ) (e : Option SessionEnd) (gave_up : Bool) (lost : Option Lost) → new.served ≡ served → waits_of new ≡ waited → new.end ≡ e
      → record (sitting_of first new gave_up lost) { served = served; waited = waited; end = e } ≡ sitting_of first new gave_up lost
  same_sitting first new served waited e gave_up lost same as_long is =
      ap (λ (n : ℕ). record (sitting_of first new gave_up lost) { served = n; waited = waited; end = e }) (sym same)
      ∙ ap (λ (n : ℕ). record (sitting_of first new gave_up lost) { served = new.served; waited = n; end = e }) (sym as_long)
      ∙ ap (λ (o : Option SessionEnd). record (sitting_of first new gave_up lost) { served = new.served; waited = waits_of new; end = o }) (sym is)

  same_waits : (old new : Seat R W) → new.waited ≡ old.waited → waits_of new ≡ waits_of old
  same_waits old new is = rw is refl

  module _ {C K : Type 0} {whose : List GivenTurn} (gives : C → ℕ → C → Type 0) (k : Ghosts K) (fs ns : List (Seat R W)) (clock clock' clock'' : C) (keeper keeper' keeper'' : K) (s mid after : State)
      (p : ℕ) (d new : Seat R W) (lt : p < length ns) (open_there : (get_or ns p d).end ≡ None) where
    pub turns_more : (most : Option ℕ) → TakesTurn gives remaining contents (get_or ns p d) new clock' clock'' k keeper' keeper'' mid after → ReadsInFull remaining most (get_or ns p d) new
        → TurnsMore gives k fs ns whose clock clock' keeper keeper' s mid → TurnsMore gives k fs (set ns p new) (whose ++ record { whose = p; most = most } ∷ []) clock clock'' keeper keeper'' s after
    turns_more most (had_ended e is same_seat same_clock same_keeper same_state) full t = absurd (none_is e (sym open_there ∙ is))
    turns_more most (went_on was_open is_open served kept_waits goes) full t =
        let dx = sitting_of d d false None in
        let at = stands_there fs ns t.sittings p d dx lt t.are in
        let old = get_or ns p d in
        let x = get_or t.sittings p dx in
        let z = sitting_of at.first old x.gave_up x.lost in
        let y = answered z (left_of remaining new) (remaining new.reader.inner) (contents new.writer.inner) (part_of new) in
        record {
          sittings = set t.sittings p y;
          are = at.more new y (same_sitting at.first new (old.served + 1) (waits_of old) old.end x.gave_up x.lost served (same_waits old new kept_waits) (is_open ∙ sym was_open));
          so_far = answered_more gives k t.sittings clock clock' keeper keeper' s mid t.so_far p dx z at.within at.is was_open most
              (left_of remaining new) (remaining new.reader.inner) (contents new.writer.inner) (part_of new) clock'' keeper'' after (subst (λ n. n ≤ most_messages) served new.few) goes;
        }
    turns_more most (read_on was_open is_open served waited keeps same_writer stood same_state) full t =
        let dx = sitting_of d d false None in
        let at = stands_there fs ns t.sittings p d dx lt t.are in
        let old = get_or ns p d in
        let x = get_or t.sittings p dx in
        let z = sitting_of at.first old x.gave_up x.lost in
        let y = reads_on z (left_of remaining new) (remaining new.reader.inner) (part_of new) in
        let unwritten : z.written ≡ contents new.writer.inner = ap (λ (w : Counted W). contents w.inner) (sym same_writer) in
        let (bound, is_bound, needs) = more_needed remaining old new waited keeps most full in
        let now : List GivenTurn = whose ++ record { whose = p; most = most } ∷ [] in
        record {
          sittings = set t.sittings p y;
          are = at.more new y (ap (λ (o : Option (List ℕ)). record y { written = o }) unwritten ∙ same_sitting at.first new old.served (waits_of old + 1) old.end x.gave_up x.lost served waited (is_open ∙ sym was_open));
          so_far = subst (λ (c : C). SoFar gives k (set t.sittings p y) now clock c keeper keeper'' s after) (sym stood.told)
              (subst (λ (a : State). SoFar gives k (set t.sittings p y) now clock clock' keeper keeper'' s a) (sym same_state)
              (subst (λ (o : Option ℕ). SoFar gives k (set t.sittings p y) (whose ++ record { whose = p; most = o } ∷ []) clock clock' keeper keeper'' s mid) (sym is_bound)
              (read_on_more gives k t.sittings clock clock' keeper keeper' s mid t.so_far p dx z at.within at.is was_open
              (left_of remaining new) (remaining new.reader.inner) (part_of new) keeper'' bound needs keeps stood.held stood.lasts)));
        }
    turns_more most (ended n e was_open is served kept_waits sum serves once begun) full t =
        let dx = sitting_of d d false None in
        let at = stands_there fs ns t.sittings p d dx lt t.are in
        let old = get_or ns p d in
        let x = get_or t.sittings p dx in
        let z = sitting_of at.first old x.gave_up x.lost in
        let y = closed z (left_of remaining new) (remaining new.reader.inner) (contents new.writer.inner) (part_of new) e serves.gave_up (lost_of serves.session) in
        record {
          sittings = set t.sittings p y;
          are = at.more new y (same_sitting at.first new old.served (waits_of old) (Some e) serves.gave_up (lost_of serves.session) served (same_waits old new kept_waits) is);
          so_far = closed_more gives k t.sittings clock clock' keeper keeper' s mid t.so_far p dx z at.within at.is was_open most
              (left_of remaining new) (remaining new.reader.inner) (contents new.writer.inner) (part_of new) clock'' keeper'' after n e sum serves once begun;
        }

  -- ---- between two turns

  -- the sitting is the same except for what was sent
  sent_is : (first old new : Seat R W) (gave_up : Bool) (lost : Option Lost) → Sends contents old new → sent_on (sitting_of first old gave_up lost) (contents new.writer.inner) ≡ sitting_of first new gave_up lost
  sent_is first old new gave_up lost g =
      let part = part_sent contents old new g in
      let same : left_of remaining old ≡ left_of remaining new =
      ap (λ (l : Standing). left_behind old.underway l (remaining old.reader.inner)) (sym g.standing)
      ∙ ap (λ (u : Option Underway). left_behind u new.standing (remaining old.reader.inner)) (sym g.underway)
      ∙ ap (λ (r : Counted R). left_behind new.underway new.standing (remaining r.inner)) (sym g.reader) in
      ap (λ (l : Option (List ℕ)). record (sitting_of first new gave_up lost) { left = l; reader = remaining old.reader.inner; served = old.served; waited = waits_of old; part = part_of old; end = old.end }) same
      ∙ ap (λ (r : Counted R). record (sitting_of first new gave_up lost) { reader = remaining r.inner; served = old.served; waited = waits_of old; part = part_of old; end = old.end }) (sym g.reader)
      ∙ ap (λ (n : ℕ). record (sitting_of first new gave_up lost) { served = old.served; waited = waits_of old; part = n; end = old.end }) (sym part)
      ∙ same_sitting first new old.served (waits_of old) old.end gave_up lost g.served (same_waits old new g.waited) g.end

  module _ {C K : Type 0} {whose : List GivenTurn} (gives : C → ℕ → C → Type 0) (k : Ghosts K) (fs ns : List (Seat R W)) (clock clock' : C) (keeper keeper' : K) (s mid : State) where
    pub gathered_seat : (p : ℕ) (d new : Seat R W) → p < length ns → (get_or ns p d).end ≡ None → Gathers remaining (get_or ns p d) new
        → TurnsMore gives k fs ns whose clock clock' keeper keeper' s mid → TurnsMore gives k fs (set ns p new) whose clock clock' keeper keeper' s mid
    gathered_seat p d new lt is_open g t =
        let dx = sitting_of d d false None in
        let at = stands_there fs ns t.sittings p d dx lt t.are in
        let old = get_or ns p d in
        let x = get_or t.sittings p dx in
        let z = sitting_of at.first old x.gave_up x.lost in
        let y = gathered z (left_of remaining new) (remaining new.reader.inner) in
        record {
          sittings = set t.sittings p y;
          are = at.more new y (ap (λ (w : Counted W). record y { written = contents w.inner }) (sym g.writer) ∙ ap (λ (n : ℕ). record y { written = contents new.writer.inner; part = n }) (sym (part_gathered remaining old new is_open g)) ∙ same_sitting at.first new old.served (waits_of old) old.end x.gave_up x.lost g.served (same_waits old new g.waited) g.end);
          so_far = gathered_more gives k t.sittings clock clock' keeper keeper' s mid t.so_far p dx z at.within at.is is_open (left_of remaining new) (remaining new.reader.inner) g.keeps;
        }

    pub sent_seat : (p : ℕ) (d new : Seat R W) → p < length ns → Sends contents (get_or ns p d) new
        → TurnsMore gives k fs ns whose clock clock' keeper keeper' s mid → TurnsMore gives k fs (set ns p new) whose clock clock' keeper keeper' s mid
    sent_seat p d new lt g t =
        let dx = sitting_of d d false None in
        let at = stands_there fs ns t.sittings p d dx lt t.are in
        let old = get_or ns p d in
        let x = get_or t.sittings p dx in
        let y = sent_on x (contents new.writer.inner) in
        let was : x.written ≡ contents old.writer.inner = ap (λ (z : Sitting). z.written) at.is in
        record {
          sittings = set t.sittings p y;
          are = at.more new y (ap (λ (z : Sitting). sent_on z (contents new.writer.inner)) at.is ∙ sent_is at.first old new x.gave_up x.lost g);
          so_far = sent_more gives k t.sittings clock clock' keeper keeper' s mid t.so_far p dx (contents new.writer.inner) at.within (subst (λ a. Keeps a (contents new.writer.inner)) (sym was) g.holds);
        }

    pub seat_comes : (new : Seat R W) → IsNew new → TurnsMore gives k fs ns whose clock clock' keeper keeper' s mid
        → TurnsMore gives k (fs ++ new ∷ []) (ns ++ new ∷ []) whose clock clock' keeper keeper' s mid
    seat_comes new is t = record {
      sittings = t.sittings ++ sitting_of new new false None ∷ [];
      are = are_more fs ns t.sittings new t.are;
      so_far = opens gives k t.sittings clock clock' keeper keeper' s mid t.so_far (sitting_of new new false None)
          (record { all = refl; unwritten = refl; none = is.none; unwaited = ap length is.unwaited; open_still = is.open_still; marked = refl; unlost = refl });
    }

  -- reading ahead counts no fault
  pub gathers_tell : (old new : Seat R W) → old.end ≡ None → Gathers remaining old new → TellsTurn old new
  gathers_tell old new is_open g =
      let both : TellsStep None old.reader new.reader old.writer new.writer = (g.read, ap (λ (w : Counted W). w.faults) g.writer) in
      subst (λ e. TellsTurnOf e old new) (sym is_open)
      (subst (λ e. TellsStep e old.reader new.reader old.writer new.writer) (sym (g.end ∙ is_open)) both)

  -- ---- the end

  stream_is : (x : Sitting) (first now : Seat R W) (c : Thread) → x ≡ sitting_of first now x.gave_up x.lost → IsThreadOf x c
      → IsStreamOf c.gave_up c.end (left_of remaining first) (left_of remaining now) (remaining now.reader.inner) c.stream
  stream_is x first now c is h =
      let here : IsStreamOf x.gave_up x.end (left_of remaining first) (left_of remaining now) (remaining now.reader.inner) c.stream =
      subst (λ (y : Sitting). IsStreamOf x.gave_up x.end y.input y.left y.reader c.stream) is h.stream in
      subst (λ (o : Option SessionEnd). IsStreamOf c.gave_up o (left_of remaining first) (left_of remaining now) (remaining now.reader.inner) c.stream) (sym h.end)
      (subst (λ b. IsStreamOf b x.end (left_of remaining first) (left_of remaining now) (remaining now.reader.inner) c.stream) (sym h.marked) here)

  are_threads : (fs ns : List (Seat R W)) (xs : List Sitting) (cs : List Thread) → AreSittings fs ns xs → AreThreadsOf xs cs → AllTell fs ns → AreThreads remaining contents fs ns cs
  are_threads [] [] [] [] a b t = tt
  are_threads [] [] [] (c ∷ cs) a b t = absurd b
  are_threads [] [] (x ∷ xs) cs a b t = absurd a
  are_threads [] (n ∷ ns) xs cs a b t = absurd a
  are_threads (f ∷ fs) [] xs cs a b t = absurd a
  are_threads (f ∷ fs) (n ∷ ns) [] cs a b t = absurd a
  are_threads (f ∷ fs) (n ∷ ns) (x ∷ xs) [] a b t = absurd b
  are_threads (f ∷ fs) (n ∷ ns) (x ∷ xs) (c ∷ cs) a b t =
      let end : c.end ≡ n.end = b.0.end ∙ ap (λ (y : Sitting). y.end) a.0 in (
        end,
        stream_is x f n c a.0 b.0,
        subst (λ (y : Sitting). Appends y.output y.written c.answers) a.0 b.0.answers,
        subst (λ e. TellsStep e f.reader n.reader f.writer n.writer) (sym end) t.0,
        are_threads fs ns xs cs a.1 b.1 t.1,
      )

  -- ---- their turns that only read on

  have_read_on : (turns : List Turn) (i : ℕ) (fs ns : List (Seat R W)) (xs : List Sitting) (cs : List Thread) → AreSittings fs ns xs → AllReadOn turns i xs cs → HaveReadOn remaining turns i fs cs
  have_read_on turns i [] [] [] [] a h = tt
  have_read_on turns i [] [] [] (c ∷ cs) a h = absurd h
  have_read_on turns i [] [] (x ∷ xs) cs a h = absurd a
  have_read_on turns i [] (n ∷ ns) xs cs a h = absurd a
  have_read_on turns i (f ∷ fs) [] xs cs a h = absurd a
  have_read_on turns i (f ∷ fs) (n ∷ ns) [] cs a h = absurd a
  have_read_on turns i (f ∷ fs) (n ∷ ns) (x ∷ xs) [] a h = absurd h
  have_read_on turns i (f ∷ fs) (n ∷ ns) (x ∷ xs) (c ∷ cs) a h =
      (subst (λ (y : Sitting). ReadOn c.end y.input (own_turns i turns)) a.0 h.0, have_read_on turns (suc i) fs ns xs cs a.1 h.1)

  -- ---- how many turns the connections took

  same_took : (first now : Seat R W) (x : Sitting) → x ≡ sitting_of first now x.gave_up x.lost → took_of x ≡ turns_of now
  same_took first now x is = ap took_of is

  have_turns : (turns : List Turn) (i : ℕ) (fs ns : List (Seat R W)) (xs : List Sitting) → AreSittings fs ns xs → AllTook turns i xs → HaveTurns turns i ns
  have_turns turns i [] [] [] a h = tt
  have_turns turns i [] [] (x ∷ xs) a h = absurd a
  have_turns turns i [] (n ∷ ns) xs a h = absurd a
  have_turns turns i (f ∷ fs) [] xs a h = absurd a
  have_turns turns i (f ∷ fs) (n ∷ ns) [] a h = absurd a
  have_turns turns i (f ∷ fs) (n ∷ ns) (x ∷ xs) a h = (h.0 ∙ same_took f n x a.0, have_turns turns (suc i) fs ns xs a.1 h.1)

  sums_alike : (fs ns : List (Seat R W)) (xs : List Sitting) → AreSittings fs ns xs → sum_by took_of xs ≡ sum_by turns_of ns
  sums_alike [] [] [] a = refl
  sums_alike [] [] (x ∷ xs) a = absurd a
  sums_alike [] (n ∷ ns) xs a = absurd a
  sums_alike (f ∷ fs) [] xs a = absurd a
  sums_alike (f ∷ fs) (n ∷ ns) [] a = absurd a
  sums_alike (f ∷ fs) (n ∷ ns) (x ∷ xs) a =
      omega (arith, sum_by-cons took_of x xs, sum_by-cons turns_of n ns, same_took f n x a.0, sums_alike fs ns xs a.1)

  -- The connections were served in turns in this order, and these are their threads.
  pub record Weaves {C K : Type 0} (gives : C → ℕ → C → Type 0) (k : Ghosts K) (fs ns : List (Seat R W)) (whose : List GivenTurn) (clock clock' : C) (keeper keeper' : K) (s after : State) : Type 0 where
    pub threads : List Thread
    pub moments : List ℕ
    pub told : TellsMoments gives clock moments clock'
    pub served : AreThreads remaining contents fs ns threads
    pub run : Interleaved s threads moments after
    pub in_order : map turn_by run.turns ≡ whose
    pub all : length run.turns ≡ sum_by turns_of ns
    pub each_counted : HaveTurns run.turns 0 ns
    pub one_moment : AllByRecursion TellsOneMoment run.turns
    pub by_turns : SpeakInTurns run.turns 0 threads
    pub read_on : HaveReadOn remaining run.turns 0 fs threads
    pub begun : GaveUpWithinMessages run.turns 0 threads
    pub repeats : RepeatsOnce (acts_in run.turns)
    pub stays : StaysSo k threads keeper keeper' after
    pub lasts : LastsOver k threads keeper keeper' s after
    pub survives : Survives k keeper keeper' (HaveGivenUp run.turns 0 threads) s after

  module _ {C K : Type 0} {whose : List GivenTurn} (gives : C → ℕ → C → Type 0) (k : Ghosts K) (fs ns : List (Seat R W)) (clock clock' : C) (keeper keeper' : K) (s mid : State) where
    pub weaves_last : TurnsMore gives k fs ns whose clock clock' keeper keeper' s mid → AllTell fs ns → MeansOne k keeper' → IsLeft (k.means keeper') mid
        → Weaves gives k fs ns whose clock clock' keeper keeper' s mid
    weaves_last t tell one left =
        let w = finishes gives k t.sittings clock clock' keeper keeper' s mid t.so_far in
        record {
          threads = w.threads;
          moments = w.moments;
          told = w.told;
          served = are_threads fs ns t.sittings w.threads t.are w.are tell;
          run = w.run;
          in_order = w.counts.in_order;
          all = w.counts.all ∙ sums_alike fs ns t.sittings t.are;
          each_counted = have_turns w.run.turns 0 fs ns t.sittings t.are w.counts.each;
          one_moment = w.counts.one_moment;
          by_turns = w.by_turns;
          read_on = have_read_on w.run.turns 0 fs ns t.sittings w.threads t.are w.read_on;
          begun = w.begun;
          repeats = repeats_once s (acts_in w.run.turns) mid w.run.order;
          stays = record {
            counted = λ none. (t.so_far.held (none_gave_up t.sittings w.threads w.are none)).0;
            rose = threads_rose (k.faults keeper) (k.faults keeper') t.sittings w.threads w.are t.so_far.rose;
            opened = λ none was.
                let now = (t.so_far.held (none_gave_up t.sittings w.threads w.are none)).1 was in
                (now, λ u means. one u mid now means left.means);
          };
          lasts = λ all. t.so_far.lasts (all_last t.sittings w.threads w.are all);
          survives = survives_more w.lost t.so_far.survives;
        }

-- the faults of a step are those of the turn
pub turn_tells : {R W : Type 0} (old new : Seat R W) (end : Option SessionEnd) → old.end ≡ None → new.end ≡ end → TellsStep end old.reader new.reader old.writer new.writer → TellsTurn old new
turn_tells old new end was is tells =
    subst (λ e. TellsTurnOf e old new) (sym was) (subst (λ e. TellsStep e old.reader new.reader old.writer new.writer) (sym is) tells)
