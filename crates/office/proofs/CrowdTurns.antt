-- Connections that come, are served in turns, and go: the effect of each change and each turn.
use Rattle.std.proofs.Common.{◌≡◌, ◌<◌, ◌+◌, ℕ, zero, suc, Bool, true, false, cond, List, [], ◌∷◌, ◌++◌, IsPermutation, length, get_or, map, set, Option, Some, None, refl, sym, ap, subst, ◌∙◌, append_assoc, arith}
use Rattle.std.specs.Prelude.{is_some, not, slice_get}
use Rattle.std.specs.List.{count_by}
use Rattle.std.proofs.lemmas.List.{append-nil, length-append, length-map, map_push}
use Rattle.std.proofs.lemmas.List.Sums.{sum_by-cons, sum_by-set, sum_by_push}
use Rattle.std.proofs.lemmas.Option.{slice_get_within}
use Rattle.boxes.specs.declared.keep.Keeper.{Ghosts}
use Rattle.boxes.specs.State.{State}
use Rattle.wire.specs.Crowds.{Changes, GivenTurn, IsOpenAt, number_of, numbers_after, slot_at, standing_in}
use Rattle.wire.specs.Crowds as crowd
use Rattle.office.specs.Crowds.{ServesCrowd, TurnsSlot, fails_now, is_fault_end}
use Rattle.office.specs.Crowds as in_turn
use Rattle.office.specs.Interleaved.{Thread, Turn, given_by}
use Rattle.office.specs.Premise.{IsLeft}
use Rattle.wire.specs.Seats.{Gathers, IsNew, Sends}
use Rattle.office.specs.Seats.{AreThreads, ReadsInFull, TakesTurn, TellsTurn}
use Rattle.wire.specs.declared.seat.Seat.{Seat}
use Rattle.wire.specs.declared.session.SessionEnd.{SessionEnd}
use Rattle.office.proofs.Counting.{turn_by}
use Rattle.office.proofs.RunSoFar.{MeansOne}
use Rattle.office.proofs.SeatTurns.{AllTell, TurnsMore, as_many, gathered_seat, gathers_tell, seat_comes, sent_seat, tell_comes, tell_more, tell_sent, turns_more, weaves_last}
use Rattle.wire.proofs.Standings.{all_comes, all_goes, all_none, all_set}
use Rattle.wire.proofs.Ties.{AreNumbered, Ties, none_is, numbered_comes, numbered_goes, numbered_none, numbered_set, some_is, ties_comes, ties_goes, ties_none, ties_set}
use Rattle.office.proofs.Weaving.{starts}

-- ---- how many ended by a fault

abbrev one_if : Option SessionEnd → ℕ
one_if e = cond (is_fault_end e) 1 0

threads_first : (c : Thread) (cs : List Thread) → count_by (λ (d : Thread). is_fault_end d.end) (c ∷ cs) ≡ one_if c.end + count_by (λ (d : Thread). is_fault_end d.end) cs
threads_first c cs = sum_by-cons (λ (d : Thread). cond (is_fault_end d.end) 1 0) c cs

module _ {R W : Type 0} where
  abbrev faults_in : List (Seat R W) → ℕ
  faults_in xs = count_by (λ x. is_fault_end x.end) xs

  faults_first : (x : Seat R W) (xs : List (Seat R W)) → faults_in (x ∷ xs) ≡ one_if x.end + faults_in xs
  faults_first x xs = sum_by-cons (λ (y : Seat R W). cond (is_fault_end y.end) 1 0) x xs

  faults_set : (xs : List (Seat R W)) (n : ℕ) (d y : Seat R W) → n < length xs → (get_or xs n d).end ≡ None → faults_in (set xs n y) ≡ faults_in xs + one_if y.end
  faults_set xs n d y lt is =
      let none : one_if (get_or xs n d).end ≡ zero = ap one_if is in
      let all = sum_by-set (λ (z : Seat R W). cond (is_fault_end z.end) 1 0) xs n y d lt in
      omega (arith, none, all)

  faults_same : (xs : List (Seat R W)) (n : ℕ) (d y : Seat R W) → n < length xs → y.end ≡ (get_or xs n d).end → faults_in (set xs n y) ≡ faults_in xs
  faults_same xs n d y lt is =
      let same : one_if y.end ≡ one_if (get_or xs n d).end = ap one_if is in
      let all = sum_by-set (λ (z : Seat R W). cond (is_fault_end z.end) 1 0) xs n y d lt in
      omega (arith, same, all)

  faults_more : (xs : List (Seat R W)) (x : Seat R W) → x.end ≡ None → faults_in (xs ++ x ∷ []) ≡ faults_in xs
  faults_more xs x is =
      let none : one_if x.end ≡ zero = ap one_if is in
      let all = sum_by_push (λ (z : Seat R W). cond (is_fault_end z.end) 1 0) xs x in
      omega (arith, none, all)

  faults_of : (remaining : R → Option (List ℕ)) (contents : W → Option (List ℕ)) (fs ns : List (Seat R W)) (cs : List Thread) → AreThreads remaining contents fs ns cs
      → faults_in ns ≡ count_by (λ (c : Thread). is_fault_end c.end) cs
  faults_of remaining contents [] [] [] are = refl
  faults_of remaining contents [] [] (c ∷ cs) are = absurd are
  faults_of remaining contents [] (n ∷ ns) cs are = absurd are
  faults_of remaining contents (f ∷ fs) [] cs are = absurd are
  faults_of remaining contents (f ∷ fs) (n ∷ ns) [] are = absurd are
  faults_of remaining contents (f ∷ fs) (n ∷ ns) (c ∷ cs) are =
      let rest = faults_of remaining contents fs ns cs are.4 in
      let same : one_if c.end ≡ one_if n.end = ap one_if are.0 in
      omega (arith, rest, same, faults_first n ns, threads_first c cs)

-- ---- a connection in a slot

stands : {X : Type 0} (l : List X) (n : ℕ) (x : X) → slice_get l n ≡ Some x → get_or l n x ≡ x
stands [] n x is = refl
stands (y ∷ l) zero x is = let e : y ≡ x = cc in e
stands (y ∷ l) (suc n) x is = stands l n x is

-- the turn, given after so many connections came
abbrev given_behind : ℕ → GivenTurn → GivenTurn
given_behind first g = record { whose = first + g.whose; most = g.most }

whose_are : (first : ℕ) (turns : List Turn) → map (given_by first) turns ≡ map (given_behind first) (map turn_by turns)
whose_are first [] = refl
whose_are first (t ∷ ts) = ap (λ (l : List GivenTurn). given_by first t ∷ l) (whose_are first ts)

module _ {R W : Type 0} (remaining : R → Option (List ℕ)) (contents : W → Option (List ℕ)) where
  -- ---- so far

  pub record CrowdSoFar {C K : Type 0} (gives : C → ℕ → C → Type 0) (k : Ghosts K) (slots : List (Option (Seat R W))) (came gone : List (Seat R W)) (first : ℕ) (numbers : ℕ → ℕ) (given : List GivenTurn)
      (clock clock' : C) (keeper keeper' : K) (faults : ℕ) (s mid : State) : Type 0 where
    pub seats : List (Seat R W)
    pub number : ℕ → ℕ
    pub ties : Ties slots number seats
    pub numbered : AreNumbered slots numbers first number
    pub all : IsPermutation seats (gone ++ standing_in slots)
    pub whose : List GivenTurn
    pub turned : TurnsMore remaining contents gives k came seats whose clock clock' keeper keeper' s mid
    pub are_given : map (given_behind first) whose ≡ given
    pub tell : AllTell came seats
    pub faulty : faults ≡ faults_in seats

  module _ {C K : Type 0} (gives : C → ℕ → C → Type 0) (k : Ghosts K) (first : ℕ) (clock : C) (keeper : K) (s : State) where
    abbrev Now : List (Option (Seat R W)) → (ℕ → ℕ) → List (Seat R W) → List (Seat R W) → List GivenTurn → C → K → ℕ → State → Type 0
    Now slots numbers came gone given clock' keeper' faults mid = CrowdSoFar gives k slots came gone first numbers given clock clock' keeper keeper' faults s mid

    -- ---- between two turns

    module _ (given : List GivenTurn) (clock' : C) (keeper' : K) (faults : ℕ) (mid : State) where
      abbrev Still : List (Option (Seat R W)) → (ℕ → ℕ) → List (Seat R W) → List (Seat R W) → Type 0
      Still slots numbers came gone = Now slots numbers came gone given clock' keeper' faults mid

      comes_more : (slots : List (Option (Seat R W))) (numbers : ℕ → ℕ) (came gone : List (Seat R W)) (p n : ℕ) (new : Seat R W) → p < length slots → slot_at slots p ≡ None → IsNew new
          → n ≡ first + length came → Still slots numbers came gone → Still (set slots p (Some new)) (number_of p n numbers) (came ++ new ∷ []) gone
      comes_more slots numbers came gone p n new lt free is before t = record {
        seats = t.seats ++ new ∷ [];
        number = number_of p (length t.seats) t.number;
        ties = ties_comes slots t.number t.seats t.ties p lt new;
        numbered = numbered_comes slots t.number t.seats t.ties p lt new numbers first n (omega (arith, before, as_many came t.seats t.tell)) t.numbered;
        all = all_comes t.seats gone slots t.all p lt new free;
        whose = t.whose;
        turned = seat_comes remaining contents gives k came t.seats clock clock' keeper keeper' s mid new is t.turned;
        are_given = t.are_given;
        tell = tell_comes came t.seats new is t.tell;
        faulty = t.faulty ∙ sym (faults_more t.seats new is.open_still);
      }

      gathers_more : (slots : List (Option (Seat R W))) (numbers : ℕ → ℕ) (came gone : List (Seat R W)) (p : ℕ) (old new : Seat R W) → p < length slots → slot_at slots p ≡ Some old → old.end ≡ None
          → Gathers remaining old new → Still slots numbers came gone → Still (set slots p (Some new)) numbers came gone
      gathers_more slots numbers came gone p old new lt at is_open g t =
          let n = t.number p in
          let one = t.ties.each p old at in
          let fits = slice_get_within t.seats n old one in
          let is : old ≡ get_or t.seats n old = sym (stands t.seats n old one) in
          let open_there : (get_or t.seats n old).end ≡ None = subst (λ (x : Seat R W). x.end ≡ None) is is_open in
          let none : one_if new.end ≡ zero = ap one_if (g.end ∙ is_open) in
          record {
            seats = set t.seats n new;
            number = t.number;
            ties = ties_set slots t.number t.seats t.ties p lt old new at;
            numbered = numbered_set slots t.number t.seats t.ties p lt old new at numbers first t.numbered;
            all = all_set t.seats gone slots t.all p lt n old new fits is at;
            whose = t.whose;
            turned = gathered_seat remaining contents gives k came t.seats clock clock' keeper keeper' s mid n old new fits open_there (subst (λ (x : Seat R W). Gathers remaining x new) is g) t.turned;
            are_given = t.are_given;
            tell = tell_more came t.seats n old new fits (subst (λ (x : Seat R W). TellsTurn x new) is (gathers_tell remaining contents old new is_open g)) t.tell;
            faulty = let set_one = faults_set t.seats n old new fits open_there in omega (arith, t.faulty, set_one, none);
          }

      sends_more : (slots : List (Option (Seat R W))) (numbers : ℕ → ℕ) (came gone : List (Seat R W)) (p : ℕ) (old new : Seat R W) → p < length slots → slot_at slots p ≡ Some old
          → Sends contents old new → Still slots numbers came gone → Still (set slots p (Some new)) numbers came gone
      sends_more slots numbers came gone p old new lt at g t =
          let n = t.number p in
          let one = t.ties.each p old at in
          let fits = slice_get_within t.seats n old one in
          let is : old ≡ get_or t.seats n old = sym (stands t.seats n old one) in
          let there : Sends contents (get_or t.seats n old) new = subst (λ (x : Seat R W). Sends contents x new) is g in
          record {
            seats = set t.seats n new;
            number = t.number;
            ties = ties_set slots t.number t.seats t.ties p lt old new at;
            numbered = numbered_set slots t.number t.seats t.ties p lt old new at numbers first t.numbered;
            all = all_set t.seats gone slots t.all p lt n old new fits is at;
            whose = t.whose;
            turned = sent_seat remaining contents gives k came t.seats clock clock' keeper keeper' s mid n old new fits there t.turned;
            are_given = t.are_given;
            tell = tell_sent contents came t.seats n old new fits there t.tell;
            faulty = t.faulty ∙ sym (faults_same t.seats n old new fits there.end);
          }

      goes_more : (slots : List (Option (Seat R W))) (numbers : ℕ → ℕ) (came gone : List (Seat R W)) (p : ℕ) (seat : Seat R W) → p < length slots → slot_at slots p ≡ Some seat
          → Still slots numbers came gone → Still (set slots p None) numbers came (gone ++ seat ∷ [])
      goes_more slots numbers came gone p seat lt at t = record {
        seats = t.seats;
        number = t.number;
        ties = ties_goes slots t.number t.seats t.ties p lt;
        numbered = numbered_goes slots t.number t.seats t.ties p lt numbers first t.numbered;
        all = all_goes t.seats gone slots t.all p lt seat at;
        whose = t.whose;
        turned = t.turned;
        are_given = t.are_given;
        tell = t.tell;
        faulty = t.faulty;
      }

      -- the changes between two turns
      pub changes_more : (old new : List (Option (Seat R W))) (numbers : ℕ → ℕ) (came gone more went : List (Seat R W)) (n : ℕ) → n ≡ first + length came
          → (changes : Changes remaining contents old new more went) → Still old numbers came gone → Still new (numbers_after changes n numbers) (came ++ more) (gone ++ went)
      changes_more old _ numbers came gone _ _ n is crowd.same t =
          subst (λ l. Still old numbers l (gone ++ [])) (sym (append-nil came)) (subst (λ l. Still old numbers came l) (sym (append-nil gone)) t)
      changes_more old _ numbers came gone _ _ n is (crowd.comes now more went p new before lt free is_new) t =
          subst (λ l. Still (set now p (Some new)) (number_of p (n + length more) (numbers_after before n numbers)) l (gone ++ went)) (append_assoc came more (new ∷ []))
          (comes_more now (numbers_after before n numbers) (came ++ more) (gone ++ went) p (n + length more) new lt free is_new (omega (arith, is, length-append came more))
          (changes_more old now numbers came gone more went n is before t))
      changes_more old _ numbers came gone _ _ n is (crowd.gathers now more went p seat new before lt at is_open g) t =
          gathers_more now (numbers_after before n numbers) (came ++ more) (gone ++ went) p seat new lt at is_open g (changes_more old now numbers came gone more went n is before t)
      changes_more old _ numbers came gone _ _ n is (crowd.sends now more went p seat new before lt at g) t =
          sends_more now (numbers_after before n numbers) (came ++ more) (gone ++ went) p seat new lt at g (changes_more old now numbers came gone more went n is before t)
      changes_more old _ numbers came gone _ _ n is (crowd.goes now more went p seat before lt at) t =
          subst (λ l. Still (set now p None) (numbers_after before n numbers) (came ++ more) l) (append_assoc gone went (seat ∷ []))
          (goes_more now (numbers_after before n numbers) (came ++ more) (gone ++ went) p seat lt at (changes_more old now numbers came gone more went n is before t))

    -- ---- a turn

    module _ (slots : List (Option (Seat R W))) (numbers : ℕ → ℕ) (came gone : List (Seat R W)) (given : List GivenTurn) (most : Option ℕ) (clock' clock'' : C) (keeper' keeper'' : K) (faults : ℕ) (mid after : State) where
      takes_more : (p : ℕ) (old new : Seat R W) → p < length slots → slot_at slots p ≡ Some old → old.end ≡ None
          → TakesTurn gives remaining contents old new clock' clock'' k keeper' keeper'' mid after → TellsTurn old new → ReadsInFull remaining most old new → Now slots numbers came gone given clock' keeper' faults mid
          → Now (set slots p (Some new)) numbers came gone (given ++ record { whose = numbers p; most = most } ∷ []) clock'' keeper'' (faults + cond (fails_now old.end new.end) 1 0) after
      takes_more p old new lt at is_open turn tells full t =
          let n = t.number p in
          let one = t.ties.each p old at in
          let fits = slice_get_within t.seats n old one in
          let is : old ≡ get_or t.seats n old = sym (stands t.seats n old one) in
          let open_there : (get_or t.seats n old).end ≡ None = subst (λ (x : Seat R W). x.end ≡ None) is is_open in
          let told : cond (fails_now old.end new.end) 1 0 ≡ one_if new.end = ap (λ (e : Option SessionEnd). cond (fails_now e new.end) 1 0) is_open in
          record {
            seats = set t.seats n new;
            number = t.number;
            ties = ties_set slots t.number t.seats t.ties p lt old new at;
            numbered = numbered_set slots t.number t.seats t.ties p lt old new at numbers first t.numbered;
            all = all_set t.seats gone slots t.all p lt n old new fits is at;
            whose = t.whose ++ record { whose = n; most = most } ∷ [];
            turned = turns_more remaining contents gives k came t.seats clock clock' clock'' keeper keeper' keeper'' s mid after n old new fits open_there most
                (subst (λ (x : Seat R W). TakesTurn gives remaining contents x new clock' clock'' k keeper' keeper'' mid after) is turn) (subst (λ (x : Seat R W). ReadsInFull remaining most x new) is full) t.turned;
            are_given =
                let one : GivenTurn = record { whose = n; most = most } in
                map_push (given_behind first) t.whose one ∙ ap (λ (l : List GivenTurn). l ++ given_behind first one ∷ []) t.are_given
                ∙ ap (λ (m : ℕ). given ++ record { whose = m; most = most } ∷ []) (sym (t.numbered p old at));
            tell = tell_more came t.seats n old new fits (subst (λ (x : Seat R W). TellsTurn x new) is tells) t.tell;
            faulty = let set_one = faults_set t.seats n old new fits open_there in omega (arith, t.faulty, set_one, told);
          }

      slot_turns : (p : ℕ) (was now : Option (Seat R W)) (failed : Bool) (seat : Seat R W) → p < length slots → slot_at slots p ≡ was → was ≡ Some seat → seat.end ≡ None
          → TurnsSlot gives remaining contents most clock' clock'' k keeper' keeper'' mid after was now failed → Now slots numbers came gone given clock' keeper' faults mid
          → Now (set slots p now) numbers came gone (given ++ record { whose = numbers p; most = most } ∷ []) clock'' keeper'' (faults + cond failed 1 0) after
      slot_turns p _ _ _ seat lt at there is_open (in_turn.nobody same_clock same_keeper same_state) t = absurd (none_is seat there)
      slot_turns p _ _ _ seat lt at there is_open (in_turn.taken old new turn tells full) t =
          takes_more p old new lt at (subst (λ (x : Seat R W). x.end ≡ None) (sym (some_is old seat there)) is_open) turn tells full t

      -- the same for a slot whose turn is due
      pub turned_more : (faults' p : ℕ) (now : Option (Seat R W)) (failed : Bool) → IsOpenAt slots p → faults' ≡ faults + cond failed 1 0
          → TurnsSlot gives remaining contents most clock' clock'' k keeper' keeper'' mid after (slot_at slots p) now failed → Now slots numbers came gone given clock' keeper' faults mid
          → Now (set slots p now) numbers came gone (given ++ record { whose = numbers p; most = most } ∷ []) clock'' keeper'' faults' after
      turned_more faults' p now failed due counted turn t =
          subst (λ m. Now (set slots p now) numbers came gone (given ++ record { whose = numbers p; most = most } ∷ []) clock'' keeper'' m after) (sym counted)
          (slot_turns p (slot_at slots p) now failed due.1 due.0 refl due.2 due.3 turn t)

    -- ---- the end

    pub crowd_ends : (slots : List (Option (Seat R W))) (numbers : ℕ → ℕ) (came gone : List (Seat R W)) (given : List GivenTurn) (clock' : C) (keeper' : K) (faults : ℕ) (mid : State) → MeansOne k keeper'
        → IsLeft (k.means keeper') mid → Now slots numbers came gone given clock' keeper' faults mid
        → ServesCrowd gives remaining contents came gone slots clock clock' k keeper keeper' first given faults s mid
    crowd_ends slots numbers came gone given clock' keeper' faults mid one left t =
        let w = weaves_last remaining contents gives k came t.seats clock clock' keeper keeper' s mid t.turned t.tell one left in
        let are : map (given_by first) w.run.turns ≡ given = whose_are first w.run.turns ∙ ap (map (given_behind first)) w.in_order ∙ t.are_given in
        record {
          seats = t.seats;
          all = t.all;
          taken = ap length (sym are) ∙ length-map w.run.turns (given_by first) ∙ w.all;
          threads = w.threads;
          moments = w.moments;
          told = w.told;
          served = w.served;
          run = w.run;
          whose = are;
          each_counted = w.each_counted;
          one_moment = w.one_moment;
          by_turns = w.by_turns;
          read_on = w.read_on;
          begun = w.begun;
          repeats = w.repeats;
          stays = w.stays;
          lasts = w.lasts;
          survives = w.survives;
          faulty = t.faulty ∙ faults_of remaining contents came t.seats w.threads w.served;
        }

    -- no connection came yet
    pub crowd_starts : (slots : List (Option (Seat R W))) (numbers : ℕ → ℕ) → ((p : ℕ) → slot_at slots p ≡ None) → Now slots numbers [] [] [] clock keeper 0 s
    crowd_starts slots numbers free = record {
      seats = [];
      number = λ p. p;
      ties = ties_none slots free;
      numbered = numbered_none slots numbers first free;
      all = all_none slots free;
      whose = [];
      turned = record { sittings = []; are = tt; so_far = starts gives k clock keeper s };
      are_given = refl;
      tell = tt;
      faulty = refl;
    }

-- ---- a slot in a turn

pub fails_open : (e e' : Option SessionEnd) (b : Bool) → not b ≡ is_some e → b ≡ true → is_fault_end e' ≡ fails_now e e'
fails_open None e' b h is = refl
fails_open (Some e) e' b h is = let both : not true ≡ true = subst (λ (x : Bool). not x ≡ true) is h in absurd cc

pub fails_closed : (e e' : Option SessionEnd) (b : Bool) → not b ≡ is_some e → b ≡ false → false ≡ fails_now e e'
fails_closed None e' b h is = let both : not false ≡ false = subst (λ (x : Bool). not x ≡ false) is h in absurd cc
fails_closed (Some e) e' b h is = refl

module _ {R W C K : Type 0} (remaining : R → Option (List ℕ)) (contents : W → Option (List ℕ)) (most : Option ℕ) (gives : C → ℕ → C → Type 0) (k : Ghosts K) (clock clock' : C) (keeper keeper' : K) (s after : State) where
  pub taken_by : (slot slot' : Option (Seat R W)) (failed : Bool) (old new : Seat R W) → slot ≡ Some old → slot' ≡ Some new → failed ≡ fails_now old.end new.end
      → TakesTurn gives remaining contents old new clock clock' k keeper keeper' s after → TellsTurn old new → ReadsInFull remaining most old new
      → TurnsSlot gives remaining contents most clock clock' k keeper keeper' s after slot slot' failed
  taken_by slot slot' failed old new is is' told turn tells full =
      subst (λ o. TurnsSlot gives remaining contents most clock clock' k keeper keeper' s after o slot' failed) (sym is)
      (subst (λ o. TurnsSlot gives remaining contents most clock clock' k keeper keeper' s after (Some old) o failed) (sym is')
      (subst (TurnsSlot gives remaining contents most clock clock' k keeper keeper' s after (Some old) (Some new)) (sym told) (in_turn.taken old new turn tells full)))
