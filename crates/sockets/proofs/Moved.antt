-- What happened at the gate and in the slots, in order.
use Rattle.std.proofs.Common.{◌≡◌, ◌<◌, ◌∙◌, ◌+◌, ◌++◌, ◌⊎◌, ℕ, inl, inr, Bool, false, List, [], ◌∷◌, Option, None, Some, length, ap, append_assoc, refl, sym, subst, arith}
use Rattle.std.specs.Prelude.{IfSome, cond, is_some}
use Rattle.std.specs.List.{count_by}
use Rattle.std.specs.declared.io.Error.{Error}
use Rattle.std.proofs.lemmas.List.{append-nil, length-append}
use Rattle.std.proofs.lemmas.List.Sums.{sum_by-append}
use Rattle.wire.specs.Crowds.{Changes, same, those_of}
use Rattle.wire.specs.declared.seat.Seat.{Seat}
use Rattle.wire.specs.Seats.{IsNew}
use Rattle.wire.proofs.Changing.{changes_then}
use Rattle.wire.specs.declared.gathered.Gathered.{Gathered}
use Rattle.wire.specs.declared.outbox.Outbox.{Outbox}
use Rattle.sockets.specs.Accepting.{Admits, IsUntouched, MayGo, lacks_answers}
use Rattle.sockets.specs.Accepting as accepting
use Rattle.sockets.specs.Listening.{Event, IsWant, accepted, closed, missed, opened, unready}
use Rattle.sockets.specs.Moving.{HasPassed, Moves, Passes}
use Rattle.sockets.specs.declared.actions.Outcome.{Outcome}
use Rattle.sockets.specs.declared.actions.Outcome.TheVariants as outcome
use Rattle.sockets.specs.declared.gate.Gate.{Gate}

plus_none : (n : ℕ) → n ≡ n + 0
plus_none n = omega arith

plus_both : (n a b : ℕ) → (n + a) + b ≡ n + (a + b)
plus_both n a b = omega arith

pub none_is : {S : Type 0} (x : Option S) → is_some x ≡ false → x ≡ None
none_is None is = refl
none_is (Some x) is = absurd cc

abbrev ones : Bool → ℕ
ones b = cond b 1 0

-- how many connections wait: one or none
pub waits_one : {S : Type 0} (waits : Option S) (does : Bool) → does ≡ is_some waits → length (those_of waits) ≡ cond does 1 0
waits_one None does is = ap ones (sym is)
waits_one (Some x) does is = ap ones (sym is)

-- the connection that was taken from its slot went
pub went_one : {R W : Type 0} {remaining : R → Option (List ℕ)} {contents : W → Option (List ℕ)} {old new : List (Option (Seat R W))} (o : Option (Seat R W)) (seat : Seat R W) → o ≡ Some seat
    → Changes remaining contents old new [] (those_of o) → Changes remaining contents old new [] (seat ∷ [])
went_one {remaining = remaining} {contents = contents} {old = old} {new = new} o seat is changes = subst (λ x. Changes remaining contents old new [] (those_of x)) is changes

pub went_none : {R W : Type 0} {remaining : R → Option (List ℕ)} {contents : W → Option (List ℕ)} {old new : List (Option (Seat R W))} (o : Option (Seat R W)) → o ≡ None
    → Changes remaining contents old new [] (those_of o) → Changes remaining contents old new [] []
went_none {remaining = remaining} {contents = contents} {old = old} {new = new} o is changes = subst (λ x. Changes remaining contents old new [] (those_of x)) is changes

pub may_of : {E : Type 0} (o : Option (Seat (Gathered E) (Outbox E))) (seat : Seat (Gathered E) (Outbox E)) → o ≡ Some seat → IfSome o (λ x. MayGo x) → MayGo seat
may_of o seat is may = subst (λ o. IfSome o (λ x. MayGo x)) is may

-- how many of them lack answers
abbrev lack : {E : Type 0} → List (Seat (Gathered E) (Outbox E)) → ℕ
lack gone = count_by lacks_answers gone

none_lack : (E : Type 0) {n m : ℕ} → m ≡ n → m ≡ n + lack {E = E} []
none_lack E {n = n} is = is ∙ plus_none n

both_lack : {E : Type 0} (gone went : List (Seat (Gathered E) (Outbox E))) → lack (gone ++ went) ≡ lack gone + lack went
both_lack gone went = sum_by-append (λ seat. cond (lacks_answers seat) 1 0) gone went

module _ {L S E : Type 0} (told : L → List (Event S E) → Type 0) (are_ends : S → E → E → Type 0) where
  -- nothing passed, and the listener tells the same
  pub passes_still : (g h : Gate L S) → h.guest ≡ g.guest → h.to_come ≡ g.to_come → h.most ≡ g.most → h.came ≡ g.came → h.gone ≡ g.gone → h.unsent ≡ g.unsent
      → ((log : List (Event S E)) → told g.listener log → told h.listener log) → Passes told are_ends g h [] []
  passes_still g h guest to_come most came gone unsent tells = record {
    events = [];
    refused = 0;
    tells = λ log is. subst (told h.listener) (sym (append-nil log)) (tells log is);
    admits = λ before cs gs n is _ _.
        subst (λ l. Admits are_ends g.most l h.guest (cs ++ []) (gs ++ []) (n + 0)) (sym (append-nil before))
        (subst (λ l. Admits are_ends g.most before h.guest l (gs ++ []) (n + 0)) (sym (append-nil cs))
        (subst (λ l. Admits are_ends g.most before h.guest cs l (n + 0)) (sym (append-nil gs))
        (subst (λ k. Admits are_ends g.most before h.guest cs gs k) (plus_none n)
        (subst (λ w. Admits are_ends g.most before w cs gs n) (sym guest) is))));
    most = most;
    to_come = omega (arith, to_come, ap (λ w. length (those_of w)) guest);
    counted = omega (arith, came);
    left = omega (arith, gone);
    unsent = none_lack E unsent;
  }

  pub passes_none : (g : Gate L S) → Passes told are_ends g g [] []
  passes_none g = passes_still g g refl refl refl refl refl refl (λ log is. is)

  -- one event by which no connection comes or goes
  module _ (g h : Gate L S) (event : Event S E) (refused : ℕ)
      (step : (before : List (Event S E)) (cs gs : List (Seat (Gathered E) (Outbox E))) (n : ℕ) → Admits are_ends g.most before g.guest cs gs n
      → Admits are_ends g.most (before ++ event ∷ []) h.guest cs gs (n + refused)) where
    pub passes_by : g.to_come + length (those_of g.guest) ≡ h.to_come + length (those_of h.guest) + refused → h.most ≡ g.most → h.came ≡ g.came → h.gone ≡ g.gone → h.unsent ≡ g.unsent
        → ((log : List (Event S E)) → told g.listener log → told h.listener (log ++ event ∷ [])) → Passes told are_ends g h [] []
    passes_by to_come most came gone unsent tells = record {
      events = event ∷ [];
      refused = refused;
      tells = tells;
      admits = λ before cs gs n is _ _.
          subst (λ l. Admits are_ends g.most (before ++ event ∷ []) h.guest l (gs ++ []) (n + refused)) (sym (append-nil cs))
          (subst (λ l. Admits are_ends g.most (before ++ event ∷ []) h.guest cs l (n + refused)) (sym (append-nil gs)) (step before cs gs n is));
      most = most;
      to_come = omega (arith, to_come);
      counted = omega (arith, came);
      left = omega (arith, gone);
      unsent = none_lack E unsent;
    }

  -- a connection is accepted, and waits
  pub accepts_one : (g h : Gate L S) (stream : S) → g.guest ≡ None → h.guest ≡ Some stream → g.to_come ≡ h.to_come + 1 → h.most ≡ g.most → h.came ≡ g.came → h.gone ≡ g.gone → h.unsent ≡ g.unsent
      → ((log : List (Event S E)) → told g.listener log → told h.listener (log ++ accepted stream ∷ [])) → Passes told are_ends g h [] []
  accepts_one g h stream free waits to_come most came gone unsent tells = passes_by g h (accepted stream) 0
      (λ before cs gs n is.
      subst (λ k. Admits are_ends g.most (before ++ accepted stream ∷ []) h.guest cs gs k) (plus_none n)
      (subst (λ w. Admits are_ends g.most (before ++ accepted stream ∷ []) w cs gs n) (sym waits)
      (accepting.accepts before cs gs n stream (subst (λ w. Admits are_ends g.most before w cs gs n) free is))))
      (omega (arith, to_come, ap (λ w. length (those_of w)) free, ap (λ w. length (those_of w)) waits)) most came gone unsent tells

  -- no connection can be accepted now because of a shortage
  pub misses_one : (g h : Gate L S) (e : Error) → h.guest ≡ g.guest → h.to_come ≡ g.to_come → h.most ≡ g.most → h.came ≡ g.came → h.gone ≡ g.gone → h.unsent ≡ g.unsent → IsWant e
      → ((log : List (Event S E)) → told g.listener log → told h.listener (log ++ missed e ∷ [])) → Passes told are_ends g h [] []
  misses_one g h e waits to_come most came gone unsent want tells = passes_by g h (missed e) 0
      (λ before cs gs n is.
      subst (λ k. Admits are_ends g.most (before ++ missed e ∷ []) h.guest cs gs k) (plus_none n)
      (accepting.misses before h.guest cs gs n e (subst (λ w. Admits are_ends g.most before w cs gs n) (sym waits) is) want))
      (omega (arith, to_come, ap (λ w. length (those_of w)) waits)) most came gone unsent tells

  -- a connection can't be accepted, not because of a shortage
  pub refuses_one : (g h : Gate L S) (e : Error) → h.guest ≡ g.guest → g.to_come ≡ h.to_come + 1 → h.most ≡ g.most → h.came ≡ g.came → h.gone ≡ g.gone → h.unsent ≡ g.unsent → (IsWant e → ⊥)
      → ((log : List (Event S E)) → told g.listener log → told h.listener (log ++ missed e ∷ [])) → Passes told are_ends g h [] []
  refuses_one g h e waits to_come most came gone unsent lasts tells = passes_by g h (missed e) 1
      (λ before cs gs n is. accepting.refuses before h.guest cs gs n e (subst (λ w. Admits are_ends g.most before w cs gs n) (sym waits) is) lasts)
      (omega (arith, to_come, ap (λ w. length (those_of w)) waits)) most came gone unsent tells

  -- the ends of the waiting connection can't be made now because of a shortage
  pub waits_on : (g h : Gate L S) (stream : S) (back : Option S) (e : Error) → g.guest ≡ Some stream → h.guest ≡ Some stream → h.to_come ≡ g.to_come → h.most ≡ g.most → h.came ≡ g.came
      → h.gone ≡ g.gone → h.unsent ≡ g.unsent → back ≡ Some stream → IsWant e
      → ((log : List (Event S E)) → told g.listener log → told h.listener (log ++ unready back e ∷ [])) → Passes told are_ends g h [] []
  waits_on g h stream back e waits still to_come most came gone unsent it want tells = passes_by g h (unready back e) 0
      (λ before cs gs n is.
      subst (λ k. Admits are_ends g.most (before ++ unready back e ∷ []) h.guest cs gs k) (plus_none n)
      (subst (λ b. Admits are_ends g.most (before ++ unready b e ∷ []) h.guest cs gs n) (sym it)
      (subst (λ w. Admits are_ends g.most (before ++ unready (Some stream) e ∷ []) w cs gs n) (sym still)
      (accepting.waits_on before stream cs gs n e (subst (λ w. Admits are_ends g.most before w cs gs n) waits is) want))))
      (omega (arith, to_come, ap (λ w. length (those_of w)) waits, ap (λ w. length (those_of w)) still)) most came gone unsent tells

  -- the ends of the waiting connection can't be made
  pub turns_away : (g h : Gate L S) (stream : S) (back : Option S) (e : Error) → g.guest ≡ Some stream → h.guest ≡ None → h.to_come ≡ g.to_come → h.most ≡ g.most → h.came ≡ g.came
      → h.gone ≡ g.gone → h.unsent ≡ g.unsent → (back ≡ None) ⊎ (IsWant e → ⊥)
      → ((log : List (Event S E)) → told g.listener log → told h.listener (log ++ unready back e ∷ [])) → Passes told are_ends g h [] []
  turns_away g h stream back e waits free to_come most came gone unsent lost tells = passes_by g h (unready back e) 1
      (λ before cs gs n is.
      subst (λ w. Admits are_ends g.most (before ++ unready back e ∷ []) w cs gs (n + 1)) (sym free)
      (accepting.turns_away before stream cs gs n back e (subst (λ w. Admits are_ends g.most before w cs gs n) waits is) lost))
      (omega (arith, to_come, ap (λ w. length (those_of w)) waits, ap (λ w. length (those_of w)) free)) most came gone unsent tells

  -- the ends of the waiting connection can't be made: it keeps waiting, or is turned away
  pub puts_off : (g h : Gate L S) (told' : Outcome) (stream : S) (back free : Option S) (e : Error) → g.guest ≡ Some stream → IfSome back (λ x. x ≡ stream)
      → ((told' ≡ outcome.Wanting) × (x : S) × (back ≡ Some x) × IsWant e × (h.guest ≡ Some x)) ⊎ ((told' ≡ outcome.Away) × ((back ≡ None) ⊎ (IsWant e → ⊥)) × (h.guest ≡ free)) → free ≡ None
      → h.to_come ≡ g.to_come → h.most ≡ g.most → h.came ≡ g.came → h.gone ≡ g.gone → h.unsent ≡ g.unsent
      → ((log : List (Event S E)) → told g.listener log → told h.listener (log ++ unready back e ∷ [])) → Passes told are_ends g h [] []
  puts_off g h told' stream back free e waits is (inl x) none to_come most came gone unsent tells =
      let it : x.1 ≡ stream = subst (λ o. IfSome o (λ y. y ≡ stream)) x.2 is in
      waits_on g h stream back e waits (x.4 ∙ ap Some it) to_come most came gone unsent (x.2 ∙ ap Some it) x.3 tells
  puts_off g h told' stream back free e waits is (inr x) none to_come most came gone unsent tells = turns_away g h stream back e waits (x.2 ∙ none) to_come most came gone unsent x.1 tells

  -- the waiting connection comes
  pub comes_in : (g h : Gate L S) (stream : S) (seat : Seat (Gathered E) (Outbox E)) (reader writer : E) → g.guest ≡ Some stream → h.guest ≡ None → h.to_come ≡ g.to_come → h.most ≡ g.most
      → h.came ≡ g.came + 1 → h.gone ≡ g.gone → h.unsent ≡ g.unsent → g.came < g.gone + g.most → are_ends stream reader writer → seat.reader.inner.inner ≡ reader → seat.writer.inner.inner ≡ writer → IsNew seat → IsUntouched seat
      → ((log : List (Event S E)) → told g.listener log → told h.listener (log ++ opened reader writer ∷ [])) → Passes told are_ends g h (seat ∷ []) []
  comes_in g h stream seat reader writer waits free to_come most came gone unsent may ends reads writes new untouched tells = record {
    events = opened seat.reader.inner.inner seat.writer.inner.inner ∷ [];
    refused = 0;
    tells = λ log is.
        subst (λ r. told h.listener (log ++ opened r seat.writer.inner.inner ∷ [])) (sym reads) (subst (λ w. told h.listener (log ++ opened reader w ∷ [])) (sym writes) (tells log is));
    admits = λ before cs gs n is counted left.
        let at : Admits are_ends g.most before (Some stream) cs gs n = subst (λ w. Admits are_ends g.most before w cs gs n) waits is in
        let both : are_ends stream seat.reader.inner.inner seat.writer.inner.inner = subst (λ r. are_ends stream r seat.writer.inner.inner) (sym reads) (subst (are_ends stream reader) (sym writes) ends) in
        let now = accepting.comes before stream cs gs n seat at (omega (arith, may, counted, left)) both new untouched in
        let log : List (Event S E) = before ++ opened seat.reader.inner.inner seat.writer.inner.inner ∷ [] in
        subst (λ w. Admits are_ends g.most log w (cs ++ seat ∷ []) (gs ++ []) (n + 0)) (sym free)
        (subst (λ l. Admits are_ends g.most log None (cs ++ seat ∷ []) l (n + 0)) (sym (append-nil gs))
        (subst (λ k. Admits are_ends g.most log None (cs ++ seat ∷ []) gs k) (plus_none n) now));
    most = most;
    to_come = omega (arith, to_come, ap (λ w. length (those_of w)) waits, ap (λ w. length (those_of w)) free);
    counted = omega (arith, came);
    left = omega (arith, gone);
    unsent = none_lack E unsent;
  }

  -- a connection goes
  pub goes_out : (g h : Gate L S) (seat : Seat (Gathered E) (Outbox E)) → h.guest ≡ g.guest → h.to_come ≡ g.to_come → h.most ≡ g.most → h.came ≡ g.came → h.gone ≡ g.gone + 1 → h.unsent ≡ g.unsent + count_by lacks_answers (seat ∷ []) → MayGo seat
      → ((log : List (Event S E)) → told g.listener log → told h.listener (log ++ closed seat ∷ [])) → Passes told are_ends g h [] (seat ∷ [])
  goes_out g h seat guest to_come most came gone unsent may tells = record {
    events = closed seat ∷ [];
    refused = 0;
    tells = tells;
    admits = λ before cs gs n is _ _.
        let at : Admits are_ends g.most before h.guest cs gs n = subst (λ w. Admits are_ends g.most before w cs gs n) (sym guest) is in
        subst (λ l. Admits are_ends g.most (before ++ closed seat ∷ []) h.guest l (gs ++ seat ∷ []) (n + 0)) (sym (append-nil cs))
        (subst (λ k. Admits are_ends g.most (before ++ closed seat ∷ []) h.guest cs (gs ++ seat ∷ []) k) (plus_none n) (accepting.goes before h.guest cs gs n seat at may));
    most = most;
    to_come = omega (arith, to_come, ap (λ w. length (those_of w)) guest);
    counted = omega (arith, came);
    left = omega (arith, gone);
    unsent = unsent;
  }

  -- two passages in a row
  pub passes_then : (f g h : Gate L S) (came more gone went : List (Seat (Gathered E) (Outbox E))) → Passes told are_ends f g came gone → Passes told are_ends g h more went
      → Passes told are_ends f h (came ++ more) (gone ++ went)
  passes_then f g h came more gone went x y = record {
    events = x.events ++ y.events;
    refused = x.refused + y.refused;
    tells = λ log is. subst (told h.listener) (append_assoc log x.events y.events) (y.tells (log ++ x.events) (x.tells log is));
    admits = λ before cs gs n is counted left.
        let first : Admits are_ends g.most (before ++ x.events) g.guest (cs ++ came) (gs ++ gone) (n + x.refused) =
        subst (λ m. Admits are_ends m (before ++ x.events) g.guest (cs ++ came) (gs ++ gone) (n + x.refused)) (sym x.most) (x.admits before cs gs n is counted left) in
        let then : Admits are_ends g.most ((before ++ x.events) ++ y.events) h.guest ((cs ++ came) ++ more) ((gs ++ gone) ++ went) ((n + x.refused) + y.refused) =
        y.admits (before ++ x.events) (cs ++ came) (gs ++ gone) (n + x.refused) first (omega (arith, x.counted, counted, length-append cs came)) (omega (arith, x.left, left, length-append gs gone)) in
        subst (λ m. Admits are_ends m (before ++ (x.events ++ y.events)) h.guest (cs ++ (came ++ more)) (gs ++ (gone ++ went)) (n + (x.refused + y.refused))) x.most
        (subst (λ l. Admits are_ends g.most l h.guest (cs ++ (came ++ more)) (gs ++ (gone ++ went)) (n + (x.refused + y.refused))) (append_assoc before x.events y.events)
        (subst (λ l. Admits are_ends g.most ((before ++ x.events) ++ y.events) h.guest l (gs ++ (gone ++ went)) (n + (x.refused + y.refused))) (append_assoc cs came more)
        (subst (λ l. Admits are_ends g.most ((before ++ x.events) ++ y.events) h.guest ((cs ++ came) ++ more) l (n + (x.refused + y.refused))) (append_assoc gs gone went)
        (subst (λ k. Admits are_ends g.most ((before ++ x.events) ++ y.events) h.guest ((cs ++ came) ++ more) ((gs ++ gone) ++ went) k)
        (plus_both n x.refused y.refused) then))));
    most = y.most ∙ x.most;
    to_come = omega (arith, x.to_come, y.to_come, length-append came more);
    counted = omega (arith, x.counted, y.counted, length-append came more);
    left = omega (arith, x.left, y.left, length-append gone went);
    unsent = omega (arith, x.unsent, y.unsent, both_lack gone went);
  }

  -- what passed since the gate began, followed by this
  pub passed_then : (had : List (Event S E) → Type 0) (connections most : ℕ) (g h : Gate L S) (came more gone went : List (Seat (Gathered E) (Outbox E)))
      → HasPassed had connections most told are_ends g came gone → Passes told are_ends g h more went → HasPassed had connections most told are_ends h (came ++ more) (gone ++ went)
  passed_then had connections most g h came more gone went x y = record {
    events = x.events ++ y.events;
    refused = x.refused + y.refused;
    tells = λ log is. subst (told h.listener) (append_assoc log x.events y.events) (y.tells (log ++ x.events) (x.tells log is));
    admits =
        let first : Admits are_ends g.most x.events g.guest came gone x.refused = subst (λ m. Admits are_ends m x.events g.guest came gone x.refused) (sym x.bound) x.admits in
        subst (λ m. Admits are_ends m (x.events ++ y.events) h.guest (came ++ more) (gone ++ went) (x.refused + y.refused)) x.bound (y.admits x.events came gone x.refused first x.counted x.left);
    bound = y.most ∙ x.bound;
    to_come = omega (arith, x.to_come, y.to_come, length-append came more);
    counted = omega (arith, x.counted, y.counted, length-append came more);
    left = omega (arith, x.left, y.left, length-append gone went);
    unsent = omega (arith, x.unsent, y.unsent, both_lack gone went);
  }

  -- a gate that begins
  pub passed_none : (had : List (Event S E) → Type 0) (connections most : ℕ) (g : Gate L S) → ((log : List (Event S E)) → had log → told g.listener log) → g.guest ≡ None
      → connections ≡ g.to_come → g.most ≡ most → g.came ≡ 0 → g.gone ≡ 0 → g.unsent ≡ 0 → HasPassed had connections most told are_ends g [] []
  passed_none had connections most g tells guest to_come bound came gone unsent = record {
    events = [];
    refused = 0;
    tells = λ log is. subst (told g.listener) (sym (append-nil log)) (tells log is);
    admits = subst (λ w. Admits are_ends most [] w [] [] 0) (sym guest) accepting.nothing;
    bound = bound;
    to_come = omega (arith, to_come, ap (λ w. length (those_of w)) guest);
    counted = omega (arith, came);
    left = omega (arith, gone);
    unsent = none_lack E unsent;
  }

  module _ (remaining : Gathered E → Option (List ℕ)) (contents : Outbox E → Option (List ℕ)) where
    pub moves_none : (g : Gate L S) (a : List (Option (Seat (Gathered E) (Outbox E)))) → Moves told are_ends remaining contents g g a a
    moves_none g a = ([], [], passes_none g, same)

    pub moves_then : (f g h : Gate L S) (a b c : List (Option (Seat (Gathered E) (Outbox E)))) → Moves told are_ends remaining contents f g a b
        → Moves told are_ends remaining contents g h b c → Moves told are_ends remaining contents f h a c
    moves_then f g h a b c x y = (
      x.0 ++ y.0,
      x.1 ++ y.1,
      passes_then f g h x.0 y.0 x.1 y.1 x.2 y.2,
      changes_then remaining contents a b c x.0 x.1 y.0 y.1 x.3 y.3,
    )

    -- no connection comes or goes
    pub moves_still : (g : Gate L S) (a b : List (Option (Seat (Gathered E) (Outbox E)))) → Changes remaining contents a b [] [] → Moves told are_ends remaining contents g g a b
    moves_still g a b changes = ([], [], passes_none g, changes)

    -- nothing changes in the slots
    pub moves_called : (g h : Gate L S) (a : List (Option (Seat (Gathered E) (Outbox E)))) → Passes told are_ends g h [] [] → Moves told are_ends remaining contents g h a a
    moves_called g h a passes = ([], [], passes, same)

    -- this is what a crowd says of itself
    pub moves_met : (had : List (Event S E) → Type 0) (connections most : ℕ) (g h : Gate L S) (a b : List (Option (Seat (Gathered E) (Outbox E)))) → Moves told are_ends remaining contents g h a b
        → (came gone : List (Seat (Gathered E) (Outbox E))) → HasPassed had connections most told are_ends g came gone
        → (more went : List (Seat (Gathered E) (Outbox E))) × HasPassed had connections most told are_ends h (came ++ more) (gone ++ went)
        × Changes remaining contents a b more went
    moves_met had connections most g h a b x came gone met = (x.0, x.1, passed_then had connections most g h came x.0 gone x.1 met x.2, x.3)
