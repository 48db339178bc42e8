-- A counting listener after one more event, and after serving ends.
use Rattle.std.proofs.Common.{◌≡◌, ◌<◌, ◌-◌, ◌∙◌, ◌+◌, ◌^◌, ◌++◌, ℕ, Bool, List, [], ◌∷◌, Option, None, Some, Result, Ok, Err, length, map, min, refl, true, arith}
use Rattle.std.specs.Prelude.{cond, IfErr, IfOk}
use Rattle.std.specs.List.{count_by}
use Rattle.std.specs.declared.io.Error.{Error}
use Rattle.std.proofs.lemmas.List.{length-append}
use Rattle.std.proofs.lemmas.List.Sums.{sum_by-append}
use Rattle.wire.specs.Crowds.{those_of}
use Rattle.wire.specs.declared.seat.Seat.{Seat}
use Rattle.wire.specs.declared.gathered.Gathered.{Gathered}
use Rattle.wire.specs.declared.outbox.Outbox.{Outbox}
use Rattle.peers.specs.Counts.{Counts, is_closing, is_opening}
use Rattle.sockets.specs.Accepting.{Admits}
use Rattle.commands.specs.Rounds.{Accepts}
use Rattle.sockets.specs.Accepting as accepting
use Rattle.sockets.specs.Listening.{Event, accepted, closed, missed, opened, unready}
use Rattle.commands.specs.declared.rounds.Outcome.{Outcome}

-- a count of both is the sum of the counts
pub count_both : {X : Type 0} (p : X → Bool) (xs ys : List X) → count_by p (xs ++ ys) ≡ count_by p xs + count_by p ys
count_both p xs ys = sum_by-append (λ x. cond (p x) 1 0) xs ys

-- a count that stops at 2^64 - 1 goes on
goes_on : (n more k all : ℕ) → all ≡ k + more → n ≡ min k (2 ^ 64 - 1) → min (n + more) (2 ^ 64 - 1) ≡ min all (2 ^ 64 - 1)
goes_on n more k all is so = omega (arith, is, so)

stays : (n k : ℕ) → n ≡ min k (2 ^ 64 - 1) → n ≡ min (n + 0) (2 ^ 64 - 1)
stays n k so = omega (arith, so)

module _ {L S E : Type 0} (told : L → List (Event S E) → Type 0) (old new : L) (o c : ℕ) where
  -- the listener did and counted these events
  counts_more : (log more : List (Event S E)) → (told old log → told new (log ++ more)) → (o' c' : ℕ) → o' ≡ min (o + count_by is_opening more) (2 ^ 64 - 1) → c' ≡ min (c + count_by is_closing more) (2 ^ 64 - 1)
      → Counts told old o c log → Counts told new o' c' (log ++ more)
  counts_more log more tells o' c' opens closes x = record {
    tells = tells x.tells;
    openings_are = opens ∙ goes_on o (count_by is_opening more) (count_by is_opening log) (count_by is_opening (log ++ more)) (count_both is_opening log more) x.openings_are;
    closings_are = closes ∙ goes_on c (count_by is_closing more) (count_by is_closing log) (count_by is_closing (log ++ more)) (count_both is_closing log more) x.closings_are;
  }

  -- the listener did nothing that it counts
  counts_still : (log more : List (Event S E)) → (told old log → told new (log ++ more)) → count_by is_opening more ≡ 0 → count_by is_closing more ≡ 0 → Counts told old o c log
      → Counts told new o c (log ++ more)
  counts_still log more tells opens closes x = counts_more log more tells o c
      (omega (arith, opens, stays o (count_by is_opening log) x.openings_are)) (omega (arith, closes, stays c (count_by is_closing log) x.closings_are)) x

  -- it opened a connection
  pub counts_opened : (log : List (Event S E)) (reader writer : E) → (told old log → told new (log ++ opened reader writer ∷ [])) → (o' : ℕ) → o' ≡ min (o + 1) (2 ^ 64 - 1) → Counts told old o c log
      → Counts told new o' c (log ++ opened reader writer ∷ [])
  counts_opened log reader writer tells o' opens x = counts_more log (opened reader writer ∷ []) tells o' c opens (stays c (count_by is_closing log) x.closings_are) x

  -- it closed a connection
  pub counts_closed : (log : List (Event S E)) (seat : Seat (Gathered E) (Outbox E)) → (told old log → told new (log ++ closed seat ∷ [])) → (c' : ℕ) → c' ≡ min (c + 1) (2 ^ 64 - 1) → Counts told old o c log
      → Counts told new o c' (log ++ closed seat ∷ [])
  counts_closed log seat tells c' closes x = counts_more log (closed seat ∷ []) tells o c' (stays o (count_by is_opening log) x.openings_are) closes x

  -- it could not open a connection
  pub counts_unready : (log : List (Event S E)) (back : Option S) (e : Error) → (told old log → told new (log ++ unready back e ∷ [])) → Counts told old o c log
      → Counts told new o c (log ++ unready back e ∷ [])
  counts_unready log back e tells x = counts_still log (unready back e ∷ []) tells refl refl x

  -- it accepted a connection, or none was waiting
  pub counts_accepted : (found : Result (Option S) Error) → IfOk found (λ x. (log : List (Event S E)) → told old log → told new (log ++ map accepted (those_of x)))
      → IfOk found (λ x. (log : List (Event S E)) → Counts told old o c log → Counts told new o c (log ++ map accepted (those_of x)))
  counts_accepted (Ok None) is = λ log x. counts_still log [] (is log) refl refl x
  counts_accepted (Ok (Some stream)) is = λ log x. counts_still log (accepted stream ∷ []) (is log) refl refl x
  counts_accepted (Err e) is = tt

  -- it could not accept a connection
  pub counts_missed : (found : Result (Option S) Error) → IfErr found (λ e. (log : List (Event S E)) → told old log → told new (log ++ missed e ∷ []))
      → IfErr found (λ e. (log : List (Event S E)) → Counts told old o c log → Counts told new o c (log ++ missed e ∷ []))
  counts_missed (Ok x) is = tt
  counts_missed (Err e) is = λ log x. counts_still log (missed e ∷ []) (is log) refl refl x

module _ {S E : Type 0} {are_ends : S → E → E → Type 0} {most : ℕ} where
  -- every connection that came was opened
  pub opened_came : {events : List (Event S E)} {waits : Option S} {came gone : List (Seat (Gathered E) (Outbox E))} {refused : ℕ} → Admits are_ends most events waits came gone refused
      → count_by is_opening events ≡ length came
  opened_came (accepting.nothing) = refl
  opened_came (accepting.accepts events came gone refused stream is) = omega (arith, count_both is_opening events (accepted stream ∷ []), opened_came is)
  opened_came (accepting.misses events waits came gone refused e is want) = omega (arith, count_both is_opening events (missed e ∷ []), opened_came is)
  opened_came (accepting.refuses events waits came gone refused e is lasts) = omega (arith, count_both is_opening events (missed e ∷ []), opened_came is)
  opened_came (accepting.comes events stream came gone refused seat is may ends new untouched) =
      omega (arith, count_both is_opening events (opened seat.reader.inner.inner seat.writer.inner.inner ∷ []), opened_came is, length-append came (seat ∷ []))
  opened_came (accepting.waits_on events stream came gone refused e is want) = omega (arith, count_both is_opening events (unready (Some stream) e ∷ []), opened_came is)
  opened_came (accepting.turns_away events stream came gone refused back e is lost) = omega (arith, count_both is_opening events (unready back e ∷ []), opened_came is)
  opened_came (accepting.goes events waits came gone refused seat is may) = omega (arith, count_both is_opening events (closed seat ∷ []), opened_came is)

  -- every connection that went was closed
  pub closed_gone : {events : List (Event S E)} {waits : Option S} {came gone : List (Seat (Gathered E) (Outbox E))} {refused : ℕ} → Admits are_ends most events waits came gone refused
      → count_by is_closing events ≡ length gone
  closed_gone (accepting.nothing) = refl
  closed_gone (accepting.accepts events came gone refused stream is) = omega (arith, count_both is_closing events (accepted stream ∷ []), closed_gone is)
  closed_gone (accepting.misses events waits came gone refused e is want) = omega (arith, count_both is_closing events (missed e ∷ []), closed_gone is)
  closed_gone (accepting.refuses events waits came gone refused e is lasts) = omega (arith, count_both is_closing events (missed e ∷ []), closed_gone is)
  closed_gone (accepting.comes events stream came gone refused seat is may ends new untouched) =
      omega (arith, count_both is_closing events (opened seat.reader.inner.inner seat.writer.inner.inner ∷ []), closed_gone is)
  closed_gone (accepting.waits_on events stream came gone refused e is want) = omega (arith, count_both is_closing events (unready (Some stream) e ∷ []), closed_gone is)
  closed_gone (accepting.turns_away events stream came gone refused back e is lost) = omega (arith, count_both is_closing events (unready back e ∷ []), closed_gone is)
  closed_gone (accepting.goes events waits came gone refused seat is may) =
      omega (arith, count_both is_closing events (closed seat ∷ []), closed_gone is, length-append gone (seat ∷ []))

module _ {S E L : Type 0} {before : List (Event S E) → Type 0} {told : L → List (Event S E) → Type 0} {are_ends : S → E → E → Type 0} {connections most : ℕ}
    {came gone : List (Seat (Gathered E) (Outbox E))} {slots : List (Option (Seat (Gathered E) (Outbox E)))} {outcome : Outcome} {listener : L} {o c : ℕ} (began : before [])
    (fits : connections < 2 ^ 64) (x : Accepts before (Counts told listener o c) are_ends connections most came gone slots outcome) where
  -- a listener that counts from the start has opened every connection that came
  pub opened_all : o ≡ outcome.came
  opened_all = omega (arith, (x.tells [] began).openings_are, opened_came x.admits, x.counted, x.within, fits)

  -- and has closed as many, if all are gone
  pub closed_all : outcome.is_whole ≡ true → c ≡ outcome.came
  closed_all whole = omega (arith, (x.tells [] began).closings_are, closed_gone x.admits, (x.left whole).0, x.counted, x.within, fits)
