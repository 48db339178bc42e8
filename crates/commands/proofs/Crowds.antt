-- A service of many connections.
use Rattle.std.proofs.Common.{◌≡◌, ℕ, List, Option, Result, Ok, Err, IfOk, IfErr, inl, inr, refl, subst, sym}
use Rattle.boxes.specs.State.{State}
use Rattle.boxes.specs.declared.keep.Keeper.{Ghosts}
use Rattle.wire.specs.declared.seat.Seat.{Seat}
use Rattle.wire.specs.declared.gathered.Gathered.{Gathered}
use Rattle.wire.specs.declared.outbox.Outbox.{Outbox}
use Rattle.std.specs.Prelude.{IsOkAnd}
use Rattle.std.specs.declared.net.socket_addr.SocketAddrV4.{SocketAddrV4}
use Rattle.std.specs.declared.io.Error.{Error}
use Rattle.commands.specs.Rounds.{ServesMany, at_least_one}
use Rattle.sockets.specs.Listening.{Event}
use Rattle.sockets.specs.declared.preparing.Limits.{Limits}
use Rattle.commands.specs.declared.rounds.Outcome.{Outcome}
use Rattle.commands.specs.declared.rounds.Served.{Served}
use Rattle.commands.specs.Asking.{Asked, turns}
use Rattle.commands.specs.Serving.{IsFine, MayServe, ServesFrom}
use Rattle.commands.specs.Working.{Passes}
use Rattle.commands.specs.declared.serving.Ending.{Ending}
use Rattle.commands.specs.declared.serving.Ending.TheVariants as ending_of
use Rattle.commands.proofs.Landing.{looks, more, surviving, surviving_whole, through, unasked}

pub many_pass : {C K S E : Type 0} {gives : C → ℕ → C → Type 0} {told told' : List (Event S E) → Type 0} {are_ends : S → E → E → Type 0}
    {remaining : Gathered E → Option (List ℕ)} {contents : Outbox E → Option (List ℕ)} {clock clock' : C} {k : Ghosts K} {old new : K}
    {connections most : ℕ} {slots : List (Option (Seat (Gathered E) (Outbox E)))} {outcome : Outcome}
    → (k.is_honest new → k.is_honest old) → (k.is_alone old → k.is_alone new) → ServesMany gives told told' are_ends remaining contents clock clock' k old new connections most slots outcome
    → Passes k old new (ServesFrom gives told told' are_ends remaining contents clock clock' connections most slots outcome)
many_pass honest ungrouped many = record {
  honest = honest;
  ungrouped = ungrouped;
  lands = λ s kept alone.
      let (after, left, crowd) = many.serves s kept in
      record {
        after = after;
        asked = turns crowd.threads crowd.run.turns;
        left = left;
        step = record {
          came = many.came;
          gone = many.gone;
          given = many.given;
          accepts = many.accepts;
          left = many.left;
          gave = many.gave;
          took = record {
            seats = crowd.seats;
            all = crowd.all;
            taken = crowd.taken;
            threads = crowd.threads;
            moments = crowd.moments;
            told = crowd.told;
            served = crowd.served;
            run = crowd.run;
            whose = crowd.whose;
            each_counted = crowd.each_counted;
            one_moment = crowd.one_moment;
            by_turns = crowd.by_turns;
            read_on = crowd.read_on;
            begun = crowd.begun;
            repeats = crowd.repeats;
            faulty = crowd.faulty;
          };
          were_asked = refl;
        };
        crash = λ t at. record { left = surviving alone crowd.survives t at; lasts = λ none. through alone (crowd.lasts none) t at };
        whole = surviving_whole alone crowd.survives;
      };
}

module _ {N C K L S E : Type 0} {listens : SocketAddrV4 → L → Type 0} {begins : C → Type 0} {gives : C → ℕ → C → Type 0} {told : L → List (Event S E) → Type 0} {are_ends : S → E → E → Type 0}
    {remaining : Gathered E → Option (List ℕ)} {contents : Outbox E → Option (List ℕ)} {k : Ghosts K} {old new : K} (address : SocketAddrV4) (limits : Limits) (Done : Type 0) (outside : N)
    (last : Served L E) (first : L) (begun end : C) (listened : listens address first) (began : begins begun) (honest : k.is_honest new → k.is_honest old) (ungrouped : k.is_alone old → k.is_alone new) where
  session_by : (r : Result Outcome Error) → last.outcome ≡ r
      → IfOk r (ServesMany gives (told first) (told last.listener) are_ends remaining contents begun end k old new limits.connections (at_least_one limits.«open») last.slots.items)
      → ((e : Error) → r ≡ Err e → (last.listener ≡ first) × (new ≡ old) × (end ≡ begun)) → (Done → IsOkAnd r IsFine)
      → Passes k old new (MayServe listens begins gives told are_ends remaining contents address limits Done outside (ending_of.Served last end))
  session_by (Ok outcome) same many nothing fine = more
      (λ s after asked it. inl (record {
        first = first;
        listened = listened;
        begun = begun;
        began = began;
        last = last;
        end = end;
        is_last = refl;
        outcome = outcome;
        is_outcome = same;
        serves = it;
        fine = fine;
      }))
      (many_pass honest ungrouped many)
  session_by (Err e) same many nothing fine =
      let (back, kept, still) = nothing e refl in
      unasked kept (λ s. inr (looks s, fine, (subst (listens address) (sym back) listened, subst begins (sym still) began, (e, same))))

  -- what serving a crowd comes to
  pub session : IfOk last.outcome (ServesMany gives (told first) (told last.listener) are_ends remaining contents begun end k old new limits.connections (at_least_one limits.«open») last.slots.items)
      → ((e : Error) → last.outcome ≡ Err e → (last.listener ≡ first) × (new ≡ old) × (end ≡ begun)) → (Done → IsOkAnd last.outcome IsFine)
      → Passes k old new (MayServe listens begins gives told are_ends remaining contents address limits Done outside (ending_of.Served last end))
  session many nothing fine = session_by last.outcome refl many nothing fine

module _ {N C L S E : Type 0} (listens : SocketAddrV4 → L → Type 0) (begins : C → Type 0) (gives : C → ℕ → C → Type 0) (told : L → List (Event S E) → Type 0) (are_ends : S → E → E → Type 0)
    (remaining : Gathered E → Option (List ℕ)) (contents : Outbox E → Option (List ℕ)) (address : SocketAddrV4) (limits : Limits) (Done Next : Type 0) (outside : N) (ending : Ending N L E C) (so : Next → Done) where
  -- if less is called a success
  pub less : (s after : State) (asked : Asked) → MayServe listens begins gives told are_ends remaining contents address limits Done outside ending s after asked
      → MayServe listens begins gives told are_ends remaining contents address limits Next outside ending s after asked
  less s after asked (inl it) = inl (record {
    first = it.first;
    listened = it.listened;
    begun = it.begun;
    began = it.began;
    last = it.last;
    end = it.end;
    is_last = it.is_last;
    outcome = it.outcome;
    is_outcome = it.is_outcome;
    serves = it.serves;
    fine = λ next. it.fine (so next);
  })
  less s after asked (inr (same, fails, idle)) = inr (same, (λ next. fails (so next)), idle)

-- the fact of an error
pub of_err : {T F : Type 0} (P : F → Type 0) (r : Result T F) (e : F) → r ≡ Err e → IfErr r P → P e
of_err {T = T} {F = F} P r e same holds = subst (λ (x : Result T F). IfErr x P) same holds
