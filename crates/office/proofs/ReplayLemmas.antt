-- A replay is a session at one moment.
use Rattle.std.proofs.Common.{◌≡◌, ◌≢◌, ℕ, List, [], ◌++◌, Bool, true, false, length, replicate, Option, Some, None, refl, sym, ap, subst, ◌∙◌}
use Rattle.std.specs.Io.KnownBytes.{Appends, Consumes}
use Rattle.std.proofs.lemmas.List.{append-nil}
use Rattle.boxes.specs.State.{State}
use Rattle.boxes.specs.declared.keep.Keeper.{Ghosts}
use Rattle.wire.specs.declared.session.SessionEnd.{SessionEnd}
use Rattle.wire.specs.declared.session.SessionEnd.TheVariants.{Ended, Truncated, Refused, Limit, ReadFault, WriteFault}
use Rattle.office.specs.Connections.{IsStream, TellsMoments, Serves}
use Rattle.office.specs.Replays.{Replays, IsReplay}
use Rattle.office.specs.Sessions.{Session, most_messages}

pub replayed : {C K : Type 0} (gives : C → ℕ → C → Type 0) (input input' output output' : Option (List ℕ)) (clock clock' : C) (k : Ghosts K) (keeper keeper' : K) (s after : State) (moment : ℕ) (e : SessionEnd)
    → ((moments : List ℕ) (later : C) → TellsMoments gives clock moments later → moments ≡ replicate (length moments) moment)
    → Serves most_messages gives input input' output output' clock clock' k keeper keeper' s after e → Replays input input' output output' s moment e
replayed gives input input' output output' clock clock' k keeper keeper' s after moment e tells served = record {
  stream = served.stream;
  messages = length served.moments;
  answers = served.answers;
  gave_up = served.gave_up;
  after = after;
  read = served.read;
  written = served.written;
  session = subst (λ (ms : List ℕ). Session most_messages served.stream s ms served.answers e served.gave_up after) (tells served.moments clock' served.told) served.session;
}

-- what was read of known bytes
record Front (bytes front : List ℕ) (gave_up : Bool) (e : SessionEnd) : Type 0 where
  pub rest : List ℕ
  pub joined : bytes ≡ front ++ rest
  pub whole : gave_up ≡ false → (e ≢ ReadFault) → rest ≡ []

all : (bytes front : List ℕ) (gave_up : Bool) (e : SessionEnd) → front ≡ bytes → Front bytes front gave_up e
all bytes front gave_up e same = record { rest = []; joined = sym same ∙ sym (append-nil front); whole = λ _ _. refl }

consumed : (bytes front : List ℕ) (e : SessionEnd) (gave_up : Bool) (new : Option (List ℕ)) → (gave_up ≡ false → (e ≢ ReadFault) → ⊥) → Consumes (Some bytes) new front → Front bytes front gave_up e
consumed bytes front e gave_up None never c = absurd c
consumed bytes front e gave_up (Some ys) never c = record { rest = ys; joined = c; whole = λ a b. absurd (never a b) }

front_of : (bytes front : List ℕ) (gave_up : Bool) (e : SessionEnd) (new : Option (List ℕ)) → IsStream gave_up e (Some bytes) new front → Front bytes front gave_up e
front_of bytes front true e new c = consumed bytes front e true new (λ a b. cc) c
front_of bytes front false ReadFault new c = consumed bytes front ReadFault false new (λ a b. b refl) c
front_of bytes front false Ended new c = all bytes front false Ended c.0
front_of bytes front false Truncated new c = all bytes front false Truncated c.0
front_of bytes front false (Refused number) new c = all bytes front false (Refused number) c
front_of bytes front false Limit new c = all bytes front false Limit c
front_of bytes front false WriteFault new c = all bytes front false WriteFault c

written_is : (old new answers : List ℕ) → Appends (Some old) (Some new) answers → old ≡ [] → new ≡ answers
written_is old new answers w e = w ∙ ap (λ (t : List ℕ). t ++ answers) e

pub bytes_replayed : (bytes : List ℕ) (input' : Option (List ℕ)) (old new : List ℕ) (s : State) (moment : ℕ) (e : SessionEnd) → old ≡ []
    → Replays (Some bytes) input' (Some old) (Some new) s moment e → IsReplay bytes s moment new e
bytes_replayed bytes input' old new s moment e empty r =
    let f = front_of bytes r.stream r.gave_up e input' r.read in
    record {
      front = r.stream;
      rest = f.rest;
      joined = f.joined;
      messages = r.messages;
      gave_up = r.gave_up;
      whole = f.whole;
      after = r.after;
      session = subst (λ (t : List ℕ). Session most_messages r.stream s (replicate r.messages moment) t e r.gave_up r.after) (sym (written_is old new r.answers r.written empty)) r.session;
    }
