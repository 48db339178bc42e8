-- What a replay does to an office, and what it writes. Done: it succeeded.
use Rattle.std.specs.Prelude.{◌≡◌, ◌≤◌, ℕ, pos, List, ◌∷◌, ◌++◌, length, codes, Option, Some}
use Rattle.sigv4.specs.Credential.{IsKeyId, IsSecret}
use Rattle.sigv4.specs.Dates.{WritesMoment}
use Rattle.boxes.specs.FirstState.{first_state}
use Rattle.boxes.specs.State.{State}
use Rattle.office.specs.Replays.{InTurn}
use Rattle.tasks.specs.declared.task.Replay.{Replay}
use Rattle.commands.specs.Asking.{Asked, connections}

-- At most n connections were answered in order, every message at the moment, and the output, which is handed back, has their
-- answers. If the replay succeeded, they are n, and none ended by a fault.
pub record ReplaysAll {W : Type 0} (contents : W → Option (List ℕ)) (n moment : ℕ) (Done : Type 0) (old : W) (new : Option W)
    (s after : State) (asked : Asked) : Type 0 where
  pub out : W
  pub back : new ≡ Some out
  pub served : ℕ
  pub faults : ℕ
  pub bound : served ≤ n
  pub turn : InTurn (contents old) (contents out) s after moment served faults
  pub were_asked : asked ≡ connections s turn.connections turn.moments after turn.run
  pub whole : Done → (served ≡ n) × (faults ≡ 0)

-- the text names an office in memory with this clerk's key: `memory:`, the id, `/` and the secret
pub record IsMemory (text id secret : List ℕ) : Type 0 where
  pub is : text ≡ codes "memory:" ++ id ++ 47 ∷ secret
  pub is_id : IsKeyId id
  pub is_secret : IsSecret secret

-- the same over a new office in memory, with offset 0, allowance 0, the clerk's key of the words and no boxes
pub record ReplaysNew {W : Type 0} (contents : W → Option (List ℕ)) (words : Replay) (old : W) (new : Option W) : Type 0 where
  pub id : List ℕ
  pub secret : List ℕ
  pub names : IsMemory words.file.now id secret
  pub moment : ℕ
  pub is_moment : WritesMoment words.at.now moment
  pub out : W
  pub back : new ≡ Some out
  pub after : State
  pub turn : InTurn (contents old) (contents out) (first_state (pos 0) 0 id secret) after moment (length words.streams.items) 0
