-- Connections that were served in turns, without the messages that were answered with refusal 40.
use Rattle.std.specs.Prelude.{◌≡◌, ◌⊎◌, ℕ, suc, true, false, List, [], ◌∷◌, ◌++◌, Some, ⊤}
use Rattle.boxes.specs.State.{State}
use Rattle.office.specs.Interleaved.{Interleaved, Thread, Turn, acts_in, own_moments}
use Rattle.office.specs.WithoutTryAgain.{GivesUp, IsGivenUpBy}
use Rattle.wire.specs.declared.session.SessionEnd.{SessionEnd}
use Rattle.wire.specs.declared.session.SessionEnd.TheVariants.{Ended}

-- The connection c gave up. d is c with its stream cut before the message at which c gave up: everything
-- before that is answered as it was, and refusal 40 is not written. moments and told: the moments of c and of
-- d.
pub record IsThreadCut (c d : Thread) (moments told : List ℕ) : Type 0 where
  pub rest : List ℕ
  pub others : List ℕ
  pub last : List ℕ
  pub e : SessionEnd
  pub marked : c.gave_up ≡ true
  pub stream : c.stream ≡ d.stream ++ rest
  pub gives_up : GivesUp d.stream rest others
  pub taken : moments ≡ told ++ others
  pub answers : c.answers ≡ d.answers ++ last
  pub end : c.end ≡ Some e
  pub refused : IsGivenUpBy last e
  pub ended : d.end ≡ Some Ended
  pub unmarked : d.gave_up ≡ false

-- each connection, from number i on, is unchanged with the same moments if it did not give up, and otherwise
-- is cut
abbrev pub AreCut : List Turn → List Turn → ℕ → List Thread → List Thread → Type 0
AreCut turns others i [] [] = ⊤
AreCut turns others i (c ∷ cs) (d ∷ ds) =
    (((c.gave_up ≡ false) × (d ≡ c) × (own_moments i others ≡ own_moments i turns)) ⊎ IsThreadCut c d (own_moments i turns) (own_moments i others))
    × AreCut turns others (suc i) cs ds
AreCut turns others i cs ds = ⊥

-- Without the messages answered with refusal 40 the connections were also served in turns, from the same
-- state to the same state, with the same acts for the other messages in the same order.
pub record InterleavedWithout (s : State) (threads : List Thread) (moments : List ℕ) (after : State) (run : Interleaved s threads moments after) : Type 0 where
  pub others : List Thread
  pub told : List ℕ
  pub without : Interleaved s others told after
  pub same : acts_in without.turns ≡ acts_in run.turns
  pub each : AreCut run.turns without.turns 0 threads others
