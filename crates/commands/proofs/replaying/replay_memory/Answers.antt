use Rattle.std.proofs.Common.{subst, arith}
use Rattle.boxes.specs.FirstState.{first_state}
use Rattle.std.specs.Prelude.{pos}
use Rattle.office.specs.Replays.{InTurn, TakesTurns}
use Rattle.commands.proofs.Turns.{handed}
use Rattle.commands.proofs.replaying.replay_memory.Goals as goal

pub returns-in-Ok-replay_in_memory : goal.returns-in-Ok-replay_in_memory
returns-in-Ok-replay_in_memory g c = rw (← c.new-writer.ensures.inner) (λ done.
    let (out, back, keeps) = c.told.ensures.back in
    let key = c.in-Ok.read.0 in
    let turns = c.in-Ok-replay_in_memory.ensures.turns in
    let first = first_state (pos 0) 0 key.0.now key.1.now in
    let turn = subst
    (TakesTurns (InTurn (g.W.Write.contents c.new-writer.result.inner) (g.W.Write.contents c.replay_in_memory.new.writer.inner) first turns.0 c.in-Ok.read.1) c.as_slice-streams.result.now)
    (c.told.ensures.whole done) turns.1 in
    record {
      id = key.0.now;
      secret = key.1.now;
      names = c.in-Ok.ensures.key;
      moment = c.in-Ok.read.1;
      is_moment = c.in-Ok.ensures.moment;
      out = out;
      back = back;
      after = turns.0;
      turn = rw (← c.as_slice-streams.ensures.value) (handed _ _ (g.W.Write.contents out) turn keeps);
    })

pub replay_in_memory-requires-clause-id : goal.replay_in_memory-requires-clause-id
replay_in_memory-requires-clause-id g c = grind arith

pub replay_in_memory-requires-clause-secret : goal.replay_in_memory-requires-clause-secret
replay_in_memory-requires-clause-secret g c = grind arith

pub returns-in-Err : goal.returns-in-Err
returns-in-Err g c = grind arith

pub returns-in-Err-replay_in_memory : goal.returns-in-Err-replay_in_memory
returns-in-Err-replay_in_memory g c = grind arith
