use Rattle.std.proofs.Common.{sym, subst, pos}
use Rattle.boxes.specs.FirstState.{first_state}
use Rattle.shelf.specs.Shelves.{Holds}
use Rattle.office.proofs.Turns.{turns_only}
use Rattle.office.proofs.SoundOffice.{of_office, sound_office}
use Rattle.office.proofs.replaying.replay_in_memory.Goals as goal

pub returns-clause-turns : goal.returns-clause-turns
returns-clause-turns g c =
    let s = first_state (pos 0) 0 c.args.id.now c.args.secret.now in
    let h = c.replay_over.ensures.turns s (record {
      means = subst (λ k. Holds k s) (sym c.new-office.ensures)
          (of_office (λ t. Holds c.in-Ok.keeper t) c.new_office-first.result.east c.new_office-first.result.allowance c.args.id.now c.args.secret.now c.new_office-first.ensures.east c.new_office-first.ensures.allowance c.in-Ok.ensures.means);
      is_honest = tt;
      sound = sound_office c.args.id.now c.args.secret.now c.requires.id c.requires.secret;
    }) in
    (h.0, turns_only _ _ _ _ _ s h.0 c.args.moment c.args.streams.now _ h.2)
