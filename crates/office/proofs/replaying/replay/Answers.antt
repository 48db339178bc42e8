use Rattle.std.proofs.Common.{sym, subst, pos}
use Rattle.boxes.specs.FirstState.{first_state}
use Rattle.shelf.specs.Shelves.{Holds}
use Rattle.office.proofs.ReplayLemmas.{replayed}
use Rattle.office.proofs.SoundOffice.{of_office, sound_office}
use Rattle.office.proofs.replaying.replay.Goals as goal

pub returns-clause-session : goal.returns-clause-session
returns-clause-session g c =
    let s = first_state (pos 0) 0 c.args.id.now c.args.secret.now in
    let h = c.session.ensures.serves s (record {
      means = subst (λ k. Holds k s) (sym c.new-office.ensures)
          (of_office (λ t. Holds c.in-Ok.keeper t) c.new_office.result.east c.new_office.result.allowance c.args.id.now c.args.secret.now c.new_office.ensures.east c.new_office.ensures.allowance c.in-Ok.ensures.means);
      is_honest = tt;
      sound = sound_office c.args.id.now c.args.secret.now c.requires.id c.requires.secret;
    }) in
    replayed _ _ _ _ _ _ _ _ _ _ s h.0 c.args.moment c.session.result c.new-2.ensures h.2
