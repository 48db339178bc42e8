use Rattle.std.proofs.Common.{[], zero, ◌∙◌, refl, subst, sym, arith}
use Rattle.sockets.specs.Moving.{HasPassed}
use Rattle.sockets.proofs.Gave.{gave_none}
use Rattle.sockets.proofs.Moved.{passed_none}
use Rattle.commands.proofs.Whole.{service}
use Rattle.commands.proofs.rounds.serve_through.Goals as goal

pub returns-clause-serves : goal.returns-clause-serves
returns-clause-serves g c =
    let told = g.L.Listener.told in
    let ends = g.L.Listener.are_ends in
    let had = g.S.Start.told in
    let start = c.new.ensures in
    let first = passed_none told ends had g.S.Start.connections g.S.Start.most c.new.result (λ log is. subst (λ l. told l log) (sym start.listener) (c.requires.told log is))
    start.guest (sym c.requires.connections ∙ sym start.to_come) (start.most ∙ c.requires.most) start.came start.gone start.unsent in
    let begun = subst (λ x. HasPassed had g.S.Start.connections g.S.Start.most told ends x [] []) (sym c.new-sockets.ensures.gate) first in
    let close = c.close-listener in
    service c.into_gate-gate.result close.result.1 close.result.2 c.requires.connections c.requires.most c.into_gate-gate.ensures close.ensures.listener (c.serve_crowd-faulty.auto.slots ∙ c.requires.room) (record {
      to_come = close.ensures.to_come;
      waits = close.ensures.waits;
      came = refl;
      unsent = refl;
      refused = c.refused_of-refused.ensures;
      told = λ whole.
          let (come, gone, free) = c.are_all.ensures.each whole in
          (c.have_come-have_all_come.ensures.told come, c.are_as_many-have_all_gone.ensures.told gone, c.are_free.ensures.told free);
      whole = λ come gone free. c.are_all.ensures.all (c.have_come-have_all_come.ensures.all come) (c.are_as_many-have_all_gone.ensures.all gone) (c.are_free.ensures.all free);
    }) (c.serve_crowd-faulty.ensures.serves c.requires.free [] [] begun (λ p. zero) [] (gave_none c.new-sockets.result.gate.came c.new-sockets.result.turns c.new-sockets.ensures.turns))

pub returns-clause-honest : goal.returns-clause-honest
returns-clause-honest g c = grind arith

pub returns-clause-never_less : goal.returns-clause-never_less
returns-clause-never_less g c = grind arith

pub returns-clause-alone : goal.returns-clause-alone
returns-clause-alone g c = c.serve_crowd-faulty.ensures.alone
