use Rattle.std.proofs.Common.{refl}
use Rattle.office.specs.Announcing.{request_with}
use Rattle.office.proofs.Foreseen.{readable_of}
use Rattle.links.proofs.Texts.{clash}
use Rattle.office.proofs.KeeperCalls.{looks_less, looks_passed, looks_refused, looks_then}
use Rattle.office.proofs.office.Office.foresee_link.Goals as goal

pub returns-in-Err-clause-foresees : goal.returns-in-Err-clause-foresees
returns-in-Err-clause-foresees g c s body p kept long is = c.in-Err.ensures.identifies s (request_with c.args.message.now body) p kept is

pub returns-in-Err-clause-readable : goal.returns-in-Err-clause-readable
returns-in-Err-clause-readable g c body p is again = readable_of (request_with c.args.message.now body) p is.well_formed

pub returns-then-is_given_up-clause-foresees : goal.returns-then-is_given_up-clause-foresees
returns-then-is_given_up-clause-foresees g c s body p kept long is other now = absurd (other refl)

pub returns-then-is_given_up-clause-readable : goal.returns-then-is_given_up-clause-readable
returns-then-is_given_up-clause-readable g c body p is again = readable_of (request_with c.args.message.now body) p is.well_formed

pub returns-clause-foresees : goal.returns-clause-foresees
returns-clause-foresees g c s body p kept long is =
    let r = request_with c.args.message.now body in
    let x = c.in-Ok.ensures.identifies s r p (record { means = kept.means; is_honest = c.foresee_errand-errand.ensures.looks.quiet.rest.honest kept.is_honest; sound = kept.sound }) is in
    record {
      parts = p;
      link = is;
      key = x.0;
      signed = x.1;
      comes = c.foresee_errand-errand.ensures.comes s body p x.0 (record { means = c.in-Ok.ensures.looks.quiet.same s kept.means; is_honest = kept.is_honest; sound = kept.sound }) long is x.1 x.2;
    }

pub returns-clause-readable : goal.returns-clause-readable
returns-clause-readable g c body p is = (p, is)

pub returns-in-Err-clause-looks : goal.returns-in-Err-clause-looks
returns-in-Err-clause-looks g c = looks_refused c.in-Err.ensures.looks

pub returns-then-is_given_up-clause-looks : goal.returns-then-is_given_up-clause-looks
returns-then-is_given_up-clause-looks g c = looks_then (looks_passed c.in-Ok.ensures.looks) (looks_less (λ _. refl) c.foresee_errand-errand.ensures.looks)

pub returns-clause-looks : goal.returns-clause-looks
returns-clause-looks g c = looks_then (looks_passed c.in-Ok.ensures.looks) (looks_less (λ given. absurd (clash c.is_given_up.result c.if-is_given_up.false (c.is_given_up.ensures.1 given))) c.foresee_errand-errand.ensures.looks)
