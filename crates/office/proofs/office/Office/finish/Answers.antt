use Rattle.office.proofs.Unstaged.{staged_later, ends_later}
use Rattle.office.proofs.Holding.{given_up_too}
use Rattle.std.proofs.Common.{inl, inr, ◌∙◌}
use Rattle.office.proofs.KeeperCalls.{quiet_passed, quiet_via}
use Rattle.office.proofs.Replied.{replies_refused, replies_then}
use Rattle.office.proofs.office.Office.finish.Goals as goal

pub returns-in-Ok-clause-replies : goal.returns-in-Ok-clause-replies
returns-in-Ok-clause-replies g c =
    replies_then (quiet_passed c.in-Ok.ensures.looks.quiet)
    (λ s r kept right.
    let (f, staged) = right in
    (f, c.in-Ok.ensures.admits s r f.parts f.key kept f.link f.signed, λ putting. staged_later c.in-Ok.ensures.looks.staged (staged putting)))
    c.run_errand.ensures.replies

pub returns-in-Ok-clause-unstaged : goal.returns-in-Ok-clause-unstaged
returns-in-Ok-clause-unstaged g c (inl putting) = ends_later g.K.Keeper _ _ _ c.in-Ok.ensures.looks.quiet.rest.never_less (c.run_errand.ensures.unstaged (inl putting))
returns-in-Ok-clause-unstaged g c (inr none) = ends_later g.K.Keeper _ _ _ c.in-Ok.ensures.looks.quiet.rest.never_less (c.run_errand.ensures.unstaged (inr (c.in-Ok.ensures.looks.staged _ none)))

pub returns-in-Err-clause-replies : goal.returns-in-Err-clause-replies
returns-in-Err-clause-replies g c =
    replies_refused c.in-Err.refusal c.refuse.result
    (quiet_via c.in-Err.ensures.looks.quiet c.refuse.ensures.quiet (λ not given. not (c.refuse.ensures.gives not ∙ given_up_too c.in-Err.refusal given)) (λ not given. not given)) c.refuse.ensures.gives
    (λ s r kept right other.
    let (f, staged) = right in
    c.in-Err.ensures.admits s r f.parts f.key (record { means = kept.means; is_honest = c.refuse.ensures.quiet.rest.honest kept.is_honest; sound = kept.sound }) f.link f.signed other)

pub returns-in-Err-clause-unstaged : goal.returns-in-Err-clause-unstaged
returns-in-Err-clause-unstaged g c (inl putting) = ends_later g.K.Keeper _ _ _ c.in-Err.ensures.looks.quiet.rest.never_less (c.refuse.ensures.unstaged (inl (c.is_putting-upload.ensures.1 putting)))
returns-in-Err-clause-unstaged g c (inr none) = ends_later g.K.Keeper _ _ _ c.in-Err.ensures.looks.quiet.rest.never_less (c.refuse.ensures.unstaged (inr (c.in-Err.ensures.looks.staged _ none)))
