use Rattle.std.proofs.Common.{Err, ap, inl, inr, subst, sym, refl}
use Rattle.sigtext.specs.declared.refusal.Refusal.TheVariants as rule
use Rattle.office.specs.Foreseeing.{Foresees, IsReadOf, IsUpload}
use Rattle.office.proofs.Foreseen.{err_is, err_whatever, ok_no_err, readable_of}
use Rattle.office.proofs.KeeperCalls.{quiet_still}
use Rattle.office.proofs.Replied.{replies_for, replies_refused}
use Rattle.office.proofs.office.Office.reply_to.Goals as goal

pub returns-in-Ok-clause-replies : goal.returns-in-Ok-clause-replies
returns-in-Ok-clause-replies g c =
    replies_for (λ s r right. (subst (Foresees s r) c.in-Ok.is right.0, λ putting. right.1 (subst IsUpload (sym c.in-Ok.is) putting))) c.finish.ensures.replies

pub returns-in-Err-clause-replies : goal.returns-in-Err-clause-replies
returns-in-Err-clause-replies g c =
    replies_refused c.in-Err.refusal (Err c.in-Err.refusal) quiet_still (λ _. refl) (λ s r kept right other. subst (Foresees s r) c.in-Err.is right.0 other c.args.now)

pub returns-in-Ok-clause-readable : goal.returns-in-Ok-clause-readable
returns-in-Ok-clause-readable g c =
    err_whatever c.finish.result (λ r is. let x = subst (IsReadOf r) c.in-Ok.is is in readable_of r x.0 x.1.well_formed)

pub returns-in-Ok-clause-unstaged : goal.returns-in-Ok-clause-unstaged
returns-in-Ok-clause-unstaged g c (inl upload) = c.finish.ensures.unstaged (inl (subst IsUpload c.in-Ok.is upload))
returns-in-Ok-clause-unstaged g c (inr none) = c.finish.ensures.unstaged (inr none)

pub returns-in-Err-clause-readable : goal.returns-in-Err-clause-readable
returns-in-Err-clause-readable g c again r is = subst (IsReadOf r) c.in-Err.is is again

pub returns-in-Err-clause-unstaged : goal.returns-in-Err-clause-unstaged
returns-in-Err-clause-unstaged g c (inl upload) = absurd (subst IsUpload c.in-Err.is upload)
returns-in-Err-clause-unstaged g c (inr none) = inl none

pub returns-in-Ok-clause-given_up : goal.returns-in-Ok-clause-given_up
returns-in-Ok-clause-given_up g c given = absurd (ok_no_err c.in-Ok.prospect rule.TryAgain c.args.foreseen c.in-Ok.is given)

pub returns-in-Err-clause-given_up : goal.returns-in-Err-clause-given_up
returns-in-Err-clause-given_up g c given = ap Err (err_is c.in-Err.refusal rule.TryAgain c.args.foreseen c.in-Err.is given)
