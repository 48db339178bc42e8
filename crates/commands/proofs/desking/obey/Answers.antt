use Rattle.std.proofs.Common.{refl}
use Rattle.std.proofs.lemmas.Bool.{false≢true}
use Rattle.commands.proofs.Landing.{unasked}
use Rattle.commands.proofs.Lines.{told}
use Rattle.commands.proofs.desking.obey.Goals as goal

pub returns-in_default : goal.returns-in_default
returns-in_default g c = rw c.in_default.is (unasked refl (λ s. (refl, refl, false≢true)))

pub returns-in-Ok : goal.returns-in-Ok
returns-in-Ok g c =
    rw (c.in-Some.is, ← c.as_slice.ensures.value)
    (told g.K.Keeper _ _ _ _ c.desk.ensures.rest.honest c.desk.ensures.rest.group.alone c.desk.ensures.obeys c.desk.ensures.same c.desk.ensures.crash (rw c.in-Ok.is tt))

pub returns : goal.returns
returns g c =
    rw (c.in-Some.is, ← c.as_slice.ensures.value)
    (told g.K.Keeper _ _ _ _ c.desk.ensures.rest.honest c.desk.ensures.rest.group.alone c.desk.ensures.obeys c.desk.ensures.same c.desk.ensures.crash (rw c.in-Err.is false≢true))
