use Rattle.std.proofs.Common.{refl}
use Rattle.commands.proofs.Landing.{looked, looks, unasked}
use Rattle.commands.proofs.Outputs.{compared}
use Rattle.commands.proofs.listing.CompareWorkOfficeWork.run.Goals as goal

pub returns-in-Err : goal.returns-in-Err
returns-in-Err g c = unasked refl (λ s. record { looks = looks s; wrote = λ done. absurd (c.failed.ensures done) })

pub returns : goal.returns
returns g c = looked _ c.compare-compared.ensures.stays (λ s kept. record {
  looks = looks s;
  wrote = λ done.
      let (ok, given) = c.told.ensures done in
      let (out, back, ends) = given in (
        out,
        back,
        compared _ s (kept.means, kept.sound, kept.is_honest) _ (g.W.Write.contents c.args.self.out) _ _ (g.W.Write.contents out) c.compare-compared.result.end ok c.in-Ok.ensures ends
            c.compare-compared.ensures.answers,
      );
})
