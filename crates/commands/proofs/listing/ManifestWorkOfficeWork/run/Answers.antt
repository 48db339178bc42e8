use Rattle.std.proofs.Common.{refl}
use Rattle.commands.proofs.Landing.{looked, looks, unasked}
use Rattle.commands.specs.Listing.{IsManifest}
use Rattle.commands.proofs.Outputs.{handed_on, written_manifest}
use Rattle.commands.proofs.listing.ManifestWorkOfficeWork.run.Goals as goal

pub returns-in-Err : goal.returns-in-Err
returns-in-Err g c = unasked refl (λ s. record { looks = looks s; wrote = λ done. absurd (c.failed.ensures done) })

pub returns : goal.returns
returns g c = looked _ c.manifest-written.ensures.stays (λ s kept. record {
  looks = looks s;
  wrote = λ done.
      let (ok, given) = c.told.ensures done in
      let (out, back, ends) = given in
      let (text, is, appends) = handed_on (g.W.Write.contents c.args.self.out) _ _ (g.W.Write.contents out) (IsManifest s) c.in-Ok.ensures ends
      (written_manifest s _ _ c.manifest-written.result ok (c.manifest-written.ensures.writes s kept.means kept.sound kept.is_honest)) in
      (out, back, text, is, appends);
})
