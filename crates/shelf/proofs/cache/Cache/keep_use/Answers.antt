use Rattle.std.proofs.Common.{Bool, subst}
use Rattle.std.specs.Prelude.{◌↔◌, Result, IfOk, IsTrue}
use Rattle.boxes.specs.Limits.{MayUse}
use Rattle.boxes.specs.declared.keep.KeepFault.{KeepFault}
use Rattle.shelf.proofs.Followed.{with_keys}
use Rattle.shelf.proofs.cache.Cache.keep_use.Goals as goal

pub returns-then-may : goal.returns-then-may
returns-then-may c s h answered =
    let is = subst (λ (r : Result Bool KeepFault). IfOk r (λ may. IsTrue may ↔ MayUse s c.args.id.now c.args.in_box.now)) c.in-Ok.is answered in
    with_keys c.args.self.now s c.put_use.new.keys h (c.put_use.ensures s h.keys (is.0 c.if-may.true))
