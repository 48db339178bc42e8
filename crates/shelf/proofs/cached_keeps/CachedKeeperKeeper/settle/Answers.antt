use Rattle.std.proofs.Common.{Result, subst}
use Rattle.std.specs.Prelude.{OnErr}
use Rattle.boxes.specs.State.{State}
use Rattle.boxes.specs.declared.keep.KeepFault.{KeepFault}
use Rattle.shelf.specs.Recalled.{Recalls}
use Rattle.shelf.proofs.Passed.{settled_on}
use Rattle.shelf.proofs.cached_keeps.CachedKeeperKeeper.settle.Goals as goal

pub returns-clause-settles : goal.returns-clause-settles
returns-clause-settles g c =
    settled_on g.K.Keeper c.args.self.now (record { keeper = c.settle.new.self; cache = c.or_forget.new.cache }) c.settle.result c.or_forget.result c.settle.ensures.settles c.or_forget.ensures.same c.or_forget.ensures.stays
    (subst (λ (r : Result (Unit {0}) KeepFault). OnErr r ((s : State) → Recalls c.or_forget.new.cache s)) c.or_forget.ensures.same c.or_forget.ensures.forgot)
