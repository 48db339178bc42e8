use Rattle.std.proofs.Common.{◌≡◌, take, All}
use Rattle.percent_encoding.specs.Percent.{percent_decode}
use Rattle.sigtext.specs.declared.target.RawParam.{RawParam}
use Rattle.sigtext.proofs.params.Params.get.Given as goal

abbrev pub invariant-loop-raw : goal.invariant-loop-raw
invariant-loop-raw l = All (λ (raw : RawParam). percent_decode raw.name.now ≡ l.name → ⊥) (take l.raw-index l.self.items.items)
