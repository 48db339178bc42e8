-- The parameters with one name, and lists of parameters with distinct names.
use Rattle.std.specs.Prelude.{◌≡◌, ℕ, List, length, filter}
use Rattle.std.specs.List.{AllByRecursion}
use Rattle.sigtext.specs.Bytes.{same_bytes}
use Rattle.sigtext.specs.Target.{Param}

-- the parameters with this name
abbrev pub params_named : List ℕ → List Param → List Param
params_named name params = filter (λ p. same_bytes p.name name) params

-- no name occurs twice
abbrev pub StandOnce : List Param → Type 0
StandOnce params = AllByRecursion (λ p. length (params_named p.name params) ≡ 1) params
