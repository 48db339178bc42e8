use Rattle.std.proofs.Common.{refl, arith}
use Rattle.std.proofs.lemmas.Bool.{false≢true}
use Rattle.sigtext.proofs.Pieces.{some_bytes, no_bytes, param_of, no_name}
use Rattle.sigtext.proofs.target.is_param.Goals as goal

pub returns-then-is_empty : goal.returns-then-is_empty
returns-then-is_empty c =
    (λ t. absurd (false≢true t), λ s. absurd (no_name c.args.raw s.0 (no_bytes c.args.raw.name.now c.if-is_empty.ensures) s.1))

pub returns-then-is_spelling : goal.returns-then-is_spelling
returns-then-is_spelling c = (
  λ t. param_of c.args.raw (some_bytes c.args.raw.name.now c.if-is_empty.ensures) (c.if-is_spelling.ensures.0 refl) (c.is_spelling-then-is_spelling.ensures.0 t),
  λ s. c.is_spelling-then-is_spelling.ensures.1 (s.0.value, s.1.value_spelled),
)

pub returns-else-is_spelling : goal.returns-else-is_spelling
returns-else-is_spelling c = grind arith
