use Rattle.std.proofs.Common.{◌≡◌, ℕ, List, Option, None, Some, Result, Ok, inl, inr, sym, subst, ◌∙◌, append-nil, arith}
use Rattle.std.specs.Io.KnownBytes.{Keeps, WriteAppends}
use Rattle.std.specs.declared.io.ErrorKind.{ErrorKind}
use Rattle.std.specs.declared.io.ErrorKind.TheVariants as kinds
use Rattle.std.proofs.lemmas.Bool.{false≢true}
use Rattle.wire.specs.Passing.{MayPass}
use Rattle.wire.proofs.outbox.offer.Goals as goal

zero_lasts : (kind : ErrorKind) → kind ≡ kinds.WriteZero → MayPass kind → ⊥
zero_lasts kind zero (inl e) = absurd cc
zero_lasts kind zero (inr e) = absurd cc

took_none : (old new : Option (List ℕ)) (buf : List ℕ) → WriteAppends {E = ℕ} old new (Ok 0) buf → Keeps old new
took_none None new buf h = tt
took_none (Some x) None buf h = absurd h
took_none (Some x) (Some y) buf h = h ∙ append-nil x

kept_by : {E : Type 0} (old new : Option (List ℕ)) (buf : List ℕ) (result : Result ℕ E) (n : ℕ) → result ≡ Ok n → n ≡ 0 → WriteAppends old new result buf → Keeps old new
kept_by {E} old new buf result n is zero h =
    took_none old new buf (subst (λ (k : ℕ). WriteAppends {E = E} old new (Ok k) buf) zero (subst (λ (r : Result ℕ E). WriteAppends old new r buf) is h))

pub returns-in-Ok-eq0 : goal.returns-in-Ok-eq0
returns-in-Ok-eq0 g c = record {
  some = tt;
  taken = tt;
  none = tt;
  lasting = zero_lasts _ c.from.ensures;
  err = kept_by _ _ c.args.bytes.now c.write.result c.in-Ok-eq0.field-0 c.in-Ok-eq0.is c.in-Ok-eq0.field-0-test c.write.ensures.bytes;
}

pub returns-in-Err : goal.returns-in-Err
returns-in-Err g c = record { some = tt; taken = tt; none = c.in-Err.ensures.bytes; lasting = tt; err = tt }

pub returns-in-Err-2 : goal.returns-in-Err-2
returns-in-Err-2 g c = record {
  some = tt;
  taken = tt;
  none = tt;
  lasting = λ may. false≢true (sym c.if-is_passing.false ∙ c.is_passing.ensures.1 (subst MayPass (sym c.kind.ensures) may));
  err = c.in-Err.ensures.bytes;
}

pub returns-in-Ok-clause-some : goal.returns-in-Ok-clause-some
returns-in-Ok-clause-some g c = grind arith

pub returns-in-Ok-clause-taken : goal.returns-in-Ok-clause-taken
returns-in-Ok-clause-taken g c = grind arith
