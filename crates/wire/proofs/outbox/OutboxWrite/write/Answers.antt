use Rattle.std.proofs.Common.{◌≤◌, ℕ, refl, sym, ap, subst, inl, arith}
use Rattle.std.specs.Option.{is_some}
use Rattle.std.specs.Prelude.{IsSome}
use Rattle.std.proofs.KnownBytes.{Keeps-refl, append_known-kept}
use Rattle.std.proofs.lemmas.Grind.{common_steps}
use Rattle.wire.specs.Outgoing.{waits_out}
use Rattle.wire.proofs.ReadAhead.{none_failed}
use Rattle.wire.proofs.outbox.OutboxWrite.write.Goals as goal

at_most_all : (n : ℕ) → n ≤ n
at_most_all n = omega arith

pub returns-in-Some : goal.returns-in-Some
returns-in-Some g c = record {
  bound = tt;
  bytes = Keeps-refl _;
  some = tt;
  failed = λ failed. (refl, failed);
  kept = inl (subst IsSome (sym c.in-Some.is) refl);
  lasting = c.args.self.now.lasting c.in-Some.error c.in-Some.is;
  refused = refl;
}

pub returns-in-Err : goal.returns-in-Err
returns-in-Err g c = record {
  bound = tt;
  bytes = append_known-kept (g.S.Write.contents c.args.self.now.inner) (g.S.Write.contents c.offer.new.writer) (waits_out c.args.self.now) c.in-Err.ensures.err;
  some = tt;
  failed = λ _. (refl, refl);
  kept = inl refl;
  lasting = c.in-Err.ensures.lasting;
  refused = refl;
}

pub returns-clause-bound : goal.returns-clause-bound
returns-clause-bound g c = at_most_all _

pub returns-clause-some : goal.returns-clause-some
returns-clause-some g c = λ some. some

pub returns-clause-failed : goal.returns-clause-failed
returns-clause-failed g c = λ some. absurd (none_failed c.args.self.now.fault (ap is_some c.in_default.is) some)

pub returns-clause-kept : goal.returns-clause-kept
returns-clause-kept g c = tt

pub returns-clause-lasting : goal.returns-clause-lasting
returns-clause-lasting g c = tt

pub returns-clause-refused : goal.returns-clause-refused
returns-clause-refused g c = tt

pub returns-in-Ok-Some-clause-failed : goal.returns-in-Ok-Some-clause-failed
returns-in-Ok-Some-clause-failed g c = λ some. absurd (none_failed c.args.self.now.fault (ap is_some c.in_default.is) some)

pub returns-in-Ok-Some-clause-kept : goal.returns-in-Ok-Some-clause-kept
returns-in-Ok-Some-clause-kept g c = tt

pub returns-in-Ok-Some-clause-lasting : goal.returns-in-Ok-Some-clause-lasting
returns-in-Ok-Some-clause-lasting g c = tt

pub returns-in-Ok-Some-clause-refused : goal.returns-in-Ok-Some-clause-refused
returns-in-Ok-Some-clause-refused g c = tt

pub returns-in_err-keep-clause-failed : goal.returns-in_err-keep-clause-failed
returns-in_err-keep-clause-failed g c = λ some. absurd (none_failed c.args.self.now.fault (ap is_some c.in_default.is) some)

pub invariant_of-self : goal.invariant_of-self
invariant_of-self g c = grind arith

pub invariant_of-self-in-Err : goal.invariant_of-self-in-Err
invariant_of-self-in-Err g c = grind arith

pub returns-clause-bytes : goal.returns-clause-bytes
returns-clause-bytes g c = grind (arith, common_steps)

pub returns-in-Ok-Some-clause-bound : goal.returns-in-Ok-Some-clause-bound
returns-in-Ok-Some-clause-bound g c = grind arith

pub returns-in-Ok-Some-clause-bytes : goal.returns-in-Ok-Some-clause-bytes
returns-in-Ok-Some-clause-bytes g c = grind (arith, common_steps)

pub returns-in-Ok-Some-clause-some : goal.returns-in-Ok-Some-clause-some
returns-in-Ok-Some-clause-some g c = grind arith

pub returns-in_err-keep-clause-bytes : goal.returns-in_err-keep-clause-bytes
returns-in_err-keep-clause-bytes g c = grind arith
