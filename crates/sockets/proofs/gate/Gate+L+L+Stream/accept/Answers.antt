use Rattle.std.proofs.Common.{◌++◌, ◌∙◌, map, refl, subst, sym, arith}
use Rattle.std.proofs.lemmas.Bool.{both_ways}
use Rattle.std.proofs.lemmas.List.{append-nil}
use Rattle.wire.specs.Crowds.{those_of}
use Rattle.sockets.specs.Listening.{accepted}
use Rattle.sockets.proofs.Moved.{accepts_one, misses_one, none_is, passes_none, passes_still, refuses_one}
use Rattle.sockets.proofs.gate.Gate+L+L+Stream.accept.Goals as goal

pub returns-then-is_some : goal.returns-then-is_some
returns-then-is_some g c = record { passes = passes_none _ _ c.args.self.now; told = (refl, refl, λ log is. subst (g.L.Listener.told c.args.self.now.listener) (sym (append-nil log)) is) }

pub returns-in-Ok-Some : goal.returns-in-Ok-Some
returns-in-Ok-Some g c =
    let told = g.L.Listener.told c.accept.new.self in
    let free = none_is c.args.self.now.guest (sym c.is_some.ensures ∙ c.if-is_some.false) in
    record { passes = accepts_one _ _ c.args.self.now _ c.in-Ok-Some.stream free refl (omega (arith, c.if-self-eq0.false)) refl refl refl refl (λ log is. subst (λ o. told (log ++ map accepted (those_of o))) c.in-Ok-Some.field-0-is (c.in-Ok-Some.ensures.came log is)); told = (free, c.in-Ok-Some.stream, refl, omega (arith, c.if-self-eq0.false), λ log is. subst (λ o. told (log ++ map accepted (those_of o))) c.in-Ok-Some.field-0-is (c.in-Ok-Some.ensures.came log is)) }

pub returns-in-Ok-None : goal.returns-in-Ok-None
returns-in-Ok-None g c =
    let told = g.L.Listener.told c.accept.new.self in
    record {
      passes = passes_still _ _ c.args.self.now _ refl refl refl refl refl refl
          (λ log is. subst told (append-nil log) (subst (λ o. told (log ++ map accepted (those_of o))) c.in-Ok-None.field-0-is (c.in-Ok-None.ensures.came log is)));
      told = (refl, refl, λ log is. subst (λ o. told (log ++ map accepted (those_of o))) c.in-Ok-None.field-0-is (c.in-Ok-None.ensures.came log is));
    }

pub returns-in-Err : goal.returns-in-Err
returns-in-Err g c = record { passes = misses_one _ _ c.args.self.now _ c.in-Err.error refl refl refl refl refl refl (c.is_want.ensures.told c.if-is_want.true) c.in-Err.ensures.missed; told = (refl, refl, c.in-Err.error, c.is_want.ensures.told c.if-is_want.true, c.in-Err.ensures.missed) }

pub returns-in-Err-2 : goal.returns-in-Err-2
returns-in-Err-2 g c =
    record { passes = refuses_one _ _ c.args.self.now _ c.in-Err.error refl (omega (arith, c.if-self-eq0.false)) refl refl refl refl (λ want. both_ways c.is_want.result c.if-is_want.false (c.is_want.ensures.all want)) c.in-Err.ensures.missed; told = (refl, omega (arith, c.if-self-eq0.false), c.in-Err.error, λ want. both_ways c.is_want.result c.if-is_want.false (c.is_want.ensures.all want), c.in-Err.ensures.missed) }

pub overflow_sub-self : goal.overflow_sub-self
overflow_sub-self g c = grind arith

pub overflow_sub-self-in-Err-2 : goal.overflow_sub-self-in-Err-2
overflow_sub-self-in-Err-2 g c = grind arith
