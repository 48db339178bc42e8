-- Several questions in a row: what each leaves of the keeper, they leave together.
use Rattle.std.proofs.Common.{◌≡◌, ℕ, List, ⊎_elim, ap, inl, inr, Result, Ok, Err, refl, subst, sym}
use Rattle.std.specs.Prelude.{IsErrAnd, IsErrOf}
use Rattle.sigtext.specs.Counts.{CountsErrors}
use Rattle.boxes.specs.Bound.{StaysBy}
use Rattle.boxes.specs.declared.keep.KeepFault.{KeepFault}
use Rattle.boxes.specs.declared.keep.KeepFault.TheVariants.{Store}
use Rattle.boxes.specs.declared.keep.Keeper.{Ghosts}
use Rattle.office.specs.Foreseeing.{AreStaged}
use Rattle.office.specs.declared.requests.foreseeing.Body.{Body}
use Rattle.office.proofs.Holding.{group_still, group_then}

-- the same fault, of another question
err_too : {T U : Type 0} {f : KeepFault} → IsErrOf {T = T} (Err f) Store → IsErrOf {T = U} (Err f) Store
err_too {f = f} is = ap Err (fault_is f is)
  where
    fault_is : {T : Type 0} (f : KeepFault) → ◌≡◌ {A = Result T KeepFault} (Err f) (Err Store) → f ≡ Store
    fault_is f is = cc

-- what was staged, for another keeper
pub still_staged : {K : Type 0} {k : Ghosts K} {a b : K} {bytes : List ℕ} {body : Body} → k.stages b bytes → AreStaged k a bytes body → AreStaged k b bytes body
still_staged at staged = record { staged = at; octets = staged.octets; short = staged.short; length_is = staged.length_is; digest = staged.digest }

module _ {K : Type 0} (k : Ghosts K) where
  -- nothing was asked
  pub stays_still : {T : Type 0} {a : K} {x : T} → StaysBy k a a (Ok x)
  stays_still = record { same = λ s means. means; honest = λ is. is; opened = λ is was. was; count = record { err = tt; ok = refl }; room = tt; store = λ is. absurd cc; crash = λ s t means is at. inl at; whole = λ s means is was. was; group = group_still }

  -- an answer, whatever is made of it
  pub stays_ok : {T U : Type 0} {a b : K} {x : T} {y : U} → StaysBy k a b (Ok x) → StaysBy k a b (Ok y)
  stays_ok rest = record { same = rest.same; honest = rest.honest; opened = rest.opened; count = record { err = tt; ok = rest.count.ok }; room = tt; store = λ is. absurd cc; crash = rest.crash; whole = rest.whole; group = rest.group }

  -- a fault that is passed on, of another question
  pub stays_passed : {T U : Type 0} {a b : K} {f : KeepFault} (result : Result U KeepFault) → IsErrAnd result (λ e. e ≡ f) → StaysBy {T = T} k a b (Err f) → StaysBy k a b result
  stays_passed (Ok x) is rest = absurd is
  stays_passed {T = T} {U = U} {a = a} {b = b} (Err e) is rest = subst (λ f. StaysBy {T = U} k a b (Err f)) (sym is) (record {
    same = rest.same;
    honest = rest.honest;
    opened = λ is was. tt;
    count = record { err = rest.count.err; ok = tt };
    room = rest.room;
    store = λ is. rest.store (err_too {T = U} {U = T} is);
    crash = rest.crash;
    whole = rest.whole;
    group = rest.group;
  })

  -- a question that was answered, and then another
  pub stays_then : {T U : Type 0} {a b c : K} {x : T} {result : Result U KeepFault} → StaysBy k a b (Ok x) → StaysBy k b c result → StaysBy k a c result
  stays_then {c = c} {result = result} first second = record {
    same = λ s means. second.same s (first.same s means);
    honest = λ is. first.honest (second.honest is);
    opened = λ is was. second.opened is (first.opened (second.honest is) was);
    count = subst (λ (n : ℕ). CountsErrors n (k.faults c) result) first.count.ok second.count;
    room = second.room;
    store = second.store;
    crash = λ s t means is at. ⊎_elim (λ was. first.crash s t means (second.honest is) was) (λ now. inr now) (second.crash s t (first.same s means) is at);
    whole = λ s means is was. second.whole s (first.same s means) is (first.whole s means (second.honest is) was);
    group = group_then first.group second.group;
  }
