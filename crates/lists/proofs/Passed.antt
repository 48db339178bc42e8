-- A fault that a `?` passes on, and what it says of the keeper and the writer.
use Rattle.std.proofs.Common.{◌≡◌, ◌∙◌, ℕ, Result, Ok, Err, sym, subst}
use Rattle.std.specs.Prelude.{IfErr, ⊤}
use Rattle.std.specs.Result.{IsErrAnd}
use Rattle.boxes.specs.State.{State}
use Rattle.sigtext.specs.Counts.{CountsErrors}
use Rattle.boxes.specs.Keeping.{Stays}
use Rattle.lists.specs.Asking.{stays_joined}
use Rattle.lists.specs.Lists.{by_keeper, by_writer, IsOfAnswering, IsOfManifest}
use Rattle.lists.specs.declared.list_fault.ListFault.{ListFault}
use Rattle.lists.specs.declared.list_fault.ListFault.TheVariants as fault

module _ {T : Type 0} where
  -- an answering fault
  pub passed_answering : (r : Result T ListFault) (e : ListFault) → IsErrAnd r (λ f. f ≡ e) → IsOfAnswering e → IfErr r IsOfAnswering
  passed_answering (Ok x) e same h = tt
  passed_answering (Err y) e same h = subst IsOfAnswering (sym same) h

  -- an answering fault is one of a list
  pub passed_fault : (r : Result T ListFault) (e : ListFault) → IsErrAnd r (λ f. f ≡ e) → IsOfAnswering e → IfErr r IsOfManifest
  passed_fault (Ok x) e same h = tt
  passed_fault (Err y) e same h = of_manifest y (subst IsOfAnswering (sym same) h)
    where
      of_manifest : (f : ListFault) → IsOfAnswering f → IsOfManifest f
      of_manifest (fault.Keep f) h = tt
      of_manifest fault.Memory h = tt
      of_manifest fault.Order h = elim h [ ]
      of_manifest fault.Head h = elim h [ ]
      of_manifest (fault.Row _) h = elim h [ ]
      of_manifest fault.Read h = elim h [ ]
      of_manifest fault.Write h = elim h [ ]

  -- a fault of a list
  pub passed_manifest : (r : Result T ListFault) (e : ListFault) → IsErrAnd r (λ f. f ≡ e) → IsOfManifest e → IfErr r IsOfManifest
  passed_manifest (Ok x) e same h = tt
  passed_manifest (Err y) e same h = subst IsOfManifest (sym same) h

  -- no write failed
  pub passed_count : (r : Result T ListFault) (e : ListFault) (old new : ℕ) → IsErrAnd r (λ f. f ≡ e) → IsOfAnswering e → new ≡ old → CountsErrors {T = ⊤} {E = ⊤} old new (by_writer r)
  passed_count (Ok x) e old new same h n = absurd same
  passed_count (Err y) e old new same h n = counted y (subst IsOfAnswering (sym same) h)
    where
      counted : (f : ListFault) → IsOfAnswering f → CountsErrors {T = ⊤} {E = ⊤} old new (by_writer {T = T} (Err f))
      counted (fault.Keep f) h = record { err = tt; ok = n }
      counted fault.Memory h = record { err = tt; ok = n }
      counted fault.Order h = elim h [ ]
      counted fault.Head h = elim h [ ]
      counted (fault.Row _) h = elim h [ ]
      counted fault.Read h = elim h [ ]
      counted fault.Write h = elim h [ ]

  -- the fault of a write
  pub passed_write : (r : Result T ListFault) (e : ListFault) (old mid new : ℕ) → IsErrAnd r (λ f. f ≡ e) → mid ≡ old → CountsErrors {T = ⊤} {E = ⊤} mid new (by_writer {T = T} (Err e)) → CountsErrors {T = ⊤} {E = ⊤} old new (by_writer r)
  passed_write (Ok x) e old mid new same n h = absurd same
  passed_write (Err y) e old mid new same n h = subst (λ m. CountsErrors {T = ⊤} {E = ⊤} m new (by_writer {T = T} (Err y))) n (subst (λ f. CountsErrors {T = ⊤} {E = ⊤} mid new (by_writer {T = T} (Err f))) (sym same) h)

module _ {K T : Type 0} {means : K → State → Type 0} {is_honest is_open : K → Type 0} {faults : K → ℕ} {leaves : K → State → Type 0} {leaves_whole : K → Type 0}
    {has_store : Type 0} {is_alone : K → Type 0} {gathers : K → K → Type 0} where
  -- the fault of a question
  pub passed_stays : (a b c : K) (r : Result T ListFault) (e : ListFault) → IsErrAnd r (λ f. f ≡ e)
      → Stays {T = ⊤} means is_honest is_open faults leaves leaves_whole has_store is_alone gathers a b (Ok tt) → Stays {T = ⊤} means is_honest is_open faults leaves leaves_whole has_store is_alone gathers b c (by_keeper {T = T} (Err e))
      → Stays {T = ⊤} means is_honest is_open faults leaves leaves_whole has_store is_alone gathers a c (by_keeper r)
  passed_stays a b c (Ok x) e same p q = absurd same
  passed_stays a b c (Err y) e same p q = subst (λ f. Stays {T = ⊤} means is_honest is_open faults leaves leaves_whole has_store is_alone gathers a c (by_keeper {T = T} (Err f))) (sym same) (stays_joined a b c _ p q)

  -- another fault, after a question
  pub passed_other : (a b c : K) (r : Result T ListFault) (e other : ListFault) → IsErrAnd r (λ f. f ≡ e) → e ≡ other → by_keeper {T = T} (Err other) ≡ Ok tt
      → Stays {T = ⊤} means is_honest is_open faults leaves leaves_whole has_store is_alone gathers a b (Ok tt) → Stays {T = ⊤} means is_honest is_open faults leaves leaves_whole has_store is_alone gathers b c (Ok tt)
      → Stays {T = ⊤} means is_honest is_open faults leaves leaves_whole has_store is_alone gathers a c (by_keeper r)
  passed_other a b c (Ok x) e other same is none p q = absurd same
  passed_other a b c (Err y) e other same is none p q = passed_stays a b c (Err y) other (same ∙ is) p (subst (λ s. Stays {T = ⊤} means is_honest is_open faults leaves leaves_whole has_store is_alone gathers b c s) (sym none) q)
