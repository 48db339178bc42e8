-- What a call leaves that only counts a memory error.
use Rattle.std.proofs.Common.{◌≡◌, ◌∙◌, ℕ, inr, refl, sym, Ok, Err}
use Rattle.std.specs.Prelude.{◌≢◌, Result, Vec, IfErr, OnOk, IsErrOf}
use Rattle.std.specs.declared.alloc.Global.{Global}
use Rattle.sigtext.specs.Counts.{CountsErrors}
use Rattle.boxes.specs.State.{State}
use Rattle.boxes.specs.declared.keep.KeepFault.{KeepFault}
use Rattle.boxes.specs.declared.keep.KeepFault.TheVariants.{Memory, Full, Store}
use Rattle.shelf.specs.declared.shelf.Shelf.{Shelf}
use Rattle.boxes.specs.Keeping.{Stays}
use Rattle.shelf.specs.Shelves.{Holds}
use Rattle.shelf.specs.OneState.{one_state}

memory_full : Memory ≡ Full → ⊥
memory_full e = cc

memory_store : Memory ≡ Store → ⊥
memory_store e = cc

not_full : {T : Type 0} (result : Result T KeepFault) → IfErr result (λ f. f ≡ Memory) → IfErr result (λ f. f ≢ Full)
not_full (Ok x) e = tt
not_full (Err f) e = λ is. memory_full (sym e ∙ is)

not_store : {T : Type 0} (result : Result T KeepFault) → IfErr result (λ f. f ≡ Memory) → IsErrOf result Store → ⊥
not_store (Ok x) e is = ok_err x is
  where
    ok_err : {T : Type 0} (x : T) → ◌≡◌ {A = Result T KeepFault} (Ok x) (Err Store) → ⊥
    ok_err x e = cc
not_store (Err f) e is = let it : f ≡ Store = cc in memory_store (sym e ∙ it)

still_open : {T : Type 0} (result : Result T KeepFault) → OnOk result (Unit {0})
still_open (Ok x) = tt
still_open (Err f) = tt

pub stays : {T : Type 0} (old new : Shelf) (result : Result T KeepFault) → ((s : State) → Holds old s → Holds new s) → CountsErrors old.faults new.faults result
    → IfErr result (λ f. f ≡ Memory) → Stays Holds (λ _. Unit {0}) (λ _. Unit {0}) (λ k. k.faults) Holds (λ _. Unit {0}) ⊥ (λ _. Unit {0}) (λ _ _. Unit {0}) old new result
stays old new result same count fault = record {
  same = same;
  honest = λ h. tt;
  opened = λ h was. still_open result;
  count = count;
  room = not_full result fault;
  store = not_store result fault;
  crash = λ s t h honest l. inr (one_state new t s l (same s h));
  whole = λ s h honest w. tt;
  group = record { alone = λ h. tt; same = λ first h. tt };
}

-- nothing was changed
pub untouched : {T : Type 0} (k : Shelf) (x : T) → Stays Holds (λ _. Unit {0}) (λ _. Unit {0}) (λ k. k.faults) Holds (λ _. Unit {0}) ⊥ (λ _. Unit {0}) (λ _ _. Unit {0}) k k (Ok x)
untouched k x = stays k k (Ok x) (λ s held. held) (record { err = tt; ok = refl }) tt

-- other bytes are staged
abbrev pub with_staged : Shelf → Vec ℕ Global → Shelf
with_staged k bytes = record {
  office = k.office;
  keys = k.keys;
  boxes = k.boxes;
  files = k.files;
  limits = k.limits;
  receipts = k.receipts;
  staged = bytes;
  clerks = k.clerks;
  faults = k.faults;
  alloc = k.alloc;
}

pub still_holds : (k : Shelf) (bytes : Vec ℕ Global) (s : State) → Holds k s → Holds (with_staged k bytes) s
still_holds k bytes s held = record {
  offset = held.offset;
  allowance = held.allowance;
  keys = held.keys;
  boxes = held.boxes;
  files = held.files;
  receipts = held.receipts;
  totals = held.totals;
  clerks = held.clerks;
  fewer = held.fewer;
  limits = held.limits;
}

pub restaged : {T : Type 0} (k : Shelf) (bytes : Vec ℕ Global) (x : T)
    → Stays Holds (λ _. Unit {0}) (λ _. Unit {0}) (λ k. k.faults) Holds (λ _. Unit {0}) ⊥ (λ _. Unit {0}) (λ _ _. Unit {0}) k (with_staged k bytes) (Ok x)
restaged k bytes x = stays k (with_staged k bytes) (Ok x) (still_holds k bytes) (record { err = tt; ok = refl }) tt
