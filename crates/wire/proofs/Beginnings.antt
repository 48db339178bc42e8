-- What `next` tells where a message may begin.
use Rattle.std.proofs.Common.{◌≡◌, ℕ, List, Option, Result, Ok, Err, inl, inr, ap, subst, ◌∙◌}
use Rattle.wire.specs.declared.fault.WireFault.{WireFault}
use Rattle.wire.specs.declared.feed.Place.{Place}
use Rattle.wire.specs.declared.feed.Place.TheVariants as place
use Rattle.wire.specs.Feeding.{StepTold, CountsReads, Finds, GivesStep, place_after, told}
use Rattle.sigtext.specs.declared.field.Field.{Field}
use Rattle.wire.proofs.Faults.{counts_same}
use Rattle.wire.specs.Openings.{ArePartsOf, OpensWith}
use Rattle.wire.specs.Whole.{MayBegin}
use Rattle.wire.specs.declared.feed.Opening.{Opening}
use Rattle.wire.specs.declared.feed.Step.{Step}
use Rattle.wire.specs.declared.feed.Step.TheVariants.{Head}

differ : {t : StepTold} {f : WireFault} → Ok t ≡ Err f → ⊥
differ e = cc

pub fresh : (k : ℕ) → place.Body k ≡ place.Fresh → ⊥
fresh k e = cc

pub between : (k : ℕ) → place.Body k ≡ place.Between → ⊥
between k e = cc

pub over_fresh : place.Over ≡ place.Fresh → ⊥
over_fresh e = cc

pub over_between : place.Over ≡ place.Between → ⊥
over_between e = cc

found_there : (p q : Place) (known reader : Option (List ℕ)) (waits : List ℕ) (t : StepTold) → MayBegin p
    → GivesStep p known (Ok t) q waits reader → (q ≡ place_after (Ok t)) × Finds known (Ok t) waits reader
found_there place.Fresh q known reader waits t m (at, inl f) = (at, f)
found_there place.Fresh q known reader waits t m (at, inr f) = absurd (differ f.0)
found_there place.Between q known reader waits t m s = s
found_there (place.Body k) q known reader waits t (inl e) s = absurd (fresh k e)
found_there (place.Body k) q known reader waits t (inr e) s = absurd (between k e)
found_there place.Over q known reader waits t (inl e) s = absurd (over_fresh e)
found_there place.Over q known reader waits t (inr e) s = absurd (over_between e)

-- the same for what a call told
pub found_by : (p q : Place) (known reader : Option (List ℕ)) (waits : List ℕ) (result : Result (Step Opening) WireFault) (s : Step Opening) (t : StepTold) → result ≡ Ok s
    → told (Ok s) ≡ Ok t → MayBegin p → GivesStep p known (told result) q waits reader → (q ≡ place_after (Ok t)) × Finds known (Ok t) waits reader
found_by p q known reader waits result s t is tells m gives =
    found_there p q known reader waits t m (subst (λ (r : Result StepTold WireFault). GivesStep p known r q waits reader) (ap told is ∙ tells) gives)

pub parts_by : (fields : List Field) (result : Result (Step Opening) WireFault) (h : Opening) → result ≡ Ok (Head h) → OpensWith fields result → ArePartsOf h.text.now h.head fields
parts_by fields result h is o = subst (OpensWith fields) is o

-- no read failed, or one did
pub counts_by : (result : Result (Step Opening) WireFault) (s : Step Opening) (old new : ℕ) → result ≡ Ok s → CountsReads result old new → new ≡ old
counts_by result s old new is counts = subst (λ (r : Result (Step Opening) WireFault). CountsReads r old new) is counts

pub counts_failed : (A B : Type 0) (result : Result A WireFault) (f : WireFault) (old new : ℕ) → result ≡ Err f → CountsReads result old new → CountsReads {T = B} (Err f) old new
counts_failed A B result f old new is counts = counts_same A B f old new (subst (λ (r : Result A WireFault). CountsReads r old new) is counts)
