-- What was read when no whole message came.
use Rattle.std.proofs.Common.{◌≡◌, ◌<◌, ℕ, Bool, List, [], ◌++◌, length, Option, Result, Err, inl, inr, arith, refl, ap, subst, ◌∙◌}
use Rattle.std.specs.Io.KnownBytes.{Consumes, Keeps, prepend_known}
use Rattle.std.proofs.KnownBytes.{Consumes-kept, prepend_known-nil}
use Rattle.wire.specs.Feeding.{AnnouncesBody, Awaits, AwaitsHead, a_body, Finds, GivesStep, place_after, told, Opens}
use Rattle.wire.specs.Whole.{BreaksOff, MayBegin}
use Rattle.wire.specs.declared.fault.WireFault.{WireFault}
use Rattle.wire.specs.declared.fault.WireFault.TheVariants as fault
use Rattle.wire.specs.declared.feed.Opening.{Opening}
use Rattle.wire.specs.declared.feed.Step.{Step}
use Rattle.wire.specs.declared.feed.Place.{Place}
use Rattle.wire.specs.declared.feed.Place.TheVariants as place
use Rattle.wire.proofs.Backlogs.{consumes_waiting}
use Rattle.wire.proofs.Beginnings.{fresh, between, over_fresh, over_between}

-- ---- in a body

abbrev pub announced : (text given : List ℕ) (has_length : Bool) (n : ℕ) → Opens text has_length n → 0 < n → AnnouncesBody (text ++ given)
announced text given has_length n o some = record { text = text; given = given; has_length = has_length; size = n; whole = refl; opens = o; some = some }

-- a read failed within the body that a head announces
pub awaits_body : (text given : List ℕ) (has_length : Bool) (n : ℕ) → Opens text has_length n → length given < n → Awaits (text ++ given)
awaits_body text given has_length n o few = a_body (announced text given has_length n o (omega (arith, few))) few

-- pieces came, and no bytes wait
pub pieces_taken : (start here reader : Option (List ℕ)) (waits given : List ℕ) → Consumes start here given → waits ≡ []
    → Keeps here (prepend_known waits reader) → Consumes start reader given
pieces_taken start here reader waits given taken none kept =
    let same = ap (λ (w : List ℕ). prepend_known w reader) none ∙ prepend_known-nil reader in
    Consumes-kept start here reader given taken (subst (Keeps here) same kept)

-- ---- where a message may begin

broken_finding : (f : WireFault) (p q : Place) (known reader : Option (List ℕ)) (waits : List ℕ) → q ≡ place_after (Err f) → Finds known (Err f) waits reader
    → BreaksOff f p known (prepend_known waits reader) reader q
broken_finding fault.Read p q known reader waits at (head, kept) = (waits, consumes_waiting known reader waits kept, head)
broken_finding fault.Waits p q known reader waits at (head, kept) = (at, kept, waits, consumes_waiting known reader waits kept, head)
broken_finding fault.Memory p q known reader waits at never = absurd never
broken_finding fault.Write p q known reader waits at never = absurd never

no_buffer : (f : WireFault) (q : Place) (known reader : Option (List ℕ)) (waits : List ℕ) → f ≡ fault.Memory → waits ≡ [] → Keeps known (prepend_known waits reader)
    → BreaksOff f place.Fresh known (prepend_known waits reader) reader q
no_buffer fault.Memory q known reader waits is none kept = (refl, subst (Consumes known reader) none (consumes_waiting known reader waits kept))
no_buffer fault.Read q known reader waits is none kept = absurd cc
no_buffer fault.Waits q known reader waits is none kept = absurd cc
no_buffer fault.Write q known reader waits is none kept = absurd cc

broken_there : (p q : Place) (f : WireFault) (known reader : Option (List ℕ)) (waits : List ℕ) → MayBegin p
    → GivesStep p known (Err f) q waits reader → BreaksOff f p known (prepend_known waits reader) reader q
broken_there place.Fresh q f known reader waits m (at, inl x) = broken_finding f place.Fresh q known reader waits at x
broken_there place.Fresh q f known reader waits m (at, inr (e, none, kept)) = let is : f ≡ fault.Memory = cc in no_buffer f q known reader waits is none kept
broken_there place.Between q f known reader waits m s = broken_finding f place.Between q known reader waits s.0 s.1
broken_there (place.Body k) q f known reader waits (inl e) s = absurd (fresh k e)
broken_there (place.Body k) q f known reader waits (inr e) s = absurd (between k e)
broken_there place.Over q f known reader waits (inl e) s = absurd (over_fresh e)
broken_there place.Over q f known reader waits (inr e) s = absurd (over_between e)

-- the same for what a call told
pub broken_by : (p q : Place) (f : WireFault) (known reader : Option (List ℕ)) (waits : List ℕ) (result : Result (Step Opening) WireFault) → result ≡ Err f → MayBegin p
    → GivesStep p known (told result) q waits reader → BreaksOff f p known (prepend_known waits reader) reader q
broken_by p q f known reader waits result is m s =
    broken_there p q f known reader waits m (subst (λ (r : Result (Step Opening) WireFault). GivesStep p known (told r) q waits reader) is s)

-- ---- no more bytes may be read where a message may begin

-- the bytes that wait are less than a head
awaited_there : (p q : Place) (known reader : Option (List ℕ)) (waits : List ℕ) → MayBegin p → GivesStep p known (Err fault.Waits) q waits reader → AwaitsHead waits
awaited_there place.Fresh q known reader waits m (at, inl x) = x.0
awaited_there place.Fresh q known reader waits m (at, inr (e, none, kept)) = absurd cc
awaited_there place.Between q known reader waits m s = s.1.0
awaited_there (place.Body k) q known reader waits (inl e) s = absurd (fresh k e)
awaited_there (place.Body k) q known reader waits (inr e) s = absurd (between k e)
awaited_there place.Over q known reader waits (inl e) s = absurd (over_fresh e)
awaited_there place.Over q known reader waits (inr e) s = absurd (over_between e)

-- the same for what a call told
pub awaited_by : (p q : Place) (f : WireFault) (known reader : Option (List ℕ)) (waits : List ℕ) (result : Result (Step Opening) WireFault) → result ≡ Err f → f ≡ fault.Waits → MayBegin p
    → GivesStep p known (told result) q waits reader → AwaitsHead waits
awaited_by p q f known reader waits result is put_off m s =
    let told_so : result ≡ Err fault.Waits = is ∙ ap Err put_off in
    awaited_there p q known reader waits m (subst (λ (r : Result (Step Opening) WireFault). GivesStep p known (told r) q waits reader) told_so s)
