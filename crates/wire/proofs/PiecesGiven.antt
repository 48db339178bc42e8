-- What a piece tells of the body that was open.
use Rattle.std.proofs.Common.{◌≡◌, ◌≤◌, ◌<◌, ◌-◌, ℕ, List, [], length, Option, None, Some, Ok, Err, inl, inr, arith, refl, sym, ap, subst, ◌∙◌}
use Rattle.std.specs.Io.KnownBytes.{Consumes, IsAtEnd, Keeps, prepend_known}
use Rattle.std.proofs.KnownBytes.{Keeps-refl}
use Rattle.std.proofs.lemmas.List.{nil_from_length}
use Rattle.sigtext.specs.declared.refusal.Refusal.TheVariants as rule
use Rattle.wire.specs.Feeding.{Bytes, Done, Lacking, GivesPiece, stands_after}
use Rattle.wire.specs.Waiting.{IsOfReading}
use Rattle.wire.specs.declared.fault.WireFault.{WireFault}
use Rattle.wire.specs.declared.feed.Place.{Place}
use Rattle.wire.specs.declared.feed.Place.TheVariants as place

pub at_least_none : (n : ℕ) → 0 ≤ n
at_least_none n = omega arith

pub positive : (n : ℕ) → (n ≡ 0 → ⊥) → 0 < n
positive n some = omega arith

pub none_open : (p : Place) (waits : List ℕ) (reader : Option (List ℕ)) → ((n : ℕ) → p ≡ place.Body n → ⊥) → GivesPiece p (prepend_known waits reader) (Ok Done) p waits reader
none_open place.Fresh waits reader none = (refl, refl, Keeps-refl _)
none_open place.Between waits reader none = (refl, refl, Keeps-refl _)
none_open (place.Body n) waits reader none = absurd (none n refl)
none_open place.Over waits reader none = (refl, refl, Keeps-refl _)

pub complete : (p : Place) (n : ℕ) (waits : List ℕ) (reader : Option (List ℕ)) → p ≡ place.Body n → n ≡ 0 → GivesPiece p (prepend_known waits reader) (Ok Done) place.Between waits reader
complete p n waits reader at zero =
    subst (λ (x : Place). GivesPiece x (prepend_known waits reader) (Ok Done) place.Between waits reader) (sym at) (refl, zero, Keeps-refl _)

pub nothing_taken : (a b : Option (List ℕ)) (bytes : List ℕ) → bytes ≡ [] → Consumes a b bytes → Keeps a b
nothing_taken None b bytes none h = tt
nothing_taken (Some x) None bytes none h = absurd h
nothing_taken (Some x) (Some y) bytes none h = sym (subst (λ (t : List ℕ). Consumes (Some x) (Some y) t) none h)

pub lacking : (p : Place) (n size : ℕ) (known reader : Option (List ℕ)) (waits bytes : List ℕ) → p ≡ place.Body n → (n ≡ 0 → ⊥) → size ≡ 0 → length bytes ≡ size → IsAtEnd known
    → Consumes known (prepend_known waits reader) bytes → GivesPiece p known (Ok (Lacking rule.BodyIncomplete)) place.Over waits reader
lacking p n size known reader waits bytes at some zero long end h =
    subst (λ (x : Place). GivesPiece x known (Ok (Lacking rule.BodyIncomplete)) place.Over waits reader) (sym at)
    (refl, positive n some, refl, end, nothing_taken known (prepend_known waits reader) bytes (nil_from_length bytes (long ∙ zero)) h)

pub bytes_given : (p : Place) (n size : ℕ) (known reader : Option (List ℕ)) (waits bytes : List ℕ) → p ≡ place.Body n → (size ≡ 0 → ⊥) → length bytes ≡ size → size ≤ n → size ≤ 65536
    → Consumes known (prepend_known waits reader) bytes → GivesPiece p known (Ok (Bytes bytes)) (place.Body (n - size)) waits reader
bytes_given p n size known reader waits bytes at some long within most h =
    subst (λ (x : Place). GivesPiece x known (Ok (Bytes bytes)) (place.Body (n - size)) waits reader) (sym at)
    (ap (λ (k : ℕ). place.Body (n - k)) (sym long), subst (λ (k : ℕ). 0 < k) (sym long) (positive size some), subst (λ (k : ℕ). k ≤ 65536) (sym long) most, subst (λ (k : ℕ). k ≤ n) (sym long) within, h)

-- reading broke off: a read failed, or no more bytes may be read now
pub failed : (p : Place) (n : ℕ) (f : WireFault) (known reader : Option (List ℕ)) (waits : List ℕ) → p ≡ place.Body n → (n ≡ 0 → ⊥) → IsOfReading f → waits ≡ []
    → Keeps known (prepend_known waits reader) → GivesPiece p known (Err f) (stands_after p f) waits reader
failed p n f known reader waits at some (inl is) none kept =
    subst (λ (x : Place). GivesPiece x known (Err f) (stands_after x f) waits reader) (sym at)
    (subst (λ (e : WireFault). GivesPiece (place.Body n) known (Err e) (stands_after (place.Body n) e) waits reader) (sym is) (refl, positive n some, none, kept))
failed p n f known reader waits at some (inr is) none kept =
    subst (λ (x : Place). GivesPiece x known (Err f) (stands_after x f) waits reader) (sym at)
    (subst (λ (e : WireFault). GivesPiece (place.Body n) known (Err e) (stands_after (place.Body n) e) waits reader) (sym is) (refl, positive n some, none, kept))
