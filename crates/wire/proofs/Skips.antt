-- The pieces of a body that is skipped.
use Rattle.std.proofs.Common.{◌≡◌, ◌≤◌, ◌<◌, ◌-◌, ℕ, List, [], ◌++◌, length, Option, None, Some, Result, Ok, Err, arith, ap, subst, sym, ◌∙◌, length-append}
use Rattle.std.specs.Borrow.{Bor}
use Rattle.std.specs.Prelude.{IfSome}
use Rattle.std.specs.Io.KnownBytes.{Consumes, IsAtEnd, Keeps, prepend_known}
use Rattle.std.proofs.KnownBytes.{Consumes-kept, Consumes-trans, Keeps-refl, Keeps-trans}
use Rattle.sigtext.specs.declared.refusal.Refusal.{Refusal}
use Rattle.wire.specs.Feeding.{Bytes, Done, Lacking, GivesPiece, CountsReads, part}
use Rattle.wire.specs.Feeds.{GivesOn, given_of, left, place_of, reader_of, waits_in, whole_left}
use Rattle.wire.proofs.Skipping.{HasSkipped}
use Rattle.wire.specs.Whole.{BreaksOffBody, LacksBody, StandsIn, TakesBody}
use Rattle.wire.proofs.Backlogs.{consumes_waiting, prepend-kept, prepend-more}
use Rattle.wire.proofs.BrokenOff.{pieces_taken}
use Rattle.wire.specs.declared.fault.WireFault.{WireFault}
use Rattle.wire.specs.declared.fault.WireFault.TheVariants as fault
use Rattle.wire.specs.declared.feed.Feed.{Feed}
use Rattle.wire.specs.declared.feed.Piece.{Piece}
use Rattle.wire.specs.declared.feed.Piece.TheVariants as piece
use Rattle.wire.specs.declared.feed.Place.{Place}
use Rattle.wire.specs.declared.feed.Place.TheVariants as place

-- what a piece tells of a body with n bytes to come
pub piece_given : (n : ℕ) (p q : Place) (known reader : Option (List ℕ)) (waits : List ℕ) (result : Result (Piece (Bor (List ℕ))) WireFault) (bytes : Bor (List ℕ))
    → result ≡ Ok (piece.Bytes bytes) → p ≡ place.Body n → GivesPiece p known (part result) q waits reader → GivesPiece (place.Body n) known (Ok (Bytes bytes.now)) q waits reader
piece_given n p q known reader waits result bytes is at gives =
    subst (λ (x : Place). GivesPiece x known (Ok (Bytes bytes.now)) q waits reader) at
    (subst (λ (r : Result (Piece (Bor (List ℕ))) WireFault). GivesPiece p known (part r) q waits reader) is gives)

-- the bytes that were given, after a piece
pub given_next : (old new : List ℕ) (result : Result (Piece (Bor (List ℕ))) WireFault) (bytes : Bor (List ℕ))
    → result ≡ Ok (piece.Bytes bytes) → GivesOn old (part result) new → new ≡ old ++ bytes.now
given_next old new result bytes is h = subst (λ (r : Result (Piece (Bor (List ℕ))) WireFault). GivesOn old (part r) new) is h

pub skipped_none : {R : Type 0} (remaining : R → Option (List ℕ)) (size : ℕ) (feed : Feed R) → StandsIn size feed → HasSkipped remaining size feed feed
skipped_none remaining size feed s = record { stands = s; kept = Keeps-refl _ }

pub skips_on : {R : Type 0} (remaining : R → Option (List ℕ)) (size : ℕ) (first here next : Feed R) (result : Result (Piece (Bor (List ℕ))) WireFault) (bytes : Bor (List ℕ))
    → HasSkipped remaining size first here → result ≡ Ok (piece.Bytes bytes)
    → GivesPiece (place_of here) (left remaining here) (part result) (place_of next) (waits_in next) (remaining (reader_of next).inner)
    → GivesOn (given_of here) (part result) (given_of next) → HasSkipped remaining size first next
skips_on remaining size first here next result bytes h is gives on =
    let given = given_of here in
    let g = piece_given (size - length given) (place_of here) (place_of next) (left remaining here) (remaining (reader_of next).inner) (waits_in next) result bytes is h.stands.open_still gives in
    let grown = given_next given (given_of next) result bytes is on in
    let fits = h.stands.fits in
    let more : length bytes.now ≤ size - length given = g.3 in
    let both = ap length grown ∙ length-append given bytes.now in
    let rest : size - length given - length bytes.now ≡ size - length (given_of next) = omega (arith, fits, more, both) in
    record {
      stands = record { fits = omega (arith, fits, more, both); open_still = g.0 ∙ ap place.Body rest };
      kept = subst (λ (all : List ℕ). Keeps (whole_left remaining first) (prepend_known all (left remaining next))) (sym grown)
          (Keeps-trans (whole_left remaining first) (whole_left remaining here) _ h.kept (prepend-more (left remaining here) (left remaining next) given bytes.now g.4));
    }

pub counts_none : (result : Result (Piece (Bor (List ℕ))) WireFault) (x : Piece (Bor (List ℕ))) (old new : ℕ) → result ≡ Ok x → CountsReads result old new → new ≡ old
counts_none result x old new is h = subst (λ (r : Result (Piece (Bor (List ℕ))) WireFault). CountsReads r old new) is h

-- ---- the stream ended within it

lacking_given : (n : ℕ) (p q : Place) (known reader : Option (List ℕ)) (waits : List ℕ) (result : Result (Piece (Bor (List ℕ))) WireFault) (r : Refusal)
    → result ≡ Ok (piece.Refused r) → p ≡ place.Body n → GivesPiece p known (part result) q waits reader → GivesPiece (place.Body n) known (Ok (Lacking r)) q waits reader
lacking_given n p q known reader waits result r is at gives =
    subst (λ (x : Place). GivesPiece x known (Ok (Lacking r)) q waits reader) at
    (subst (λ (x : Result (Piece (Bor (List ℕ))) WireFault). GivesPiece p known (part x) q waits reader) is gives)

-- nothing follows the bytes that were given, so they are all the known bytes
few_known : (start here : Option (List ℕ)) (given : List ℕ) (n : ℕ) → Consumes start here given → IsAtEnd here → length given < n → IfSome start (λ rest. length rest < n)
few_known None here given n taken end few = tt
few_known (Some xs) None given n taken end few = absurd taken
few_known (Some xs) (Some ys) given n taken end few = omega (arith, few, ap length taken, length-append given ys, ap length end)

-- the bytes that were given are the first that were left
pub taken_so_far : {R : Type 0} (remaining : R → Option (List ℕ)) (size : ℕ) (first here : Feed R) → HasSkipped remaining size first here
    → Consumes (whole_left remaining first) (left remaining here) (given_of here)
taken_so_far remaining size first here h = consumes_waiting (whole_left remaining first) (left remaining here) (given_of here) h.kept

pub lacks : {R : Type 0} (remaining : R → Option (List ℕ)) (size : ℕ) (first here next : Feed R) (result : Result (Piece (Bor (List ℕ))) WireFault) (r : Refusal)
    → HasSkipped remaining size first here → result ≡ Ok (piece.Refused r)
    → GivesPiece (place_of here) (left remaining here) (part result) (place_of next) (waits_in next) (remaining (reader_of next).inner) → LacksBody remaining size first next
lacks remaining size first here next result r h is gives =
    let reader = remaining (reader_of next).inner in
    let given = given_of here in
    let g = lacking_given (size - length given) (place_of here) (place_of next) (left remaining here) reader (waits_in next) result r is h.stands.open_still gives in
    let some = g.1 in
    let taken = taken_so_far remaining size first here h in (
      g.0,
      omega (arith, some),
      few_known (whole_left remaining first) (left remaining here) given size taken g.3 (omega (arith, some)),
      given ++ waits_in next,
      Consumes-trans (whole_left remaining first) (left remaining here) reader given (waits_in next) taken (consumes_waiting (left remaining here) reader (waits_in next) g.4),
    )

-- ---- the body is complete

done_given : (n : ℕ) (p q : Place) (known reader : Option (List ℕ)) (waits : List ℕ) (result : Result (Piece (Bor (List ℕ))) WireFault)
    → result ≡ Ok piece.Done → p ≡ place.Body n → GivesPiece p known (part result) q waits reader → GivesPiece (place.Body n) known (Ok Done) q waits reader
done_given n p q known reader waits result is at gives =
    subst (λ (x : Place). GivesPiece x known (Ok Done) q waits reader) at
    (subst (λ (x : Result (Piece (Bor (List ℕ))) WireFault). GivesPiece p known (part x) q waits reader) is gives)

pub forgotten : (old new : List ℕ) (result : Result (Piece (Bor (List ℕ))) WireFault) → result ≡ Ok piece.Done → GivesOn old (part result) new → new ≡ []
forgotten old new result is h = subst (λ (r : Result (Piece (Bor (List ℕ))) WireFault). GivesOn old (part r) new) is h

pub takes_given : {R : Type 0} (remaining : R → Option (List ℕ)) (size : ℕ) (first here next : Feed R) (result : Result (Piece (Bor (List ℕ))) WireFault)
    → HasSkipped remaining size first here → result ≡ Ok piece.Done
    → GivesPiece (place_of here) (left remaining here) (part result) (place_of next) (waits_in next) (remaining (reader_of next).inner)
    → GivesOn (given_of here) (part result) (given_of next) → TakesBody remaining size first next (given_of here)
takes_given remaining size first here next result h is gives on =
    let given = given_of here in
    let g = done_given (size - length given) (place_of here) (place_of next) (left remaining here) (remaining (reader_of next).inner) (waits_in next) result is h.stands.open_still gives in
    let fits = h.stands.fits in
    let none : size - length given ≡ 0 = g.1 in
    (omega (arith, fits, none), g.0, forgotten given (given_of next) result is on, Consumes-kept (whole_left remaining first) (left remaining here) (left remaining next) given (taken_so_far remaining size first here h) g.2)

-- ---- reading broke off within it

broken_given : (n : ℕ) (p q : Place) (known reader : Option (List ℕ)) (waits : List ℕ) (result : Result (Piece (Bor (List ℕ))) WireFault) (f : WireFault)
    → result ≡ Err f → p ≡ place.Body n → GivesPiece p known (part result) q waits reader → GivesPiece (place.Body n) known (Err f) q waits reader
broken_given n p q known reader waits result f is at gives =
    subst (λ (x : Place). GivesPiece x known (Err f) q waits reader) at
    (subst (λ (x : Result (Piece (Bor (List ℕ))) WireFault). GivesPiece p known (part x) q waits reader) is gives)

pub unchanged : (old new : List ℕ) (result : Result (Piece (Bor (List ℕ))) WireFault) (f : WireFault) → result ≡ Err f → GivesOn old (part result) new → new ≡ old
unchanged old new result f is h = subst (λ (r : Result (Piece (Bor (List ℕ))) WireFault). GivesOn old (part r) new) is h

broke_off_there : {R : Type 0} (remaining : R → Option (List ℕ)) (size : ℕ) (first here next : Feed R) (f : WireFault)
    → HasSkipped remaining size first here
    → GivesPiece (place.Body (size - length (given_of here))) (left remaining here) (Err f) (place_of next) (waits_in next) (remaining (reader_of next).inner)
    → given_of next ≡ given_of here → BreaksOffBody remaining size first next f
broke_off_there remaining size first here next fault.Read h (over, some, none, kept) same =
    let given = given_of here in
    (given, pieces_taken (whole_left remaining first) (left remaining here) (remaining (reader_of next).inner) (waits_in next) given (taken_so_far remaining size first here h) none kept, omega (arith, some))
broke_off_there remaining size first here next fault.Waits h (open_still, some, none, kept) same =
    let given = given_of here in
    let fits = h.stands.fits in
    let long = ap length same in
    record {
      stands = record { fits = omega (arith, fits, long); open_still = open_still ∙ ap (λ (all : List ℕ). place.Body (size - length all)) (sym same) };
      few = omega (arith, some, long);
      none = none;
      kept = subst (λ (all : List ℕ). Keeps (whole_left remaining first) (prepend_known all (left remaining next))) (sym same)
          (Keeps-trans (whole_left remaining first) (whole_left remaining here) _ h.kept (prepend-kept (left remaining here) (left remaining next) given kept));
    }
broke_off_there remaining size first here next fault.Memory h never same = absurd never
broke_off_there remaining size first here next fault.Write h never same = absurd never

pub broke_off : {R : Type 0} (remaining : R → Option (List ℕ)) (size : ℕ) (first here next : Feed R) (result : Result (Piece (Bor (List ℕ))) WireFault) (f : WireFault)
    → HasSkipped remaining size first here → result ≡ Err f
    → GivesPiece (place_of here) (left remaining here) (part result) (place_of next) (waits_in next) (remaining (reader_of next).inner)
    → GivesOn (given_of here) (part result) (given_of next) → BreaksOffBody remaining size first next f
broke_off remaining size first here next result f h is gives on =
    broke_off_there remaining size first here next f h
    (broken_given (size - length (given_of here)) (place_of here) (place_of next) (left remaining here) (remaining (reader_of next).inner) (waits_in next) result f is h.stands.open_still gives)
    (unchanged (given_of here) (given_of next) result f is on)
