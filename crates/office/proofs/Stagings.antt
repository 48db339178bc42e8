-- A body that is staged piece by piece, and how reading it ends.
use Rattle.std.proofs.Common.{◌≡◌, ◌≤◌, ◌-◌, ℕ, List, [], ◌∷◌, ◌++◌, length, Option, Result, Ok, Err, arith, subst, sym}
use denote.Struct.Props.{props}
use Rattle.std.proofs.Math.Logic.{∥∥₁_elim, ∥∥₁_map}
use Rattle.std.proofs.KnownBytes.{Consumes-trans, Keeps-refl}
use Rattle.std.specs.Borrow.{Bor}
use Rattle.std.specs.Io.KnownBytes.{Consumes, prepend_known}
use Rattle.sigtext.specs.Bytes.{AreBytes}
use Rattle.sigv4.specs.Hashers.{ShaHolds}
use Rattle.sigv4.specs.Hmac.{sha256}
use Rattle.sigv4.specs.declared.hash.Sha.{Sha}
use Rattle.boxes.specs.declared.keep.Keeper.{Ghosts}
use Rattle.wire.specs.Feeding.{GivesPiece, most_piece, part}
use Rattle.wire.specs.Feeds.{GivesOn, given_of, left, place_of, reader_of, waits_in, whole_left}
use Rattle.wire.proofs.Skipping.{HasSkipped}
use Rattle.wire.specs.declared.fault.WireFault.{WireFault}
use Rattle.wire.specs.declared.feed.Feed.{Feed}
use Rattle.wire.specs.declared.feed.Piece.{Piece}
use Rattle.wire.specs.declared.feed.Piece.TheVariants as piece
use Rattle.wire.proofs.Backlogs.{consumes_waiting}
use Rattle.wire.proofs.Skips.{given_next, piece_given, skips_on, taken_so_far, takes_given, unchanged}
use Rattle.office.specs.Receiving.{HoldsPart, StagesBody}

bytes_joined : (xs ys : List ℕ) → AreBytes xs → AreBytes ys → AreBytes (xs ++ ys)
bytes_joined [] ys a b = b
bytes_joined (x ∷ xs) ys a b = (a.0, bytes_joined xs ys a.1 b)

-- the waiting bytes were taken from the reader too
pub reader_taken : (start reader : Option (List ℕ)) (given waits : List ℕ) → Consumes start (prepend_known waits reader) given → Consumes start reader (given ++ waits)
reader_taken start reader given waits taken =
    Consumes-trans start (prepend_known waits reader) reader given waits taken (consumes_waiting (prepend_known waits reader) reader waits (Keeps-refl (prepend_known waits reader)))

-- nothing was read except what waits
pub nothing_read : (reader : Option (List ℕ)) (waits : List ℕ) → (given : List ℕ) × Consumes (prepend_known waits reader) reader given
nothing_read reader waits = (waits, consumes_waiting (prepend_known waits reader) reader waits (Keeps-refl (prepend_known waits reader)))

module _ {R K : Type 0} {k : Ghosts K} where
  -- one more piece was staged
  pub part_more : (here next : Feed R) (keeper keeper' : K) (sha sha' : Sha) (result : Result (Piece (Bor (List ℕ))) WireFault) (bytes : Bor (List ℕ))
      → result ≡ Ok (piece.Bytes bytes) → GivesOn (given_of here) (part result) (given_of next)
      → ((staged : List ℕ) → k.stages keeper staged → k.stages keeper' (staged ++ bytes.now)) → ((fed : List ℕ) → ShaHolds sha fed → ShaHolds sha' (fed ++ bytes.now)) → AreBytes bytes.now
      → HoldsPart k here keeper sha → HoldsPart k next keeper' sha'
  part_more here next keeper keeper' sha sha' result bytes is on added hashed octets h =
      let grown = given_next (given_of here) (given_of next) result bytes is on in
      record {
        staged = subst (k.stages keeper') (sym grown) (added (given_of here) h.staged);
        fed = ∥∥₁_map h.fed (λ (x : ShaHolds sha (given_of here)). subst (ShaHolds sha') (sym grown) (hashed (given_of here) x));
        octets = subst AreBytes (sym grown) (bytes_joined (given_of here) bytes.now h.octets octets);
      }

  -- no more bytes may be read now: what was given is the same
  pub part_same : (here next : Feed R) (keeper : K) (sha : Sha) (result : Result (Piece (Bor (List ℕ))) WireFault) (f : WireFault) → result ≡ Err f
      → GivesOn (given_of here) (part result) (given_of next) → HoldsPart k here keeper sha → HoldsPart k next keeper sha
  part_same here next keeper sha result f is on h =
      let same = sym (unchanged (given_of here) (given_of next) result f is on) in
      record { staged = subst (k.stages keeper) same h.staged; fed = subst (λ (l : List ℕ). ∥ ShaHolds sha l ∥₁) same h.fed; octets = subst AreBytes same h.octets }

module _ {R : Type 0} {remaining : R → Option (List ℕ)} {size : ℕ} where
  -- a piece has 1 to 65536 bytes
  pub piece_size : (first here next : Feed R) (result : Result (Piece (Bor (List ℕ))) WireFault) (bytes : Bor (List ℕ)) (h : HasSkipped remaining size first here)
      → result ≡ Ok (piece.Bytes bytes)
      → GivesPiece (place_of here) (left remaining here) (part result) (place_of next) (waits_in next) (remaining (reader_of next).inner)
      → (1 ≤ length bytes.now) × (length bytes.now ≤ most_piece)
  piece_size first here next result bytes h is gives =
      let given = given_of here in
      let g = piece_given (size - length given) (place_of here) (place_of next) (left remaining here) (remaining (reader_of next).inner) (waits_in next) result bytes is h.stands.open_still gives in
      let some = g.1 in
      (omega (arith, some), g.2)

  -- the keeper refused a piece
  pub stops : (first here next : Feed R) (result : Result (Piece (Bor (List ℕ))) WireFault) (bytes : Bor (List ℕ)) → HasSkipped remaining size first here
      → result ≡ Ok (piece.Bytes bytes)
      → GivesPiece (place_of here) (left remaining here) (part result) (place_of next) (waits_in next) (remaining (reader_of next).inner)
      → GivesOn (given_of here) (part result) (given_of next)
      → (given : List ℕ) × Consumes (whole_left remaining first) (remaining (reader_of next).inner) given
  stops first here next result bytes h is gives on =
      let m = skips_on remaining size first here next result bytes h is gives on in
      let reader = remaining (reader_of next).inner in
      (given_of next ++ waits_in next, reader_taken (whole_left remaining first) reader (given_of next) (waits_in next) (taken_so_far remaining size first next m))

module _ {R K : Type 0} {remaining : R → Option (List ℕ)} {size : ℕ} {k : Ghosts K} where
  -- the body is complete
  pub stages_whole : (first here next : Feed R) (keeper : K) (sha : Sha) (result : Result (Piece (Bor (List ℕ))) WireFault) (digest : List ℕ) → HasSkipped remaining size first here
      → HoldsPart k here keeper sha → result ≡ Ok piece.Done
      → GivesPiece (place_of here) (left remaining here) (part result) (place_of next) (waits_in next) (remaining (reader_of next).inner)
      → GivesOn (given_of here) (part result) (given_of next)
      → ((m : List ℕ) → ShaHolds sha m → digest ≡ sha256 m) → StagesBody remaining size first next k keeper digest
  stages_whole first here next keeper sha result digest h held is gives on finished = record {
    body = given_of here;
    taken = takes_given remaining size first here next result h is gives on;
    staged = held.staged;
    octets = held.octets;
    digest_is = ∥∥₁_elim held.fed (hlevel props) (finished (given_of here));
  }
