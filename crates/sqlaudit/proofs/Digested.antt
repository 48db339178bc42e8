-- What the bytes that were read say about a file.
use Rattle.std.proofs.Common.{Ok, ◌≡◌, ◌<◌, ◌+◌, ◌-◌, ◌*◌, min, inl, inr, Bool, true, false, IsTrue, length, pos, List, [], ℕ, take, get_or, Fits, w8, arith, refl, sym, ap, subst, ◌∙◌}
use Rattle.std.specs.Prelude.{◌≢◌, MatchBool, Contains}
use Rattle.std.proofs.lemmas.List.Elements.{All-from_get_or, recursion_from_All}
use Rattle.sqlite.specs.State.{State, HasCleanDisk, KeepsCommit, Survives}
use Rattle.sqltables.specs.Schema.{Version}
use Rattle.sqltables.specs.Means.{IsWhole, IsRunning}
use Rattle.sqltables.specs.Inside.{GoesOnWhere, IsSameLedger, View, seen}
use Rattle.sqltables.proofs.Building.{survives_then, survives_itself, keeps_then}
use Rattle.sqltables.proofs.Runs.{itself_keeps}
use Rattle.sqltables.proofs.Gathering.{Gathered, OpensOurs, no_piece}
use Rattle.sqlaudit.proofs.Refusing.{cut_from}
use Rattle.sqlite.specs.Effect.{Database}
use Rattle.sqlaudit.proofs.Entries.{each_more}
use Rattle.sqlite_value.specs.Order.{Row}
use Rattle.sigtext.specs.Bytes.{AreBytes}
use Rattle.sigv4.specs.Hmac.{sha256}
use Rattle.boxes.specs.State.{Place}
use Rattle.sqltables.specs.Pieces.{AreBytesOf, HasPiece}
use Rattle.sqlaudit.specs.declared.lines.FileLine.{FileLine}
use Rattle.sqlaudit.specs.declared.lines.ReceiptLine.{ReceiptLine}
use Rattle.sqlaudit.specs.Opened.{IsBare, IsNotBare, IsGivenFor, HasBytes, HasMisfit, LacksBytes, LacksPieces, place_in}

pub are_bytes : (bytes : List ℕ) → ((i : ℕ) → Fits w8 (get_or bytes i 0)) → AreBytes bytes
are_bytes bytes fits = recursion_from_All (λ b. b < 256) bytes (All-from_get_or (λ b. b < 256) bytes 0 (λ i within. omega (arith, fits i)))

module _ (rows : List Row) (receipts : List ReceiptLine) (file : FileLine) (given : ReceiptLine) (is_given : IsGivenFor receipts file given) (size : ℕ) (size_is : given.length ≡ pos size)
    (place : Place) (there : place ≡ place_in file) where
  pub none_told : LacksPieces rows place size → LacksBytes rows receipts file
  none_told lacks = record { given = given; is = is_given; size = size; size_is = size_is; lacks = inl (subst (λ p. LacksPieces rows p size) there lacks) }

  pub told : 0 < size → (bytes : List ℕ) → AreBytesOf rows place size bytes → AreBytes bytes → (b : Bool) → (IsTrue b → sha256 bytes ≡ given.digest.items) × (sha256 bytes ≡ given.digest.items → IsTrue b)
      → MatchBool b (HasBytes rows receipts file) (LacksBytes rows receipts file)
  told full bytes are octets true same = record {
    given = given;
    is = is_given;
    bytes = bytes;
    are = subst (λ n. AreBytesOf rows (place_in file) n bytes) (sym are.size_is) (subst (λ p. AreBytesOf rows p size bytes) there are);
    octets = octets;
    size = size_is ∙ ap pos (sym are.size_is);
    digest = same.0 refl;
    bare = λ none. absurd (omega (arith, full, none, are.size_is));
  }
  told full bytes are octets false same = record {
    given = given;
    is = is_given;
    size = size;
    size_is = size_is;
    lacks = inr (bytes, subst (λ p. AreBytesOf rows p size bytes) there are, λ e. let no = same.1 e in cc);
  }

  no_bytes : AreBytesOf rows (place_in file) 0 []
  no_bytes = record { size_is = refl; pieces = λ at piece is. absurd (let e = sym (no_piece [] at (omega arith)) ∙ is in cc) }

  -- an empty file has no first piece
  first_misfits : size ≡ 0 → (piece : List ℕ) → HasPiece rows (place_in file) 0 piece → HasMisfit rows (place_in file) size
  first_misfits none piece has = record {
    at = 0;
    piece = piece;
    stands = has;
    misfits = λ bytes is some. let e = sym (no_piece bytes 0 (omega (arith, is, none))) ∙ some in cc;
  }

  pub told_empty : size ≡ 0 → (b : Bool) → MatchBool b (IsBare rows place given) (IsNotBare rows place given) → MatchBool b (HasBytes rows receipts file) (LacksBytes rows receipts file)
  told_empty none true is = record {
    given = given;
    is = is_given;
    bytes = [];
    are = no_bytes;
    octets = tt;
    size = size_is ∙ ap pos none;
    digest = is.digest;
    bare = λ empty piece has. is.none piece (subst (λ p. HasPiece rows p 0 piece) (sym there) has);
  }
  told_empty none false is = record {
    given = given;
    is = is_given;
    size = size;
    size_is = size_is;
    lacks = elim is [
      | inl has ↦ inl (inr (first_misfits none has.0 (subst (λ p. HasPiece rows p 0 has.0) there has.1)))
      | inr other ↦ inr ([], subst (λ n. AreBytesOf rows (place_in file) n []) (sym none) no_bytes, other)
    ];
  }

-- ---- a piece of a wrong length

module _ (entry mid : State) (place : Place) (size : ℕ) (bytes : List ℕ) (count : ℕ) (g : Gathered entry mid place size bytes count) (v : Version) (ours : OpensOurs v entry) (clean : HasCleanDisk mid) where
  -- pieces that are lacking now were also lacking at first
  pub lacked_at : LacksPieces (mid.now.trees 9) place size → LacksPieces (entry.now.trees 9) place size
  lacked_at = subst (λ (d : Database). LacksPieces (d.trees 9) place size) (g.same v ours clean)

  -- no bytes of this size have such a next piece with a different length
  pub next_misfits : length bytes < size → (piece : List ℕ) → HasPiece (mid.now.trees 9) place count piece → length piece ≢ min (size - length bytes) 65536 → HasMisfit (mid.now.trees 9) place size
  next_misfits less piece has other = record {
    at = count;
    piece = piece;
    stands = has;
    misfits = λ all is some.
        let ends : length bytes ≡ 65536 * count = elim g.long [ inl e ↦ e | inr e ↦ absurd (omega (arith, e, less)) ] in
        let cut = cut_from all count piece some in
        other (omega (arith, cut.1, is, ends));
  }

-- ---- one file after another

-- these files were tested, and have their bytes
pub record Looked (entry now : State) (receipts : List ReceiptLine) (files : List FileLine) : Type 0 where
  pub uncommitted : HasCleanDisk now → IsRunning entry → KeepsCommit entry now
  pub survives : Survives entry now (λ db. ⊥)
  pub running : HasCleanDisk now → IsRunning entry → IsRunning now
  pub same : (v : Version) → OpensOurs v entry → IsRunning entry → HasCleanDisk now → now.now ≡ entry.now
  pub each : (v : Version) → OpensOurs v entry → IsRunning entry → (IsTrue entry.is_open → IsWhole entry.now) → HasCleanDisk now → (file : FileLine) → Contains files file → HasBytes (entry.now.trees 9) receipts file

pub none_looked : (s : State) (receipts : List ReceiptLine) → Looked s s receipts []
none_looked s receipts = record {
  uncommitted = λ clean running. itself_keeps s;
  survives = survives_itself s;
  running = λ clean running. running;
  same = λ v ours running clean. refl;
  each = λ v ours running whole clean file there. absurd (omega (arith, there.1));
}

-- what is known about the next file
pub record LooksOn (mid now : State) (receipts : List ReceiptLine) (file : FileLine) (has : Bool) : Type 0 where
  pub read : (v : Version) → OpensOurs v mid → (IsTrue mid.is_open → IsWhole mid.now) → HasCleanDisk now → MatchBool has (HasBytes (mid.now.trees 9) receipts file) (LacksBytes (mid.now.trees 9) receipts file)
  pub same : (v : Version) → OpensOurs v mid → HasCleanDisk now → now.now ≡ mid.now
  pub running : HasCleanDisk now → IsRunning mid → IsRunning now
  pub uncommitted : HasCleanDisk now → IsTrue mid.in_transaction → KeepsCommit mid now
  pub survives : Survives mid now (λ db. ⊥)

module _ (entry mid now : State) (receipts : List ReceiptLine) (files : List FileLine) (at : ℕ) (file : FileLine) (has : Bool) (l : Looked entry mid receipts (take at files)) (next : LooksOn mid now receipts file has) where
  early : HasCleanDisk now → HasCleanDisk mid
  early clean = omega (arith, clean, next.survives.clean)

  module _ (v : Version) (ours : OpensOurs v entry) (running : IsRunning entry) (clean : HasCleanDisk now) where
    was_open : IsTrue mid.is_open → IsTrue entry.is_open
    was_open = (l.uncommitted (early clean) running).was_open

    ours_still : OpensOurs v mid
    ours_still = record {
      version = ours.version;
      schema = λ is_open. ap (λ db. db.schema) (l.same v ours running (early clean)) ∙ ours.schema (was_open is_open);
      inside = (l.running (early clean) running).0;
    }

    pub looked_on : (IsTrue entry.is_open → IsWhole entry.now) → MatchBool has (HasBytes (entry.now.trees 9) receipts file) (LacksBytes (entry.now.trees 9) receipts file)
    looked_on whole = subst (λ db. MatchBool has (HasBytes (db.trees 9) receipts file) (LacksBytes (db.trees 9) receipts file)) (l.same v ours running (early clean))
        (next.read v ours_still (λ is_open. subst IsWhole (sym (l.same v ours running (early clean))) (whole (was_open is_open))) clean)

  pub one_more : has ≡ true → at < length files → get_or files at file ≡ file → Looked entry now receipts (take (at + 1) files)
  one_more is within there = record {
    uncommitted = λ clean running. keeps_then entry mid now (l.uncommitted (early clean) running) (next.uncommitted clean (l.running (early clean) running).0);
    survives = survives_then entry mid now l.survives next.survives;
    running = λ clean running. next.running clean (l.running (early clean) running);
    same = λ v ours running clean. next.same v (ours_still v ours running clean) clean ∙ l.same v ours running (early clean);
    each = λ v ours running whole clean. each_more (HasBytes (entry.now.trees 9) receipts) files at file (l.each v ours running whole (early clean)) within there
        (subst (λ b. MatchBool b (HasBytes (entry.now.trees 9) receipts file) (LacksBytes (entry.now.trees 9) receipts file)) is (looked_on v ours running clean whole));
  }

-- the effect of the calls so far
pub looked_goes : {S : Type 0} {g : S → View} {old now : S} {receipts : List ReceiptLine} {files : List FileLine} → IsSameLedger g old now → Looked (seen g old) (seen g now) receipts files
    → {T : Type 0} (value : T) → GoesOnWhere (IsRunning (seen g old)) (IsRunning (seen g old)) g old now (Ok value)
looked_goes same looked value = record { same_reference = same; running = looked.running; uncommitted = looked.uncommitted; survives = looked.survives }
