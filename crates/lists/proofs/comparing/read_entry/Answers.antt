use Rattle.std.proofs.Common.{◌≡◌, ◌∙◌, ℕ, List, [], map, length, get_or, Bor, ap, refl, sym, subst, arith}
use Rattle.std.proofs.lemmas.List.{length-map}
use Rattle.csv.specs.Records.{fields_of, AllText}
use Rattle.links.proofs.SixLemmas.{none_of}
use Rattle.links.proofs.Texts.{clash}
use Rattle.lists.specs.Manifests.{IsManifestRow}
use Rattle.lists.proofs.Entries.{one_number, row_digest, row_number, row_short, row_size, seven_texts}
use Rattle.lists.proofs.comparing.read_entry.Goals as goal
use Rattle.lists.proofs.comparing.read_entry.Goals.{then-not-are_texts-via-then-not-are_texts, then-not-are_texts-via-else-not-are_texts+then-not-is_hex_digest}
use Rattle.lists.proofs.comparing.read_entry.Goals.{then-number_text-gt-MOST_NUMBER_DIGITS-via-then-number_text-gt-MOST_NUMBER_DIGITS, then-number_text-gt-MOST_NUMBER_DIGITS-via-else-number_text-gt-MOST_NUMBER_DIGITS+then-size_text-gt-MOST_LENGTH_DIGITS}

pub returns-clause-some : goal.returns-clause-some
returns-clause-some c =
    let texts : List (Bor (List ℕ)) = c.read_fields.new.texts in
    let d : Bor (List ℕ) = record { ref_ptr = (0, 0); now = [] } in
    let read : map (λ t. t.now) texts ≡ fields_of c.args.row.now = c.if-not-read_fields.ensures.are refl in
    let count : length (fields_of c.args.row.now) ≡ 7 = c.if-not-read_fields.ensures.found.0 refl in
    let long : length texts ≡ 7 = sym (length-map texts (λ t. t.now)) ∙ ap length read ∙ count in (
      record {
        number = (get_or texts 0 d).now;
        size = (get_or texts 3 d).now;
        moment = (get_or texts 5 d).now;
        key = (get_or texts 6 d).now;
        is_number = c.in_ok-number.ensures.some;
        numbers = omega (arith, c.if-number-eq0.false);
        ten = omega (arith, c.if-number_text-gt-MOST_NUMBER_DIGITS.false);
        is_size = c.in_ok-size.ensures.some;
        seven = omega (arith, c.if-size_text-gt-MOST_LENGTH_DIGITS.false);
        is_digest = c.if-not-is_hex_digest.ensures.0 refl;
        texts = subst AllText read (c.if-not-are_texts.ensures.0 refl);
        are = sym read ∙ seven_texts texts d long;
      },
      refl,
    )

pub returns-then-not-are_texts-clause-none : goal.returns-then-not-are_texts-clause-none
returns-then-not-are_texts-clause-none c row =
    let read = c.if-not-read_fields.ensures.are refl in
    elim c.then-not-are_texts.branch [
      | then-not-are_texts-via-then-not-are_texts w ↦ clash _ w.if-not-are_texts.true (c.are_texts.ensures.1 (subst AllText (sym read) row.1.texts))
      | then-not-are_texts-via-else-not-are_texts+then-not-is_hex_digest w ↦ clash _ w.if-not-is_hex_digest.true (w.is_hex_digest.ensures.1 (row_digest _ _ _ read row))
    ]

pub returns-then-number_text-gt-MOST_NUMBER_DIGITS-clause-none : goal.returns-then-number_text-gt-MOST_NUMBER_DIGITS-clause-none
returns-then-number_text-gt-MOST_NUMBER_DIGITS-clause-none c row =
    let short = row_short c.read_fields.new.texts (record { ref_ptr = (0, 0); now = [] }) _ (c.if-not-read_fields.ensures.are refl) row in
    elim c.then-number_text-gt-MOST_NUMBER_DIGITS.branch [
      | then-number_text-gt-MOST_NUMBER_DIGITS-via-then-number_text-gt-MOST_NUMBER_DIGITS w ↦ absurd (omega (arith, short.0, w.if-number_text-gt-MOST_NUMBER_DIGITS.true))
      | then-number_text-gt-MOST_NUMBER_DIGITS-via-else-number_text-gt-MOST_NUMBER_DIGITS+then-size_text-gt-MOST_LENGTH_DIGITS w ↦ absurd (omega (arith, short.1, w.if-size_text-gt-MOST_LENGTH_DIGITS.true))
    ]

pub returns-in_err-number-clause-some : goal.returns-in_err-number-clause-some
returns-in_err-number-clause-some c = rw c.from_residual.ensures tt

pub returns-in_err-number-clause-none : goal.returns-in_err-number-clause-none
returns-in_err-number-clause-none c =
    let other : IsManifestRow (fields_of c.args.row.now) → ⊥ = λ row. let said = row_number _ _ _ (c.if-not-read_fields.ensures.are refl) row in c.in_err-number.ensures.none said.0 said.1 in
    none_of c.from_residual.result other

pub returns-in_err-size-clause-some : goal.returns-in_err-size-clause-some
returns-in_err-size-clause-some c = rw c.from_residual-in_err-size.ensures tt

pub returns-in_err-size-clause-none : goal.returns-in_err-size-clause-none
returns-in_err-size-clause-none c =
    let other : IsManifestRow (fields_of c.args.row.now) → ⊥ = λ row. let said = row_size _ _ _ (c.if-not-read_fields.ensures.are refl) row in c.in_err-size.ensures.none said.0 said.1 in
    none_of c.from_residual-in_err-size.result other

pub returns-then-number-eq0-clause-none : goal.returns-then-number-eq0-clause-none
returns-then-number-eq0-clause-none c row =
    let said = row_number _ _ _ (c.if-not-read_fields.ensures.are refl) row in
    let same = one_number _ _ _ said.1 c.in_ok-number.ensures.some in
    omega (arith, same, said.2, c.if-number-eq0.true)

pub returns-then-not-read_fields-clause-none : goal.returns-then-not-read_fields-clause-none
returns-then-not-read_fields-clause-none c = grind arith

pub slice_bounds-are_texts-end : goal.slice_bounds-are_texts-end
slice_bounds-are_texts-end c = grind arith
