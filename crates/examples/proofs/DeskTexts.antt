-- Texts that are commands, and texts that are not.
use Rattle.std.proofs.Common.{◌≡◌, ◌<◌, ◌≤◌, ℕ, true, List, [], ◌∷◌, ◌++◌, get_or, drop, refl, sym, ap, subst, ◌∙◌, Some, arith, lit<, lit≤}
use Rattle.std.specs.Prelude.{codes, IsUtf8}
use Rattle.std.specs.List.{AllByRecursion, join_with_byte}
use Rattle.std.proofs.lemmas.Int.{ints}
use Rattle.std.proofs.lemmas.List.Elements.{All-from_recursion}
use Rattle.std.proofs.lemmas.Option.{same_Some}
use Rattle.std.proofs.lemmas.Str.{IsUtf8-from_ascii}
use Rattle.std.proofs.lemmas.Str.Ascii.{IsAscii-from_all}
use Rattle.sigtext.proofs.Reading.{cut}
use Rattle.sigv4.specs.Dates.{CivilTime, IsSeconds, WritesMoment}
use Rattle.sigv4.proofs.Moments.{IsSmall, IsSmall-of, civil_time_once}
use Rattle.examples.proofs.Vectors.{may_24, last}
use Rattle.boxes.specs.declared.rows.Role.TheVariants as role
use Rattle.boxes.specs.declared.rows.Mode.TheVariants as mode
use Rattle.boxes.specs.State.{Ends, Settings}
use Rattle.boxes.specs.Steps.{Command, AddKey, RevokeKey, AddBox, CloseBox, DropFile, LimitKey, SetAllowance}
use Rattle.boxes.specs.Sound.{is_box_byte}
use Rattle.boxes.specs.Commands.{HasForm}
use Rattle.links.specs.CommandTexts.{minute_word, IsNumber, SaysSettings, adds_key, revokes_key, adds_box, closes_box, drops_file, limits_key, sets_allowance, IsCommand}
use Rattle.links.proofs.DeskWords.{differ, cut_once, word_lacks}
use Rattle.links.proofs.NineTexts.{nine_texts}
use Rattle.links.proofs.Commands.{text_of, added_box, revoked_key, set_allowance}
use Rattle.links.proofs.OneCommand.{cut_spaces, cuts_settings}

utf8 : (text : List ℕ) → AllByRecursion (λ b. b < 128) text → IsUtf8 text
utf8 text small = IsUtf8-from_ascii text (IsAscii-from_all text (All-from_recursion (λ b. b < 128) text small))

-- ---- keys

pub adds_k2 : IsCommand (codes "key add k2 link s3cr3t") (AddKey (codes "k2") role.Link (codes "s3cr3t"))
adds_k2 = record {
  words = codes "key" ∷ codes "add" ∷ codes "k2" ∷ codes "link" ∷ codes "s3cr3t" ∷ [];
  says = adds_key (codes "k2") role.Link (codes "s3cr3t");
  is = refl;
}

pub k2_has_form : HasForm (AddKey (codes "k2") role.Link (codes "s3cr3t"))
k2_has_form = (record { some = lit< tt; short = lit≤ tt; each = refl }, record { some = lit< tt; short = lit≤ tt; each = refl })

pub revokes_k2 : IsCommand (codes "key revoke k2") (RevokeKey (codes "k2"))
revokes_k2 = record { words = codes "key" ∷ codes "revoke" ∷ codes "k2" ∷ []; says = revokes_key (codes "k2"); is = refl }

pub revoked_k2_has_form : HasForm (RevokeKey (codes "k2"))
revoked_k2_has_form = record { some = lit< tt; short = lit≤ tt; each = refl }

-- two spaces
pub no_empty_word : (c : Command) → IsCommand (codes "key  revoke k2") c → ⊥
no_empty_word (AddKey id role secret) is = differ 4 _ _ 32 97 (text_of _ _ is) refl refl (λ e. omega arith)
no_empty_word (RevokeKey id) is = differ 4 _ _ 32 114 (text_of _ _ is) refl refl (λ e. omega arith)
no_empty_word (AddBox name settings) is = let t = text_of (codes "key  revoke k2") (AddBox name settings) is in differ 0 _ _ 107 98 t.2 refl refl (λ e. omega arith)
no_empty_word (CloseBox name moment) is = let t = text_of (codes "key  revoke k2") (CloseBox name moment) is in differ 0 _ _ 107 98 t.2 refl refl (λ e. omega arith)
no_empty_word (DropFile place) is = differ 0 _ _ 107 102 (text_of _ _ is) refl refl (λ e. omega arith)
no_empty_word (LimitKey id box) is = differ 4 _ _ 32 108 (text_of _ _ is) refl refl (λ e. omega arith)
no_empty_word (SetAllowance seconds) is = let t = text_of (codes "key  revoke k2") (SetAllowance seconds) is in differ 0 _ _ 107 111 t.2 refl refl (λ e. omega arith)

-- a space after the last word
pub no_space_behind : (c : Command) → IsCommand (codes "key revoke k2 ") c → HasForm c → ⊥
no_space_behind c is form =
    let revoked : HasForm (RevokeKey (codes "k2 ")) = subst HasForm (revoked_key (codes "k2 ") c is) form in
    let each = revoked.each in
    absurd cc

-- ---- boxes

abbrev pub inbox : Settings
inbox = record {
  opens = 1369353600;
  closes = 253402300799;
  days = true ∷ true ∷ true ∷ true ∷ true ∷ true ∷ true ∷ [];
  from_minute = 0;
  to_minute = 1440;
  quota = 100;
  max_files = 0;
  mode = mode.Keep;
  rule = Ends (codes ".pdf" ∷ codes ".zip" ∷ []);
}

abbrev midnight : CivilTime
midnight = record { year = 2013; month = 5; day = 24; hour = 0; minute = 0; second = 0 }

seconds_at_midnight : IsSeconds midnight 1369353600
seconds_at_midnight =
    let small : IsSmall midnight = record { year = lit< tt; month = lit< tt; day = lit< tt; hour = lit< tt; minute = lit< tt; second = lit< tt } in
    let same : may_24.time ≡ midnight = civil_time_once midnight may_24.time small (IsSmall-of may_24.time may_24.is_civil_time) may_24.written in
    subst (λ (t : CivilTime). IsSeconds t 1369353600) same may_24.seconds

a_second_later : WritesMoment (codes "20130524T000001Z") 1369353601
a_second_later = record {
  time = record { year = 2013; month = 5; day = 24; hour = 0; minute = 0; second = 1 };
  is_civil_time = record {
    from = lit≤ tt;
    civil = ((omega (arith, ints), omega (arith, ints)), (omega (arith, ints), omega (arith, ints)), (omega (arith, ints), omega (arith, ints)));
    hour = lit< tt;
    minute = lit< tt;
    second = lit< tt;
  };
  written = refl;
  seconds = omega (arith, ints, seconds_at_midnight);
}

pub is_100 : IsNumber (codes "100") 100
is_100 = record { digits = record { some = lit< tt; short = lit≤ tt; each = refl }; first = λ rest e. absurd (differ 0 _ _ 49 48 e refl refl (λ f. omega arith)); value = refl }

-- 0 has no other digits
pub is_0 : IsNumber (codes "0") 0
is_0 = record { digits = record { some = lit< tt; short = lit≤ tt; each = refl }; first = λ rest e. sym (ap (λ (t : List ℕ). drop 1 t) e); value = refl }

words_of_inbox : List (List ℕ)
words_of_inbox =
    codes "20130524T000000Z" ∷ codes "99991231T235959Z" ∷ codes "1111111" ∷ codes "0000" ∷ codes "2400" ∷ codes "100" ∷ codes "0" ∷ codes "keep" ∷ codes "ends" ∷ codes ".pdf,.zip" ∷ []

pub adds_inbox : IsCommand (codes "box add in 20130524T000000Z 99991231T235959Z 1111111 0000 2400 100 0 keep ends .pdf,.zip") (AddBox (codes "in") inbox)
unfolding words_of_inbox
adds_inbox = record {
  words = codes "box" ∷ codes "add" ∷ codes "in" ∷ words_of_inbox;
  says = adds_box (codes "in") words_of_inbox inbox (record {
    opens = codes "20130524T000000Z";
    closes = codes "99991231T235959Z";
    quota = codes "100";
    max_files = codes "0";
    is_opens = may_24;
    is_closes = last;
    is_quota = is_100;
    is_max_files = is_0;
    are = refl;
  });
  is = refl;
}

pub inbox_has_form : HasForm (AddBox (codes "in") inbox)
inbox_has_form = (
  record { some = lit< tt; short = lit≤ tt; each = refl },
  record {
    opens = lit≤ tt;
    closes = lit≤ tt;
    week = refl;
    hours = lit< tt;
    day = lit≤ tt;
    quota = lit≤ tt;
    max_files = lit≤ tt;
    rule = (
      lit≤ tt,
      lit≤ tt,
      (
        record { word = record { some = lit< tt; short = lit≤ tt; each = refl }; utf8 = utf8 (codes ".pdf") (lit< tt, (lit< tt, (lit< tt, (lit< tt, tt)))) },
        (
          record { word = record { some = lit< tt; short = lit≤ tt; each = refl }; utf8 = utf8 (codes ".zip") (lit< tt, (lit< tt, (lit< tt, (lit< tt, tt)))) },
          tt,
        ),
      ),
    );
  },
)

pub closes_in : IsCommand (codes "box close in 20130524T000001Z") (CloseBox (codes "in") 1369353601)
closes_in = record {
  words = codes "box" ∷ codes "close" ∷ codes "in" ∷ codes "20130524T000001Z" ∷ [];
  says = closes_box (codes "in") (codes "20130524T000001Z") 1369353601 a_second_later;
  is = refl;
}

pub closing_has_form : HasForm (CloseBox (codes "in") 1369353601)
closing_has_form = (record { some = lit< tt; short = lit≤ tt; each = refl }, lit≤ tt)

-- what the nine texts after `box add in ` state
pub record SaysNine (texts : List (List ℕ)) : Type 0 where
  pub words : List (List ℕ)
  pub settings : Settings
  pub says : SaysSettings words settings
  pub nine : texts ≡ nine_texts words settings says

says_nine : (text : List ℕ) (texts : List (List ℕ)) → cut_spaces 8 text ≡ Some texts → (c : Command) → IsCommand (codes "box add in " ++ text) c → HasForm c → SaysNine texts
says_nine text texts cuts c is form =
    let b = added_box (codes "in " ++ text) c is form in
    let first = cut_once 32 (codes "in " ++ text) (codes "in") text b.name (join_with_byte 32 b.more) (refl, word_lacks is_box_byte 63 (codes "in") 32 refl (record { some = lit< tt; short = lit≤ tt; each = refl })) b.word b.text in
    record {
      words = b.more;
      settings = b.settings;
      says = b.says;
      nine = same_Some texts (nine_texts b.more b.settings b.says) (sym cuts ∙ cuts_settings text b.more b.settings b.says first.1);
    }

-- an hour has no 60th minute
pub no_minute_60 : (c : Command) → IsCommand (codes "box add in 20130101T000000Z 20130601T000000Z 1111111 2360 2400 100 0 keep any") c → HasForm c → ⊥
unfolding cut cut_spaces
no_minute_60 c is form =
    let s = says_nine (codes "20130101T000000Z 20130601T000000Z 1111111 2360 2400 100 0 keep any") (codes "20130101T000000Z" ∷ codes "20130601T000000Z" ∷ codes "1111111" ∷ codes "2360" ∷ codes "2400" ∷ codes "100" ∷ codes "0" ∷ codes "keep" ∷ codes "any" ∷ []) refl c is form in
    let from : codes "2360" ≡ minute_word s.settings.from_minute = ap (λ (t : List (List ℕ)). get_or t 3 []) s.nine in
    let tens : 54 ≡ get_or (minute_word s.settings.from_minute) 2 0 = ap (λ (t : List ℕ). get_or t 2 0) from in
    omega (arith, tens)

-- the number 1 has no zero in front of it
pub no_number_01 : (n : ℕ) → IsNumber (codes "01") n → ⊥
no_number_01 n is = let rest : codes "1" ≡ [] = is.first (codes "1") refl in absurd cc

pub no_leading_zero : (c : Command) → IsCommand (codes "box add in 20130101T000000Z 20130601T000000Z 1111111 0000 2400 01 0 keep any") c → HasForm c → ⊥
unfolding cut cut_spaces
no_leading_zero c is form =
    let s = says_nine (codes "20130101T000000Z 20130601T000000Z 1111111 0000 2400 01 0 keep any") (codes "20130101T000000Z" ∷ codes "20130601T000000Z" ∷ codes "1111111" ∷ codes "0000" ∷ codes "2400" ∷ codes "01" ∷ codes "0" ∷ codes "keep" ∷ codes "any" ∷ []) refl c is form in
    let quota : codes "01" ≡ s.says.quota = ap (λ (t : List (List ℕ)). get_or t 5 []) s.nine in
    no_number_01 s.settings.quota (subst (λ (t : List ℕ). IsNumber t s.settings.quota) (sym quota) s.says.is_quota)

-- ---- files: the name runs to the end, and begins with a space here

pub drops_a_b : IsCommand (codes "file drop in  a b") (DropFile (record { box = codes "in"; name = codes " a b" }))
drops_a_b = record {
  words = codes "file" ∷ codes "drop" ∷ codes "in" ∷ codes " a b" ∷ [];
  says = drops_file (record { box = codes "in"; name = codes " a b" });
  is = refl;
}

pub dropped_has_form : HasForm (DropFile (record { box = codes "in"; name = codes " a b" }))
dropped_has_form = (
  record { some = lit< tt; short = lit≤ tt; each = refl },
  record { some = lit< tt; text = utf8 (codes " a b") (lit< tt, (lit< tt, (lit< tt, (lit< tt, tt)))); plain = refl },
  lit≤ tt,
)

-- ---- limits, and allowances of 0 to 900 seconds

pub limits_k2 : IsCommand (codes "key limit k2 in") (LimitKey (codes "k2") (codes "in"))
limits_k2 = record { words = codes "key" ∷ codes "limit" ∷ codes "k2" ∷ codes "in" ∷ []; says = limits_key (codes "k2") (codes "in"); is = refl }

pub limited_k2_has_form : HasForm (LimitKey (codes "k2") (codes "in"))
limited_k2_has_form = (record { some = lit< tt; short = lit≤ tt; each = refl }, record { some = lit< tt; short = lit≤ tt; each = refl })

pub is_900 : IsNumber (codes "900") 900
is_900 = record { digits = record { some = lit< tt; short = lit≤ tt; each = refl }; first = λ rest e. absurd (differ 0 _ _ 57 48 e refl refl (λ f. omega arith)); value = refl }

pub allows_900 : IsCommand (codes "office allow 900") (SetAllowance 900)
allows_900 = record { words = codes "office" ∷ codes "allow" ∷ codes "900" ∷ []; says = sets_allowance (codes "900") 900 is_900; is = refl }

pub allowed_900_has_form : HasForm (SetAllowance 900)
allowed_900_has_form = lit≤ tt

pub allows_0 : IsCommand (codes "office allow 0") (SetAllowance 0)
allows_0 = record { words = codes "office" ∷ codes "allow" ∷ codes "0" ∷ []; says = sets_allowance (codes "0") 0 is_0; is = refl }

-- 901 seconds are too many
pub no_allowance_901 : (c : Command) → IsCommand (codes "office allow 901") c → HasForm c → ⊥
no_allowance_901 c is form =
    let a = set_allowance (codes "901") c is in
    let bound : a.seconds ≤ 900 = subst HasForm a.command form in
    omega (arith, ints, bound, a.number.value)

-- no zero stands in front of a number, or in front of 0 itself
no_zero_before : (rest : List ℕ) (c : Command) → IsCommand (codes "office allow 0" ++ rest) c → (rest ≡ [] → ⊥) → ⊥
no_zero_before rest c is some = let a = set_allowance (48 ∷ rest) c is in some (a.number.first rest refl)

pub no_allowance_0900 : (c : Command) → IsCommand (codes "office allow 0900") c → ⊥
no_allowance_0900 c is = no_zero_before (codes "900") c is (λ e. cc)

pub no_allowance_00 : (c : Command) → IsCommand (codes "office allow 00") c → ⊥
no_allowance_00 c is = no_zero_before (codes "0") c is (λ e. cc)
