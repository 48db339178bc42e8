-- Edge cases of sound states, and of the forms of desk commands.
use Rattle.std.proofs.Common.{◌≡◌, ◌<◌, ◌≤◌, ℕ, zero, suc, Bool, List, [], ◌∷◌, length, codes, replicate, true, lit<, lit≤, arith, refl, subst}
use Rattle.std.specs.Prelude.{pos, neg_ℤ, ◌≤ℤ◌, IsSomeAnd, IsTrue, IsUtf8, ⊤}
use Rattle.std.specs.List.{list_all}
use Rattle.std.specs.FinMap.{get}
use Rattle.sigtext.specs.Bytes.{AreBytes}
use Rattle.sigv4.specs.Credential.{IsKeyId, IsSecret}
use Rattle.boxes.specs.declared.rows.Role.{Role}
use Rattle.boxes.specs.declared.rows.Mode.TheVariants.{Keep}
use Rattle.boxes.specs.State.{AnyName, Ends, Begins, Settings, Place, Receipt, State}
use Rattle.boxes.specs.Opening.{Fits}
use Rattle.boxes.specs.Rules.{IsName}
use Rattle.boxes.specs.Sound.{is_rule_byte, IsDigest, IsMoment, IsBoxName, IsRuleText, IsNameRule, AreSettings, IsReceipt, IsFileOf, IsSound}
use Rattle.boxes.specs.Changes.{IsBrought}
use Rattle.boxes.specs.FirstState.{first_state}
use Rattle.boxes.specs.Steps.{AddKey, RevokeKey, AddBox, CloseBox, DropFile, LimitKey, SetAllowance}
use Rattle.boxes.specs.Commands.{HasForm}
use Rattle.boxes.proofs.SoundFirstState.{sound_first_state}

-- ---- moments: 9999-12-31T23:59:59Z is the last

pub last_moment : IsMoment 253402300799
last_moment = lit≤ tt

pub no_later_moment : IsMoment 253402300800 → ⊥
no_later_moment is = omega arith

-- ---- names of boxes

pub name_of_63 : IsBoxName (replicate 63 97)
name_of_63 = record { some = lit< tt; short = lit≤ tt; each = refl }

pub no_name_of_64 : (name : List ℕ) → length name ≡ 64 → IsBoxName name → ⊥
no_name_of_64 name long is = let short : length name ≤ 63 = is.short in omega arith

pub all_kinds : IsBoxName (codes "az-09.")
all_kinds = record { some = lit< tt; short = lit≤ tt; each = refl }

pub no_capitals : IsBoxName (codes "A") → ⊥
no_capitals is = let each = is.each in absurd cc

pub no_underscore : IsBoxName (codes "_") → ⊥
no_underscore is = let each = is.each in absurd cc

pub no_slash : IsBoxName (codes "/") → ⊥
no_slash is = let each = is.each in absurd cc

pub not_empty : IsBoxName [] → ⊥
not_empty is = let some : 0 < length {A = ℕ} [] = is.some in omega arith

-- ---- rules on names

pub text_of_32 : (text : List ℕ) → length text ≡ 32 → IsTrue (list_all is_rule_byte text) → IsUtf8 text → IsNameRule (Ends (text ∷ []))
text_of_32 text long each utf8 = (lit≤ tt, lit≤ tt, (record { word = record { some = omega arith; short = omega arith; each = each }; utf8 = utf8 }, tt))

pub no_text_of_33 : (text : List ℕ) → length text ≡ 33 → IsNameRule (Ends (text ∷ [])) → ⊥
no_text_of_33 text long (least, most, (is, rest)) = let short : length text ≤ 32 = is.word.short in omega arith

pub text_of_64 : (text : List ℕ) → length text ≡ 64 → IsTrue (list_all is_rule_byte text) → IsUtf8 text → IsNameRule (Begins text)
text_of_64 text long each utf8 = record { word = record { some = omega arith; short = omega arith; each = each }; utf8 = utf8 }

pub no_text_of_65 : (text : List ℕ) → length text ≡ 65 → IsNameRule (Begins text) → ⊥
no_text_of_65 text long is = let short : length text ≤ 64 = is.word.short in omega arith

pub eight_texts : (t : List ℕ) → IsRuleText 32 t → IsNameRule (Ends (t ∷ t ∷ t ∷ t ∷ t ∷ t ∷ t ∷ t ∷ []))
eight_texts t is = (lit≤ tt, lit≤ tt, (is, (is, (is, (is, (is, (is, (is, (is, tt)))))))))

pub no_nine_texts : (texts : List (List ℕ)) → length texts ≡ 9 → IsNameRule (Ends texts) → ⊥
no_nine_texts texts many (least, most, each) = omega arith

pub some_text : IsNameRule (Ends []) → ⊥
some_text (least, most, each) = let one : 1 ≤ length {A = List ℕ} [] = least in omega arith

pub no_comma : IsNameRule (Begins (codes ",")) → ⊥
no_comma is = let each = is.word.each in absurd cc

pub no_space : IsNameRule (Begins (codes " ")) → ⊥
no_space is = let each = is.word.each in absurd cc

pub no_delete : IsNameRule (Begins (0x7F ∷ [])) → ⊥
no_delete is = let each = is.word.each in absurd cc

-- the bytes next to the forbidden ones
pub beside_the_barred : IsUtf8 (0x21 ∷ 0x2B ∷ 0x2D ∷ 0x7E ∷ 0xC2 ∷ 0x80 ∷ []) → IsNameRule (Begins (0x21 ∷ 0x2B ∷ 0x2D ∷ 0x7E ∷ 0xC2 ∷ 0x80 ∷ []))
beside_the_barred utf8 = record { word = record { some = lit< tt; short = lit≤ tt; each = refl }; utf8 = utf8 }

-- ---- settings

abbrev settings : ℕ → ℕ → List Bool → ℕ → ℕ → ℕ → ℕ → Settings
settings opens closes days from to quota max_files = record {
  opens = opens;
  closes = closes;
  days = days;
  from_minute = from;
  to_minute = to;
  quota = quota;
  max_files = max_files;
  mode = Keep;
  rule = AnyName;
}

abbrev week : List Bool
week = replicate 7 true

pub greatest_settings : AreSettings (settings 253402300799 253402300799 week 1439 1440 1000000000000 1000000)
greatest_settings = record { opens = lit≤ tt; closes = lit≤ tt; week = refl; hours = lit< tt; day = lit≤ tt; quota = lit≤ tt; max_files = lit≤ tt; rule = tt }

pub least_settings : AreSettings (settings 0 0 week 0 1 0 0)
least_settings = record { opens = lit≤ tt; closes = lit≤ tt; week = refl; hours = lit< tt; day = lit≤ tt; quota = lit≤ tt; max_files = lit≤ tt; rule = tt }

pub opens_too_late : AreSettings (settings 253402300800 0 week 0 1440 0 0) → ⊥
opens_too_late are = let moment : 253402300800 ≤ 253402300799 = are.opens in omega arith

pub closes_too_late : AreSettings (settings 0 253402300800 week 0 1440 0 0) → ⊥
closes_too_late are = let moment : 253402300800 ≤ 253402300799 = are.closes in omega arith

pub no_six_days : AreSettings (settings 0 0 (replicate 6 true) 0 1440 0 0) → ⊥
no_six_days are = let days : ◌≡◌ {A = ℕ} 6 7 = are.week in omega arith

pub no_eight_days : AreSettings (settings 0 0 (replicate 8 true) 0 1440 0 0) → ⊥
no_eight_days are = let days : ◌≡◌ {A = ℕ} 8 7 = are.week in omega arith

pub no_empty_hours : AreSettings (settings 0 0 week 60 60 0 0) → ⊥
no_empty_hours are = let hours : 60 < 60 = are.hours in omega arith

pub no_longer_day : AreSettings (settings 0 0 week 0 1441 0 0) → ⊥
no_longer_day are = let day : 1441 ≤ 1440 = are.day in omega arith

pub no_larger_quota : AreSettings (settings 0 0 week 0 1440 1000000000001 0) → ⊥
no_larger_quota are = let quota : 1000000000001 ≤ 1000000000000 = are.quota in omega arith

pub no_more_files : AreSettings (settings 0 0 week 0 1440 0 1000001) → ⊥
no_more_files are = let files : 1000001 ≤ 1000000 = are.max_files in omega arith

-- ---- receipts and files: each part at its limit, and one more

pub greatest_receipt : (s : State) (r : Receipt) → IsSomeAnd (get s.boxes r.box) (λ b. Fits b.rule r.name) → IsName r.name → length r.name ≡ 1024
    → r.size ≡ 8388608 → IsDigest r.digest → r.moment ≡ 253402300799 → IsSomeAnd (get s.keys r.key) (λ k. ⊤) → IsReceipt s r
greatest_receipt s r box name long size digest moment key =
    record { box = box; name = name; short = omega arith; size = omega arith; digest = digest; moment = omega arith; key = key }

pub no_longer_name : (s : State) (r : Receipt) → length r.name ≡ 1025 → IsReceipt s r → ⊥
no_longer_name s r long is = let short : length r.name ≤ 1024 = is.short in omega arith

pub no_larger_size : (s : State) (r : Receipt) → r.size ≡ 8388609 → IsReceipt s r → ⊥
no_larger_size s r large is = let size : r.size ≤ 8388608 = is.size in omega arith

pub no_later_receipt : (s : State) (r : Receipt) → r.moment ≡ 253402300800 → IsReceipt s r → ⊥
no_later_receipt s r late is = let moment : r.moment ≤ 253402300799 = is.moment in omega arith

-- a digest has 32 bytes, and a byte is at most 255

pub greatest_digest : IsDigest (replicate 32 255)
greatest_digest = (refl, greatest 32)
  where
    greatest : (n : ℕ) → AreBytes (replicate n 255)
    greatest zero = tt
    greatest (suc n) = (lit< tt, greatest n)

pub no_shorter_digest : IsDigest (replicate 31 255) → ⊥
no_shorter_digest is = let long : ◌≡◌ {A = ℕ} 31 32 = is.0 in omega arith

pub no_digest_of_numbers : IsDigest (replicate 32 256) → ⊥
no_digest_of_numbers is = let first : 256 < 256 = is.1.0 in omega arith

-- a file's bytes are at most 255 too

pub no_file_of_numbers : (s : State) (place : Place) (receipt : ℕ) → IsFileOf s place (record { bytes = 256 ∷ []; receipt = receipt }) → ⊥
no_file_of_numbers s place receipt is = let first : 256 < 256 = is.bytes.0 in omega arith

pub no_upload_of_numbers : (s : State) (place : Place) (now : ℕ) (key : List ℕ) → IsBrought s (record { place = place; bytes = 256 ∷ []; now = now; key = key }) → ⊥
no_upload_of_numbers s place now key is = let first : 256 < 256 = is.bytes.0 in omega arith

-- ---- offsets of fourteen hours, and one minute more

pub furthest_east : (id secret : List ℕ) → IsKeyId id → IsSecret secret → IsSound (first_state (pos 840) 900 id secret)
furthest_east id secret = sound_first_state (pos 840) 900 id secret (record { le = tt }) (record { le = tt }) (lit≤ tt)

pub furthest_west : (id secret : List ℕ) → IsKeyId id → IsSecret secret → IsSound (first_state (neg_ℤ (pos 840)) 0 id secret)
furthest_west id secret = sound_first_state (neg_ℤ (pos 840)) 0 id secret (record { le = tt }) (record { le = tt }) (lit≤ tt)

pub not_further_east : (s : State) → s.offset ≡ pos 841 → IsSound s → ⊥
not_further_east s is sound = (subst (λ o. o ≤ℤ pos 840) is sound.east.1).le

pub not_further_west : (s : State) → s.offset ≡ neg_ℤ (pos 841) → IsSound s → ⊥
not_further_west s is sound = (subst (λ o. neg_ℤ (pos 840) ≤ℤ o) is sound.east.0).le

-- ---- allowances of 900 seconds, and one second more

pub no_longer_allowance : (s : State) → s.allowance ≡ 901 → IsSound s → ⊥
no_longer_allowance s is sound = let few : s.allowance ≤ 900 = sound.allowance in omega arith

-- ---- desk commands

pub no_key_without_id : (role : Role) (secret : List ℕ) → HasForm (AddKey [] role secret) → ⊥
no_key_without_id role secret (id, rest) = let some : 0 < length {A = ℕ} [] = id.some in omega arith

pub no_key_without_secret : (role : Role) (id : List ℕ) → HasForm (AddKey id role []) → ⊥
no_key_without_secret role id (first, secret) = let some : 0 < length {A = ℕ} [] = secret.some in omega arith

pub no_long_id : (role : Role) (id secret : List ℕ) → length id ≡ 65 → HasForm (AddKey id role secret) → ⊥
no_long_id role id secret long (first, rest) = let short : length id ≤ 64 = first.short in omega arith

pub revokes_ids_alone : (id : List ℕ) → length id ≡ 65 → HasForm (RevokeKey id) → ⊥
revokes_ids_alone id long is = let short : length id ≤ 64 = is.short in omega arith

pub adds_settings_alone : (b : Settings) → b.from_minute ≡ b.to_minute → HasForm (AddBox (codes "in") b) → ⊥
adds_settings_alone b same (name, are) = let hours : b.from_minute < b.to_minute = are.hours in omega arith

pub adds_named_boxes_alone : (b : Settings) → HasForm (AddBox (codes "/") b) → ⊥
adds_named_boxes_alone b (name, are) = no_slash name

pub closes_at_the_last_moment : HasForm (CloseBox (codes "in") 253402300799)
closes_at_the_last_moment = (record { some = lit< tt; short = lit≤ tt; each = refl }, lit≤ tt)

pub closes_no_later : (name : List ℕ) → HasForm (CloseBox name 253402300800) → ⊥
closes_no_later name (is, moment) = no_later_moment moment

pub drops_names_of_1024 : (place : Place) → IsBoxName place.box → IsName place.name → length place.name ≡ 1024 → HasForm (DropFile place)
drops_names_of_1024 place box name long = (box, name, omega arith)

pub drops_no_name_of_1025 : (place : Place) → length place.name ≡ 1025 → HasForm (DropFile place) → ⊥
drops_no_name_of_1025 place long (box, name, short) = omega arith

pub limits_to_named_boxes_alone : (id : List ℕ) → HasForm (LimitKey id (codes "/")) → ⊥
limits_to_named_boxes_alone id (key, name) = no_slash name

pub allows_900_seconds : HasForm (SetAllowance 900)
allows_900_seconds = lit≤ tt

pub allows_no_901 : HasForm (SetAllowance 901) → ⊥
allows_no_901 is = omega arith
