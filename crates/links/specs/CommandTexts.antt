-- The texts of desk commands.
use Rattle.std.specs.Prelude.{◌≡◌, ℕ, ◌/◌, ◌%◌, Bool, true, false, List, [], ◌∷◌, ◌++◌, map, codes}
use Rattle.std.specs.List.{join_with_byte}
use Rattle.std.specs.Char.{is_ascii_digit}
use Rattle.std.specs.Str.Parse.{digits_value}
use Rattle.sigtext.specs.Bytes.{IsWord}
use Rattle.sigv4.specs.Dates.{two_digits, WritesMoment}
use Rattle.boxes.specs.declared.rows.Role.{Role}
use Rattle.boxes.specs.declared.rows.Role.TheVariants as role
use Rattle.boxes.specs.declared.rows.Mode.{Mode}
use Rattle.boxes.specs.declared.rows.Mode.TheVariants as mode
use Rattle.boxes.specs.State.{NameRule, AnyName, Ends, Begins, Settings, Place}
use Rattle.boxes.specs.Steps.{Command, AddKey, RevokeKey, AddBox, CloseBox, DropFile, LimitKey, SetAllowance}

abbrev pub role_word : Role → List ℕ
role_word role.Clerk = codes "clerk"
role_word role.Link = codes "link"

abbrev pub mode_word : Mode → List ℕ
mode_word mode.Keep = codes "keep"
mode_word mode.Replace = codes "replace"

abbrev pub day_digit : Bool → ℕ
day_digit true = 49
day_digit false = 48

-- a digit for each day: 1 if the box is open on it
abbrev pub days_word : List Bool → List ℕ
days_word days = map day_digit days

-- HHmm
abbrev pub minute_word : ℕ → List ℕ
minute_word minute = two_digits (minute / 60) ++ two_digits (minute % 60)

-- Digits without a leading zero, except for the number 0. No number in a command has more than 13.
pub record IsNumber (text : List ℕ) (n : ℕ) : Type 0 where
  pub digits : IsWord is_ascii_digit 13 text
  pub first : (rest : List ℕ) → text ≡ 48 ∷ rest → rest ≡ []
  pub value : n ≡ digits_value 10 text

-- the texts of a rule, joined by commas
abbrev pub rule_words : NameRule → List (List ℕ)
rule_words AnyName = codes "any" ∷ []
rule_words (Ends texts) = codes "ends" ∷ join_with_byte 44 texts ∷ []
rule_words (Begins text) = codes "begins" ∷ text ∷ []

-- the words of a box's settings: when it opens and closes, its days and hours, its quota, its greatest number
-- of files, its mode and its name rule
pub record SaysSettings (words : List (List ℕ)) (b : Settings) : Type 0 where
  pub opens : List ℕ
  pub closes : List ℕ
  pub quota : List ℕ
  pub max_files : List ℕ
  pub is_opens : WritesMoment opens b.opens
  pub is_closes : WritesMoment closes b.closes
  pub is_quota : IsNumber quota b.quota
  pub is_max_files : IsNumber max_files b.max_files
  pub are : words ≡ opens ∷ closes ∷ days_word b.days ∷ minute_word b.from_minute ∷ minute_word b.to_minute
      ∷ quota ∷ max_files ∷ mode_word b.mode ∷ rule_words b.rule

-- the text is these words, joined by single spaces
abbrev pub SpellsSettings : List ℕ → Settings → Type 0
SpellsSettings text b = (words : List (List ℕ)) × SaysSettings words b × (text ≡ join_with_byte 32 words)

-- the words of a command
pub data Says : List (List ℕ) → Command → Type 0 where
  adds_key : (id : List ℕ) (role : Role) (secret : List ℕ)
      → Says (codes "key" ∷ codes "add" ∷ id ∷ role_word role ∷ secret ∷ []) (AddKey id role secret)
  revokes_key : (id : List ℕ) → Says (codes "key" ∷ codes "revoke" ∷ id ∷ []) (RevokeKey id)
  adds_box : (name : List ℕ) (words : List (List ℕ)) (settings : Settings) → SaysSettings words settings
      → Says (codes "box" ∷ codes "add" ∷ name ∷ words) (AddBox name settings)
  closes_box : (name text : List ℕ) (moment : ℕ) → WritesMoment text moment
      → Says (codes "box" ∷ codes "close" ∷ name ∷ text ∷ []) (CloseBox name moment)
  drops_file : (place : Place) → Says (codes "file" ∷ codes "drop" ∷ place.box ∷ place.name ∷ []) (DropFile place)
  limits_key : (id box : List ℕ) → Says (codes "key" ∷ codes "limit" ∷ id ∷ box ∷ []) (LimitKey id box)
  sets_allowance : (text : List ℕ) (seconds : ℕ) → IsNumber text seconds
      → Says (codes "office" ∷ codes "allow" ∷ text ∷ []) (SetAllowance seconds)

-- the text is the command's words, joined by single spaces
pub record IsCommand (text : List ℕ) (command : Command) : Type 0 where
  pub words : List (List ℕ)
  pub says : Says words command
  pub is : text ≡ join_with_byte 32 words
