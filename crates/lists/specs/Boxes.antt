-- The list of boxes.
use Rattle.std.specs.Prelude.{◌≡◌, ℕ, List, [], ◌∷◌, codes, decimal}
use Rattle.std.specs.List.{join_with_byte}
use Rattle.sigv4.specs.Dates.{WritesMoment}
use Rattle.boxes.specs.State.{Settings, State}
use Rattle.boxes.specs.Totals.{used, count}
use Rattle.boxes.specs.declared.totals.Totals.{Totals}
use Rattle.lists.specs.Lists.{line}
use Rattle.links.specs.CommandTexts.{days_word, minute_word, mode_word, rule_words}

abbrev pub boxes_head : List (List ℕ)
boxes_head = codes "box" ∷ codes "opens" ∷ codes "closes" ∷ codes "days" ∷ codes "from" ∷ codes "to" ∷ codes "quota"
    ∷ codes "files" ∷ codes "mode" ∷ codes "rule" ∷ codes "used" ∷ codes "count" ∷ []

-- the record of a box with this name and these settings that holds `bytes` bytes and `files` files
pub record IsBoxRecord (name : List ℕ) (b : Settings) (bytes files : ℕ) (fields : List (List ℕ)) : Type 0 where
  pub opens : List ℕ
  pub closes : List ℕ
  pub is_opens : WritesMoment opens b.opens
  pub is_closes : WritesMoment closes b.closes
  pub are : fields ≡ name ∷ opens ∷ closes ∷ days_word b.days ∷ minute_word b.from_minute ∷ minute_word b.to_minute
      ∷ decimal b.quota ∷ decimal b.max_files ∷ mode_word b.mode ∷ join_with_byte 32 (rule_words b.rule) ∷ decimal bytes
      ∷ decimal files ∷ []

-- the line of a box, given with its name
abbrev pub IsBoxLine : State → List ℕ × Settings → List ℕ → Type 0
IsBoxLine s it text = (fields : List (List ℕ)) × IsBoxRecord it.0 it.1 (used s it.0) (count s it.0) fields × (text ≡ line fields)

-- the line of a box with these totals
abbrev pub IsTotalsLine : List ℕ → Settings → Totals → List ℕ → Type 0
IsTotalsLine name b totals text = (fields : List (List ℕ)) × IsBoxRecord name b totals.used totals.count fields × (text ≡ line fields)
