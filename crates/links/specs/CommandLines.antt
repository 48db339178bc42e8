-- The meaning of a desk command that was read.
use Rattle.std.specs.Prelude.{◌≡◌, ◌⊎◌, ℕ, List, [], ◌∷◌, ◌++◌, codes, Option, Some, option_map}
use Rattle.sigv4.specs.Dates.{WritesMoment}
use Rattle.boxes.specs.Commands.{HasForm}
use Rattle.boxes.specs.State.{Settings}
use Rattle.boxes.specs.Steps.{Command, AddKey, RevokeKey, AddBox, CloseBox, DropFile, LimitKey, SetAllowance}
use Rattle.boxes.specs.Rows.{settings_of}
use Rattle.links.specs.CommandTexts.{days_word, minute_word, mode_word, IsCommand, IsNumber}
use Rattle.links.specs.declared.desk.line.DeskLine.{DeskLine}
use Rattle.links.specs.declared.desk.line.DeskLine.TheVariants as line
use Rattle.links.specs.declared.desk.settings.SettingsWords.{SettingsWords}

abbrev pub said : DeskLine → Command
said (line.AddKey id role secret) = AddKey id.now role secret.now
said (line.RevokeKey id) = RevokeKey id.now
said (line.AddBox name row) = AddBox name.now (settings_of row)
said (line.CloseBox name moment) = CloseBox name.now moment
said (line.DropFile box name) = DropFile (record { box = box.now; name = name.now })
said (line.LimitKey id box) = LimitKey id.now box.now
said (line.SetAllowance seconds) = SetAllowance seconds

-- the line is the command that the text stands for
abbrev pub SaysCommand : List ℕ → DeskLine → Type 0
SaysCommand text l = IsCommand text (said l)

-- if the text stands for a well-formed command, that command was found
abbrev pub FindsCommand : List ℕ → Option DeskLine → Type 0
FindsCommand text found = (c : Command) → IsCommand text c → HasForm c → option_map said found ≡ Some c

-- the nine texts of a box's settings; the rule's text has one word or two
abbrev pub texts_of : SettingsWords → List (List ℕ)
texts_of w =
    w.opens.now ∷ w.closes.now ∷ w.days.now ∷ w.from.now ∷ w.to.now ∷ w.quota.now ∷ w.max_files.now ∷ w.mode.now
    ∷ w.rule.now ∷ []

-- the texts say what the box is set to, all but its rule
pub record SayRow (w : SettingsWords) (b : Settings) : Type 0 where
  pub opens : WritesMoment w.opens.now b.opens
  pub closes : WritesMoment w.closes.now b.closes
  pub days : w.days.now ≡ days_word b.days
  pub from_minute : w.from.now ≡ minute_word b.from_minute
  pub to_minute : w.to.now ≡ minute_word b.to_minute
  pub quota : IsNumber w.quota.now b.quota
  pub max_files : IsNumber w.max_files.now b.max_files
  pub mode : w.mode.now ≡ mode_word b.mode

-- ` ends ` or ` begins ` occurs in the text
abbrev pub HasRuleWord : List ℕ → Type 0
HasRuleWord text = (front rest : List ℕ) × ((text ≡ front ++ (codes " ends " ++ rest)) ⊎ (text ≡ front ++ (codes " begins " ++ rest)))

-- the text begins with `box add `, and one of the two words occurs after it
abbrev pub HasListedRule : List ℕ → Type 0
HasListedRule line = (words : List ℕ) × (line ≡ codes "box add " ++ words) × HasRuleWord words
