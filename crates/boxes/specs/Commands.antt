-- The forms of desk commands.
use Rattle.std.specs.Prelude.{◌≤◌, length}
use Rattle.sigv4.specs.Allowances.{most_allowance}
use Rattle.sigv4.specs.Credential.{IsKeyId, IsSecret}
use Rattle.boxes.specs.Rules.{IsName}
use Rattle.boxes.specs.Sound.{IsBoxName, AreSettings, IsMoment}
use Rattle.boxes.specs.Steps.{Command, AddKey, RevokeKey, AddBox, CloseBox, DropFile, LimitKey, SetAllowance}

-- the texts and numbers of a command have the forms that a sound state requires
abbrev pub HasForm : Command → Type 0
HasForm (AddKey id role secret) = IsKeyId id × IsSecret secret
HasForm (RevokeKey id) = IsKeyId id
HasForm (AddBox name settings) = IsBoxName name × AreSettings settings
HasForm (CloseBox name moment) = IsBoxName name × IsMoment moment
HasForm (DropFile place) = IsBoxName place.box × IsName place.name × (length place.name ≤ 1024)
HasForm (LimitKey id box) = IsKeyId id × IsBoxName box
HasForm (SetAllowance seconds) = seconds ≤ most_allowance
