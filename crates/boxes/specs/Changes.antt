-- Which changes the rules allow in a state, and the state after each.
use Rattle.std.specs.Prelude.{◌≡◌, ℕ, ◌+◌, ◌≤◌, List, length, ⊤, IsSome}
use Rattle.std.specs.FinMap.{get}
use Rattle.sigtext.specs.Bytes.{AreBytes}
use Rattle.sigtext.specs.Limits.{most_body}
use Rattle.sigtext.specs.declared.refusal.Refusal.{Refusal}
use Rattle.sigv4.specs.Hmac.{sha256}
use Rattle.boxes.specs.declared.change.Command as row
use Rattle.boxes.specs.declared.change.Command.TheVariants as command
use Rattle.boxes.specs.declared.change.NewFile.{NewFile}
use Rattle.boxes.specs.declared.change.Change.{Change}
use Rattle.boxes.specs.declared.change.Change.TheVariants as change
use Rattle.boxes.specs.State.{State}
use Rattle.boxes.specs.Rules.{Upload, UploadRule, Stands}
use Rattle.boxes.specs.Rows.{settings_of}
use Rattle.boxes.specs.Sound.{IsMoment}
use Rattle.boxes.specs.Steps.{Command, AddKey, RevokeKey, AddBox, CloseBox, DropFile, LimitKey, SetAllowance, IsPossible, CommandStep, after_upload}
use Rattle.boxes.specs.Commands.{HasForm}

-- the command that a `Command` of the code means
abbrev pub command_of : row.Command → Command
command_of (command.AddKey id role secret) = AddKey id.now role secret.now
command_of (command.RevokeKey id) = RevokeKey id.now
command_of (command.AddBox name box) = AddBox name.now (settings_of box.now)
command_of (command.CloseBox name moment) = CloseBox name.now moment
command_of (command.DropFile box name) = DropFile (record { box = box.now; name = name.now })
command_of (command.LimitKey id box) = LimitKey id.now box.now
command_of (command.SetAllowance seconds) = SetAllowance seconds

-- what each upload that reaches the rules of boxes has: bytes within the limit, a moment, a key that exists
pub record IsBrought (s : State) (u : Upload) : Type 0 where
  pub bytes : AreBytes u.bytes
  pub short : length u.bytes ≤ most_body
  pub moment : IsMoment u.now
  pub key : IsSome (get s.keys u.key)

-- an upload that no rule refuses, and whose bytes are not already stored
pub record IsTaken (s : State) (u : Upload) : Type 0 where
  pub brought : IsBrought s u
  pub rules : (r : Refusal) → UploadRule r s u
  pub new : Stands s u → ⊥

-- a possible command that has its form, and the state after it
pub record IsObeyed (s : State) (c : Command) (after : State) : Type 0 where
  pub form : HasForm c
  pub possible : IsPossible s c
  pub step : CommandStep s c after

-- the upload of a file that is set to these bytes
abbrev pub upload_in : NewFile → List ℕ → Upload
upload_in f bytes = record { place = record { box = f.in_box.now; name = f.name.now }; bytes = bytes; now = f.moment; key = f.key.now }

-- the file's receipt has the next number, and is of these bytes
pub record IsFileFor (s : State) (f : NewFile) (bytes : List ℕ) : Type 0 where
  pub number : f.number ≡ length s.receipts + 1
  pub size : f.size ≡ length bytes
  pub digest : f.digest ≡ sha256 bytes

-- the rules accept the file, and `after` is the state with it set
pub record IsFileSet (s : State) (f : NewFile) (bytes : List ℕ) (after : State) : Type 0 where
  pub taken : IsTaken s (upload_in f bytes)
  pub file : IsFileFor s f bytes
  pub sets : after ≡ after_upload s (upload_in f bytes)

-- the rules allow the change, and it leads from the first state to the second; a file is set to the staged bytes
abbrev pub IsChangeOf : (List ℕ → Type 0) → State → Change → State → Type 0
IsChangeOf Stages s (change.SetFile f) after = (bytes : List ℕ) × Stages bytes × IsFileSet s f bytes after
IsChangeOf Stages s (change.Desk c) after = IsObeyed s (command_of c) after

-- the same, whatever bytes are staged
abbrev pub MayChange : State → Change → State → Type 0
MayChange = IsChangeOf (λ bytes. ⊤)

-- the change uses up the staged bytes
abbrev pub TakesStaged : Change → Type 0
TakesStaged (change.SetFile f) = ⊤
TakesStaged (change.Desk c) = ⊥

-- the greatest number of receipts that an office may have
abbrev pub most_receipts : ℕ
most_receipts = 4000000000

-- the change adds a receipt, and there is no room for one
abbrev pub IsPastFull : State → Change → Type 0
IsPastFull s (change.SetFile f) = most_receipts ≤ length s.receipts
IsPastFull s (change.Desk c) = ⊥
