-- The state after each desk command.
use Rattle.std.proofs.Common.{◌≡◌, ℕ, List, false, true, Some, refl}
use Rattle.std.specs.FinMap.{get, insert, remove}
use Rattle.boxes.specs.declared.rows.Role.{Role}
use Rattle.boxes.specs.State.{Key, Settings, Place, State}
use Rattle.boxes.specs.Steps.{CommandStep, AddKey, RevokeKey, AddBox, CloseBox, DropFile, LimitKey, SetAllowance, key_added, key_revoked, box_added, box_closed, file_dropped, key_limited, allowance_set}

pub key_added_is : (s : State) (id : List ℕ) (role : Role) (secret : List ℕ) (after : State) → CommandStep s (AddKey id role secret) after
    → after ≡ record s { keys = insert s.keys id (record { role = role; secret = secret; revoked = false }) }
key_added_is s id role secret after (key_added i r t) = refl

pub key_revoked_is : (s : State) (id : List ℕ) (after : State) → CommandStep s (RevokeKey id) after
    → (k : Key) × (get s.keys id ≡ Some k) × (after ≡ record s { keys = insert s.keys id (record k { revoked = true }) })
key_revoked_is s id after (key_revoked i k e) = (k, e, refl)

pub box_added_is : (s : State) (name : List ℕ) (b : Settings) (after : State) → CommandStep s (AddBox name b) after
    → after ≡ record s { boxes = insert s.boxes name b }
box_added_is s name b after (box_added n x) = refl

pub box_closed_is : (s : State) (name : List ℕ) (moment : ℕ) (after : State) → CommandStep s (CloseBox name moment) after
    → (b : Settings) × (get s.boxes name ≡ Some b) × (after ≡ record s { boxes = insert s.boxes name (record b { closes = moment }) })
box_closed_is s name moment after (box_closed n m b e) = (b, e, refl)

pub file_dropped_is : (s : State) (place : Place) (after : State) → CommandStep s (DropFile place) after
    → after ≡ record s { files = remove s.files place }
file_dropped_is s place after (file_dropped p) = refl

pub key_limited_is : (s : State) (id box : List ℕ) (after : State) → CommandStep s (LimitKey id box) after
    → after ≡ record s { limits = insert s.limits (record { key = id; box = box }) tt }
key_limited_is s id box after (key_limited i b) = refl

pub allowance_set_is : (s : State) (seconds : ℕ) (after : State) → CommandStep s (SetAllowance seconds) after
    → after ≡ record s { allowance = seconds }
allowance_set_is s seconds after (allowance_set n) = refl
