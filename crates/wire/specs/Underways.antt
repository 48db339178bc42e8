-- Messages whose bodies come over several turns.
use Rattle.std.specs.Prelude.{◌≡◌, ℕ, ◌-◌, ◌≤◌, Bool, List, [], length, take, Option, None, Some}
use Rattle.std.specs.Option.{ForSome}
use Rattle.sigtext.specs.Readable.{IsReadable}
use Rattle.sigv4.specs.Hashers.{ShaHolds}
use Rattle.wire.specs.Feeding.{Opens}
use Rattle.wire.specs.Feeds.{given_before, stood_at}
use Rattle.wire.specs.Framing.{request_of}
use Rattle.wire.specs.declared.feed.Place.{Place}
use Rattle.wire.specs.declared.feed.Place.TheVariants as place
use Rattle.wire.specs.declared.standing.Standing.{Standing}
use Rattle.wire.specs.declared.underway.Kept.{Kept}
use Rattle.wire.specs.declared.underway.Underway.{Underway}

-- the text is a whole head that announces a body of n bytes
abbrev pub IsWholeHead : List ℕ → ℕ → Type 0
IsWholeHead text n = ∥ ((has_length : Bool) × Opens text has_length n) ∥₁

-- These bytes of a body are kept, and their hasher was fed with them. The message with this head is readable.
pub record IsKept (head given : List ℕ) (kept : Kept) : Type 0 where
  pub bytes : kept.bytes.items ≡ given
  pub fed : ∥ ShaHolds kept.sha given ∥₁
  pub readable : (has_length : Bool) (n : ℕ) (o : Opens head has_length n) → ∥ IsReadable (request_of o.head has_length []) ∥₁

-- A head was read that announces a body of n bytes, and these bytes of the body were given. If the body is one to
-- be kept, exactly they are kept. The feed stands in the rest of the body.
pub record IsBegun (head : List ℕ) (n : ℕ) (kept : Option Kept) (p : Place) (given : List ℕ) : Type 0 where
  pub whole : IsWholeHead head n
  pub fits : length given ≤ n
  pub stands : p ≡ place.Body (n - length given)
  pub holds : ForSome kept (IsKept head given)

-- the head of the message
abbrev pub head_of : Underway → List ℕ
head_of u = take u.len u.text.value

-- a feed that was set aside stands within the body of this message
abbrev pub IsUnderway : Underway → Standing → Type 0
IsUnderway u standing = IsBegun (head_of u) u.size u.kept (stood_at standing) (given_before standing)

-- the head of the message whose body has not come whole, if there is one
abbrev pub begun_by : Option Underway → List ℕ
begun_by None = []
begun_by (Some u) = head_of u
