-- The length of a message, as its head tells it.
use Rattle.std.specs.Prelude.{◌≡◌, ℕ, ◌+◌, ◌≤◌, Bool, List, length, take}
use Rattle.httparse.specs.Grammar.{RequestHead}
use Rattle.sigtext.specs.Limits.{most_body, most_head}
use Rattle.sigtext.specs.declared.refusal.Refusal.{Refusal}
use Rattle.wire.specs.Heads.{HasNoHeadEnd, IsHeadEnd}
use Rattle.wire.specs.Judging.{Breaks, HeadAnnounces}

-- A head with this text takes n bytes: its own length plus that of the body that it announces, or its own
-- alone if it breaks a rule.
pub data HeadTakes (text : List ℕ) (n : ℕ) : Type 0 where
  announced : (head : RequestHead) (has_length : Bool) (size : ℕ) → HeadAnnounces text head has_length size → size ≤ most_body
      → n ≡ length text + size → HeadTakes text n
  barred : (refusal : Refusal) → Breaks text refusal → n ≡ length text → HeadTakes text n

-- The message at the front of the bytes takes n bytes: as many as its head takes, or most_head if no head
-- ends in that many.
pub data Takes (bytes : List ℕ) (n : ℕ) : Type 0 where
  headed : (size : ℕ) → IsHeadEnd (take most_head bytes) size → HeadTakes (take size bytes) n → Takes bytes n
  long : HasNoHeadEnd (take most_head bytes) → most_head ≤ length bytes → n ≡ most_head → Takes bytes n
