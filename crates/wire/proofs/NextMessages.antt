-- The message that comes next.
use Rattle.std.proofs.Common.{◌≡◌, Bool, List, ◌++◌, length, ℕ, Option, Some}
use Rattle.std.specs.Prelude.{IfSome}
use Rattle.std.specs.Io.KnownBytes.{Consumes}
use Rattle.wire.specs.Feeding.{Opens}
use Rattle.wire.specs.Framing.{Message, Next, request_of}

-- The text is a head that announces this body. Head and body together are the next message of the stream that
-- was left. old: what was left of the stream, if that is known; new: what is left now.
pub record IsNextMessage (text : List ℕ) (has_length : Bool) (body : List ℕ) (old new : Option (List ℕ)) : Type 0 where
  pub opens : Opens text has_length (length body)
  pub taken : Consumes old new (text ++ body)
  pub next : IfSome old (λ stream. (rest : List ℕ) × Next stream (Message (request_of opens.head has_length body)) rest × (new ≡ Some rest))
