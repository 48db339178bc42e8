-- What the words of a command say.
use Rattle.std.specs.Prelude.{◌≡◌, ◌≤◌, ◌*◌, ℕ, zero, suc, List, Option, Some, None, option_map}
use Rattle.std.specs.Str.Parse.{IsNumeral, digits_value, without_leading_plus}
use Rattle.std.specs.Duration.{as_nanos}
use Rattle.std.specs.declared.time.Duration.{Duration}
use Rattle.std.specs.declared.net.socket_addr.SocketAddrV4.{SocketAddrV4}
use Rattle.std.specs.Net.Grammar.{IsSocketV4Text}
use Rattle.sockets.specs.declared.preparing.Limits.{Limits}
use Rattle.tasks.specs.declared.task.Serve.{Serve}

-- the text writes the number in decimal digits, with or without a plus before them
pub record IsNumber (text : List ℕ) (number : ℕ) : Type 0 where
  pub digits : IsNumeral 10 (without_leading_plus text)
  pub value : number ≡ digits_value 10 (without_leading_plus text)

-- these seconds without a byte end a connection; after 0 no time does
abbrev pub IsPatience : ℕ → Option Duration → Type 0
IsPatience zero patience = patience ≡ None
IsPatience (suc seconds) patience = (time : Duration) × (patience ≡ Some time) × (as_nanos time ≡ suc seconds * 1000000000)

-- a bound in megabytes, if one is given, is this many bytes; without one they are at least 64 megabytes
abbrev pub IsRoom : Option (List ℕ) → ℕ → Type 0
IsRoom None bytes = 64000000 ≤ bytes
IsRoom (Some text) bytes = (n : ℕ) × IsNumber text n × (bytes ≡ n * 1000000)

-- the address and the limits of the words
pub record IsServiceOf (words : Serve) (address : SocketAddrV4) (limits : Limits) : Type 0 where
  pub listen : IsSocketV4Text words.listen.now address
  pub connections : IsNumber words.connections.now limits.connections
  pub bound : IsNumber words.«open».now limits.«open»
  pub seconds : ℕ
  pub patience : IsNumber words.patience.now seconds
  pub waits : IsPatience seconds limits.patience
  pub room : IsRoom (option_map (λ text. text.now) words.room) limits.room
