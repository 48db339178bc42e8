-- The limits of a message. No standard sets them; the office does.
use Rattle.std.specs.Prelude.{ℕ}

-- the greatest length of a body, and so of a file, in bytes
abbrev pub most_body : ℕ
most_body = 8388608

-- the greatest length of a head with its empty line, in bytes
abbrev pub most_head : ℕ
most_head = 8192

-- the greatest number of fields of a head
abbrev pub most_fields : ℕ
most_fields = 64
