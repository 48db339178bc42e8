-- Bytes that are read in pieces.
use Rattle.std.specs.Prelude.{ℕ, List}
use Rattle.sqltables.specs.declared.staging.Pieces.{Pieces}

-- all the bytes in order
abbrev pub held : Pieces → List ℕ
held pieces = pieces.bytes.items
