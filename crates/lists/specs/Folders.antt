-- Files in a folder.
use Rattle.std.specs.Prelude.{◌≡◌, ℕ, List, ◌++◌, Option, Some, None, ⊤}

-- a file that was put whole
pub record PutFile : Type 0 where
  pub path : List ℕ
  pub bytes : List ℕ

-- these files were added after the old ones; no claim if the old ones are unknown
abbrev pub Adds : Option (List PutFile) → Option (List PutFile) → List PutFile → Type 0
Adds None new files = ⊤
Adds (Some olds) None files = ⊥
Adds (Some olds) (Some news) files = news ≡ olds ++ files
