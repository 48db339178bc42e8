-- Writing a list with one line per entry.
use Rattle.std.specs.Prelude.{◌≡◌, ℕ, List, [], ◌++◌, Option, Result, OnOk}
use Rattle.wire.specs.Sending.{Sends}
use Rattle.lists.specs.Lists.{AreLines, IsTable}

-- these are the first of all entries; on success they are all
pub record AreFirst {A T E : Type 0} (all first : List A) (result : Result T E) : Type 0 where
  pub rest : List A
  pub cut : all ≡ first ++ rest
  pub whole : OnOk result (rest ≡ [])

-- the header line and the lines of the first entries were written, the last one perhaps in part; on success all lines were
-- written
pub record WritesList {A T E : Type 0} (head : List (List ℕ)) (IsLine : A → List ℕ → Type 0) (all : List A) (old new : Option (List ℕ)) (result : Result T E) : Type 0 where
  pub first : List A
  pub are_first : AreFirst all first result
  pub text : List ℕ
  pub table : IsTable head IsLine first text
  pub sent : Sends text old new result

-- the same for the lines alone
pub record SendsLines {A T E : Type 0} (IsLine : A → List ℕ → Type 0) (all : List A) (old new : Option (List ℕ)) (result : Result T E) : Type 0 where
  pub first : List A
  pub are_first : AreFirst all first result
  pub text : List ℕ
  pub lines : AreLines IsLine first text
  pub sent : Sends text old new result
