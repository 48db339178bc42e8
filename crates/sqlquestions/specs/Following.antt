-- What comes first after a text, in byte order.
use Rattle.std.specs.Prelude.{◌≡◌, ℕ, List, [], Option, Some, None, Vec, option_map}
use Rattle.std.specs.declared.alloc.Global.{Global}
use Rattle.std.specs.declared.cmp.Ordering.TheVariants.{Less}
use Rattle.sigtext.specs.Bytes.{bytes_cmp}
use Rattle.sqlite_value.specs.declared.value.Value.TheVariants.{Text}
use Rattle.sqlite_value.specs.Order.{Row, column}
use Rattle.sqlite_rules.specs.Lists.{Has}
use Rattle.sqlite.specs.State.{State, Shown}

-- the first existing text after this one; none if there is no such text
abbrev pub IsFirstBehind : (List ℕ → Type 0) → List ℕ → Option (List ℕ) → Type 0
IsFirstBehind Stands after None = (text : List ℕ) → Stands text → bytes_cmp after text ≡ Less → ⊥
IsFirstBehind Stands after (Some found) =
    Stands found × (bytes_cmp after found ≡ Less) × ((text : List ℕ) → Stands text → bytes_cmp after text ≡ Less → bytes_cmp text found ≡ Less → ⊥)

-- the bytes of a text, if there is one
abbrev pub bytes_in : Option (Vec ℕ Global) → Option (List ℕ)
bytes_in found = option_map (λ t. t.items) found

-- the text in the first column of one of the rows that the query shows, if it shows any row
pub record ShowsFirstText (sql : List ℕ) (given : Row) (old new : State) (text : Option (List ℕ)) : Type 0 where
  pub rows : List Row
  pub shown : Shown sql given old new rows
  pub some : (t : List ℕ) → text ≡ Some t → (row : Row) × Has rows row × (column row 0 ≡ Text t)
  pub none : text ≡ None → rows ≡ []
