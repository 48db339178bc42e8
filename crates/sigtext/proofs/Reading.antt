-- Decoding a target byte by byte, as a function: it inverts the relations of `Spelling` and `Target`.
use Rattle.std.specs.Prelude.{ℕ, ◌+◌, ◌*◌, ◌==◌, List, [], ◌∷◌, Option, Some, None, option_map, unwrap_or, if◌then◌else◌}
use Rattle.std.specs.List.{slice_split}
use Rattle.std.specs.Char.{digit_value}
use Rattle.percent_encoding.specs.Percent.{is_escape}
use Rattle.sigtext.specs.Spelling.{may_stand}
use Rattle.sigtext.specs.Target.{Param}

infixl 10 ◌>>=◌
abbrev pub ◌>>=◌ : {A B : Type 0} → Option A → (A → Option B) → Option B
None >>= f = None
(Some x) >>= f = f x

-- a byte that stands for itself, in front of the bytes of the rest
abbrev pub stand : List ℕ → ℕ → Option (List ℕ) → Option (List ℕ)
stand barred b more = if may_stand barred b then option_map (λ bytes. b ∷ bytes) more else None

-- the bytes that the text spells, if it spells any
unfoldable pub spelled : List ℕ → List ℕ → Option (List ℕ)
spelled barred [] = Some []
spelled barred (b ∷ []) = stand barred b (Some [])
spelled barred (b ∷ c ∷ []) = stand barred b (stand barred c (Some []))
spelled barred (b ∷ high ∷ low ∷ rest) =
    if is_escape b high low
    then option_map (λ bytes. (16 * digit_value high + digit_value low) ∷ bytes) (spelled barred rest)
    else stand barred b (spelled barred (high ∷ low ∷ rest))

-- the text before the first byte c, and the text after it
unfoldable pub cut : ℕ → List ℕ → Option (List ℕ × List ℕ)
cut c [] = None
cut c (x ∷ xs) = if x == c then Some ([], xs) else option_map (λ p. (x ∷ p.0, p.1)) (cut c xs)

-- the raw name and value of a piece of the query
unfoldable pub raw_param : List ℕ → List ℕ × List ℕ
raw_param piece = unwrap_or (cut 61 piece) (piece, [])

-- no parameter has an empty name
abbrev pub named_param : List ℕ → List ℕ → Option Param
named_param [] value = None
named_param (b ∷ name) value = Some (record { name = b ∷ name; value = value })

abbrev pub spelled_param : List ℕ × List ℕ → Option Param
spelled_param piece = do
  name ← spelled (38 ∷ 61 ∷ []) piece.0
  value ← spelled (38 ∷ []) piece.1
  named_param name value

unfoldable pub spelled_params : List (List ℕ) → Option (List Param)
spelled_params [] = Some []
spelled_params (piece ∷ pieces) = do
  first ← spelled_param (raw_param piece)
  others ← spelled_params pieces
  Some (first ∷ others)

-- the parameters that a query spells
abbrev pub spelled_query : List ℕ → Option (List Param)
spelled_query text = spelled_params (slice_split (λ b. b == 38) text)

abbrev pub optional_query : Option (List ℕ) → Option (List Param)
optional_query None = Some []
optional_query (Some text) = spelled_query text

-- the raw path and query of a target
abbrev pub at_cut : List ℕ → Option (List ℕ × List ℕ) → List ℕ × Option (List ℕ)
at_cut target None = (target, None)
at_cut target (Some p) = (p.0, Some p.1)

unfoldable pub raw_target : List ℕ → List ℕ × Option (List ℕ)
raw_target target = at_cut target (cut 63 target)
