-- What a `Target` holds, and what its pairs give in order (RFC 9112, section 3.2.1, and RFC 3986, section 3.4).
use Rattle.std.specs.Prelude.{◌≡◌, ◌≢◌, ℕ, Bool, ◌&&◌, nat_le, slice_index, IsSomeAnd, None, Some, ◌<◌, ◌+◌, ◌⊎◌, List, [], ◌∷◌, ◌++◌, length, All, Option, MatchOption}
use Rattle.std.specs.Borrow.{Bor}
use Rattle.percent_encoding.specs.Percent.{is_escape}
use Rattle.sigtext.specs.Spelling.{Spells}
use Rattle.sigtext.specs.Target.{Param, SpellsQuery, IsTargetOf}
use Rattle.sigtext.specs.declared.target.Target.{Target}
use Rattle.sigtext.specs.declared.target.RawParam.{RawParam}
use Rattle.sigtext.specs.declared.target.Pairs.{Pairs}

-- the text does not contain the byte
abbrev pub Lacks : ℕ → List ℕ → Type 0
Lacks c text = All (λ b. b ≢ c) text

-- the text before and after the first such byte; none if the text does not contain it
abbrev pub IsCut : ℕ → List ℕ → Option (Bor (List ℕ) × Bor (List ℕ)) → Type 0
IsCut c text parts = MatchOption parts (Lacks c text) (λ p. (text ≡ p.0.now ++ c ∷ p.1.now) × Lacks c p.0.now)

-- the text begins with `%` and two hexadecimal digits
abbrev pub begins_with_escape : List ℕ → Bool
begins_with_escape text =
    nat_le 3 (length text) && is_escape (slice_index text 0) (slice_index text 1) (slice_index text 2)

-- the text spells some bytes
abbrev pub SpellsSome : List ℕ → List ℕ → Type 0
SpellsSome barred text = (bytes : List ℕ) × Spells barred text bytes

-- the query spells some parameters
abbrev pub SpellsSomeQuery : List ℕ → Type 0
SpellsSomeQuery text = (params : List Param) × SpellsQuery text params

-- an optional query spells these parameters; a missing query spells none
abbrev pub SpellsOptionalQuery : Option (Bor (List ℕ)) → List Param → Type 0
SpellsOptionalQuery query params = MatchOption query (params ≡ []) (λ q. SpellsQuery q.now params)

-- the target's raw path spells this path, in which `?` must be escaped, and its raw query these parameters
pub record SpellsReading (t : Target) (path : List ℕ) (params : List Param) : Type 0 where
  pub path_spelled : Spells (63 ∷ []) t.path.now path
  pub query_spelled : SpellsOptionalQuery t.query params

-- the target spells some path and some parameters
pub record IsRead (t : Target) : Type 0 where
  pub path : List ℕ
  pub params : List Param
  pub spelled : SpellsReading t path params

-- The raw path is the text before the first `?`, and the raw query is the text after it. Without a `?` the raw path is
-- the whole text, and there is no raw query.
pub record IsWrittenAs (t : Target) (text : List ℕ) : Type 0 where
  pub parts : MatchOption t.query (text ≡ t.path.now) (λ q. text ≡ t.path.now ++ 63 ∷ q.now)
  pub first : Lacks 63 t.path.now

-- the target is the parsed text, and the text has no other parse
pub record IsReadFrom (text : List ℕ) (t : Target) : Type 0 where
  pub written : IsWrittenAs t text
  pub read : IsRead t
  pub is_target : IsTargetOf text read.path read.params
  pub only : (path : List ℕ) (params : List Param) → IsTargetOf text path params → (path ≡ read.path) × (params ≡ read.params)

-- the piece of a query is a raw name, or a raw name, the first `=` and a raw value
abbrev pub IsRawParam : List ℕ → RawParam → Type 0
IsRawParam piece raw =
    Lacks 61 raw.name.now
    × (((piece ≡ raw.name.now) × (raw.value.now ≡ [])) ⊎ (piece ≡ raw.name.now ++ 61 ∷ raw.value.now))

-- the raw name and value spell the parameter
pub record SpellRawParam (raw : RawParam) (p : Param) : Type 0 where
  pub some : 0 < length p.name
  pub name_spelled : Spells (38 ∷ 61 ∷ []) raw.name.now p.name
  pub value_spelled : Spells (38 ∷ []) raw.value.now p.value

-- the text's first piece, which ends at the first `&`, and the rest; without an `&` the piece is the whole text, and
-- nothing is left
pub record BeginsWithPiece (text piece : List ℕ) (left : Option (Bor (List ℕ))) : Type 0 where
  pub parts : MatchOption left (text ≡ piece) (λ more. text ≡ piece ++ 38 ∷ more.now)
  pub first : Lacks 38 piece

-- the next raw name and value are those of the first remaining piece; if no piece remained, there is none, and none
-- remains
abbrev pub GivesPiece : Pairs → Option RawParam → Pairs → Type 0
GivesPiece before raw after =
    MatchOption before.left ((raw ≡ None) × (after.left ≡ None))
    (λ text. IsSomeAnd raw (λ r. (piece : List ℕ) × BeginsWithPiece text.now piece after.left × IsRawParam piece r))

-- the given name and value spell the first parameter, and the rest spells the others; without parameters none is given
abbrev pub GivesFirst : List Param → Option RawParam → Pairs → Type 0
GivesFirst params raw after =
    MatchOption raw (params ≡ [])
    (λ r. (p : Param) × (others : List Param) × (params ≡ p ∷ others) × SpellRawParam r p × SpellsOptionalQuery after.left others)

-- one step over the pieces of a query
pub record GivesNext (before : Pairs) (raw : Option RawParam) (after : Pairs) : Type 0 where
  pub piece : GivesPiece before raw after
  pub param : (params : List Param) → SpellsOptionalQuery before.left params → GivesFirst params raw after

-- at most this many pieces are left
abbrev pub pieces_left : Pairs → ℕ
pieces_left pairs = elim pairs.left [ None ↦ 0 | Some text ↦ length text.now + 1 ]
