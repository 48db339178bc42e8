-- What words without a fault name: a command of the program, and a value for each argument that it requires.
use Rattle.std.proofs.Common.{◌≡◌, ◌∙◌, ◌<◌, ◌&&◌, ◌||◌, ℕ, Bool, cond, true, false, not, refl, sym, ap, arith, List, [], ◌∷◌, length, Option, Some, None, is_some, codes}
use Rattle.std.specs.List.{find, fold, list_all, list_any}
use Rattle.std.specs.Option.{option_map_or}
use Rattle.std.specs.Str.{bytes_eq}
use Rattle.std.specs.Prelude.{option_and_then, option_map, slice_get}
use Rattle.std.proofs.lemmas.Slice.Eq.{bytes_eq-Decides}
use Rattle.clap.specs.Facts.{explicit_source}
use Rattle.clap.specs.Faults.{built_fault, entered_fault, level_fault, other_fault, step_fault, turn_fault, walk_fault, word_fault}
use Rattle.clap.specs.Kinds.{check_kinds, or_else}
use Rattle.clap.specs.Lexer.{long_of, short_of}
use Rattle.clap.specs.Simple.{App, Shape, entered, label_of, names_of, rows_at}
use Rattle.clap.specs.Takes.{is_given}
use Rattle.clap.specs.Walk.{Held, Names, Outcome, Row, Rule, Step, Text, Waiting, Walk, after_flag, after_step, answers_to, arg_by_index, bundle, long_met, arg_by_long, first_of, long_or_other, nothing_held, plain_word, rows_after, short_or_plain, stop_after, subcommand_met, subcommand_or_other, to_positional, walk_from, walked, walked_from, word_met}
use Rattle.clap.specs.Walk.{done, waits, plain, refused, idle, option, positional, next, trailing, subcommand, value}
use Rattle.clap.specs.declared.error.kind.ErrorKind.TheVariants as kind
use Rattle.tasks.proofs.FullRows.{Full, fills, free_steps, full_level, or_none}

-- ---- required arguments have a value

pub first_some : (values : List Text) → 0 < length values → is_some (slice_get values 0) ≡ true
first_some [] lt = absurd (omega arith)
first_some (v ∷ vs) lt = refl

given_some : (id : Text) (rows : List Row) → Full rows → is_given id rows ≡ true → is_some (first_of id rows) ≡ true
given_some id [] f e = let bad : ⊥ = cc in absurd bad
given_some id (r ∷ rs) f e = go (bytes_eq r.id id) (given_some id rs f.1) e
  where
    go : (b : Bool) → (is_given id rs ≡ true → is_some (first_of id rs) ≡ true)
        → option_map_or (λ (x : Row). explicit_source x.source) (cond b (Some r) (find (λ x. bytes_eq x.id id) rs)) false ≡ true
        → is_some (option_and_then (λ (x : Row). slice_get x.values 0) (cond b (Some r) (find (λ x. bytes_eq x.id id) rs))) ≡ true
    go true rest here = first_some r.values f.0
    go false rest here = rest here

-- an argument with this id is required
abbrev pub needs : Text → List Rule → Bool
needs id rules = list_any (λ a. a.required && bytes_eq a.id id) rules

needed_given : (id : Text) (rows : List Row) (rules : List Rule) → list_any (λ a. a.required && not (is_given a.id rows)) rules ≡ false → needs id rules ≡ true
    → is_given id rows ≡ true
needed_given id rows [] none some = let bad : ⊥ = cc in absurd bad
needed_given id rows (a ∷ rest) none some = go a.required (bytes_eq a.id id) (bytes_eq-Decides a.id id).0 none some (needed_given id rows rest)
  where
    given : (g l : Bool) → (not g || l) ≡ false → (g ≡ true) × (l ≡ false)
    given true l e = (refl, e)
    given false l e = let bad : ⊥ = cc in absurd bad

    go : (r b : Bool) → (b ≡ true → a.id ≡ id) → ((r && not (is_given a.id rows)) || list_any (λ x. x.required && not (is_given x.id rows)) rest) ≡ false
        → ((r && b) || needs id rest) ≡ true
        → (list_any (λ x. x.required && not (is_given x.id rows)) rest ≡ false → needs id rest ≡ true → is_given id rows ≡ true) → is_given id rows ≡ true
    go true true same none some below = ap (λ x. is_given x rows) (sym (same refl)) ∙ (given _ _ none).0
    go true false same none some below = below (given _ _ none).1 some
    go false b same none some below = below none some

none_checked : (a b c : Bool) → check_kinds a b c ≡ [] → (a ≡ false) × (b ≡ false) × (c ≡ false)
none_checked true b c e = let bad : ⊥ = cc in absurd bad
none_checked false true c e = let bad : ⊥ = cc in absurd bad
none_checked false false true e = let bad : ⊥ = cc in absurd bad
none_checked false false false e = (refl, refl, refl)

-- words without a fault give a value to each argument that a command requires
pub needed_value : (s : Shape) (words : List Text) → list_all fills s.rules ≡ true → s.subcommand_negates_reqs ≡ false → level_fault s [] nothing_held words false [] ≡ []
    → (id : Text) → needs id s.rules ≡ true → is_some (first_of id (rows_after s.rules [] words)) ≡ true
needed_value s words fill asks e id need =
    let rows = rows_after s.rules [] words in
    let free = free_steps s [] words false [] e in
    let asked : (not (s.subcommand_negates_reqs && false) && list_any (λ a. a.required && not (is_given a.id rows)) s.rules) ≡ false = (none_checked _ _ _ free.checked).2 in
    let missing : list_any (λ a. a.required && not (is_given a.id rows)) s.rules ≡ false = rw asks at asked in
    given_some id rows (full_level s [] fill words false [] free) (needed_given id rows s.rules missing need)

-- ---- a command is named

-- the walk did not stop at `help`
abbrev StopsElsewhere : Option (Text × List Text) → Type 0
StopsElsewhere None = Unit {0}
StopsElsewhere (Some p) = bytes_eq p.0 (codes "help") ≡ false

abbrev NamesNone : Step → Type 0
NamesNone (subcommand name) = ⊥
NamesNone _ = Unit {0}

module _ (c : List Rule) where
  plain_names_none : (waiting : Waiting) (word : Text) (h : Held) → NamesNone (plain_word c waiting word h).1
  plain_names_none (option id) word h = tt
  plain_names_none idle word h = tt
  plain_names_none positional word h = tt

  after_names_none : (waiting : Waiting) (word : Text) (h : Held) (outcome : Outcome) → NamesNone (after_flag c waiting word h outcome).1
  after_names_none waiting word h done = tt
  after_names_none waiting word h (waits id) = tt
  after_names_none waiting word h plain = plain_names_none waiting word h
  after_names_none waiting word h refused = plain_names_none waiting word h

  flag_names_none : (waiting : Waiting) (word : Text) (o : Option (Text × Option Text)) (h : Held) → NamesNone (long_or_other c waiting word o h).1
  flag_names_none waiting word (Some p) h = after_names_none waiting word (long_met c (arg_by_long c p.0) p.1 h).0 (long_met c (arg_by_long c p.0) p.1 h).1
  flag_names_none waiting word None h = go (short_of word)
    where
      go : (flags : Option Text) → NamesNone (short_or_plain c waiting word flags h).1
      go None = plain_names_none waiting word h
      go (Some flags) = after_names_none waiting word (bundle c flags h).0 (bundle c flags h).1

module _ (s : Shape) (names : Names) (helps : s.disable_help_subcommand ≡ false) where
  -- the step does not name `help`
  abbrev NotHelp : Step → Type 0
  NotHelp (subcommand name) = bytes_eq name (codes "help") ≡ false
  NotHelp _ = Unit {0}

  no_name : (step : Step) → NamesNone step → NotHelp step
  no_name (subcommand name) none = absurd none
  no_name (next waiting) none = tt
  no_name (trailing position) none = tt
  no_name value none = tt

  other_not_help : (o : Option Text) (waiting : Waiting) (position : ℕ) (word : Text) (h : Held) → other_fault s o word h ≡ []
      → NotHelp (subcommand_or_other s.rules o waiting position word h).1
  other_not_help (Some name) waiting position word h e = go (bytes_eq name (codes "help")) (rw helps at e)
    where
      go : (b : Bool) → cond (b && true) (kind.DisplayHelp ∷ kind.InvalidSubcommand ∷ []) [] ≡ [] → b ≡ false
      go true none = let bad : ⊥ = cc in absurd bad
      go false none = refl
  other_not_help None waiting position word h e = go (bytes_eq word (45 ∷ 45 ∷ []))
    where
      go : (b : Bool) → NotHelp (cond b (h, trailing position) (long_or_other s.rules waiting word (long_of word) h)).1
      go true = tt
      go false = no_name _ (flag_names_none s.rules waiting word (long_of word) h)

  word_not_help : (is_trailing : Bool) (waiting : Waiting) (position : ℕ) (word : Text) (h : Held) → word_fault s names is_trailing waiting word h ≡ []
      → NotHelp (word_met s.rules names is_trailing waiting position word h).1
  word_not_help true waiting position word h e = tt
  word_not_help false waiting position word h e = other_not_help (subcommand_met names waiting word) waiting position word h e

  step_elsewhere : (word : Text) (w : Walk) (h : Held) (step : Step) → NotHelp step → StopsElsewhere w.stopped → StopsElsewhere (after_step s.rules word w h step).stopped
  step_elsewhere word w h (next waiting) elsewhere so_far = so_far
  step_elsewhere word w h (trailing position) elsewhere so_far = so_far
  step_elsewhere word w h (subcommand name) elsewhere so_far = elsewhere
  step_elsewhere word w h value elsewhere so_far = go (arg_by_index s.rules w.position)
    where
      go : (o : Option Rule) → StopsElsewhere (to_positional s.rules o word w h).stopped
      go None = so_far
      go (Some a) = tt

  turn_elsewhere : (w : Walk) (word : Text) → turn_fault s names w word ≡ [] → StopsElsewhere w.stopped → StopsElsewhere (walked s.rules names w word).stopped
  unfolding walked
  turn_elsewhere w word e so_far = go w.stopped so_far e
    where
      go : (o : Option (Text × List Text)) → StopsElsewhere o
          → cond (is_some o) [] (or_else (word_fault s names w.is_trailing w.waiting word w.held)
          (step_fault s w.position (word_met s.rules names w.is_trailing w.waiting w.position word w.held).0 (word_met s.rules names w.is_trailing w.waiting w.position word w.held).1)) ≡ []
          → StopsElsewhere (walked_from s.rules names o w word).stopped
      go (Some p) here none = here
      go None here none = step_elsewhere word w _ _ (word_not_help w.is_trailing w.waiting w.position word w.held (or_none _ _ none).0) so_far

  walk_elsewhere : (w : Walk) (words : List Text) → walk_fault s names w words ≡ [] → StopsElsewhere w.stopped → StopsElsewhere (fold (walked s.rules names) w words).stopped
  unfolding walk_fault
  walk_elsewhere w [] e so_far = so_far
  walk_elsewhere w (x ∷ xs) e so_far =
      let steps = or_none _ _ e in
      walk_elsewhere (walked s.rules names w x) xs steps.1 (turn_elsewhere w x steps.0 so_far)

-- the command that the words name, with the words after it
pub record Enters (a : App) (words : List Text) : Type 0 where
  pub name : Text
  pub rest : List Text
  pub shape : Shape
  pub entered : entered a (stop_after a.top.rules (names_of a) words) ≡ Some (rows_at shape rest)
  pub found : find (λ s. answers_to name (label_of s)) a.subs ≡ Some shape
  pub not_help : bytes_eq name (codes "help") ≡ false
  pub fault_free : level_fault shape [] nothing_held rest false [] ≡ []

-- words without a fault name a command, if one is required, and it is not `help`
pub enters : (a : App) (words : List Text) → a.top.disable_help_subcommand ≡ false → a.top.subcommand_required ≡ true → built_fault a nothing_held words ≡ [] → Enters a words
enters a words helps required e =
    let stop = stop_after a.top.rules (names_of a) words in
    let free = free_steps a.top (names_of a) words (is_some (entered a stop)) (entered_fault a stop) e in
    let asked : (not (is_some (entered a stop)) && a.top.subcommand_required) ≡ false = (none_checked _ _ _ free.checked).1 in
    go stop refl (rw required at asked) free.entered (walk_elsewhere a.top (names_of a) helps (walk_from nothing_held) words free.walked tt)
  where
    shape_found : (o : Option Shape) (p : Text × List Text) → (stop_after a.top.rules (names_of a) words ≡ Some p) → find (λ s. answers_to p.0 (label_of s)) a.subs ≡ o
        → (not (is_some (option_map (λ s. rows_at s p.1) o)) && true) ≡ false → option_map_or (λ s. level_fault s [] nothing_held p.1 false []) o [] ≡ []
        → bytes_eq p.0 (codes "help") ≡ false → Enters a words
    shape_found None p at found has below elsewhere = let bad : ⊥ = cc in absurd bad
    shape_found (Some s) p at found has below elsewhere = record {
      name = p.0;
      rest = p.1;
      shape = s;
      entered = ap (entered a) at ∙ ap (option_map (λ x. rows_at x p.1)) found;
      found = found;
      not_help = elsewhere;
      fault_free = below;
    }

    go : (stop : Option (Text × List Text)) → stop_after a.top.rules (names_of a) words ≡ stop → (not (is_some (entered a stop)) && true) ≡ false → entered_fault a stop ≡ []
        → StopsElsewhere stop → Enters a words
    go None at has below elsewhere = let bad : ⊥ = cc in absurd bad
    go (Some p) at has below elsewhere = shape_found (find (λ s. answers_to p.0 (label_of s)) a.subs) p at refl has below elsewhere
