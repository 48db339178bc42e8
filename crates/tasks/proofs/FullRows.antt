-- If the words have no fault, each row of the matches has a value.
use Rattle.std.proofs.Common.{◌≡◌, ◌<◌, ◌&&◌, ◌||◌, ℕ, Bool, cond, true, false, not, zero, suc, refl, arith, List, [], ◌∷◌, ◌++◌, ◌+◌, min, length, Option, Some, None, is_some, nat_lt}
use Rattle.std.specs.List.{find, fold, list_all}
use Rattle.std.specs.Option.{option_map_or}
use Rattle.std.specs.Str.{bytes_eq, chars}
use Rattle.std.specs.Prelude.{slice_get}
use Rattle.std.proofs.lemmas.List.{length-append}
use Rattle.clap.specs.Facts.{unwrap_or_range}
use Rattle.clap.specs.Faults.{bundle_step_fault, flag_word_fault, flags_fault, long_fault, option_fault, bundle_fault, check_fault, level_fault, other_fault, positional_fault, react_fault, settle_fault, short_fault, step_fault, stray_fault, turn_fault, use_fault, walk_fault, word_fault}
use Rattle.clap.specs.Kinds.{Kinds, or_else, range_kinds}
use Rattle.clap.specs.Lexer.{long_of, short_of}
use Rattle.clap.specs.Matches.{count_text}
use Rattle.clap.specs.Simple.{Shape}
use Rattle.clap.specs.Walk.{Held, Names, Outcome, Row, Rule, Step, Text, Waiting, Walk, action_of, after_flag, after_step, arg_by_id, arg_by_index, arg_by_long, arg_by_short, at_row, attached_value, bundle, bundle_met, count_of, bundle_step, counted, nothing_held, rows_after, default_rows, flag_met, has_row, is_empty, is_pending, long_met, long_or_other, more_values, new_count, option_met, option_word, plain_word, positional_held, reacted, reading_by, settled, settled_rows, short_met, short_or_plain, subcommand_met, subcommand_or_other, takes_several, takes_values, to_positional, used, used_as, used_by_id, values_or_missing, walk, walk_from, walked, walked_from, with_count, with_default, with_values, without, word_met}
use Rattle.clap.specs.Walk.{done, waits, plain, refused, idle, option, positional, next, trailing, subcommand, value}
use Rattle.clap.specs.declared.builder.action.ArgAction.{ArgAction}
use Rattle.clap.specs.declared.builder.action.ArgAction.TheVariants.{Set, Append, SetTrue, SetFalse, Count}
use Rattle.clap.specs.declared.builder.value_parser.Reading.{Reading}
use Rattle.clap.specs.declared.error.kind.ErrorKind.TheVariants as kind
use Rattle.clap.specs.declared.parser.matches.ValueSource.{ValueSource}
use Rattle.clap.specs.declared.parser.matches.ValueSource.TheVariants.{CommandLine, DefaultValue}

-- each row has a value
abbrev pub Full : List Row → Type 0
Full [] = Unit {0}
Full (r ∷ rs) = (0 < length r.values) × Full rs

-- ---- lists of kinds

pub or_none : (a b : Kinds) → or_else a b ≡ [] → (a ≡ []) × (b ≡ [])
or_none [] b e = (refl, e)
or_none (k ∷ ks) b e = let bad : ⊥ = cc in absurd bad

-- the steps of a level, each without a fault
pub record IsFaultFree (s : Shape) (names : Names) (words : List Text) (has_subcommand : Bool) (below : Kinds) : Type 0 where
  pub walked : walk_fault s names (walk_from nothing_held) words ≡ []
  pub entered : below ≡ []
  pub settled : settle_fault s.rules s.args_override_self (walk s.rules names nothing_held words).held ≡ []
  pub checked : check_fault s (rows_after s.rules names words) has_subcommand ≡ []

pub free_steps : (s : Shape) (names : Names) (words : List Text) (has_subcommand : Bool) (below : Kinds)
    → level_fault s names nothing_held words has_subcommand below ≡ [] → IsFaultFree s names words has_subcommand below
free_steps s names words has_subcommand below e =
    let first = or_none _ _ e in
    let second = or_none _ _ first.1 in
    let third = or_none _ _ second.1 in
    record { walked = first.0; entered = second.0; settled = third.0; checked = (or_none _ _ third.1).1 }

-- ---- rows

full_append : (xs ys : List Row) → Full xs → Full ys → Full (xs ++ ys)
full_append [] ys f g = g
full_append (x ∷ xs) ys f g = (f.0, full_append xs ys f.1 g)

full_at : (id : Text) (change : Row → List Row) (missing rows : List Row) → ((r : Row) → 0 < length r.values → Full (change r)) → Full missing → Full rows
    → Full (at_row id change missing rows)
full_at id change missing [] each none f = none
full_at id change missing (r ∷ rs) each none f = go (bytes_eq r.id id) (full_at id change missing rs each none f.1)
  where
    go : (b : Bool) → Full (at_row id change missing rs) → Full (cond b (change r ++ rs) (r ∷ at_row id change missing rs))
    go true rest = full_append (change r) rs (each r f.0) f.1
    go false rest = (f.0, rest)

full_without : (id : Text) (rows : List Row) → Full rows → Full (without id rows)
full_without id rows f = full_at id (λ _. []) [] rows (λ r h. tt) tt f

full_values : (id : Text) (how : Reading) (s : ValueSource) (values : List Text) (rows : List Row) → 0 < length values → Full rows → Full (with_values id how s values rows)
full_values id how s values rows some f = full_at id (more_values s values) _ rows (λ r h. (omega (arith, length-append r.values values), tt)) (some, tt) f

full_count : (id : Text) (how : Reading) (s : ValueSource) (n : ℕ) (rows : List Row) → Full rows → Full (with_count id how s n rows)
full_count id how s n rows f = full_at id (new_count s n) _ rows (λ r h. (omega (arith, length-append r.values (count_text n ∷ [])), tt)) (omega arith, tt) f

-- ---- one use of an argument

-- a use of the argument has a value, or there is a value for a use without one
abbrev has_value : Rule → Bool
has_value a = nat_lt 0 (unwrap_or_range a.range).start_inclusive || not (is_empty a.missing)

abbrev fills_as : ArgAction → Rule → Bool
fills_as Set a = has_value a
fills_as SetTrue a = has_value a
fills_as SetFalse a = has_value a
fills_as Append a = has_value a
fills_as _ a = true

-- a use of the argument never makes a row without a value
abbrev pub fills : Rule → Bool
fills a = fills_as (action_of a) a

some_values : (a : Rule) (most : ℕ) (values : List Text) → has_value a ≡ true → range_kinds (unwrap_or_range a.range).start_inclusive most (length values) ≡ []
    → 0 < length (values_or_missing a values)
some_values a most (v ∷ vs) ok e = omega arith
some_values a most [] ok e = go (nat_lt 0 (unwrap_or_range a.range).start_inclusive) _ ok e
  where
    nonempty : (xs : List Text) → not (is_empty xs) ≡ true → 0 < length xs
    nonempty [] h = let bad : ⊥ = cc in absurd bad
    nonempty (x ∷ xs) h = omega arith

    go : (b : Bool) (rest : Kinds) → (b || not (is_empty a.missing)) ≡ true → cond (b && true) (kind.InvalidValue ∷ []) rest ≡ [] → 0 < length a.missing
    go true rest h none = let bad : ⊥ = cc in absurd bad
    go false rest h none = nonempty a.missing h

full_counted : (id : Text) (how : Reading) (values : List Text) (rows : List Row) → Full rows → Full (counted id how values rows)
full_counted id how [] rows f = full_count id how CommandLine (min (count_of id rows + 1) 255) (without id rows) (full_without id rows f)
full_counted id how (v ∷ vs) rows f = full_values id how _ (v ∷ vs) (without id rows) (omega arith) (full_without id rows f)

full_as : (x : ArgAction) (a : Rule) (most : ℕ) (values : List Text) (rows : List Row) → fills_as x a ≡ true
    → range_kinds (unwrap_or_range a.range).start_inclusive most (length values) ≡ [] → Full rows → Full (used_as x a.id (reading_by a) (values_or_missing a values) rows)
full_as Set a most values rows ok e f = full_values a.id _ _ _ _ (some_values a most values ok e) (full_without a.id rows f)
full_as SetTrue a most values rows ok e f = full_values a.id _ _ _ _ (some_values a most values ok e) (full_without a.id rows f)
full_as SetFalse a most values rows ok e f = full_values a.id _ _ _ _ (some_values a most values ok e) (full_without a.id rows f)
full_as Append a most values rows ok e f = full_values a.id _ _ _ _ (some_values a most values ok e) f
full_as Count a most values rows ok e f = full_counted a.id _ _ rows f
full_as _ a most values rows ok e f = f

module _ (c : List Rule) (again : Bool) where
  full_used : (a : Rule) (values : List Text) (rows : List Row) → fills a ≡ true → use_fault again a values rows ≡ [] → Full rows → Full (used a values rows)
  full_used a values rows ok e f = full_as (action_of a) a _ values rows ok (or_none _ _ e).0 f

  -- ---- a flag word

  module _ (fill : list_all fills c ≡ true) where
    found_fills : (p : Rule → Bool) → option_map_or fills (find p c) true ≡ true
    found_fills p = go c fill
      where
        both : (a b : Bool) → (a && b) ≡ true → (a ≡ true) × (b ≡ true)
        both true b e = (refl, e)
        both false b e = let bad : ⊥ = cc in absurd bad

        here : (b : Bool) (x : Rule) (o : Option Rule) → fills x ≡ true → option_map_or fills o true ≡ true → option_map_or fills (cond b (Some x) o) true ≡ true
        here true x o e r = e
        here false x o e r = r

        go : (xs : List Rule) → list_all fills xs ≡ true → option_map_or fills (find p xs) true ≡ true
        go [] e = refl
        go (x ∷ xs) e = here (p x) x (find p xs) (both _ _ e).0 (go xs (both _ _ e).1)

    full_settled : (h : Held) → settle_fault c again h ≡ [] → Full h.rows → Full (settled c h).rows
    full_settled h e f = go h.pending e
      where
        by : (o : Option Rule) (values : List Text) → option_map_or fills o true ≡ true → option_map_or (λ a. use_fault again a values h.rows) o [] ≡ []
            → Full (used_by_id o values h.rows)
        by None values ok none = f
        by (Some a) values ok none = full_used a values h.rows ok none f

        go : (pending : Option (Text × List Text)) → option_map_or (λ p. option_map_or (λ a. use_fault again a p.1 h.rows) (arg_by_id c p.0) []) pending [] ≡ []
            → Full (settled_rows c pending h.rows)
        go None none = f
        go (Some p) none = by (arg_by_id c p.0) p.1 (found_fills _) none

    full_reacted : (a : Rule) (values : List Text) (h : Held) → fills a ≡ true → react_fault c again a values h ≡ [] → Full h.rows → Full (reacted c a values h).rows
    full_reacted a values h ok e f =
        let steps = or_none _ _ e in
        full_used a values (settled c h).rows ok steps.1 (full_settled h steps.0 f)

    full_option : (a : Rule) (v : Option Text) (h : Held) → fills a ≡ true → option_fault c again a v h ≡ [] → Full h.rows → Full (option_met c a v h).0.rows
    full_option a (Some v) h ok e f = full_reacted a (v ∷ []) h ok e f
    full_option a None h ok e f = full_settled h e f

    full_long : (o : Option Rule) (v : Option Text) (h : Held) → option_map_or fills o true ≡ true → long_fault c again o v h ≡ [] → Full h.rows
        → Full (long_met c o v h).0.rows
    full_long None v h ok e f = f
    full_long (Some a) v h ok e f = go (takes_values a) v e
      where
        go : (b : Bool) (v : Option Text) → cond b (option_fault c again a v h) (cond (is_some v) (kind.TooManyValues ∷ []) (react_fault c again a [] h)) ≡ []
            → Full (cond b (option_met c a v h) (flag_met c a v h)).0.rows
        go true v none = full_option a v h ok none f
        go false (Some v) none = f
        go false None none = full_reacted a [] h ok none f

    full_short : (o : Option Rule) (rest : Text) (h : Held) (then : Held → Held × Outcome) (then_fault : Held → Kinds)
        → ((k : Held) → then_fault k ≡ [] → Full k.rows → Full (then k).0.rows) → option_map_or fills o true ≡ true → short_fault c again o rest h then_fault ≡ []
        → Full h.rows → Full (short_met c o rest h then).0.rows
    full_short None rest h then then_fault more ok e f = f
    full_short (Some a) rest h then then_fault more ok e f = go (takes_values a) e
      where
        go : (b : Bool) → cond b (option_fault c again a (attached_value rest) h) (or_else (react_fault c again a [] h) (then_fault (reacted c a [] h))) ≡ []
            → Full (cond b (option_met c a (attached_value rest) h) (then (reacted c a [] h))).0.rows
        go true none = full_option a (attached_value rest) h ok none f
        go false none =
            let steps = or_none _ _ none in
            more (reacted c a [] h) steps.1 (full_reacted a [] h ok steps.0 f)

    full_flags : (k : ℕ) (flags : Text) (skip : ℕ) (so_far : Outcome) (h : Held) → flags_fault c again k flags skip h ≡ [] → Full h.rows
        → Full (bundle_met c k flags skip so_far h).0.rows
    unfolding flags_fault bundle_met
    full_flags zero flags skip so_far h e f = f
    full_flags (suc k) flags skip so_far h e f = go (full_flags k) (slice_get (chars flags) 0) skip e
      where
        go : ((flags : Text) (skip : ℕ) (so_far : Outcome) (h : Held) → flags_fault c again k flags skip h ≡ [] → Full h.rows → Full (bundle_met c k flags skip so_far h).0.rows) → (x : Option ℕ) (skip : ℕ) → bundle_step_fault c again x flags skip h (flags_fault c again k) ≡ []
            → Full (bundle_step c x flags skip so_far h (bundle_met c k)).0.rows
        go rest None skip none = f
        go rest (Some x) zero none =
            full_short (arg_by_short c x) _ h (bundle_met c k _ 0 done) (flags_fault c again k _ 0) (λ g free full. rest _ 0 done g free full) (found_fills _) none f
        go rest (Some x) (suc skip) none = rest _ skip so_far h none f

    -- ---- a word

    full_plain : (waiting : Waiting) (word : Text) (h : Held) → Full h.rows → Full (plain_word c waiting word h).0.rows
    full_plain (option id) word h f = go (arg_by_id c id)
      where
        go : (o : Option Rule) → Full (option_word o id word h).0.rows
        go None = f
        go (Some a) = f
    full_plain idle word h f = f
    full_plain positional word h f = f

    full_after : (waiting : Waiting) (word : Text) (h : Held) (outcome : Outcome) → Full h.rows → Full (after_flag c waiting word h outcome).0.rows
    full_after waiting word h done f = f
    full_after waiting word h (waits id) f = f
    full_after waiting word h plain f = full_plain waiting word h f
    full_after waiting word h refused f = full_plain waiting word h f

    full_flag_word : (waiting : Waiting) (word : Text) (o : Option (Text × Option Text)) (h : Held) → flag_word_fault c again o word h ≡ [] → Full h.rows
        → Full (long_or_other c waiting word o h).0.rows
    full_flag_word waiting word (Some p) h e f =
        full_after waiting word (long_met c (arg_by_long c p.0) p.1 h).0 (long_met c (arg_by_long c p.0) p.1 h).1 (full_long (arg_by_long c p.0) p.1 h (found_fills _) e f)
    full_flag_word waiting word None h e f = go (short_of word) e
      where
        go : (flags : Option Text) → option_map_or (λ xs. bundle_fault c again xs h) flags [] ≡ [] → Full (short_or_plain c waiting word flags h).0.rows
        go None none = full_plain waiting word h f
        go (Some flags) none =
            full_after waiting word (bundle c flags h).0 (bundle c flags h).1 (full_flags (length flags) flags h.skip plain (record h { skip = 0 }) none f)

-- ---- the words of one level

module _ (s : Shape) (names : Names) (fill : list_all fills s.rules ≡ true) where
  full_other : (o : Option Text) (waiting : Waiting) (position : ℕ) (word : Text) (h : Held) → other_fault s o word h ≡ [] → Full h.rows
      → Full (subcommand_or_other s.rules o waiting position word h).0.rows
  full_other (Some name) waiting position word h e f = f
  full_other None waiting position word h e f = go (bytes_eq word (45 ∷ 45 ∷ [])) e
    where
      go : (b : Bool) → cond b [] (flag_word_fault s.rules s.args_override_self (long_of word) word h) ≡ []
          → Full (cond b (h, trailing position) (long_or_other s.rules waiting word (long_of word) h)).0.rows
      go true none = f
      go false none = full_flag_word s.rules s.args_override_self fill waiting word (long_of word) h none f

  full_word : (is_trailing : Bool) (waiting : Waiting) (position : ℕ) (word : Text) (h : Held) → word_fault s names is_trailing waiting word h ≡ [] → Full h.rows
      → Full (word_met s.rules names is_trailing waiting position word h).0.rows
  full_word true waiting position word h e f = f
  full_word false waiting position word h e f = full_other (subcommand_met names waiting word) waiting position word h e f

  full_positional : (a : Rule) (word : Text) (h : Held) → positional_fault s.rules s.args_override_self a h ≡ [] → Full h.rows → Full (positional_held s.rules a word h).rows
  full_positional a word h e f = go (is_pending a h.pending && takes_several a) e
    where
      go : (b : Bool) → cond b [] (settle_fault s.rules s.args_override_self h) ≡ [] → Full (cond b h (settled s.rules h)).rows
      go true none = f
      go false none = full_settled s.rules s.args_override_self fill h none f

  full_step : (word : Text) (w : Walk) (h : Held) (step : Step) → step_fault s w.position h step ≡ [] → Full h.rows → Full (after_step s.rules word w h step).held.rows
  full_step word w h (next waiting) e f = f
  full_step word w h (trailing position) e f = f
  full_step word w h (subcommand name) e f = f
  full_step word w h value e f = go (arg_by_index s.rules w.position) e
    where
      go : (o : Option Rule) → option_map_or (λ a. positional_fault s.rules s.args_override_self a h) o (stray_fault s) ≡ [] → Full (to_positional s.rules o word w h).held.rows
      go None none = f
      go (Some a) none = full_positional a word h none f

  full_turn : (w : Walk) (word : Text) → turn_fault s names w word ≡ [] → Full w.held.rows → Full (walked s.rules names w word).held.rows
  unfolding walked
  full_turn w word e f = go w.stopped e
    where
      go : (o : Option (Text × List Text))
          → cond (is_some o) [] (or_else (word_fault s names w.is_trailing w.waiting word w.held)
          (step_fault s w.position (word_met s.rules names w.is_trailing w.waiting w.position word w.held).0 (word_met s.rules names w.is_trailing w.waiting w.position word w.held).1)) ≡ []
          → Full (walked_from s.rules names o w word).held.rows
      go (Some p) none = f
      go None none =
          let steps = or_none _ _ none in
          full_step word w _ _ steps.1 (full_word w.is_trailing w.waiting w.position word w.held steps.0 f)

  full_walk : (w : Walk) (words : List Text) → walk_fault s names w words ≡ [] → Full w.held.rows → Full (fold (walked s.rules names) w words).held.rows
  unfolding walk_fault
  full_walk w [] e f = f
  full_walk w (x ∷ xs) e f =
      let steps = or_none _ _ e in
      full_walk (walked s.rules names w x) xs steps.1 (full_turn w x steps.0 f)

  full_default : (rows : List Row) (a : Rule) → Full rows → Full (with_default rows a)
  full_default rows a f = go (has_row a.id rows)
    where
      by : (values : List Text) → Full (default_rows a.id (reading_by a) values rows)
      by [] = f
      by (v ∷ vs) = full_values a.id (reading_by a) DefaultValue (v ∷ vs) rows (omega arith) f

      go : (b : Bool) → Full (cond b rows (default_rows a.id (reading_by a) a.defaults rows))
      go true = f
      go false = by a.defaults

  full_defaults : (rules : List Rule) (rows : List Row) → Full rows → Full (fold with_default rows rules)
  full_defaults [] rows f = f
  full_defaults (a ∷ rest) rows f = full_defaults rest (with_default rows a) (full_default rows a f)

  -- each row of a level without a fault has a value
  pub full_level : (words : List Text) (has_subcommand : Bool) (below : Kinds) → IsFaultFree s names words has_subcommand below → Full (rows_after s.rules names words)
  full_level words has_subcommand below free =
      let held = (walk s.rules names nothing_held words).held in
      full_defaults s.rules _ (full_settled s.rules s.args_override_self fill held free.settled (full_walk (walk_from nothing_held) words free.walked tt))
