-- The words of a box's settings, and their meaning.
use Rattle.std.proofs.Common.{◌≡◌, ℕ, eqb, false, List, [], ◌∷◌, ◌++◌, get_or, drop, refl, sym, ap, subst, ◌∙◌, Some, Option, arith, All}
use Rattle.std.specs.Prelude.{codes, IfSome}
use Rattle.std.specs.List.{AllByRecursion, join_with_byte, slice_split}
use Rattle.std.proofs.lemmas.Option.{same_Some}
use Rattle.std.specs.Char.{is_ascii_digit}
use Rattle.sigtext.specs.Targets.{Lacks}
use Rattle.sigtext.proofs.Cuts.{split_joined}
use Rattle.sigtext.proofs.Pieces.{tested}
use Rattle.boxes.specs.State.{NameRule, AnyName, Ends, Begins, Settings}
use Rattle.boxes.specs.Sound.{is_rule_byte, IsRuleText, IsNameRule}
use Rattle.links.specs.CommandTexts.{days_word, minute_word, mode_word, rule_words, SaysSettings}
use Rattle.links.specs.CommandLines.{texts_of, SayRow}
use Rattle.links.specs.declared.desk.settings.SettingsWords.{SettingsWords}
use Rattle.links.proofs.DeskWords.{differ, word_lacks, moment_lacks_space, days_lack_space, minute_lacks_space, mode_lacks_space}

-- a property of the value that is there
pub some_at : {X : Type 0} (Q : X → Type 0) (o : Option X) (x : X) → o ≡ Some x → IfSome o Q → Q x
some_at Q o x is holds = subst (λ (p : Option _). IfSome p Q) is holds

-- ---- the rule

pub without_commas : (texts : List (List ℕ)) → AllByRecursion (IsRuleText 32) texts → AllByRecursion (All (λ x. eqb x 44 ≡ false)) texts
without_commas [] h = tt
without_commas (text ∷ texts) h = (tested 44 text (word_lacks is_rule_byte 32 text 44 refl h.0.word), without_commas texts h.1)

-- the texts after `ends ` are those of the rule
pub ends_once : (words list : List ℕ) (texts : List (List ℕ)) (r : NameRule) → words ≡ codes "ends " ++ list → texts ≡ slice_split (λ b. eqb b 44) list
    → IsNameRule r → words ≡ join_with_byte 32 (rule_words r) → Ends texts ≡ r
ends_once words list texts AnyName front split form is = absurd (differ 0 _ _ 101 97 (sym front ∙ is) refl refl (λ e. omega arith))
ends_once words list texts (Ends given) front split form is =
    let list_is : list ≡ join_with_byte 44 given = ap (λ (t : List ℕ). drop 5 t) (sym front ∙ is) in
    ap Ends (split ∙ ap (slice_split (λ b. eqb b 44)) list_is ∙ split_joined 44 given (omega (arith, form.0)) (without_commas given form.2))
ends_once words list texts (Begins text) front split form is = absurd (differ 0 _ _ 101 98 (sym front ∙ is) refl refl (λ e. omega arith))

-- ---- the settings

-- the nine texts, with the rule's words as one
abbrev pub nine_texts : (words : List (List ℕ)) (b : Settings) → SaysSettings words b → List (List ℕ)
nine_texts words b s =
    s.opens ∷ s.closes ∷ days_word b.days ∷ minute_word b.from_minute ∷ minute_word b.to_minute ∷ s.quota ∷ s.max_files ∷ mode_word b.mode
    ∷ join_with_byte 32 (rule_words b.rule) ∷ []

rule_as_one : (a b c d e f g h : List ℕ) (r : NameRule)
    → join_with_byte 32 (a ∷ b ∷ c ∷ d ∷ e ∷ f ∷ g ∷ h ∷ rule_words r) ≡ join_with_byte 32 (a ∷ b ∷ c ∷ d ∷ e ∷ f ∷ g ∷ h ∷ join_with_byte 32 (rule_words r) ∷ [])
rule_as_one a b c d e f g h AnyName = refl
rule_as_one a b c d e f g h (Ends texts) = refl
rule_as_one a b c d e f g h (Begins text) = refl

-- a text that says settings is cut into these nine
pub cut_settings : (text : List ℕ) (found : Option (List (List ℕ))) (words : List (List ℕ)) (b : Settings) (s : SaysSettings words b) → text ≡ join_with_byte 32 words
    → ((opens closes days from to quota max_files mode rule : List ℕ)
    → Lacks 32 opens → Lacks 32 closes → Lacks 32 days → Lacks 32 from → Lacks 32 to → Lacks 32 quota → Lacks 32 max_files → Lacks 32 mode
    → text ≡ join_with_byte 32 (opens ∷ closes ∷ days ∷ from ∷ to ∷ quota ∷ max_files ∷ mode ∷ rule ∷ [])
    → found ≡ Some (opens ∷ closes ∷ days ∷ from ∷ to ∷ quota ∷ max_files ∷ mode ∷ rule ∷ []))
    → found ≡ Some (nine_texts words b s)
cut_settings text found words b s is cuts =
    cuts s.opens s.closes (days_word b.days) (minute_word b.from_minute) (minute_word b.to_minute) s.quota s.max_files (mode_word b.mode) (join_with_byte 32 (rule_words b.rule))
    (moment_lacks_space s.opens b.opens s.is_opens) (moment_lacks_space s.closes b.closes s.is_closes) (days_lack_space b.days)
    (minute_lacks_space b.from_minute) (minute_lacks_space b.to_minute)
    (word_lacks is_ascii_digit 13 s.quota 32 refl s.is_quota.digits) (word_lacks is_ascii_digit 13 s.max_files 32 refl s.is_max_files.digits)
    (mode_lacks_space b.mode)
    (is ∙ ap (join_with_byte 32) s.are ∙ rule_as_one s.opens s.closes (days_word b.days) (minute_word b.from_minute) (minute_word b.to_minute) s.quota s.max_files (mode_word b.mode) b.rule)

-- the nine texts state the settings
pub nine_say : (w : SettingsWords) (words : List (List ℕ)) (b : Settings) (s : SaysSettings words b) → texts_of w ≡ nine_texts words b s
    → SayRow w b × (w.rule.now ≡ join_with_byte 32 (rule_words b.rule))
nine_say w words b s is =
    let at : (i : ℕ) → get_or (texts_of w) i [] ≡ get_or (nine_texts words b s) i [] = λ i. ap (λ (t : List (List ℕ)). get_or t i []) is in (
      record {
        opens = rw (at 0) s.is_opens;
        closes = rw (at 1) s.is_closes;
        days = at 2;
        from_minute = at 3;
        to_minute = at 4;
        quota = rw (at 5) s.is_quota;
        max_files = rw (at 6) s.is_max_files;
        mode = at 7;
      },
      at 8,
    )

-- settings and a rule are stated by one text
pub say_settings : (text : List ℕ) (w : SettingsWords) (a : Settings) → text ≡ join_with_byte 32 (texts_of w) → SayRow w a → (r : NameRule)
    → w.rule.now ≡ join_with_byte 32 (rule_words r)
    → (words : List (List ℕ)) × SaysSettings words (record a { rule = r }) × (text ≡ join_with_byte 32 words)
say_settings text w a is says r rule = (
  w.opens.now ∷ w.closes.now ∷ days_word a.days ∷ minute_word a.from_minute ∷ minute_word a.to_minute ∷ w.quota.now ∷ w.max_files.now ∷ mode_word a.mode ∷ rule_words r,
  record {
    opens = w.opens.now;
    closes = w.closes.now;
    quota = w.quota.now;
    max_files = w.max_files.now;
    is_opens = says.opens;
    is_closes = says.closes;
    is_quota = says.quota;
    is_max_files = says.max_files;
    are = refl;
  },
  is
      ∙ (λ i. join_with_byte 32 (w.opens.now ∷ w.closes.now ∷ says.days i ∷ says.from_minute i ∷ says.to_minute i ∷ w.quota.now ∷ w.max_files.now ∷ says.mode i ∷ rule i ∷ []))
      ∙ sym (rule_as_one w.opens.now w.closes.now (days_word a.days) (minute_word a.from_minute) (minute_word a.to_minute) w.quota.now w.max_files.now (mode_word a.mode) r),
)

-- settings that are equal except for the rule, with the rule put in
pub with_rule : (a b : Settings) (r : NameRule) → ◌≡◌ {A = Option Settings} (Some a) (Some (record b { rule = AnyName })) → ◌≡◌ {A = Option NameRule} (Some r) (Some b.rule)
    → ◌≡◌ {A = Option Settings} (Some (record a { rule = r })) (Some b)
with_rule a b r same rule =
    let rest = same_Some a (record b { rule = AnyName }) same in
    let last = same_Some r b.rule rule in
    λ i. Some (record {
      opens = (rest i).opens;
      closes = (rest i).closes;
      days = (rest i).days;
      from_minute = (rest i).from_minute;
      to_minute = (rest i).to_minute;
      quota = (rest i).quota;
      max_files = (rest i).max_files;
      mode = (rest i).mode;
      rule = last i;
    })
