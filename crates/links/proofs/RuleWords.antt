-- Texts that contain the word of a rule.
use Rattle.std.proofs.Common.{◌≡◌, ◌⊎◌, inl, inr, ℕ, true, List, ◌∷◌, ◌++◌, length, drop, refl, sym, ap, ◌∙◌}
use Rattle.std.specs.Prelude.{codes}
use Rattle.std.specs.List.{join_with_byte}
use Rattle.std.proofs.lemmas.Bool.Decides.{Decides-eqb}
use Rattle.std.proofs.lemmas.List.{append_assoc}
use Rattle.std.proofs.lemmas.Slice.Eq.{starts_is}
use Rattle.sigtext.specs.Bytes.{begins_with}
use Rattle.links.specs.CommandLines.{texts_of, HasRuleWord}
use Rattle.links.specs.declared.desk.settings.SettingsWords.{SettingsWords}

begun : (text front : List ℕ) → begins_with text front ≡ true → text ≡ front ++ drop (length front) text
begun text front begins = (starts_is Decides-eqb text front (begins_with text front) refl).0 begins

-- the rule's word is the first after a space
behind_space : (word text : List ℕ) → (begins_with text (codes "ends ") ≡ true) ⊎ (begins_with text (codes "begins ") ≡ true) → HasRuleWord (word ++ 32 ∷ text)
behind_space word text (inl begins) = (word, drop 5 text, inl (ap (λ (t : List ℕ). word ++ 32 ∷ t) (begun text (codes "ends ") begins)))
behind_space word text (inr begins) = (word, drop 7 text, inr (ap (λ (t : List ℕ). word ++ 32 ∷ t) (begun text (codes "begins ") begins)))

-- it also occurs in a longer text
pub further : (word text : List ℕ) → HasRuleWord text → HasRuleWord (word ++ 32 ∷ text)
further word text (front, rest, inl is) = (word ++ 32 ∷ front, rest, inl (ap (λ (t : List ℕ). word ++ 32 ∷ t) is ∙ sym (append_assoc word (32 ∷ front) (codes " ends " ++ rest))))
further word text (front, rest, inr is) = (word ++ 32 ∷ front, rest, inr (ap (λ (t : List ℕ). word ++ 32 ∷ t) is ∙ sym (append_assoc word (32 ∷ front) (codes " begins " ++ rest))))

-- the rule's word follows the eight other texts of the settings
pub in_settings : (w : SettingsWords) → (begins_with w.rule.now (codes "ends ") ≡ true) ⊎ (begins_with w.rule.now (codes "begins ") ≡ true)
    → HasRuleWord (join_with_byte 32 (texts_of w))
in_settings w begins =
    further w.opens.now _ (further w.closes.now _ (further w.days.now _ (further w.from.now _ (further w.to.now _ (further w.quota.now _ (further w.max_files.now _
    (behind_space w.mode.now w.rule.now begins)))))))
