-- A text stands for at most one command.
use Rattle.std.proofs.Common.{◌≡◌, ℕ, zero, suc, List, [], ◌∷◌, ◌++◌, length, get_or, drop, refl, sym, ap, subst, ◌∙◌, Option, Some, arith}
use Rattle.std.specs.Prelude.{codes, option_map}
use Rattle.std.specs.List.{AllByRecursion, join_with_byte}
use Rattle.std.proofs.lemmas.Option.{same_Some}
use Rattle.sigtext.specs.Targets.{Lacks}
use Rattle.sigtext.proofs.Reading.{cut, ◌>>=◌}
use Rattle.sigtext.proofs.Cuts.{cut_at, split_joined}
use Rattle.sigtext.proofs.Pieces.{tested}
use Rattle.sigv4.specs.Dates.{WritesMoment}
use Rattle.sigv4.proofs.Moments.{moment_once}
use Rattle.boxes.specs.State.{NameRule, AnyName, Ends, Begins, Settings}
use Rattle.boxes.specs.Steps.{Command, AddKey, RevokeKey, AddBox, CloseBox, DropFile, LimitKey, SetAllowance}
use Rattle.boxes.specs.Sound.{IsNameRule, AreSettings}
use Rattle.boxes.specs.Commands.{HasForm}
use Rattle.std.specs.Str.Parse.{digits_value}
use Rattle.links.specs.CommandTexts.{role_word, rule_words, SaysSettings, IsCommand}
use Rattle.links.proofs.DeskWords.{cut_once, differ, role_lacks_space, role_once, mode_once, days_once, minute_once}
use Rattle.links.proofs.NineTexts.{ends_once, without_commas, nine_texts, cut_settings}
use Rattle.links.proofs.Commands.{text_of, IsAddedKey, added_key, revoked_key, IsAddedBox, added_box, IsClosedBox, closed_box, IsDroppedFile, dropped_file, IsLimitedKey, limited_key, IsSetAllowance, set_allowance}

-- ---- settings

-- the texts before the first n spaces, and the text after them
unfoldable pub cut_spaces : ℕ → List ℕ → Option (List (List ℕ))
cut_spaces zero text = Some (text ∷ [])
cut_spaces (suc n) text = cut 32 text >>= (λ p. option_map (λ (t : List (List ℕ)). p.0 ∷ t) (cut_spaces n p.1))

join_more : (word : List ℕ) (words : List (List ℕ)) (last : List ℕ) → join_with_byte 32 (word ∷ (words ++ last ∷ [])) ≡ word ++ 32 ∷ join_with_byte 32 (words ++ last ∷ [])
join_more word [] last = refl
join_more word (next ∷ words) last = refl

cuts_joined : (words : List (List ℕ)) (last : List ℕ) → AllByRecursion (Lacks 32) words → cut_spaces (length words) (join_with_byte 32 (words ++ last ∷ [])) ≡ Some (words ++ last ∷ [])
unfolding cut_spaces
cuts_joined [] last lack = refl
cuts_joined (word ∷ words) last lack =
    ap (cut_spaces (suc (length words))) (join_more word words last)
    ∙ ap (λ o. o >>= (λ p. option_map (λ (t : List (List ℕ)). p.0 ∷ t) (cut_spaces (length words) p.1))) (cut_at 32 word (join_with_byte 32 (words ++ last ∷ [])) (tested 32 word lack.0))
    ∙ ap (option_map (λ (t : List (List ℕ)). word ∷ t)) (cuts_joined words last lack.1)

-- the first eight spaces cut a text that states settings into the nine texts
pub cuts_settings : (text : List ℕ) (words : List (List ℕ)) (b : Settings) (s : SaysSettings words b) → text ≡ join_with_byte 32 words → cut_spaces 8 text ≡ Some (nine_texts words b s)
cuts_settings text words b s is =
    cut_settings text (cut_spaces 8 text) words b s is (λ opens closes days from to quota max_files mode rule l1 l2 l3 l4 l5 l6 l7 l8 joined.
    ap (cut_spaces 8) joined
    ∙ cuts_joined (opens ∷ closes ∷ days ∷ from ∷ to ∷ quota ∷ max_files ∷ mode ∷ []) rule (l1, (l2, (l3, (l4, (l5, (l6, (l7, (l8, tt)))))))))

rule_once : (r s : NameRule) → IsNameRule r → IsNameRule s → join_with_byte 32 (rule_words r) ≡ join_with_byte 32 (rule_words s) → r ≡ s
rule_once AnyName AnyName form form₂ same = refl
rule_once AnyName (Ends texts) form form₂ same = absurd (differ 0 _ _ 97 101 same refl refl (λ e. omega arith))
rule_once AnyName (Begins text) form form₂ same = absurd (differ 0 _ _ 97 98 same refl refl (λ e. omega arith))
rule_once (Ends texts) s form form₂ same =
    ends_once (codes "ends " ++ join_with_byte 44 texts) (join_with_byte 44 texts) texts s refl (sym (split_joined 44 texts (omega (arith, form.0)) (without_commas texts form.2))) form₂ same
rule_once (Begins text) AnyName form form₂ same = absurd (differ 0 _ _ 98 97 same refl refl (λ e. omega arith))
rule_once (Begins text) (Ends texts) form form₂ same = absurd (differ 0 _ _ 98 101 same refl refl (λ e. omega arith))
rule_once (Begins text) (Begins other) form form₂ same = ap (λ (t : List ℕ). Begins (drop 7 t)) same

settings_once : (text : List ℕ) (words more : List (List ℕ)) (a b : Settings) → SaysSettings words a → SaysSettings more b → AreSettings a → AreSettings b
    → text ≡ join_with_byte 32 words → text ≡ join_with_byte 32 more → a ≡ b
settings_once text words more a b s t are are₂ is is₂ =
    let same = same_Some (nine_texts words a s) (nine_texts more b t) (sym (cuts_settings text words a s is) ∙ cuts_settings text more b t is₂) in
    let at : (i : ℕ) → get_or (nine_texts words a s) i [] ≡ get_or (nine_texts more b t) i [] = λ i. ap (λ (l : List (List ℕ)). get_or l i []) same in
    let opens = moment_once t.opens b.opens a.opens t.is_opens (subst (λ (l : List ℕ). WritesMoment l a.opens) (at 0) s.is_opens) in
    let closes = moment_once t.closes b.closes a.closes t.is_closes (subst (λ (l : List ℕ). WritesMoment l a.closes) (at 1) s.is_closes) in
    let days = days_once a.days b.days (at 2) in
    let from = minute_once a.from_minute b.from_minute (omega (arith, are.hours, are.day)) (omega (arith, are₂.hours, are₂.day)) (at 3) in
    let to = minute_once a.to_minute b.to_minute (omega (arith, are.day)) (omega (arith, are₂.day)) (at 4) in
    let quota = s.is_quota.value ∙ ap (digits_value 10) (at 5) ∙ sym t.is_quota.value in
    let max_files = s.is_max_files.value ∙ ap (digits_value 10) (at 6) ∙ sym t.is_max_files.value in
    let mode = mode_once a.mode b.mode (at 7) in
    let rule = rule_once a.rule b.rule are.rule are₂.rule (at 8) in
    λ i. record {
      opens = opens i;
      closes = closes i;
      days = days i;
      from_minute = from i;
      to_minute = to i;
      quota = quota i;
      max_files = max_files i;
      mode = mode i;
      rule = rule i;
    }

-- ---- commands

key_once : (words : List ℕ) (a b : Command) → IsAddedKey words a → IsAddedKey words b → b ≡ a
key_once words a b k l =
    let first = cut_once 32 words l.id (role_word l.role ++ 32 ∷ l.secret) k.id (role_word k.role ++ 32 ∷ k.secret) (l.text, l.word) k.word k.text in
    let second = cut_once 32 (role_word l.role ++ 32 ∷ l.secret) (role_word l.role) l.secret (role_word k.role) k.secret (refl, role_lacks_space l.role) (role_lacks_space k.role) first.1 in
    let role = role_once l.role k.role second.0 in
    l.command ∙ (λ i. AddKey (first.0 i) (role i) (second.1 i)) ∙ sym k.command

box_once : (words : List ℕ) (a b : Command) → IsAddedBox words a → IsAddedBox words b → b ≡ a
box_once words a b k l =
    let first = cut_once 32 words l.name (join_with_byte 32 l.more) k.name (join_with_byte 32 k.more) (l.text, l.word) k.word k.text in
    let settings = settings_once (join_with_byte 32 l.more) l.more k.more l.settings k.settings l.says k.says l.are k.are refl first.1 in
    l.command ∙ (λ i. AddBox (first.0 i) (settings i)) ∙ sym k.command

closing_once : (words : List ℕ) (a b : Command) → IsClosedBox words a → IsClosedBox words b → b ≡ a
closing_once words a b k l =
    let first = cut_once 32 words l.name l.date k.name k.date (l.text, l.word) k.word k.text in
    let moment = moment_once k.date k.moment l.moment k.writes (subst (λ (t : List ℕ). WritesMoment t l.moment) first.1 l.writes) in
    l.command ∙ (λ i. CloseBox (first.0 i) (moment i)) ∙ sym k.command

drop_once : (words : List ℕ) (a b : Command) → IsDroppedFile words a → IsDroppedFile words b → b ≡ a
drop_once words a b k l =
    let first = cut_once 32 words l.place.box l.place.name k.place.box k.place.name (l.text, l.word) k.word k.text in
    l.command ∙ (λ i. DropFile (record { box = first.0 i; name = first.1 i })) ∙ sym k.command

limit_once : (words : List ℕ) (a b : Command) → IsLimitedKey words a → IsLimitedKey words b → b ≡ a
limit_once words a b k l =
    let first = cut_once 32 words l.id l.box k.id k.box (l.text, l.word) k.word k.text in
    l.command ∙ (λ i. LimitKey (first.0 i) (first.1 i)) ∙ sym k.command

allowance_once : (word : List ℕ) (a b : Command) → IsSetAllowance word a → IsSetAllowance word b → b ≡ a
allowance_once word a b k l = l.command ∙ ap SetAllowance (l.number.value ∙ sym k.number.value) ∙ sym k.command

pub command_once : (text : List ℕ) (a b : Command) → IsCommand text a → HasForm a → IsCommand text b → HasForm b → b ≡ a
command_once text (AddKey id role secret) b is form is₂ form₂ =
    let a = AddKey id role secret in
    let words = id ++ 32 ∷ (role_word role ++ 32 ∷ secret) in
    let front = text_of text a is in
    key_once words a b (added_key words a (subst (λ (t : List ℕ). IsCommand t a) front is) form) (added_key words b (subst (λ (t : List ℕ). IsCommand t b) front is₂) form₂)
command_once text (RevokeKey id) b is form is₂ form₂ =
    revoked_key id b (subst (λ (t : List ℕ). IsCommand t b) (text_of text (RevokeKey id) is) is₂)
command_once text (AddBox name settings) b is form is₂ form₂ =
    let a = AddBox name settings in
    let t = text_of text a is in
    let words = name ++ 32 ∷ join_with_byte 32 t.0 in
    box_once words a b (added_box words a (subst (λ (t : List ℕ). IsCommand t a) t.2 is) form) (added_box words b (subst (λ (t : List ℕ). IsCommand t b) t.2 is₂) form₂)
command_once text (CloseBox name moment) b is form is₂ form₂ =
    let a = CloseBox name moment in
    let t = text_of text a is in
    let words = name ++ 32 ∷ t.0 in
    closing_once words a b (closed_box words a (subst (λ (t : List ℕ). IsCommand t a) t.2 is) form) (closed_box words b (subst (λ (t : List ℕ). IsCommand t b) t.2 is₂) form₂)
command_once text (DropFile place) b is form is₂ form₂ =
    let a = DropFile place in
    let words = place.box ++ 32 ∷ place.name in
    let front = text_of text a is in
    drop_once words a b (dropped_file words a (subst (λ (t : List ℕ). IsCommand t a) front is) form) (dropped_file words b (subst (λ (t : List ℕ). IsCommand t b) front is₂) form₂)
command_once text (LimitKey id box) b is form is₂ form₂ =
    let a = LimitKey id box in
    let words = id ++ 32 ∷ box in
    let front = text_of text a is in
    limit_once words a b (limited_key words a (subst (λ (t : List ℕ). IsCommand t a) front is) form) (limited_key words b (subst (λ (t : List ℕ). IsCommand t b) front is₂) form₂)
command_once text (SetAllowance seconds) b is form is₂ form₂ =
    let a = SetAllowance seconds in
    let t = text_of text a is in
    allowance_once t.0 a b (set_allowance t.0 a (subst (λ (x : List ℕ). IsCommand x a) t.2 is)) (set_allowance t.0 b (subst (λ (x : List ℕ). IsCommand x b) t.2 is₂))
