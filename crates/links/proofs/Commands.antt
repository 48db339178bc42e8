-- The texts of commands, by kind.
use Rattle.std.proofs.Common.{◌≡◌, ℕ, List, [], ◌∷◌, ◌++◌, drop, refl, sym, ap, subst, ◌∙◌, arith}
use Rattle.std.specs.Prelude.{codes}
use Rattle.std.specs.List.{join_with_byte}
use Rattle.sigtext.specs.Targets.{Lacks}
use Rattle.sigv4.specs.Dates.{WritesMoment}
use Rattle.sigv4.specs.Credential.{is_key_byte}
use Rattle.boxes.specs.declared.rows.Role.{Role}
use Rattle.boxes.specs.State.{Settings, Place}
use Rattle.boxes.specs.Steps.{Command, AddKey, RevokeKey, AddBox, CloseBox, DropFile, LimitKey, SetAllowance}
use Rattle.boxes.specs.Sound.{is_box_byte, AreSettings}
use Rattle.boxes.specs.Commands.{HasForm}
use Rattle.links.specs.CommandTexts.{role_word, IsNumber, SaysSettings, Says, adds_key, revokes_key, adds_box, closes_box, drops_file, limits_key, sets_allowance, IsCommand}
use Rattle.links.proofs.DeskWords.{differ, word_lacks}

-- the text of the command, with its words written out
abbrev pub IsTextOf : List ℕ → Command → Type 0
IsTextOf text (AddKey id role secret) = text ≡ codes "key add " ++ (id ++ 32 ∷ (role_word role ++ 32 ∷ secret))
IsTextOf text (RevokeKey id) = text ≡ codes "key revoke " ++ id
IsTextOf text (AddBox name settings) =
    (words : List (List ℕ)) × SaysSettings words settings × (text ≡ codes "box add " ++ (name ++ 32 ∷ join_with_byte 32 words))
IsTextOf text (CloseBox name moment) = (word : List ℕ) × WritesMoment word moment × (text ≡ codes "box close " ++ (name ++ 32 ∷ word))
IsTextOf text (DropFile place) = text ≡ codes "file drop " ++ (place.box ++ 32 ∷ place.name)
IsTextOf text (LimitKey id box) = text ≡ codes "key limit " ++ (id ++ 32 ∷ box)
IsTextOf text (SetAllowance seconds) = (word : List ℕ) × IsNumber word seconds × (text ≡ codes "office allow " ++ word)

-- settings are stated by at least one word
pub join_settings : (name : List ℕ) (words : List (List ℕ)) (settings : Settings) → SaysSettings words settings
    → join_with_byte 32 (name ∷ words) ≡ name ++ 32 ∷ join_with_byte 32 words
join_settings name words settings says =
    subst (λ (w : List (List ℕ)). join_with_byte 32 (name ∷ w) ≡ name ++ 32 ∷ join_with_byte 32 w) (sym says.are) refl

says_text : (text : List ℕ) (words : List (List ℕ)) (c : Command) → Says words c → text ≡ join_with_byte 32 words → IsTextOf text c
says_text text words c (adds_key id role secret) is = is
says_text text words c (revokes_key id) is = is
says_text text words c (adds_box name more settings says) is = (more, says, is ∙ ap (λ (t : List ℕ). codes "box add " ++ t) (join_settings name more settings says))
says_text text words c (closes_box name word moment writes) is = (word, writes, is)
says_text text words c (drops_file place) is = is
says_text text words c (limits_key id box) is = is
says_text text words c (sets_allowance word seconds number) is = (word, number, is)

pub text_of : (text : List ℕ) (c : Command) → IsCommand text c → IsTextOf text c
text_of text c is = says_text text is.words c is.says is.is

-- ---- what follows the first two words

pub record IsAddedKey (words : List ℕ) (c : Command) : Type 0 where
  pub id : List ℕ
  pub role : Role
  pub secret : List ℕ
  pub command : c ≡ AddKey id role secret
  pub text : words ≡ id ++ 32 ∷ (role_word role ++ 32 ∷ secret)
  pub word : Lacks 32 id

pub added_key : (words : List ℕ) (c : Command) → IsCommand (codes "key add " ++ words) c → HasForm c → IsAddedKey words c
added_key words (AddKey id role secret) is form =
    record {
      id = id;
      role = role;
      secret = secret;
      command = refl;
      text = ap (λ (t : List ℕ). drop 8 t) (text_of _ _ is);
      word = word_lacks is_key_byte 64 id 32 refl form.0;
    }
added_key words (RevokeKey id) is form = absurd (differ 4 _ _ 97 114 (text_of _ _ is) refl refl (λ e. omega arith))
added_key words (AddBox name settings) is form = let t = text_of (codes "key add " ++ words) (AddBox name settings) is in absurd (differ 0 _ _ 107 98 t.2 refl refl (λ e. omega arith))
added_key words (CloseBox name moment) is form = let t = text_of (codes "key add " ++ words) (CloseBox name moment) is in absurd (differ 0 _ _ 107 98 t.2 refl refl (λ e. omega arith))
added_key words (DropFile place) is form = absurd (differ 0 _ _ 107 102 (text_of _ _ is) refl refl (λ e. omega arith))
added_key words (LimitKey id box) is form = absurd (differ 4 _ _ 97 108 (text_of _ _ is) refl refl (λ e. omega arith))
added_key words (SetAllowance seconds) is form = let t = text_of (codes "key add " ++ words) (SetAllowance seconds) is in absurd (differ 0 _ _ 107 111 t.2 refl refl (λ e. omega arith))

pub revoked_key : (id : List ℕ) (c : Command) → IsCommand (codes "key revoke " ++ id) c → c ≡ RevokeKey id
revoked_key id (AddKey other role secret) is = absurd (differ 4 _ _ 114 97 (text_of _ _ is) refl refl (λ e. omega arith))
revoked_key id (RevokeKey other) is = ap (λ (t : List ℕ). RevokeKey (drop 11 t)) (sym (text_of _ _ is))
revoked_key id (AddBox name settings) is = let t = text_of (codes "key revoke " ++ id) (AddBox name settings) is in absurd (differ 0 _ _ 107 98 t.2 refl refl (λ e. omega arith))
revoked_key id (CloseBox name moment) is = let t = text_of (codes "key revoke " ++ id) (CloseBox name moment) is in absurd (differ 0 _ _ 107 98 t.2 refl refl (λ e. omega arith))
revoked_key id (DropFile place) is = absurd (differ 0 _ _ 107 102 (text_of _ _ is) refl refl (λ e. omega arith))
revoked_key id (LimitKey other box) is = absurd (differ 4 _ _ 114 108 (text_of _ _ is) refl refl (λ e. omega arith))
revoked_key id (SetAllowance seconds) is = let t = text_of (codes "key revoke " ++ id) (SetAllowance seconds) is in absurd (differ 0 _ _ 107 111 t.2 refl refl (λ e. omega arith))

pub record IsAddedBox (words : List ℕ) (c : Command) : Type 0 where
  pub name : List ℕ
  pub settings : Settings
  pub more : List (List ℕ)
  pub says : SaysSettings more settings
  pub command : c ≡ AddBox name settings
  pub text : words ≡ name ++ 32 ∷ join_with_byte 32 more
  pub word : Lacks 32 name
  pub are : AreSettings settings

pub added_box : (words : List ℕ) (c : Command) → IsCommand (codes "box add " ++ words) c → HasForm c → IsAddedBox words c
added_box words (AddKey id role secret) is form = absurd (differ 0 _ _ 98 107 (text_of _ _ is) refl refl (λ e. omega arith))
added_box words (RevokeKey id) is form = absurd (differ 0 _ _ 98 107 (text_of _ _ is) refl refl (λ e. omega arith))
added_box words (AddBox name settings) is form =
    let t = text_of (codes "box add " ++ words) (AddBox name settings) is in
    record {
      name = name;
      settings = settings;
      more = t.0;
      says = t.1;
      command = refl;
      text = ap (λ (t : List ℕ). drop 8 t) t.2;
      word = word_lacks is_box_byte 63 name 32 refl form.0;
      are = form.1;
    }
added_box words (CloseBox name moment) is form = let t = text_of (codes "box add " ++ words) (CloseBox name moment) is in absurd (differ 4 _ _ 97 99 t.2 refl refl (λ e. omega arith))
added_box words (DropFile place) is form = absurd (differ 0 _ _ 98 102 (text_of _ _ is) refl refl (λ e. omega arith))
added_box words (LimitKey id box) is form = absurd (differ 0 _ _ 98 107 (text_of _ _ is) refl refl (λ e. omega arith))
added_box words (SetAllowance seconds) is form = let t = text_of (codes "box add " ++ words) (SetAllowance seconds) is in absurd (differ 0 _ _ 98 111 t.2 refl refl (λ e. omega arith))

pub record IsClosedBox (words : List ℕ) (c : Command) : Type 0 where
  pub name : List ℕ
  pub moment : ℕ
  pub date : List ℕ
  pub writes : WritesMoment date moment
  pub command : c ≡ CloseBox name moment
  pub text : words ≡ name ++ 32 ∷ date
  pub word : Lacks 32 name

pub closed_box : (words : List ℕ) (c : Command) → IsCommand (codes "box close " ++ words) c → HasForm c → IsClosedBox words c
closed_box words (AddKey id role secret) is form = absurd (differ 0 _ _ 98 107 (text_of _ _ is) refl refl (λ e. omega arith))
closed_box words (RevokeKey id) is form = absurd (differ 0 _ _ 98 107 (text_of _ _ is) refl refl (λ e. omega arith))
closed_box words (AddBox name settings) is form = let t = text_of (codes "box close " ++ words) (AddBox name settings) is in absurd (differ 4 _ _ 99 97 t.2 refl refl (λ e. omega arith))
closed_box words (CloseBox name moment) is form =
    let t = text_of (codes "box close " ++ words) (CloseBox name moment) is in
    record {
      name = name;
      moment = moment;
      date = t.0;
      writes = t.1;
      command = refl;
      text = ap (λ (t : List ℕ). drop 10 t) t.2;
      word = word_lacks is_box_byte 63 name 32 refl form.0;
    }
closed_box words (DropFile place) is form = absurd (differ 0 _ _ 98 102 (text_of _ _ is) refl refl (λ e. omega arith))
closed_box words (LimitKey id box) is form = absurd (differ 0 _ _ 98 107 (text_of _ _ is) refl refl (λ e. omega arith))
closed_box words (SetAllowance seconds) is form = let t = text_of (codes "box close " ++ words) (SetAllowance seconds) is in absurd (differ 0 _ _ 98 111 t.2 refl refl (λ e. omega arith))

pub record IsDroppedFile (words : List ℕ) (c : Command) : Type 0 where
  pub place : Place
  pub command : c ≡ DropFile place
  pub text : words ≡ place.box ++ 32 ∷ place.name
  pub word : Lacks 32 place.box

pub dropped_file : (words : List ℕ) (c : Command) → IsCommand (codes "file drop " ++ words) c → HasForm c → IsDroppedFile words c
dropped_file words (AddKey id role secret) is form = absurd (differ 0 _ _ 102 107 (text_of _ _ is) refl refl (λ e. omega arith))
dropped_file words (RevokeKey id) is form = absurd (differ 0 _ _ 102 107 (text_of _ _ is) refl refl (λ e. omega arith))
dropped_file words (AddBox name settings) is form = let t = text_of (codes "file drop " ++ words) (AddBox name settings) is in absurd (differ 0 _ _ 102 98 t.2 refl refl (λ e. omega arith))
dropped_file words (CloseBox name moment) is form = let t = text_of (codes "file drop " ++ words) (CloseBox name moment) is in absurd (differ 0 _ _ 102 98 t.2 refl refl (λ e. omega arith))
dropped_file words (DropFile place) is form =
    record {
      place = place;
      command = refl;
      text = ap (λ (t : List ℕ). drop 10 t) (text_of _ _ is);
      word = word_lacks is_box_byte 63 place.box 32 refl form.0;
    }
dropped_file words (LimitKey id box) is form = absurd (differ 0 _ _ 102 107 (text_of _ _ is) refl refl (λ e. omega arith))
dropped_file words (SetAllowance seconds) is form = let t = text_of (codes "file drop " ++ words) (SetAllowance seconds) is in absurd (differ 0 _ _ 102 111 t.2 refl refl (λ e. omega arith))

pub record IsLimitedKey (words : List ℕ) (c : Command) : Type 0 where
  pub id : List ℕ
  pub box : List ℕ
  pub command : c ≡ LimitKey id box
  pub text : words ≡ id ++ 32 ∷ box
  pub word : Lacks 32 id

pub limited_key : (words : List ℕ) (c : Command) → IsCommand (codes "key limit " ++ words) c → HasForm c → IsLimitedKey words c
limited_key words (AddKey id role secret) is form = absurd (differ 4 _ _ 108 97 (text_of _ _ is) refl refl (λ e. omega arith))
limited_key words (RevokeKey id) is form = absurd (differ 4 _ _ 108 114 (text_of _ _ is) refl refl (λ e. omega arith))
limited_key words (AddBox name settings) is form = let t = text_of (codes "key limit " ++ words) (AddBox name settings) is in absurd (differ 0 _ _ 107 98 t.2 refl refl (λ e. omega arith))
limited_key words (CloseBox name moment) is form = let t = text_of (codes "key limit " ++ words) (CloseBox name moment) is in absurd (differ 0 _ _ 107 98 t.2 refl refl (λ e. omega arith))
limited_key words (DropFile place) is form = absurd (differ 0 _ _ 107 102 (text_of _ _ is) refl refl (λ e. omega arith))
limited_key words (LimitKey id box) is form =
    record {
      id = id;
      box = box;
      command = refl;
      text = ap (λ (t : List ℕ). drop 10 t) (text_of _ _ is);
      word = word_lacks is_key_byte 64 id 32 refl form.0;
    }
limited_key words (SetAllowance seconds) is form = let t = text_of (codes "key limit " ++ words) (SetAllowance seconds) is in absurd (differ 0 _ _ 107 111 t.2 refl refl (λ e. omega arith))

pub record IsSetAllowance (word : List ℕ) (c : Command) : Type 0 where
  pub seconds : ℕ
  pub command : c ≡ SetAllowance seconds
  pub number : IsNumber word seconds

pub set_allowance : (word : List ℕ) (c : Command) → IsCommand (codes "office allow " ++ word) c → IsSetAllowance word c
set_allowance word (AddKey id role secret) is = absurd (differ 0 _ _ 111 107 (text_of _ _ is) refl refl (λ e. omega arith))
set_allowance word (RevokeKey id) is = absurd (differ 0 _ _ 111 107 (text_of _ _ is) refl refl (λ e. omega arith))
set_allowance word (AddBox name settings) is = let t = text_of (codes "office allow " ++ word) (AddBox name settings) is in absurd (differ 0 _ _ 111 98 t.2 refl refl (λ e. omega arith))
set_allowance word (CloseBox name moment) is = let t = text_of (codes "office allow " ++ word) (CloseBox name moment) is in absurd (differ 0 _ _ 111 98 t.2 refl refl (λ e. omega arith))
set_allowance word (DropFile place) is = absurd (differ 0 _ _ 111 102 (text_of _ _ is) refl refl (λ e. omega arith))
set_allowance word (LimitKey id box) is = absurd (differ 0 _ _ 111 107 (text_of _ _ is) refl refl (λ e. omega arith))
set_allowance word (SetAllowance seconds) is =
    let t = text_of (codes "office allow " ++ word) (SetAllowance seconds) is in
    record {
      seconds = seconds;
      command = refl;
      number = subst (λ (x : List ℕ). IsNumber x seconds) (sym (ap (λ (x : List ℕ). drop 13 x) t.2)) t.1;
    }

-- ---- the converse

pub writes_key : (words id rest word secret : List ℕ) (role : Role) → words ≡ id ++ 32 ∷ rest → rest ≡ word ++ 32 ∷ secret → word ≡ role_word role
    → IsCommand (codes "key add " ++ words) (AddKey id role secret)
writes_key words id rest word secret role first second third =
    record {
      words = codes "key" ∷ codes "add" ∷ id ∷ role_word role ∷ secret ∷ [];
      says = adds_key id role secret;
      is = ap (λ (t : List ℕ). codes "key add " ++ t) (first ∙ ap (λ (t : List ℕ). id ++ 32 ∷ t) (second ∙ ap (λ (t : List ℕ). t ++ 32 ∷ secret) third));
    }

pub writes_revoked : (line id : List ℕ) → line ≡ codes "key revoke " ++ id → IsCommand line (RevokeKey id)
writes_revoked line id is = record { words = codes "key" ∷ codes "revoke" ∷ id ∷ []; says = revokes_key id; is = is }

pub writes_box : (words name rest : List ℕ) (more : List (List ℕ)) (settings : Settings) → words ≡ name ++ 32 ∷ rest → SaysSettings more settings → rest ≡ join_with_byte 32 more
    → IsCommand (codes "box add " ++ words) (AddBox name settings)
writes_box words name rest more settings first says second =
    record {
      words = codes "box" ∷ codes "add" ∷ name ∷ more;
      says = adds_box name more settings says;
      is = ap (λ (t : List ℕ). codes "box add " ++ t) (first ∙ ap (λ (t : List ℕ). name ++ 32 ∷ t) second ∙ sym (join_settings name more settings says));
    }

pub writes_closing : (words name date : List ℕ) (moment : ℕ) → words ≡ name ++ 32 ∷ date → WritesMoment date moment
    → IsCommand (codes "box close " ++ words) (CloseBox name moment)
writes_closing words name date moment first writes =
    record {
      words = codes "box" ∷ codes "close" ∷ name ∷ date ∷ [];
      says = closes_box name date moment writes;
      is = ap (λ (t : List ℕ). codes "box close " ++ t) first;
    }

pub writes_drop : (words box name : List ℕ) → words ≡ box ++ 32 ∷ name
    → IsCommand (codes "file drop " ++ words) (DropFile (record { box = box; name = name }))
writes_drop words box name first =
    record {
      words = codes "file" ∷ codes "drop" ∷ box ∷ name ∷ [];
      says = drops_file (record { box = box; name = name });
      is = ap (λ (t : List ℕ). codes "file drop " ++ t) first;
    }

pub writes_limit : (words id box : List ℕ) → words ≡ id ++ 32 ∷ box → IsCommand (codes "key limit " ++ words) (LimitKey id box)
writes_limit words id box first =
    record {
      words = codes "key" ∷ codes "limit" ∷ id ∷ box ∷ [];
      says = limits_key id box;
      is = ap (λ (t : List ℕ). codes "key limit " ++ t) first;
    }

pub writes_allowance : (word : List ℕ) (seconds : ℕ) → IsNumber word seconds → IsCommand (codes "office allow " ++ word) (SetAllowance seconds)
writes_allowance word seconds number =
    record {
      words = codes "office" ∷ codes "allow" ∷ word ∷ [];
      says = sets_allowance word seconds number;
      is = refl;
    }
