-- A possible desk command that has its form keeps the state sound.
use Rattle.std.proofs.Common.{◌≡◌, ◌∙◌, ℕ, ◌≤◌, List, [], ◌∷◌, true, false, cond, Option, Some, None, refl, sym, ap, subst, arith}
use Rattle.std.specs.Prelude.{IsSome, is_some, IsNone, IsSomeAnd, ⊤}
use Rattle.std.specs.List.{AllByRecursion}
use Rattle.std.specs.Ordering.{eq_by_cmp}
use Rattle.std.specs.FinMap.{FinMap, get, insert, remove, get-insert, get-remove}
use Rattle.sigtext.specs.Bytes.{bytes_cmp}
use Rattle.sigv4.specs.Allowances.{most_allowance}
use Rattle.sigv4.specs.Credential.{IsKeyId, IsSecret}
use Rattle.boxes.specs.declared.rows.Role.TheVariants.{Link}
use Rattle.boxes.specs.State.{Key, Place, place_cmp, File, Receipt, Settings, State}
use Rattle.boxes.specs.Limits.{IsLimitedTo}
use Rattle.boxes.specs.Totals.{used, count}
use Rattle.boxes.specs.Opening.{Fits}
use Rattle.boxes.specs.Steps.{Command, AddKey, RevokeKey, AddBox, CloseBox, DropFile, LimitKey, SetAllowance, HasReceipt, CanRevoke, CanLimit, IsPossible, CommandStep}
use Rattle.boxes.specs.Sound.{IsSound, IsReceipt, IsFileOf, IsLimitOf, HasClerk, IsBoxName, AreSettings, IsMoment}
use Rattle.boxes.specs.Commands.{HasForm}
use Rattle.boxes.proofs.Lookups.{bytes_total, bytes_same, place_total, equal_is, got, some_none}
use Rattle.boxes.proofs.LimitedKeys.{limit_got}
use Rattle.boxes.proofs.FileTotals.{used_less, count_less}
use Rattle.boxes.proofs.NoBox.{none_used, none_counted}
use Rattle.boxes.proofs.CommandSteps.{key_added_is, key_revoked_is, box_added_is, box_closed_is, file_dropped_is, key_limited_is, allowance_set_is}

all_map : {X : Type 0} (P Q : X → Type 0) (xs : List X) → ((x : X) → P x → Q x) → AllByRecursion P xs → AllByRecursion Q xs
all_map P Q [] each all = tt
all_map P Q (x ∷ xs) each all = (each x all.0, all_map P Q xs each all.1)

is_none : {X : Type 0} (o : Option X) → IsNone o → o ≡ None
is_none None h = refl
is_none (Some x) h = absurd (some_is x h)
  where
    some_is : {X : Type 0} (x : X) → IsNone (Some x) → ⊥
    some_is x h = cc

there_is : {X : Type 0} (o : Option X) → IsSome o → (x : X) × (o ≡ Some x)
there_is None h = absurd cc
there_is (Some x) h = (x, refl)

some_and : {X : Type 0} (P : X → Type 0) (o : Option X) → IsSomeAnd o P → (x : X) × (o ≡ Some x) × P x
some_and P None h = absurd h
some_and P (Some x) h = (x, refl, h)

of_some : {X : Type 0} (P : X → Type 0) (o : Option X) (x : X) → o ≡ Some x → P x → IsSomeAnd o P
of_some {X = X} P o x e h = subst (λ (p : Option X). IsSomeAnd p P) (sym e) h

-- a value at another key stays
stays_at : {X : Type 0} (m : FinMap bytes_cmp X) (k q : List ℕ) (v x : X) → (q ≡ k → ⊥) → get m q ≡ Some x → get (insert m k v) q ≡ Some x
stays_at m k q v x apart e =
    get-insert bytes_total m k v q ∙ elim (eq_by_cmp bytes_cmp q k) as (λ t. eq_by_cmp bytes_cmp q k ≡ t → cond t (Some v) (get m q) ≡ Some x) [
      | true ↦ λ t. absurd (apart (bytes_same q k (equal_is (bytes_cmp q k) t)))
      | false ↦ λ t. e
    ] refl

stands_at : {X : Type 0} (m : FinMap bytes_cmp X) (k q : List ℕ) (v x : X) → get m q ≡ Some x → (y : X) × (get (insert m k v) q ≡ Some y)
stands_at m k q v x e =
    let at = get-insert bytes_total m k v q in
    elim (eq_by_cmp bytes_cmp q k) as (λ t. get (insert m k v) q ≡ cond t (Some v) (get m q) → (y : _) × (get (insert m k v) q ≡ Some y)) [
      | true ↦ λ is. (v, is)
      | false ↦ λ is. (x, is ∙ e)
    ] at

-- the receipts and files of a state with the same receipts
listed_too : (s t : State) → t.receipts ≡ s.receipts → (n : ℕ) (r : Receipt) → HasReceipt s n r → HasReceipt t n r
listed_too s t e n r h = record { place = h.place; counted = h.counted; listed = rw e h.listed }

file_too : (s t : State) → t.receipts ≡ s.receipts → (place : Place) (f : File) → IsFileOf s place f → IsFileOf t place f
file_too s t e place f h = record { bytes = h.bytes; receipt = h.receipt; listed = listed_too s t e f.receipt h.receipt h.listed; box = h.box; name = h.name; size = h.size; digest = h.digest }

module _ (s : State) (id : List ℕ) (k : Key) (sound : IsSound s) (form : IsKeyId id × IsSecret k.secret) where
  abbrev keyed : State
  keyed = record s { keys = insert s.keys id k }

  -- a limited key still exists, with its role
  limits_too : ((x : Key) → get s.keys id ≡ Some x → x.role ≡ Link → k.role ≡ Link) → (key box : List ℕ) → IsLimitedTo s key box → IsLimitOf keyed key box
  limits_too role key box held =
      let was = sound.limits key box held in
      let at = some_and (λ x. x.role ≡ Link) (get s.keys key) was.link in
      record {
        link = elim (eq_by_cmp bytes_cmp key id) as (λ t. eq_by_cmp bytes_cmp key id ≡ t → get keyed.keys key ≡ cond t (Some k) (get s.keys key) → IsSomeAnd (get keyed.keys key) (λ x. x.role ≡ Link)) [
          | true ↦ λ t is.
              let same = bytes_same key id (equal_is (bytes_cmp key id) t) in
              of_some (λ x. x.role ≡ Link) (get keyed.keys key) k is (role at.0 (ap (get s.keys) (sym same) ∙ at.1) at.2)
          | false ↦ λ t is. of_some (λ x. x.role ≡ Link) (get keyed.keys key) at.0 (is ∙ at.1) at.2
        ] refl (get-insert bytes_total s.keys id k key);
        box_there = was.box_there;
      }

  set_key : HasClerk keyed → ((x : Key) → get s.keys id ≡ Some x → x.role ≡ Link → k.role ≡ Link) → IsSound keyed
  set_key clerk role = record {
    east = sound.east;
    allowance = sound.allowance;
    keys = λ q x e. got s.keys id q k x (IsKeyId q × IsSecret x.secret) e (λ is v. (subst IsKeyId (sym is) form.0, subst (λ (y : Key). IsSecret y.secret) v form.1)) (λ old. sound.keys q x old);
    boxes = sound.boxes;
    files = λ place f e. file_too s keyed refl place f (sound.files place f e);
    receipts = all_map (IsReceipt s) (IsReceipt keyed) s.receipts (λ r h.
        let at = some_and (λ x. ⊤) (get s.keys r.key) h.key in
        let now = stands_at s.keys id r.key k at.0 at.1 in
        record { box = h.box; name = h.name; short = h.short; size = h.size; digest = h.digest; moment = h.moment; key = of_some (λ x. ⊤) (get keyed.keys r.key) now.0 now.1 tt }) sound.receipts;
    quotas = sound.quotas;
    clerk = clerk;
    limits = limits_too role;
  }

add_key : (s : State) (id : List ℕ) (k : Key) → IsSound s → IsKeyId id × IsSecret k.secret → get s.keys id ≡ None → IsSound (record s { keys = insert s.keys id k })
add_key s id k sound form none =
    let c = sound.clerk in
    let apart : c.id ≡ id → ⊥ = λ e. some_none c.key (sym c.there ∙ ap (get s.keys) e ∙ none) in
    set_key s id k sound form (record { id = c.id; key = c.key; there = stays_at s.keys id c.id k c.key apart c.there; clerk = c.clerk; unrevoked = c.unrevoked }) (λ x there. absurd (some_none x (sym there ∙ none)))

revoke_key : (s : State) (id : List ℕ) (k : Key) → IsSound s → get s.keys id ≡ Some k → CanRevoke s id k → IsSound (record s { keys = insert s.keys id (record k { revoked = true }) })
revoke_key s id k sound there can =
    let gone : Key = record k { revoked = true } in
    let c = sound.clerk in
    let form = sound.keys id k there in
    let clerk : HasClerk (record s { keys = insert s.keys id gone }) =
    elim (eq_by_cmp bytes_cmp c.id id) as (λ t. eq_by_cmp bytes_cmp c.id id ≡ t → HasClerk (record s { keys = insert s.keys id gone })) [
      | true ↦ λ t.
          let same : c.id ≡ id = bytes_same c.id id (equal_is (bytes_cmp c.id id) t) in
          let both : Some c.key ≡ Some k = sym c.there ∙ ap (get s.keys) same ∙ there in
          let is : c.key ≡ k = cc in
          let h = can.1 (ap (λ (x : Key). x.role) (sym is) ∙ c.clerk) in
          record { id = h.other; key = h.key; there = stays_at s.keys id h.other gone h.key h.another h.there; clerk = h.clerk; unrevoked = h.unrevoked }
      | false ↦ λ t.
          let at : get (insert s.keys id gone) c.id ≡ Some c.key = get-insert bytes_total s.keys id gone c.id ∙ ap (λ b. cond b (Some gone) (get s.keys c.id)) t ∙ c.there in
          record { id = c.id; key = c.key; there = at; clerk = c.clerk; unrevoked = c.unrevoked }
    ] refl in
    set_key s id gone sound form clerk (λ x is link. let both : Some x ≡ Some k = sym is ∙ there in let same : x ≡ k = cc in ap (λ (y : Key). y.role) (sym same) ∙ link)

module _ (s : State) (name : List ℕ) (b : Settings) (sound : IsSound s) (form : IsBoxName name × AreSettings b)
    (fits : (x : Settings) → get s.boxes name ≡ Some x → x.rule ≡ b.rule)
    (holds : (used s name ≤ b.quota) × (count s name ≤ b.max_files)) where
  abbrev boxed : State
  boxed = record s { boxes = insert s.boxes name b }

  box_too : (r : Receipt) → IsSomeAnd (get s.boxes r.box) (λ x. Fits x.rule r.name) → IsSomeAnd (get boxed.boxes r.box) (λ x. Fits x.rule r.name)
  box_too r h =
      let at = some_and (λ (x : Settings). Fits x.rule r.name) (get s.boxes r.box) h in
      elim (eq_by_cmp bytes_cmp r.box name) as (λ t. eq_by_cmp bytes_cmp r.box name ≡ t → get boxed.boxes r.box ≡ cond t (Some b) (get s.boxes r.box) → IsSomeAnd (get boxed.boxes r.box) (λ x. Fits x.rule r.name)) [
        | true ↦ λ t is.
            let same : r.box ≡ name = bytes_same r.box name (equal_is (bytes_cmp r.box name) t) in
            let rule = fits at.0 (ap (get s.boxes) (sym same) ∙ at.1) in
            of_some (λ x. Fits x.rule r.name) (get boxed.boxes r.box) b is (subst (λ x. Fits x r.name) rule at.2)
        | false ↦ λ t is. of_some (λ x. Fits x.rule r.name) (get boxed.boxes r.box) at.0 (is ∙ at.1) at.2
      ] refl (get-insert bytes_total s.boxes name b r.box)

  limits_of_box : (key box : List ℕ) → IsLimitedTo s key box → IsLimitOf boxed key box
  limits_of_box key box held =
      let was = sound.limits key box held in
      let at = there_is (get s.boxes box) was.box_there in
      let now = stands_at s.boxes name box b at.0 at.1 in
      record { link = was.link; box_there = ap is_some now.1 }

  pub set_box : IsSound boxed
  set_box = record {
    east = sound.east;
    allowance = sound.allowance;
    keys = sound.keys;
    boxes = λ q x e. got s.boxes name q b x (IsBoxName q × AreSettings x) e (λ is v. (subst IsBoxName (sym is) form.0, subst AreSettings v form.1)) (λ old. sound.boxes q x old);
    files = λ place f e. file_too s boxed refl place f (sound.files place f e);
    receipts = all_map (IsReceipt s) (IsReceipt boxed) s.receipts (λ r h.
        record { box = box_too r h.box; name = h.name; short = h.short; size = h.size; digest = h.digest; moment = h.moment; key = h.key }) sound.receipts;
    quotas = λ q x e. got s.boxes name q b x ((used s q ≤ x.quota) × (count s q ≤ x.max_files)) e
        (λ is v. subst (λ (y : Settings). (used s q ≤ y.quota) × (count s q ≤ y.max_files)) v (subst (λ n. (used s n ≤ b.quota) × (count s n ≤ b.max_files)) (sym is) holds)) (λ old. sound.quotas q x old);
    clerk = let c = sound.clerk in record { id = c.id; key = c.key; there = c.there; clerk = c.clerk; unrevoked = c.unrevoked };
    limits = limits_of_box;
  }

add_box : (s : State) (name : List ℕ) (b : Settings) → IsSound s → IsBoxName name × AreSettings b → get s.boxes name ≡ None → IsSound (record s { boxes = insert s.boxes name b })
add_box s name b sound form none = set_box s name b sound form (λ x e. absurd (some_none x (sym e ∙ none)))
    (rw (none_used s name sound none) (omega arith), rw (none_counted s name sound none) (omega arith))

close_box : (s : State) (name : List ℕ) (b : Settings) (moment : ℕ) → IsSound s → IsMoment moment → get s.boxes name ≡ Some b → IsSound (record s { boxes = insert s.boxes name (record b { closes = moment }) })
close_box s name b moment sound form there =
    let was = sound.boxes name b there in
    let a = was.1 in
    set_box s name (record b { closes = moment }) sound (was.0, record { opens = a.opens; closes = form; week = a.week; hours = a.hours; day = a.day; quota = a.quota; max_files = a.max_files; rule = a.rule })
    (λ x e. let both : Some x ≡ Some b = sym e ∙ there in let is : x ≡ b = cc in ap (λ (y : Settings). y.rule) is) (sound.quotas name b there)

drop_file : (s : State) (place : Place) → IsSound s → IsSome (get s.files place) → IsSound (record s { files = remove s.files place })
drop_file s place sound some =
    let at = there_is (get s.files place) some in
    let after : State = record s { files = remove s.files place } in
    record {
      east = sound.east;
      allowance = sound.allowance;
      keys = sound.keys;
      boxes = sound.boxes;
      files = λ q f e. file_too s after refl q f (sound.files q f (
          elim (eq_by_cmp place_cmp q place) as (λ t. cond t None (get s.files q) ≡ Some f → get s.files q ≡ Some f) [
            | true ↦ λ is. absurd (some_none f (sym is))
            | false ↦ λ is. is
          ] (sym (get-remove place_total s.files place q) ∙ e)));
      receipts = all_map (IsReceipt s) (IsReceipt after) s.receipts (λ r h. record { box = h.box; name = h.name; short = h.short; size = h.size; digest = h.digest; moment = h.moment; key = h.key }) sound.receipts;
      quotas = λ name b e.
          let was = sound.quotas name b e in
          let u = used_less s place at.0 at.1 name in
          let n = count_less s place at.0 at.1 name in
          let v = was.0 in
          let w = was.1 in
          (omega arith, omega arith);
      clerk = let c = sound.clerk in record { id = c.id; key = c.key; there = c.there; clerk = c.clerk; unrevoked = c.unrevoked };
      limits = λ key box held. let was = sound.limits key box held in record { link = was.link; box_there = was.box_there };
    }

-- a state with the same keys, boxes, files and receipts
others_stay : (s after : State) → IsSound s → after ≡ record s { allowance = after.allowance; limits = after.limits } → after.allowance ≤ most_allowance
    → ((key box : List ℕ) → IsLimitedTo after key box → IsLimitOf s key box) → IsSound after
others_stay s after sound same allowance limits =
    let now : State = record s { allowance = after.allowance; limits = after.limits } in
    subst IsSound (sym same) (record {
      east = sound.east;
      allowance = allowance;
      keys = sound.keys;
      boxes = sound.boxes;
      files = λ place f e. file_too s now refl place f (sound.files place f e);
      receipts = all_map (IsReceipt s) (IsReceipt now) s.receipts (λ r h. record { box = h.box; name = h.name; short = h.short; size = h.size; digest = h.digest; moment = h.moment; key = h.key }) sound.receipts;
      quotas = sound.quotas;
      clerk = let c = sound.clerk in record { id = c.id; key = c.key; there = c.there; clerk = c.clerk; unrevoked = c.unrevoked };
      limits = λ key box held. let was = limits key box held in record { link = was.link; box_there = was.box_there };
    })

limit_key : (s : State) (id box : List ℕ) → IsSound s → IsPossible s (LimitKey id box) → IsSound (record s { limits = insert s.limits (record { key = id; box = box }) tt })
limit_key s id box sound possible =
    let key = some_and CanLimit (get s.keys id) possible.0 in
    others_stay s (record s { limits = insert s.limits (record { key = id; box = box }) tt }) sound refl sound.allowance (λ k b held.
    limit_got s.limits id box k b (IsLimitOf s k b) held
    (λ same_key same_box. record {
      link = subst (λ i. IsSomeAnd (get s.keys i) (λ x. x.role ≡ Link)) (sym same_key) (of_some (λ x. x.role ≡ Link) (get s.keys id) key.0 key.1 key.2.1);
      box_there = subst (λ n. IsSome (get s.boxes n)) (sym same_box) possible.1;
    })
    (λ old. sound.limits k b old))

pub command_keeps_soundness : (s : State) (command : Command) (after : State) → IsSound s → HasForm command → IsPossible s command → CommandStep s command after → IsSound after
command_keeps_soundness s (AddKey id role secret) after sound form possible step =
    let is = key_added_is s id role secret after step in
    subst IsSound (sym is) (add_key s id (record { role = role; secret = secret; revoked = false }) sound form (is_none (get s.keys id) possible))
command_keeps_soundness s (RevokeKey id) after sound form possible step =
    let it = key_revoked_is s id after step in
    let can = some_and (CanRevoke s id) (get s.keys id) possible in
    let both : Some can.0 ≡ Some it.0 = sym can.1 ∙ it.1 in
    let is : can.0 ≡ it.0 = cc in
    subst IsSound (sym it.2) (revoke_key s id it.0 sound it.1 (subst (CanRevoke s id) is can.2))
command_keeps_soundness s (AddBox name b) after sound form possible step =
    subst IsSound (sym (box_added_is s name b after step)) (add_box s name b sound form (is_none (get s.boxes name) possible))
command_keeps_soundness s (CloseBox name moment) after sound form possible step =
    let it = box_closed_is s name moment after step in
    subst IsSound (sym it.2) (close_box s name it.0 moment sound form.1 it.1)
command_keeps_soundness s (DropFile place) after sound form possible step =
    subst IsSound (sym (file_dropped_is s place after step)) (drop_file s place sound possible)
command_keeps_soundness s (LimitKey id box) after sound form possible step =
    subst IsSound (sym (key_limited_is s id box after step)) (limit_key s id box sound possible)
command_keeps_soundness s (SetAllowance seconds) after sound form possible step =
    subst IsSound (sym (allowance_set_is s seconds after step)) (others_stay s (record s { allowance = seconds }) sound refl form sound.limits)
