-- For an unrevoked clerk's key, another one exists exactly if two or more are counted.
use Rattle.std.proofs.Common.{◌≡◌, ◌∙◌, ℕ, ◌+◌, ◌<◌, ◌≤◌, Bool, true, false, cond, List, Some, refl, sym, ap, arith}
use Rattle.std.specs.Prelude.{IsFalse, ◌↔◌, ◌&&◌, not, count_by}
use Rattle.std.specs.Ordering.{eq_by_cmp}
use Rattle.std.specs.FinMap.{FinMap, get, insert, get-insert, entries}
use Rattle.sigtext.specs.Bytes.{bytes_cmp}
use Rattle.boxes.specs.declared.rows.Role.{Role}
use Rattle.boxes.specs.declared.rows.Role.TheVariants.{Clerk, Link}
use Rattle.boxes.specs.State.{Key, State}
use Rattle.boxes.specs.Clerks.{clerks, is_clerk, is_acting}
use Rattle.boxes.specs.Steps.{HasOtherClerk}
use Rattle.boxes.proofs.EntrySums.{weight, sum-insert, one-passes}
use Rattle.boxes.proofs.Lookups.{bytes_total, bytes_same, equal_is, get_same}

acts : (k : Key) → k.role ≡ Clerk → IsFalse k.revoked → is_acting k ≡ true
acts k role unrevoked = ap (λ r. is_clerk r && not k.revoked) role ∙ ap not unrevoked

clerk_of : (r : Role) (b : Bool) → (is_clerk r && not b) ≡ true → r ≡ Clerk
clerk_of Clerk b e = refl
clerk_of Link b e = absurd cc

unrevoked_of : (r : Role) (b : Bool) → (is_clerk r && not b) ≡ true → b ≡ false
unrevoked_of Clerk true e = absurd cc
unrevoked_of Clerk false e = refl
unrevoked_of Link b e = absurd cc

stops : (r : Role) → (is_clerk r && not true) ≡ false
stops Clerk = refl
stops Link = refl

true_false : true ≡ false → ⊥
true_false e = cc

-- a key with another id is unchanged
untouched : (m : FinMap bytes_cmp Key) (id other : List ℕ) (k : Key) → (other ≡ id → ⊥) → get (insert m id k) other ≡ get m other
untouched m id other k apart =
    get-insert bytes_total m id k other ∙ elim (eq_by_cmp bytes_cmp other id) as (λ t. eq_by_cmp bytes_cmp other id ≡ t → cond t (Some k) (get m other) ≡ get m other) [
      | true ↦ λ t. absurd (apart (bytes_same other id (equal_is (bytes_cmp other id) t)))
      | false ↦ λ t. refl
    ] refl

abbrev acting_in : FinMap bytes_cmp Key → ℕ
acting_in m = count_by (λ (e : List ℕ × Key). is_acting e.1) (entries m)

abbrev one_if_acting : List ℕ × Key → ℕ
one_if_acting e = cond (is_acting e.1) 1 0

-- marking an unrevoked clerk's key as revoked lowers the count by one
one_fewer : (m : FinMap bytes_cmp Key) (id : List ℕ) (k : Key) → get m id ≡ Some k → k.role ≡ Clerk → IsFalse k.revoked
    → acting_in (insert m id (record k { revoked = true })) + 1 ≡ acting_in m
one_fewer m id k there role unrevoked =
    let gone : Key = record k { revoked = true } in
    let was : weight one_if_acting id (get m id) ≡ 1 = ap (weight one_if_acting id) there ∙ ap (λ (b : Bool). cond b 1 0) (acts k role unrevoked) in
    let now : one_if_acting (id, gone) ≡ 0 = ap (λ (b : Bool). cond b 1 0) (stops k.role) in
    let all : acting_in (insert m id gone) + weight one_if_acting id (get m id) ≡ acting_in m + one_if_acting (id, gone) = sum-insert bytes_cmp bytes_total bytes_same one_if_acting m id gone in
    omega arith

module _ (s : State) (id : List ℕ) (k : Key) (there : get s.keys id ≡ Some k) (role : k.role ≡ Clerk) (unrevoked : IsFalse k.revoked) where
  abbrev gone : Key
  gone = record k { revoked = true }

  abbrev rest : FinMap bytes_cmp Key
  rest = insert s.keys id gone

  another_is : 2 ≤ clerks s → HasOtherClerk s id
  another_is two =
      let left = one_fewer s.keys id k there role unrevoked in
      let some : 0 < acting_in rest = omega arith in
      let it = one-passes bytes_cmp bytes_total bytes_same (λ (e : List ℕ × Key). is_acting e.1) rest some in
      let apart : it.0 ≡ id → ⊥ = λ e.
      let both : Some gone ≡ Some it.1 = sym (get_same s.keys id gone) ∙ ap (get rest) (sym e) ∙ it.2 in
      let is : gone ≡ it.1 = cc in
      true_false (sym it.3 ∙ ap is_acting (sym is) ∙ stops k.role) in
      record {
        other = it.0;
        key = it.1;
        another = apart;
        there = sym (untouched s.keys id it.0 gone apart) ∙ it.2;
        clerk = clerk_of it.1.role it.1.revoked it.3;
        unrevoked = unrevoked_of it.1.role it.1.revoked it.3;
      }

  two_are : HasOtherClerk s id → 2 ≤ clerks s
  two_are h =
      let left = one_fewer s.keys id k there role unrevoked in
      let stands : get rest h.other ≡ Some h.key = untouched s.keys id h.other gone h.another ∙ h.there in
      let next = one_fewer rest h.other h.key stands h.clerk h.unrevoked in
      omega arith

  pub two_clerks : (2 ≤ clerks s) ↔ HasOtherClerk s id
  two_clerks = (another_is, two_are)
