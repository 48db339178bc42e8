-- How many different texts there are, counted by a set of keys that mean them.
use Rattle.std.proofs.Common.{◌≡◌, ℕ, ◌+◌, ◌||◌, List, [], ◌∷◌, ◌++◌, length, Bool, true, false, cond, Less, Equal, Greater, refl, sym, ap, arith, ◌∙◌}
use Rattle.std.specs.Prelude.{not}
use Rattle.std.specs.List.{list_any}
use Rattle.std.specs.Ordering.{is_eq, match_ordering}
use Rattle.std.specs.BTreeSet.{insert_key}
use Rattle.std.specs.FinSet.{len, contains, from_list, from_list_push, contains-insert, len-insert, contains-empty, len-empty}
use Rattle.sigtext.specs.Bytes.{bytes_cmp}
use Rattle.boxes.proofs.Lookups.{bytes_total, bytes_same}

or_swap : (a b c : Bool) → (a || (b || c)) ≡ (b || (a || c))
or_swap true true c = refl
or_swap true false c = refl
or_swap false b c = refl

or_again : (a b : Bool) → (a || b) ≡ (a || (a || b))
or_again true b = refl
or_again false b = refl

one_added : (there : Bool) (n : ℕ) → n + cond (not there) 1 0 ≡ cond there n (n + 1)
one_added true n = omega arith
one_added false n = refl

module _ {K : Type 0} (text : K → List ℕ) where
  -- some key means this text
  abbrev pub has_text : List K → List ℕ → Bool
  has_text ks q = list_any (λ k. is_eq (bytes_cmp q (text k))) ks

  has_inserted : (ks : List K) (k : K) (q : List ℕ) → has_text (insert_key (λ x y. bytes_cmp (text x) (text y)) ks k) q ≡ (is_eq (bytes_cmp q (text k)) || has_text ks q)
  has_inserted [] k q = refl
  has_inserted (x ∷ xs) k q =
      let at : K → Bool = λ y. is_eq (bytes_cmp q (text y)) in
      elim (bytes_cmp (text k) (text x)) as (λ r. bytes_cmp (text k) (text x) ≡ r
      → has_text (match_ordering r (k ∷ x ∷ xs) (x ∷ xs) (x ∷ insert_key (λ x y. bytes_cmp (text x) (text y)) xs k)) q ≡ (at k || (at x || has_text xs q))) [
        | Less ↦ λ p. refl
        | Equal ↦ λ p. or_again (at x) (has_text xs q) ∙ ap (λ t. is_eq (bytes_cmp q t) || (at x || has_text xs q)) (sym (bytes_same (text k) (text x) p))
        | Greater ↦ λ p. ap (λ b. at x || b) (has_inserted xs k q) ∙ or_swap (at x) (at k) (has_text xs q)
      ] refl

  -- the keys mean these texts, each once
  pub record Gathers (ks : List K) (texts : List (List ℕ)) : Type 0 where
    pub each : (q : List ℕ) → has_text ks q ≡ contains (from_list {R = bytes_cmp} texts) q
    pub many : length ks ≡ len (from_list {R = bytes_cmp} texts)

  pub gathers_none : (ks : List K) → ks ≡ [] → Gathers ks []
  gathers_none ks none = record {
    each = λ q. ap (λ l. has_text l q) none ∙ sym (contains-empty bytes_cmp q);
    many = ap length none ∙ sym (len-empty bytes_cmp);
  }

  pub gathers_more : (ks after : List K) (texts : List (List ℕ)) (k : K) (added : Bool) → Gathers ks texts
      → after ≡ insert_key (λ x y. bytes_cmp (text x) (text y)) ks k → added ≡ not (has_text ks (text k)) → length after ≡ length ks + cond added 1 0 → Gathers after (texts ++ text k ∷ [])
  gathers_more ks after texts k added h keys is long =
      let set = from_list {R = bytes_cmp} texts in
      let push = from_list_push bytes_total bytes_same texts (text k) in
      record {
        each = λ q. ap (λ l. has_text l q) keys ∙ has_inserted ks k q ∙ ap (λ b. is_eq (bytes_cmp q (text k)) || b) (h.each q)
            ∙ sym (contains-insert bytes_total set (text k) q) ∙ ap (λ s. contains s q) (sym push);
        many = long ∙ ap (λ b. length ks + cond b 1 0) (is ∙ ap not (h.each (text k))) ∙ ap (λ n. n + cond (not (contains set (text k))) 1 0) h.many
            ∙ one_added (contains set (text k)) (len set) ∙ sym (len-insert bytes_total set (text k)) ∙ ap len (sym push);
      }
