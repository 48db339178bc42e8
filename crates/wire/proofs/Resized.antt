-- Lists that were made longer or shorter, whether there was memory or not.
use Rattle.std.proofs.Common.{◌≡◌, ◌≤◌, ◌+◌, ◌++◌, ◌∙◌, ℕ, List, Result, Ok, Err, ap, length, take, arith}
use Rattle.std.specs.Prelude.{cond, is_ok}
use Rattle.std.proofs.lemmas.List.{length-append, take-append-le, take_all}

module _ {T E : Type 0} where
  -- the front of a list that was made longer is the list
  pub longer_front : (r : Result T E) (len more : ℕ) (old new zeros : List ℕ) → len ≡ length old → new ≡ cond (is_ok r) (take (len + more) old ++ zeros) old → take len new ≡ old
  longer_front (Ok x) len more old new zeros at is =
      let all = take_all (len + more) old (omega (arith, at)) in
      ap (take len) is ∙ (ap (λ (l : List ℕ). take len (l ++ zeros)) all ∙ (take-append-le len old zeros (omega (arith, at)) ∙ take_all len old (omega (arith, at))))
  longer_front (Err e) len more old new zeros at is = ap (take len) is ∙ take_all len old (omega (arith, at))

  -- it has at least as many items
  pub longer_length : (r : Result T E) (len more : ℕ) (old new zeros : List ℕ) → len ≡ length old → new ≡ cond (is_ok r) (take (len + more) old ++ zeros) old → len ≤ length new
  longer_length (Ok x) len more old new zeros at is =
      let all = take_all (len + more) old (omega (arith, at)) in
      omega (arith, at, ap length is, length-append (take (len + more) old) zeros, ap length all)
  longer_length (Err e) len more old new zeros at is = omega (arith, at, ap length is)

  -- one of two lengths is at most the greater
  pub at_most : (r : Result T E) (n a b : ℕ) → n ≡ cond (is_ok r) a b → b ≤ a → n ≤ a
  at_most (Ok x) n a b is le = omega (arith, is)
  at_most (Err e) n a b is le = omega (arith, is, le)
