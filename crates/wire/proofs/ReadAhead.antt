-- What tests and reads tell of bytes that were read ahead.
use Rattle.std.proofs.Common.{◌≡◌, ◌≤◌, ◌+◌, ℕ, Bool, true, false, List, [], ◌++◌, length, Option, None, Some, Result, Ok, arith, refl, sym, ap, ◌∙◌, subst, append_assoc}
use Rattle.std.specs.Bool.{◌==◌}
use Rattle.std.specs.Prelude.{IfErr, IsNone, IsSome}
use Rattle.std.specs.Io.KnownBytes.{Consumes, IsAtEnd, Keeps, ReadConsumes, prepend_known}
use Rattle.std.proofs.lemmas.Bool.{false≢true}
use Rattle.std.proofs.lemmas.Bool.Decides.{nat_tests}
use Rattle.std.proofs.lemmas.List.{nil_from_length}
use Rattle.std.specs.declared.io.Error.{Error}
use Rattle.wire.specs.Gathering.{cut_by, error_of}
use Rattle.wire.specs.declared.gathered.Health.{Health}
use Rattle.wire.specs.declared.gathered.Health.TheVariants as health
use Rattle.wire.proofs.Backlogs.{prepend-kept}

-- ---- tests

pub not_empty : (xs ys : List ℕ) → false ≡ (length xs == 0) → xs ≡ ys → ys ≡ [] → ⊥
not_empty xs ys test e none = false≢true (test ∙ ap (λ (l : List ℕ). length l == 0) (e ∙ none))

pub empty : (xs ys : List ℕ) → true ≡ (length xs == 0) → xs ≡ ys → ys ≡ []
empty xs ys test e = let none : length xs ≡ 0 = grind (arith, nat_tests) in sym e ∙ nil_from_length xs none

pub none_failed : {T : Type 0} (o : Option T) → IsNone o → IsSome o → ⊥
none_failed o none some = false≢true (sym none ∙ some)

-- one that is cut off fails with the same error
pub cut_fails : (h : Health) (e : Error) → cut_by h ≡ Some e → error_of h ≡ Some e
cut_fails health.Hale e is = absurd cc
cut_fails (health.Failed f) e is = absurd cc
cut_fails (health.Cut f) e is = is

pub no_error : {T E : Type 0} (r : Result T E) (x : T) (P : E → Type 0) → r ≡ Ok x → IfErr r P
no_error {T} {E} r x P is = subst (λ (t : Result T E). IfErr t P) (sym is) tt

pub no_more : (new old : List ℕ) (n : ℕ) → new ≡ old → length new ≤ length old + n
no_more new old n e = omega (arith, ap length e)

-- ---- what is left

pub gave : (r : Option (List ℕ)) (old new front : List ℕ) → old ≡ front ++ new → Consumes (prepend_known old r) (prepend_known new r) front
gave None old new front e = tt
gave (Some x) old new front e = ap (λ (l : List ℕ). l ++ x) e ∙ append_assoc front new x

pub consumes_later : (a b c : Option (List ℕ)) (bytes : List ℕ) → Keeps a b → Consumes b c bytes → Consumes a c bytes
consumes_later None b c bytes k h = tt
consumes_later (Some x) None c bytes k h = absurd k
consumes_later (Some x) (Some y) None bytes k h = absurd h
consumes_later (Some x) (Some y) (Some z) bytes k h = sym k ∙ h

pub kept_ahead : (r s : Option (List ℕ)) (old new : List ℕ) → new ≡ old → Keeps r s → Keeps (prepend_known old r) (prepend_known new s)
kept_ahead r s old new e k = subst (λ (w : List ℕ). Keeps (prepend_known old r) (prepend_known w s)) (sym e) (prepend-kept r s old k)

none_ahead : {E : Type 0} (r s : Option (List ℕ)) (result : Result ℕ E) (buf : List ℕ) → ReadConsumes r s result buf → ReadConsumes (prepend_known [] r) (prepend_known [] s) result buf
none_ahead None None result buf h = h
none_ahead None (Some y) result buf h = h
none_ahead (Some x) None result buf h = h
none_ahead (Some x) (Some y) result buf h = h

pub reads_behind : {E : Type 0} (r s : Option (List ℕ)) (old : List ℕ) (result : Result ℕ E) (buf : List ℕ) → old ≡ [] → ReadConsumes r s result buf
    → ReadConsumes (prepend_known old r) (prepend_known old s) result buf
reads_behind r s old result buf none h = subst (λ (w : List ℕ). ReadConsumes (prepend_known w r) (prepend_known w s) result buf) (sym none) (none_ahead r s result buf h)

end_behind : (r s : Option (List ℕ)) (old bytes : List ℕ) → old ≡ [] → bytes ≡ [] → Consumes r s bytes → IsAtEnd s → IsAtEnd (prepend_known old r)
end_behind None s old bytes none nothing h end = tt
end_behind (Some x) None old bytes none nothing h end = absurd h
end_behind (Some x) (Some y) old bytes none nothing h end =
    ap (λ (l : List ℕ). l ++ x) none ∙ h ∙ ap (λ (l : List ℕ). l ++ y) nothing ∙ end

-- a read that brought no bytes was at the end
pub at_end : (more : Bool) (r s : Option (List ℕ)) (old mid bytes : List ℕ) → old ≡ [] → mid ≡ [] → mid ≡ old ++ bytes → Consumes r s bytes
    → (more ≡ true → bytes ≡ [] → ⊥) → (more ≡ false → (bytes ≡ []) × IsAtEnd s) → IsAtEnd (prepend_known old r)
at_end true r s old mid bytes none nothing e h some end = absurd (some refl (ap (λ (l : List ℕ). l ++ bytes) (sym none) ∙ sym e ∙ nothing))
at_end false r s old mid bytes none nothing e h some end = end_behind r s old bytes none (end refl).0 h (end refl).1
