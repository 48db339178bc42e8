use Rattle.std.proofs.Common.{◌≡◌, ◌<◌, ◌≤◌, ◌+◌, ◌&&◌, eqb, ℕ, Bool, true, false, List, length, get_or, take, refl, sym, ap, ◌∙◌, subst, ⊎_elim, arith}
use Rattle.std.specs.List.{list_all}
use Rattle.std.proofs.lemmas.Bool.{eqb-true, false≢true}
use Rattle.std.proofs.lemmas.List.{take_all}
use Rattle.std.proofs.lemmas.List.Folds.{list_all_more, list_all_at}
use Rattle.sigtext.proofs.Pieces.{some_bytes}
use Rattle.sigtext.proofs.words.is_word.Goals as goal

-- a text is not both empty and nonempty
none_or_some : (text : List ℕ) → true ≡ eqb (length text) 0 → 0 < length text → ⊥
none_or_some text none some = omega (arith, some, eqb-true (length text) 0 (sym none))

-- one more byte that passes
one_more : (test : ℕ → Bool) (text : List ℕ) (i : ℕ) → i < length text → true ≡ test (get_or text i 0) → list_all test (take i text) ≡ true → list_all test (take (i + 1) text) ≡ true
one_more test text i within passes sofar =
    list_all_more test text i 0 within ∙ ap (λ (t : Bool). t && test (get_or text i 0)) sofar ∙ sym passes

-- every byte passes
all_pass : (test : ℕ → Bool) (text : List ℕ) (i : ℕ) → length text ≤ i → list_all test (take i text) ≡ true → list_all test text ≡ true
all_pass test text i ends sofar = subst (λ (t : List ℕ). list_all test t ≡ true) (take_all i text ends) sofar

pub loop-byte-init : goal.loop-byte-init
loop-byte-init g c = λ test post. refl

pub loop-byte-preserved : goal.loop-byte-preserved
loop-byte-preserved g c = λ test post.
    let i = c.loop-byte.byte-index in
    one_more test c.args.text.now i c.loop-byte-test.true (post (get_or c.args.text.now i 0) true (omega (arith, c.type_inv.text i)) c.if-not-passes.ensures) (c.loop-byte.invariant test post)

pub returns : goal.returns
returns g c = λ test post. (
  λ t. record {
    some = some_bytes c.args.text.now c.if-is_empty.ensures;
    short = c.if-text-most.false;
    each = all_pass test c.args.text.now c.loop-byte.byte-index c.loop-byte-test.false (c.loop-byte.invariant test post);
  },
  λ h. refl,
)

pub returns-then-not-passes : goal.returns-then-not-passes
returns-then-not-passes g c = λ test post.
    let text = c.args.text.now in
    let i = c.loop-byte.byte-index in
    let fails = post (get_or text i 0) false (omega (arith, c.type_inv.text i)) c.if-not-passes.ensures in
    (λ t. absurd (false≢true t), λ h. sym (list_all_at test text i 0 c.loop-byte-test.true (sym fails)) ∙ h.each)

pub returns-then-is_empty : goal.returns-then-is_empty
returns-then-is_empty g c = λ test post. (
  λ t. absurd (false≢true t),
  λ h. absurd (⊎_elim (λ (e : c.is_empty.result ≡ true). none_or_some c.args.text.now (sym e ∙ c.is_empty.ensures) h.some) (λ long. omega (arith, long.1, h.short)) c.then-is_empty.either),
)
