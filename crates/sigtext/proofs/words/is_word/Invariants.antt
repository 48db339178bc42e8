use Rattle.std.proofs.Common.{◌≡◌, ◌<◌, ℕ, Bool, true, take}
use Rattle.std.specs.List.{list_all}
use Rattle.sigtext.proofs.words.is_word.Given as goal

abbrev pub invariant-loop-byte : goal.invariant-loop-byte
invariant-loop-byte g l =
    (test : ℕ → Bool) → ((b : ℕ) (answer : Bool) → b < 256 → goal.F-post g l.passes b answer → answer ≡ test b)
    → list_all test (take l.byte-index l.text) ≡ true
