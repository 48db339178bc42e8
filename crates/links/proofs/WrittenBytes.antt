-- What is written consists of bytes.
use Rattle.std.proofs.Common.{◌≡◌, ℕ, zero, suc, ◌+◌, ◌<◌, ◌≤◌, List, [], ◌∷◌, length, get_or, map, ap, subst, ⊎_elim, ◌∙◌, ◌-◌, arith, Fits, w8}
use Rattle.std.proofs.lemmas.List.Elements.{All-from_get_or, recursion_from_All}
use Rattle.std.specs.List.{AllByRecursion}
use Rattle.std.proofs.lemmas.Bool.{cases_lt}
use Rattle.std.proofs.lemmas.List.{get_or_default}
use Rattle.sigtext.specs.Bytes.{AreBytes}
use Rattle.links.specs.Drafts.{HasBytes}
use Rattle.links.specs.Orders.{param_of}
use Rattle.links.specs.declared.orders.OrderParam.{OrderParam}

-- the elements of a slice of bytes are bytes, as its type says
pub are_bytes : (text : List ℕ) → ((i : ℕ) → Fits w8 (get_or text i 0)) → AreBytes text
are_bytes text fits = recursion_from_All (λ b. b < 256) text (All-from_get_or (λ b. b < 256) text 0 (λ i within. omega (arith, fits i)))

-- the first n parameters consist of bytes
abbrev pub HaveBytes : List OrderParam → ℕ → Type 0
HaveBytes params n = (k : ℕ) (d : OrderParam) → k < n → HasBytes (param_of (get_or params k d))

pub bytes_more : (params : List OrderParam) (n : ℕ) (d : OrderParam) → HaveBytes params n → n < length params → HasBytes (param_of (get_or params n d)) → HaveBytes params (n + 1)
bytes_more params n d sofar within here k e before =
    ⊎_elim
    (λ (below : k < n). sofar k e below)
    (λ (past : n ≤ k).
    let same : n ≡ k = omega (arith, before, past) in
    subst (λ (p : OrderParam). HasBytes (param_of p)) (get_or_default params n d e within ∙ ap (λ (i : ℕ). get_or params i e) same) here)
    (cases_lt k n)

pub all_bytes : (params : List OrderParam) (n : ℕ) → HaveBytes params n → length params ≤ n → AllByRecursion HasBytes (map param_of params)
all_bytes [] n sofar past = tt
all_bytes (p ∷ params) n sofar past =
    (sofar zero p (omega (arith, past)), all_bytes params (n - 1) (λ k d before. sofar (suc k) d (omega (arith, before))) (omega (arith, past)))
