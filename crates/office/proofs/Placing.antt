-- The place of a path that is cut at a slash.
use Rattle.std.proofs.Common.{◌≡◌, ℕ, List, [], ◌∷◌, ◌++◌, ap, sym, ◌∙◌}
use Rattle.std.specs.Prelude.{◌==◌, drop}
use Rattle.std.specs.List.{before_first, after_first}
use Rattle.sigtext.specs.Targets.{Lacks}
use Rattle.clap.proofs.CutLemmas.{before_first-at, before_first-Lacks, after_first-at, after_first-Lacks}
use Rattle.office.specs.Rules.{place_of}

-- with a second slash
pub cut_place : (path rest in_box name : List ℕ) → rest ≡ drop 1 path → rest ≡ in_box ++ 47 ∷ name → Lacks 47 in_box → record { box = in_box; name = name } ≡ place_of path
cut_place path rest in_box name is parts lacks =
    ap (λ (x : List ℕ). record { box = x; name = name }) (sym (before_first-at 47 in_box name (λ i lt. lacks i 0 lt)))
    ∙ ap (λ (x : List ℕ). record { box = before_first (λ b. b == 47) (in_box ++ 47 ∷ name); name = x }) (sym (after_first-at 47 in_box name (λ i lt. lacks i 0 lt)))
    ∙ ap (λ (t : List ℕ). record { box = before_first (λ b. b == 47) t; name = after_first (λ b. b == 47) t }) (sym parts ∙ is)

-- without a second slash
pub whole_place : (path rest : List ℕ) → rest ≡ drop 1 path → Lacks 47 rest → record { box = rest; name = [] } ≡ place_of path
whole_place path rest is lacks =
    ap (λ (x : List ℕ). record { box = x; name = [] }) (sym (before_first-Lacks 47 rest (λ i lt. lacks i 0 lt)))
    ∙ ap (λ (x : List ℕ). record { box = before_first (λ b. b == 47) rest; name = x }) (sym (after_first-Lacks 47 rest (λ i lt. lacks i 0 lt)))
    ∙ ap (λ (t : List ℕ). record { box = before_first (λ b. b == 47) t; name = after_first (λ b. b == 47) t }) is
