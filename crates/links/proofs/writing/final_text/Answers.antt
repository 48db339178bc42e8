use Rattle.std.proofs.Common.{◌≡◌, ℕ, List, [], ◌++◌, ap, ◌∙◌}
use Rattle.links.proofs.writing.final_text.Goals as goal

-- what is appended to nothing stands alone
alone : (text front behind : List ℕ) → front ≡ [] → text ≡ front ++ behind → text ≡ behind
alone text front behind nothing is = is ∙ ap (λ (t : List ℕ). t ++ behind) nothing

pub returns : goal.returns
returns c params holds =
    let (query, only, sent) = c.in_ok-append_signed.ensures params holds in
    (query, only, alone _ _ _ c.new-text.ensures.items sent)
