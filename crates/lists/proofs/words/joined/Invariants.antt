use Rattle.std.proofs.Common.{◌≡◌, ◌∷◌, ◌++◌, [], map, drop}
use Rattle.std.specs.List.{join_with_byte}
use Rattle.sigtext.proofs.JoinedTexts.{joined_behind}
use Rattle.lists.proofs.words.joined.Given as goal

abbrev pub invariant-others : goal.invariant-others
invariant-others l =
    join_with_byte l.between (map (λ t. t.items) l.texts)
    ≡ l.text.items ++ joined_behind (l.between ∷ []) l.between (map (λ t. t.items) (drop l.other-index l.others))
