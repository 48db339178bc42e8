-- Pieces of a text that were written one after another.
use Rattle.std.proofs.Common.{◌≡◌, ◌≤◌, ℕ, ◌-◌, List, [], ◌++◌, length, take, drop, ap, ◌∙◌, arith, append_assoc, length-append}
use Rattle.std.proofs.Math.Seq.{drop-append_seam, take-append_seam}
use Rattle.links.specs.SixValues.{between}

-- one more piece follows a text
behind : (mid next whole piece rest : List ℕ) → next ≡ mid ++ piece → whole ≡ next ++ rest → whole ≡ mid ++ (piece ++ rest)
behind mid next whole piece rest here there = there ∙ ap (λ (t : List ℕ). t ++ rest) here ∙ append_assoc mid piece rest

-- the piece that was written after a text, before the rest
piece_between : (front piece mid rest whole : List ℕ) (i j : ℕ) → i ≡ length front → j ≡ length mid → mid ≡ front ++ piece → whole ≡ mid ++ rest → between i j whole ≡ piece
piece_between front piece mid rest whole i j start end here there =
    let both = ap length here in
    let long : j - i ≡ length piece = omega (arith, start, end, both, length-append front piece) in
    ap (λ (n : ℕ). take n (drop i whole)) long
    ∙ ap (λ (n : ℕ). take (length piece) (drop n whole)) start
    ∙ ap (λ (t : List ℕ). take (length piece) (drop (length front) t)) (behind front mid whole piece rest here there)
    ∙ ap (take (length piece)) (drop-append_seam front (piece ++ rest))
    ∙ take-append_seam piece rest

-- the first piece and the last
piece_first : (piece mid rest whole : List ℕ) (j : ℕ) → j ≡ length mid → mid ≡ piece → whole ≡ mid ++ rest → take j whole ≡ piece
piece_first piece mid rest whole j end here there =
    ap (λ (n : ℕ). take n whole) end ∙ ap (take (length mid)) there ∙ take-append_seam mid rest ∙ here

piece_last : (front piece whole : List ℕ) (i : ℕ) → i ≡ length front → whole ≡ front ++ piece → drop i whole ≡ piece
piece_last front piece whole i start there = ap (λ (n : ℕ). drop n whole) start ∙ ap (drop (length front)) there ∙ drop-append_seam front piece

-- a text ends where it ended before a piece was written after it, or later
pub end_ascends : (front piece mid : List ℕ) (i j : ℕ) → i ≡ length front → j ≡ length mid → mid ≡ front ++ piece → i ≤ j
end_ascends front piece mid i j start end here = omega (arith, start, end, ap length here, length-append front piece)

-- six pieces, and the end of each except the last
pub record AreSixPieces (a b d e h s whole : List ℕ) (i j k l m : ℕ) : Type 0 where
  pub algorithm : take i whole ≡ a
  pub credential : between i j whole ≡ b
  pub date : between j k whole ≡ d
  pub expires : between k l whole ≡ e
  pub names : between l m whole ≡ h
  pub signature : drop m whole ≡ s

pub six_pieces : (a b d e h s t0 t1 t2 t3 t4 t5 t6 : List ℕ) (i j k l m : ℕ) → t0 ≡ [] → t1 ≡ t0 ++ a → t2 ≡ t1 ++ b → t3 ≡ t2 ++ d → t4 ≡ t3 ++ e → t5 ≡ t4 ++ h → t6 ≡ t5 ++ s
    → i ≡ length t1 → j ≡ length t2 → k ≡ length t3 → l ≡ length t4 → m ≡ length t5 → AreSixPieces a b d e h s t6 i j k l m
six_pieces a b d e h s t0 t1 t2 t3 t4 t5 t6 i j k l m none first second third fourth fifth sixth i_is j_is k_is l_is m_is =
    let from_4 = behind t4 t5 t6 h s fifth sixth in
    let from_3 = behind t3 t4 t6 e (h ++ s) fourth from_4 in
    let from_2 = behind t2 t3 t6 d (e ++ (h ++ s)) third from_3 in
    let from_1 = behind t1 t2 t6 b (d ++ (e ++ (h ++ s))) second from_2 in
    record {
      algorithm = piece_first a t1 _ t6 i i_is (first ∙ ap (λ (t : List ℕ). t ++ a) none) from_1;
      credential = piece_between t1 b t2 _ t6 i j i_is j_is second from_2;
      date = piece_between t2 d t3 _ t6 j k j_is k_is third from_3;
      expires = piece_between t3 e t4 _ t6 k l k_is l_is fourth from_4;
      names = piece_between t4 h t5 s t6 l m l_is m_is fifth sixth;
      signature = piece_last t5 s t6 m m_is sixth;
    }
