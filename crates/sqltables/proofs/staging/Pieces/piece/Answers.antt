use Rattle.std.proofs.Common.{◌≡◌, ℕ, ◌-◌, ◌*◌, ◌<◌, ◌≤◌, List, length, min, take, drop, Some, arith, rules, refl, sym, ap, ◌∙◌}
use Rattle.std.proofs.lemmas.Bool.{lt-ltb}
use Rattle.std.proofs.lemmas.List.{length-drop, take_all, take_min}
use Rattle.std.proofs.lemmas.Grind.{common_steps}
use Rattle.sqltables.proofs.Gathering.{no_piece}
use Rattle.sqltables.proofs.staging.Pieces.piece.Goals as goal

-- the remaining bytes, and as many of them as a piece holds
take_rest : (bytes : List ℕ) (start n : ℕ) → n ≡ min (length (take (length bytes - start) (drop start bytes))) 65536
    → take n (take (length bytes - start) (drop start bytes)) ≡ take 65536 (drop start bytes)
take_rest bytes start n is =
    let rest = drop start bytes in
    let whole : take (length bytes - start) rest ≡ rest = let e = length-drop start bytes in take_all (length bytes - start) rest (omega (arith, e)) in
    let size : n ≡ min 65536 (length rest) = let e = ap length whole in omega (arith, is, e) in
    ap (take n) whole ∙ ap (λ m. take m rest) size ∙ take_min 65536 rest

pub returns-then-start-len : goal.returns-then-start-len
returns-then-start-len c =
    let bytes = c.args.self.now.bytes.items in
    let past : length bytes ≤ 65536 * c.args.at = search rules in
    sym (no_piece bytes c.args.at past)

pub returns : goal.returns
returns c =
    let bytes = c.args.self.now.bytes.items in
    let same = c.deref.ensures.value in
    let within : 65536 * c.args.at < length bytes = search rules in
    let start : c.args.at * 65536 ≡ 65536 * c.args.at = omega arith in
    let left = take_rest c.deref.result.now (c.args.at * 65536) c.min.result c.min.ensures in
    ap Some (left ∙ ap (λ l. take 65536 (drop (c.args.at * 65536) l)) same ∙ ap (λ n. take 65536 (drop n bytes)) start)
    ∙ sym (rw (lt-ltb (65536 * c.args.at) (length bytes) within) refl)

pub slice_bounds-result-end : goal.slice_bounds-result-end
slice_bounds-result-end c = grind (arith, common_steps)
