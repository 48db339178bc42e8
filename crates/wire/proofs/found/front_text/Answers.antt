use Rattle.std.proofs.Common.{◌++◌, List, ℕ, length, ap, arith, append_assoc, ◌∙◌, ◌≡◌, take, drop, take-append-drop}
use Rattle.std.proofs.lemmas.Slice.{take-put_mid}
use Rattle.hex.specs.Hex.{encode_lower}
use Rattle.wire.specs.Answers.{file_head}
use Rattle.wire.proofs.found.front_text.Goals as goal

both_parts : (n : ℕ) (bytes first rest : List ℕ) → first ≡ take n bytes → rest ≡ drop n bytes → first ++ rest ≡ bytes
both_parts n bytes first rest p q = rw (p, q) (take-append-drop n bytes)

pub returns-clause-text : goal.returns-clause-text
returns-clause-text c =
    let bytes = c.args.bytes.now in
    let head = file_head c.args.number (encode_lower c.args.digest) bytes in
    let first = c.split_at.result.0.now in
    let rest = c.split_at.result.1.now in
    let copied = c.copy_from_slice.new.self in
    let whole : first ++ rest ≡ bytes = both_parts c.min.result bytes first rest c.split_at.ensures.front c.split_at.ensures.back in
    let long = ap length c.copy_from_slice.ensures.after in
    ap (λ (t : List ℕ). t ++ rest)
    (take-put_mid c.head_text-head.result _ c.head_text-head.new.out copied _ (omega arith) (omega arith)
    ∙ ap (λ (t : List ℕ). t ++ copied) c.head_text-head.ensures.text
    ∙ ap (λ (t : List ℕ). head ++ t) c.copy_from_slice.ensures.after)
    ∙ append_assoc head first rest
    ∙ ap (λ (t : List ℕ). head ++ t) whole

pub copy_from_slice-requires : goal.copy_from_slice-requires
copy_from_slice-requires c = grind arith

pub returns-clause-full : goal.returns-clause-full
returns-clause-full c = grind arith

pub returns-clause-within : goal.returns-clause-within
returns-clause-within c = grind arith
