use Rattle.std.proofs.Common.{◌+◌, ◌++◌, ◌∙◌, List, ℕ, ap, take, length, arith}
use Rattle.std.proofs.lemmas.List.{with_items_is}
use Rattle.wire.proofs.Resized.{at_most, longer_front, longer_length}
use Rattle.wire.proofs.gathered.read_behind.Goals as goal

pub read_from-requires : goal.read_from-requires
read_from-requires g c =
    let at = c.len-len.ensures ∙ c.args.bytes.now.ok.0 in
    let within = longer_length c.resize.result c.len-len.result c.args.most c.args.bytes.now.items _ _ at c.resize.ensures.items in
    omega (arith, within, ap length c.deref_mut.ensures.value)

pub returns-in-Ok-clause-came : goal.returns-in-Ok-clause-came
returns-in-Ok-clause-came g c =
    let len = c.len-len.result in
    let vec = c.resize.new.self in
    let n = c.in-Ok.n in
    let ys = c.read_from.new.bytes in
    let value = c.deref_mut.ensures.value in
    let (came, size, within, more, consumed) = c.in-Ok.ensures.came in
    let at = c.len-len.ensures ∙ c.args.bytes.now.ok.0 in
    let front = longer_front c.resize.result len c.args.most c.args.bytes.now.items vec.items _ at c.resize.ensures.items in
    let most = at_most c.resize.result _ (len + c.args.most) _ c.resize.ensures.len (omega (arith, c.len-len.ensures)) in
    let items = with_items_is vec ys (omega (arith, c.read_from.auto.bytes, ap length value, vec.ok.0)) in (
      came,
      size,
      omega (arith, within, c.read_from.auto.bytes, ap length value, most, vec.ok.0),
      c.truncate.ensures.items ∙ (ap (take (len + n)) items ∙ (more ∙ ap (λ (l : List ℕ). l ++ came) (ap (take len) value ∙ front))),
      consumed,
    )

pub returns-in-Err-clause-kept : goal.returns-in-Err-clause-kept
returns-in-Err-clause-kept g c =
    let len = c.len-len.result in
    let vec = c.resize.new.self in
    let ys = c.read_from.new.bytes in
    let value = c.deref_mut.ensures.value in
    let at = c.len-len.ensures ∙ c.args.bytes.now.ok.0 in
    let front = longer_front c.resize.result len c.args.most c.args.bytes.now.items vec.items _ at c.resize.ensures.items in
    let items = with_items_is vec ys (omega (arith, c.read_from.auto.bytes, ap length value, vec.ok.0)) in
    (c.truncate-in-Err.ensures.items ∙ (ap (take len) items ∙ (c.in-Err.ensures.kept.0 ∙ (ap (take len) value ∙ front))), c.in-Err.ensures.kept.1)
