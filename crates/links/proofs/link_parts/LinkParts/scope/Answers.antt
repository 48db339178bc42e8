use Rattle.std.proofs.Common.{◌+◌, ◌-◌, ◌≡◌, length, take, drop, ap, ◌∙◌, arith}
use Rattle.links.proofs.CredentialCuts.{key_id_cut, scope_cut}
use Rattle.links.proofs.link_parts.LinkParts.scope.Goals as goal

pub returns : goal.returns
returns c r p is =
    let n = c.args.self.now.key_id_length in
    let rest = c.split_at.result.1.now in
    let key_id = c.split_at.ensures.front ∙ ap (take n) c.credential.ensures ∙ key_id_cut _ _ _ _ n is.credential is.key_id_length in
    let stands = c.split_at.ensures.back ∙ ap (drop n) c.credential.ensures in
    let left : (length rest - 16 - 10) + 26 ≡ length rest = omega (arith, c.split_at.ensures.back_len, c.args.self.now.scope_fits, ap length c.credential.ensures) in
    (key_id, scope_cut _ _ _ p.scope rest n _ is.credential is.key_id_length stands left)

pub overflow_sub-result : goal.overflow_sub-result
overflow_sub-result c = grind arith

pub slice_bounds-result-count-2 : goal.slice_bounds-result-count-2
slice_bounds-result-count-2 c = grind arith

pub slice_bounds-result-end : goal.slice_bounds-result-end
slice_bounds-result-end c = grind arith

pub slice_bounds-result-start-2 : goal.slice_bounds-result-start-2
slice_bounds-result-start-2 c = grind arith
