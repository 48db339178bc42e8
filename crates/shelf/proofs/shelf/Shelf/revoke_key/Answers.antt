use Rattle.std.proofs.Common.{◌≡◌, ◌∙◌, ◌-◌, cond, length, sym, ap, subst, arith}
use Rattle.std.specs.Prelude.{true}
use Rattle.std.specs.FinMap.{insert}
use Rattle.boxes.specs.declared.rows.KeyRow.{KeyRow}
use Rattle.boxes.specs.State.{Key, State}
use Rattle.boxes.specs.Rows.{key_of}
use Rattle.boxes.specs.Clerks.{clerks, is_acting}
use Rattle.boxes.proofs.CommandSteps.{key_revoked_is}
use Rattle.shelf.specs.declared.shelf.Shelf.{Shelf}
use Rattle.shelf.specs.Shelves.{Holds}
use Rattle.shelf.proofs.MapLemmas.{some_of}
use Rattle.shelf.proofs.ClerkCounts.{clerks_revoked}
use Rattle.shelf.proofs.ShelfLemmas.{holds_keys}
use Rattle.shelf.proofs.shelf.Shelf.revoke_key.Goals as goal

pub returns-clause-made : goal.returns-clause-made
returns-clause-made c s after h obeyed =
    let k : Shelf = c.args.self.now in
    let id = c.args.id.now in
    let is = key_revoked_is s id after obeyed.step in
    let row = some_of key_of _ is.0 (sym (h.keys.each id) ∙ is.1) in
    let marked : KeyRow = record row.0 { revoked = true } in
    let n = c.saturating_sub-self.result in
    let fewer = h.fewer in
    let kept = h.clerks in
    let gone : c.acting_at-gone.result ≡ cond (is_acting is.0) 1 0 = c.acting_at-gone.ensures row.0 row.1 ∙ ap (λ (x : Key). cond (is_acting x) 1 0) row.2 in
    let now : n ≡ k.clerks - c.acting_at-gone.result = c.saturating_sub-self.ensures in
    let left = clerks_revoked s id is.0 is.1 in
    let means : ◌≡◌ {A = Key} (key_of marked) (record is.0 { revoked = true }) = ap (λ (x : Key). record x { revoked = true }) row.2 in
    let less : n ≡ clerks (record s { keys = insert s.keys id (record is.0 { revoked = true }) }) = omega (arith, gone, now, left, kept) in
    let counted : n ≡ clerks (record s { keys = insert s.keys id (key_of marked) }) = less ∙ ap (λ (x : Key). clerks (record s { keys = insert s.keys id x })) (sym means) in
    let long : length c.mark_revoked.new.keys.entries ≡ length k.keys.entries = c.mark_revoked.ensures.len in
    let held = holds_keys k s c.mark_revoked.new.keys id marked n h (c.mark_revoked.ensures.set row.0 row.1) counted (omega (arith, now, fewer, long)) in
    let same : ◌≡◌ {A = State} (record s { keys = insert s.keys id (key_of marked) }) after = ap (λ (x : Key). record s { keys = insert s.keys id x }) means ∙ sym is.2 in
    subst (Holds (record k { keys = c.mark_revoked.new.keys; clerks = n })) same held
