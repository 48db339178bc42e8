use Rattle.std.proofs.Common.{◌≡◌, ◌∙◌, ◌+◌, ℕ, None, Some, cond, length, List, sym, ap, subst, arith}
use Rattle.std.specs.FinMap.{get, insert}
use Rattle.sigtext.specs.Bytes.{bytes_cmp}
use Rattle.boxes.specs.State.{Key, State}
use Rattle.boxes.specs.Rows.{key_of}
use Rattle.boxes.specs.Clerks.{clerks, is_acting}
use Rattle.boxes.proofs.Lookups.{bytes_total}
use Rattle.boxes.proofs.CommandSteps.{key_added_is}
use Rattle.shelf.specs.declared.shelf.Shelf.{Shelf}
use Rattle.shelf.specs.Shelves.{Holds, bytes_of, added_key}
use Rattle.shelf.proofs.MapLemmas.{not_found, is_none_is, sets_of}
use Rattle.shelf.proofs.ClerkCounts.{clerks_added, at_most_one}
use Rattle.shelf.proofs.ShelfLemmas.{holds_keys}
use Rattle.shelf.proofs.shelf.Shelf.add_key.Goals as goal

pub returns-in-Ok-insert-clause-made : goal.returns-in-Ok-insert-clause-made
returns-in-Ok-insert-clause-made c s after h obeyed =
    let k : Shelf = c.args.self.now in
    let id = c.in-Ok.id.items in
    let row = c.in-Ok.row in
    let added = added_key c.args.role c.args.secret.now in
    let made = c.in-Ok.ensures in
    let free : get s.keys id ≡ None = ap (get s.keys) made.0 ∙ is_none_is _ obeyed.possible in
    let missing : c.in-Ok-insert.field-0 ≡ None = c.in-Ok-insert.ensures.old ∙ not_found key_of _ (sym (h.keys.each id) ∙ free) in
    let longer : length c.insert.new.self.entries ≡ length k.keys.entries + 1 = rw missing at c.in-Ok-insert.ensures.len in
    let n = c.min-clerks.result in
    let one = at_most_one (is_acting (key_of row)) in
    let acts : c.acting.result ≡ cond (is_acting (key_of row)) 1 0 = c.acting.ensures in
    let more = clerks_added s id (key_of row) free in
    let small = c.len.ensures.small in
    let len = c.len.ensures.len in
    let fewer = h.fewer in
    let kept = h.clerks in
    let sum = c.saturating_add.ensures in
    let least = c.min-clerks.ensures in
    let now : n ≡ k.clerks + cond (is_acting (key_of row)) 1 0 = omega (arith, one, acts, small, len, fewer, sum, least) in
    let counted : n ≡ clerks (record s { keys = insert s.keys id (key_of row) }) = omega (arith, now, kept, more) in
    let held = holds_keys k s c.insert.new.self id row n h (sets_of bytes_cmp bytes_of bytes_total k.keys c.insert.new.self id (Some row) c.in-Ok-insert.ensures.updates) counted (omega (arith, now, one, fewer, longer)) in
    let same : ◌≡◌ {A = State} (record s { keys = insert s.keys id (key_of row) }) after
    = ap (λ (i : List ℕ). record s { keys = insert s.keys i (key_of row) }) made.0 ∙ ap (λ (x : Key). record s { keys = insert s.keys c.args.id.now x }) made.1
    ∙ sym (key_added_is s c.args.id.now c.args.role c.args.secret.now after obeyed.step) in
    subst (Holds (record k { keys = c.insert.new.self; clerks = n })) same held

pub returns-clause-fault : goal.returns-clause-fault
returns-clause-fault c = grind arith

pub returns-clause-same : goal.returns-clause-same
returns-clause-same c = grind arith

pub returns-clause-staged : goal.returns-clause-staged
returns-clause-staged c = grind arith
