use Rattle.std.proofs.Common.{Some, ap, sym, subst}
use Rattle.std.specs.Prelude.{is_some}
use Rattle.sigtext.specs.Bytes.{bytes_cmp}
use Rattle.boxes.proofs.Lookups.{bytes_total}
use Rattle.shelf.specs.Shelves.{bytes_of}
use Rattle.shelf.proofs.MapLemmas.{sets_of}
use Rattle.shelf.specs.declared.cache.CachedBox.{CachedBox}
use Rattle.shelf.specs.Recalled.{HasTotals}
use Rattle.shelf.proofs.Entries.{has_totals, no_totals}
use Rattle.shelf.proofs.cache.set_totals.Goals as goal

pub returns-in-Some : goal.returns-in-Some
returns-in-Some c =
    let old = c.in-Some.known.now in
    let there = sym c.in-Some.ensures.value in
    let with : CachedBox = record old { totals = c.args.totals } in
    let after = c.get_mut.follows.lender with in
    has_totals c.args.boxes.now.entries after.entries c.args.name.now c.args.totals old there (sets_of bytes_cmp bytes_of bytes_total c.args.boxes.now after c.args.name.now (Some with) ((c.get_mut.follows.holds with).3 (ap is_some there)))

pub returns-in_default : goal.returns-in_default
returns-in_default c = subst (λ m. HasTotals c.args.name.now c.args.totals c.args.boxes.now.entries m.entries) (sym c.get_mut.follows.holds-at-none) (no_totals c.args.boxes.now.entries c.args.name.now c.args.totals (sym c.in_default.ensures.value))
