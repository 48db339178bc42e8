use Rattle.std.proofs.Common.{Some, ap, inl, inr, sym, subst}
use Rattle.std.specs.Prelude.{is_some}
use Rattle.sigtext.specs.Bytes.{bytes_cmp}
use Rattle.boxes.specs.Limits.{MayUse}
use Rattle.boxes.proofs.Lookups.{bytes_total}
use Rattle.shelf.specs.Shelves.{bytes_of}
use Rattle.shelf.proofs.MapLemmas.{sets_of}
use Rattle.shelf.specs.declared.cache.CachedKey.{CachedKey}
use Rattle.shelf.specs.Recalled.{IsKeyIn, RecallsKeys}
use Rattle.shelf.proofs.Entries.{each_set}
use Rattle.shelf.proofs.cache.put_use.Goals as goal

pub returns-in-Some : goal.returns-in-Some
returns-in-Some c s each may =
    let old = c.in-Some.known.now in
    let there = sym c.in-Some.ensures.value in
    let with : CachedKey = record old { uses = c.add_use.new.uses } in
    let after = c.get_mut.follows.lender with in
    let sets = sets_of bytes_cmp bytes_of bytes_total c.args.keys.now after c.args.id.now (Some with) ((c.get_mut.follows.holds with).3 (ap is_some there)) in
    let was = each c.args.id.now old there in
    let is : IsKeyIn s c.args.id.now with = record {
      row = was.row;
      uses = λ box has. elim (c.add_use.ensures box has) [ inl before ↦ was.uses box before | inr same ↦ subst (λ b. MayUse s c.args.id.now b) (sym same) may ];
    } in
    each_set (IsKeyIn s) c.args.keys.now.entries after.entries c.args.id.now with sets each is

pub returns-in_default : goal.returns-in_default
returns-in_default c s each may = subst (λ m. RecallsKeys s m.entries) (sym c.get_mut.follows.holds-at-none) each
