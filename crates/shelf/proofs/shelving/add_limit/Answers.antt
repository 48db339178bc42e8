use Rattle.std.proofs.Common.{◌≡◌, ◌∙◌, ℕ, true, false, cond, List, Some, None, sym, ap, subst}
use Rattle.std.specs.Prelude.{Vec, is_some, option_map, unwrap_or}
use Rattle.std.specs.declared.alloc.Global.{Global}
use Rattle.std.specs.List.{list_any}
use Rattle.std.specs.Ordering.{is_eq, eq_by_cmp}
use Rattle.std.specs.FinMap.{insert}
use Rattle.std.specs.BTreeSet.{BTreeSet}
use Rattle.sigtext.specs.Bytes.{bytes_cmp}
use Rattle.boxes.proofs.Lookups.{bytes_total}
use Rattle.shelf.specs.Maps.{found}
use Rattle.shelf.specs.Shelves.{LimitsMean, bytes_of, has_box, has_limit}
use Rattle.shelf.proofs.MapLemmas.{sets_of}
use Rattle.shelf.proofs.LimitLemmas.{has_after, limits_set, limits_same, on_err}
use Rattle.shelf.proofs.shelving.add_limit.Goals as goal

pub returns-in_err-insert-clause-same : goal.returns-in_err-insert-clause-same
returns-in_err-insert-clause-same c m h =
    let es = c.args.limits.now.entries in
    let id = c.args.id.now in
    let now : BTreeSet (Vec ℕ Global) = c.insert.new.self in
    let after = c.get_mut.follows.lender now in
    let there : found bytes_cmp bytes_of es id ≡ Some now = sym c.in-Some.ensures.value ∙ ap (λ (ks : List (Vec ℕ Global)). Some (record { keys = ks })) (sym c.in_err-insert.ensures.err) in
    let sets = sets_of bytes_cmp bytes_of bytes_total c.args.limits.now after id (Some now) ((c.get_mut.follows.holds now).3 (ap is_some there)) in
    on_err c.from_residual-in_err-insert.result (LimitsMean after.entries m) (limits_same es after.entries m id now h there sets)

pub returns-in-Some-clause-made : goal.returns-in-Some-clause-made
returns-in-Some-clause-made c m h =
    let es = c.args.limits.now.entries in
    let id = c.args.id.now in
    let name = c.in_ok-name.name.items in
    let old : BTreeSet (Vec ℕ Global) = c.in-Some.boxes.now in
    let now : BTreeSet (Vec ℕ Global) = c.insert.new.self in
    let after = c.get_mut.follows.lender now in
    let there : found bytes_cmp bytes_of es id ≡ Some old = sym c.in-Some.ensures.value in
    let sets = sets_of bytes_cmp bytes_of bytes_total c.args.limits.now after id (Some now) ((c.get_mut.follows.holds now).3 (ap is_some there)) in
    let has : (q : List ℕ) → has_box now q ≡ cond (eq_by_cmp bytes_cmp q name) true (has_limit es (record { key = id; box = q })) = λ q. has_after old now name c.in_ok-insert.ensures.updates q
    ∙ ap (cond (eq_by_cmp bytes_cmp q name) true) (sym (ap (λ o. unwrap_or (option_map (λ x. has_box x q) o) false) there)) in
    subst (λ (b : List ℕ). LimitsMean after.entries (insert m (record { key = id; box = b }) tt)) c.in_ok-name.ensures.items (limits_set es after.entries m id name now h sets has)

pub returns-clause-made : goal.returns-clause-made
returns-clause-made c m h =
    let before = c.get_mut.follows.lender-at-none in
    let stays : before ≡ c.args.limits.now = c.get_mut.follows.holds-at-none in
    let es = before.entries in
    let id = c.in_ok-from_slice.field-0.items in
    let name = c.in_ok-name.name.items in
    let boxes : BTreeSet (Vec ℕ Global) = c.insert-2.new.self in
    let after = c.insert-3.new.self in
    let none : found bytes_cmp bytes_of es id ≡ None = ap (λ b. found bytes_cmp bytes_of b.entries id) stays ∙ ap (found bytes_cmp bytes_of c.args.limits.now.entries) c.in_ok-from_slice.ensures.items ∙ sym c.in_default.ensures.value in
    let sets = sets_of bytes_cmp bytes_of bytes_total before after id (Some boxes) c.in_ok-insert-3.ensures.updates in
    let has : (q : List ℕ) → has_box boxes q ≡ cond (eq_by_cmp bytes_cmp q name) true (has_limit es (record { key = id; box = q })) = λ q. has_after c.new-boxes.result boxes name c.in_ok-insert-2.ensures.updates q
    ∙ ap (cond (eq_by_cmp bytes_cmp q name) true) (ap (list_any (λ x. is_eq (bytes_cmp q (bytes_of x)))) c.new-boxes.ensures.empty ∙ sym (ap (λ o. unwrap_or (option_map (λ x. has_box x q) o) false) none)) in
    let made = limits_set es after.entries m id name boxes (subst (λ b. LimitsMean b.entries m) (sym stays) h) sets has in
    subst (λ (i : List ℕ). LimitsMean after.entries (insert m (record { key = i; box = c.args.in_box.now }) tt)) c.in_ok-from_slice.ensures.items
    (subst (λ (b : List ℕ). LimitsMean after.entries (insert m (record { key = id; box = b }) tt)) c.in_ok-name.ensures.items made)
