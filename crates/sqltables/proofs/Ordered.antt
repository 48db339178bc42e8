-- What a query on one table shows in order, and how many of the rows.
use Rattle.std.proofs.Common.{◌≡◌, ℕ, List, [], ◌∷◌, map, filter, Bool, true, false, cond, refl, sym, ap, subst, ◌∙◌}
use Rattle.std.specs.List.{list_all, flat_map}
use Rattle.std.specs.List.Sorted.{IsPermutation}
use Rattle.std.specs.Ordering.{is_gt}
use Rattle.sqlite_value.specs.Order.{Row}
use Rattle.sqlite_value.specs.declared.keys.Key.{Key}
use Rattle.sqlite_trees.specs.Tree.{Trees, IsAscending}
use Rattle.sqlite_trees.proofs.ListLemmas.{pull_back}
use Rattle.sqlite_sql.specs.Term.{Term, holds, eval_all, Env}
use Rattle.sqlite_sql.specs.Query.{Query, inner, end, IsAnswer, Output, output, output_cmp, matches, page}
use Rattle.sqlite_sql.proofs.QueryLemmas.{output_cmp_total}
use Rattle.sqlite_exec.proofs.PartitionLemmas.{ascending_from_sorted}
use Rattle.sqltables.proofs.Forms.{query}

-- the rows of the table that pass, sorted by the query's order, and the page of what is shown of them
pub record Arranged (q : Query) (rows : List Row) (given : Row) (shown : List Row) : Type 0 where
  pub found : List Row
  pub same : IsPermutation (filter (λ r. list_all (holds (given ∷ r ∷ [])) q.filter) rows) found
  pub rising : IsAscending (λ a b. is_gt (output_cmp q a b) ≡ false) (map (λ r. output q (given ∷ r ∷ [])) found)
  pub is : shown ≡ page q given (map (λ r. eval_all q.project (given ∷ r ∷ [])) found)

passing : {X Y : Type 0} (p : X → Bool) (f : X → Y) (xs : List X) → flat_map (λ x. cond (p x) (f x ∷ []) []) xs ≡ map f (filter p xs)
passing p f [] = refl
passing p f (x ∷ xs) = go (p x) (passing p f xs)
  where
    go : (b : Bool) → flat_map (λ x. cond (p x) (f x ∷ []) []) xs ≡ map f (filter p xs)
        → Rattle.std.proofs.Common.◌++◌ (cond b (f x ∷ []) []) (flat_map (λ x. cond (p x) (f x ∷ []) []) xs) ≡ map f (cond b (x ∷ filter p xs) (filter p xs))
    go true rest = ap (◌∷◌ (f x)) rest
    go false rest = rest

maps_twice : {X Y Z : Type 0} (f : X → Y) (g : Y → Z) (xs : List X) → map g (map f xs) ≡ map (λ x. g (f x)) xs
maps_twice f g [] = refl
maps_twice f g (x ∷ xs) = ap (◌∷◌ (g (f x))) (maps_twice f g xs)

pub arranged : (tree : ℕ) (tests project : List Term) (order : List (Term × Key)) (limit : Term) (db : Trees) (given : Row) (shown : List Row)
    → IsAnswer (query tree tests project order limit) db given shown → Arranged (query tree tests project order limit) (db tree) given shown
arranged tree tests project order limit db given shown answer =
    let q = query tree tests project order limit in
    let env : Row → Env = λ r. given ∷ r ∷ [] in
    let both : Row → Output = λ r. output q (env r) in
    let test : Row → Bool = λ r. list_all (holds (env r)) tests in
    let all = matches db tests (inner tree end) (given ∷ []) in
    let flat : all ≡ map env (filter test (db tree)) = passing test env (db tree) in
    let kept : answer.kept ≡ map both (filter test (db tree)) = answer.distinct ∙ ap (map (output q)) (answer.grouped ∙ flat) ∙ maps_twice env (output q) (filter test (db tree)) in
    let from = pull_back both answer.kept answer.ordered answer.same (filter test (db tree)) kept in
    record {
      found = from.0;
      same = from.1;
      rising = subst (IsAscending (λ a b. is_gt (output_cmp q a b) ≡ false)) from.2 (ascending_from_sorted (output_cmp q) (output_cmp_total q) answer.ordered answer.sorted);
      is = answer.shown ∙ ap (page q given) (ap (map (λ (k : Output). k.1)) from.2 ∙ maps_twice both (λ (k : Output). k.1) from.0);
    }
