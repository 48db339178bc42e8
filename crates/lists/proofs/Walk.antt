-- A walk through the entries of a finite map, in key order.
use Rattle.std.proofs.Common.{◌≡◌, ◌∙◌, Bool, true, false, cond, List, [], ◌∷◌, ◌++◌, Option, Some, None, refl, sym, ap, subst, append_assoc}
use Rattle.std.specs.Prelude.{T, ◌&&◌, IsSome}
use Rattle.std.specs.List.{AllByRecursion}
use Rattle.std.specs.declared.cmp.Ordering.{Ordering}
use Rattle.std.specs.declared.cmp.Ordering.TheVariants.{Less, Equal, Greater}
use Rattle.std.specs.Ordering.{is_eq, is_lt, eq_by_cmp}
use Rattle.std.specs.Cmp.{IsTotalOrder, tied_itself}
use Rattle.std.specs.FinMap.{find, is_sorted, IsAntisymmetric}
use Rattle.std.specs.FinMap.Entries.{below_all}
use Rattle.boxes.specs.Next.{IsNext}
use Rattle.lists.proofs.Orders.{not_itself}

first : (a b : Bool) → T (a && b) → T a
first true b p = tt
first false b p = absurd p

second : (a b : Bool) → T (a && b) → T b
second true b p = p
second false b p = absurd p

both : (a b : Bool) → T a → T b → T (a && b)
both true b p q = q
both false b p q = absurd p

less : (o : Ordering) → T (is_lt o) → o ≡ Less
less Less p = refl
less Equal p = absurd p
less Greater p = absurd p

some_is : {X : Type 0} (o : Option X) (x : X) → o ≡ Some x → IsSome o
some_is o x e = rw e refl

no_true : false ≡ true → ⊥
no_true e = cc

some_of : {X : Type 0} (o : Option X) → IsSome o → (x : X) × (o ≡ Some x)
some_of None h = absurd (no_true h)
some_of (Some x) h = (x, refl)

module _ {K X : Type 0} (R : K → K → Ordering) where
  -- these entries do not come after the key
  abbrev pub ArePassed : K → List (K × X) → Type 0
  ArePassed after es = AllByRecursion (λ (e : K × X). R after e.0 ≡ Less → ⊥) es

  -- the entries are cut at the key: those in front do not come after it, and the rest does
  pub record Cut (after : K) (es done rest : List (K × X)) : Type 0 where
    pub joined : es ≡ done ++ rest
    pub passed : ArePassed after done
    pub behind : T (below_all R after rest)

  module _ (total : IsTotalOrder R) (same : IsAntisymmetric R) where
    -- an entry is found under its key
    found_there : (done : List (K × X)) (e : K × X) (rest : List (K × X)) → IsSome (find R e.0 (done ++ e ∷ rest))
    found_there [] e rest = some_is _ e.1 (ap (λ r. cond (is_eq r) (Some e.1) (find R e.0 rest)) (tied_itself total e.0))
    found_there (d ∷ done) e rest =
        elim (eq_by_cmp R e.0 d.0) as (λ b. IsSome (cond b (Some d.1) (find R e.0 (done ++ e ∷ rest)))) [ true ↦ refl | false ↦ found_there done e rest ]

    -- a later key is not among the passed entries
    not_passed : (after k : K) (done rest : List (K × X)) → ArePassed after done → R after k ≡ Less → find R k (done ++ rest) ≡ find R k rest
    not_passed after k [] rest passed less = refl
    not_passed after k (d ∷ done) rest passed less =
        elim (R k d.0) as (λ r. R k d.0 ≡ r → cond (is_eq r) (Some d.1) (find R k (done ++ rest)) ≡ find R k rest) [
          | Less ↦ λ e. not_passed after k done rest passed.1 less
          | Equal ↦ λ e. absurd (passed.0 (subst (λ x. R after x ≡ Less) (same k d.0 e) less))
          | Greater ↦ λ e. not_passed after k done rest passed.1 less
        ] refl

    -- a key found among later entries is later
    stands_behind : (x k : K) (es : List (K × X)) → T (below_all R x es) → IsSome (find R k es) → R x k ≡ Less
    stands_behind x k [] below some = absurd (no_true some)
    stands_behind x k (e ∷ es) below some =
        elim (R k e.0) as (λ r. R k e.0 ≡ r → IsSome (cond (is_eq r) (Some e.1) (find R k es)) → R x k ≡ Less) [
          | Less ↦ λ is some. stands_behind x k es (second _ _ below) some
          | Equal ↦ λ is some. subst (λ y. R x y ≡ Less) (sym (same k e.0 is)) (less _ (first _ _ below))
          | Greater ↦ λ is some. stands_behind x k es (second _ _ below) some
        ] refl some

    sorted_rest : (done rest : List (K × X)) → T (is_sorted R (done ++ rest)) → T (is_sorted R rest)
    sorted_rest [] rest sorted = sorted
    sorted_rest (d ∷ done) rest sorted = sorted_rest done rest (second _ _ sorted)

    -- passed entries stay passed at a later key
    still_passed : (after k : K) (done : List (K × X)) → R after k ≡ Less → ArePassed after done → ArePassed k done
    still_passed after k [] less passed = tt
    still_passed after k (d ∷ done) less passed = ((λ l. passed.0 (total.trans after k d.0 less l)), still_passed after k done less passed.1)

    passed_push : (k : K) (x : X) (done : List (K × X)) → ArePassed k done → ArePassed k (done ++ (k, x) ∷ [])
    passed_push k x [] passed = ((λ l. not_itself total k l), tt)
    passed_push k x (d ∷ done) passed = (passed.0, passed_push k x done passed.1)

    -- all entries come after the key: the cut is at the front
    all_behind : (x : K) (es : List (K × X)) → T (is_sorted R es) → ((k : K) → IsSome (find R k es) → R x k ≡ Less) → T (below_all R x es)
    all_behind x [] sorted behind = tt
    all_behind x (e ∷ es) sorted behind =
        let first_behind = behind e.0 (found_there [] e es) in
        both _ _ (subst (λ r. T (is_lt r)) (sym first_behind) tt) (all_behind x es (second _ _ sorted) (λ k there. rest_behind k there))
      where
        rest_behind : (k : K) → IsSome (find R k es) → R x k ≡ Less
        rest_behind k there = total.trans x e.0 k (behind e.0 (found_there [] e es)) (stands_behind e.0 k es (first _ _ sorted) there)

    pub begins : (after : K) (es : List (K × X)) → T (is_sorted R es) → ((k : K) → IsSome (find R k es) → R after k ≡ Less) → Cut after es [] es
    begins after es sorted behind = record { joined = refl; passed = tt; behind = all_behind after es sorted behind }

    -- no later key: the rest is empty
    pub ends : (after : K) (es done rest : List (K × X)) → Cut after es done rest
        → IsNext R (λ k. IsSome (find R k es)) after None → rest ≡ []
    ends after es done [] cut none = refl
    ends after es done (e ∷ rest) cut none =
        absurd (none e.0 (subst (λ xs. IsSome (find R e.0 xs)) (sym cut.joined) (found_there done e rest)) (less _ (first _ _ cut.behind)))

    -- the next key is the first of the rest, and the cut moves past it
    pub moves : (after : K) (es done rest : List (K × X)) (k : K) → T (is_sorted R es) → Cut after es done rest
        → IsNext R (λ q. IsSome (find R q es)) after (Some k)
        → (x : X) × (more : List (K × X)) × (find R k es ≡ Some x) × Cut k es (done ++ (k, x) ∷ []) more
    moves after es done rest k sorted cut (stands, behind, least) = go rest cut.joined cut.behind (sorted_rest done rest (subst (λ xs. T (is_sorted R xs)) cut.joined sorted)) (subst IsSome there stands)
      where
        there : find R k es ≡ find R k rest
        there = ap (find R k) cut.joined ∙ not_passed after k done rest cut.passed behind

        go : (r : List (K × X)) → es ≡ done ++ r → T (below_all R after r) → T (is_sorted R r) → IsSome (find R k r)
            → (x : X) × (more : List (K × X)) × (find R k es ≡ Some x) × Cut k es (done ++ (k, x) ∷ []) more
        go [] joined below sorted some = absurd (no_true some)
        go (e ∷ r) joined below sorted some =
            elim (R k e.0) as (λ o. R k e.0 ≡ o → IsSome (cond (is_eq o) (Some e.1) (find R k r))
            → (x : X) × (more : List (K × X)) × (find R k es ≡ Some x) × Cut k es (done ++ (k, x) ∷ []) more) [
              | Less ↦ λ is some. absurd (before (stands_behind e.0 k r (first _ _ sorted) some))
              | Equal ↦ λ is some.
                  let key = same k e.0 is in (
                    e.1,
                    r,
                    ap (find R k) joined ∙ not_passed after k done (e ∷ r) cut.passed behind ∙ ap (λ o. cond (is_eq o) (Some e.1) (find R k r)) is,
                    record {
                      joined = joined ∙ ap (λ q. done ++ (q, e.1) ∷ r) (sym key) ∙ sym (append_assoc done ((k, e.1) ∷ []) r);
                      passed = passed_push k e.1 done (still_passed after k done behind cut.passed);
                      behind = subst (λ q. T (below_all R q r)) (sym key) (first _ _ sorted);
                    },
                  )
              | Greater ↦ λ is some. absurd (before (stands_behind e.0 k r (first _ _ sorted) some))
            ] refl some
          where
            before : R e.0 k ≡ Less → ⊥
            before l = least e.0 (subst (λ xs. IsSome (find R e.0 xs)) (sym joined) (found_there done e r)) (less (R after e.0) (first (is_lt (R after e.0)) (below_all R after r) below)) l
