-- Two lists of parameters have the same canonical query if their signing parameters except the signature have the same values,
-- and their other parameters are rearrangements of one list.
use Rattle.std.proofs.Common.{◌≡◌, ℕ, Bool, true, false, not, List, [], ◌∷◌, get_or, sym, ap, subst, ◌∙◌, ⊎_elim, All, map, codes}
use Rattle.std.specs.Prelude.{Contains, IsPermutation, filter}
use Rattle.std.specs.List.{list_any, join_with_byte, AllByRecursion}
use Rattle.std.proofs.lemmas.Bool.{cases_Bool, or_cases, not_from_false}
use Rattle.std.proofs.lemmas.List.Elements.{All-contains, All-contains_itself, All-filter, filter_passes}
use Rattle.std.proofs.lemmas.List.Sorted.{All-permutation, Contains-permutation, IsPermutation-sym}
use Rattle.sigtext.specs.declared.encode.Slash.TheVariants.{Encoded}
use Rattle.sigtext.specs.Bytes.{same_bytes}
use Rattle.sigtext.specs.CanonicalQuery.{signed_params, param_text, IsCanonicalQuery}
use Rattle.sigtext.specs.Target.{Param}
use Rattle.sigtext.specs.UriEncode.{uri_encoded}
use Rattle.sigtext.proofs.Ascending.{ascending_once}
use Rattle.sigtext.proofs.Filters.{kept}
use Rattle.links.specs.Drafts.{DraftValues}
use Rattle.links.specs.WellFormed.{HasValue}
use Rattle.sigtext.specs.Readable.{signing_names, is_signing_name}

-- the signing parameters except the signature have these values
pub record HaveValues (five : DraftValues) (params : List Param) : Type 0 where
  pub algorithm : HasValue params (codes "X-Amz-Algorithm") (codes "AWS4-HMAC-SHA256")
  pub credential : HasValue params (codes "X-Amz-Credential") five.credential
  pub date : HasValue params (codes "X-Amz-Date") five.date
  pub expires : HasValue params (codes "X-Amz-Expires") five.expires
  pub names : HasValue params (codes "X-Amz-SignedHeaders") five.names

-- the parameters besides the signing ones
abbrev pub others_of : List Param → List Param
others_of params = filter (λ q. not (is_signing_name q.name)) params

from_filter : {X : Type 0} (t : X → Bool) (xs : List X) (x : X) → Contains (filter t xs) x → Contains xs x
from_filter t xs x there =
    All-contains (Contains xs) (filter t xs) x (All-filter t (Contains xs) xs (All-contains_itself xs)) there

passed : {X : Type 0} (t : X → Bool) (xs : List X) (x : X) → Contains (filter t xs) x → t x ≡ true
passed t xs x there = All-contains (λ y. t y ≡ true) (filter t xs) x (filter_passes t xs) there

-- ---- an element of one list is an element of the other

-- what follows from each of these names follows from a name among them
leads : (name : List ℕ) (P : Type 0) (names : List (List ℕ)) → AllByRecursion (λ n. same_bytes name n ≡ true → P) names
    → list_any (same_bytes name) names ≡ true → P
leads name P [] each e = absurd cc
leads name P (n ∷ names) each e = ⊎_elim (λ here. each.0 here) (λ more. leads name P names each.1 more) (or_cases _ _ e)

-- a parameter whose name has one value in both
with_value : (ps qs : List Param) (name value : List ℕ) → HasValue ps name value → HasValue qs name value → (x : Param)
    → Contains ps x → same_bytes x.name name ≡ true → Contains qs x
with_value ps qs name value h k x there named =
    let found = subst (λ (zs : List Param). Contains zs x) h (kept (λ q. same_bytes q.name name) ps x named there) in
    let back = subst (λ (zs : List Param). Contains zs x) (sym k) found in
    from_filter (λ q. same_bytes q.name name) qs x back

-- a parameter that is not a signing one
beside : (own ps qs : List Param) → IsPermutation own (others_of ps) → IsPermutation own (others_of qs) → (x : Param)
    → Contains ps x → is_signing_name x.name ≡ false → Contains qs x
beside own ps qs to_p to_q x there other_name =
    let other = λ (q : Param). not (is_signing_name q.name) in
    let mine = kept other ps x (not_from_false _ other_name) there in
    let ordered = Contains-permutation (others_of ps) own x (IsPermutation-sym own (others_of ps) to_p) mine in
    from_filter other qs x (Contains-permutation own (others_of qs) x to_q ordered)

never : (b : Bool) → not b ≡ true → b ≡ true → ⊥
never true h e = absurd cc
never false h e = absurd cc

pub there_too : (five : DraftValues) (own ps qs : List Param) → HaveValues five ps → HaveValues five qs
    → IsPermutation own (others_of ps) → IsPermutation own (others_of qs)
    → (x : Param) → Contains (signed_params ps) x → Contains (signed_params qs) x
there_too five own ps qs h k to_p to_q x there =
    let keeps = λ (p : Param). not (same_bytes p.name (codes "X-Amz-Signature")) in
    let signed = passed keeps ps x there in
    let is = from_filter keeps ps x there in
    let algorithm = with_value ps qs (codes "X-Amz-Algorithm") (codes "AWS4-HMAC-SHA256") h.algorithm k.algorithm x is in
    let credential = with_value ps qs (codes "X-Amz-Credential") five.credential h.credential k.credential x is in
    let date = with_value ps qs (codes "X-Amz-Date") five.date h.date k.date x is in
    let expires = with_value ps qs (codes "X-Amz-Expires") five.expires h.expires k.expires x is in
    let names = with_value ps qs (codes "X-Amz-SignedHeaders") five.names h.names k.names x is in
    let each : AllByRecursion (λ n. same_bytes x.name n ≡ true → Contains qs x) signing_names =
    (algorithm, (credential, (date, (expires, (names, ((λ e. absurd (never _ signed e)), tt)))))) in
    let found : Contains qs x =
    ⊎_elim
    (λ signing. leads x.name (Contains qs x) signing_names each signing)
    (λ other_name. beside own ps qs to_p to_q x is other_name)
    (cases_Bool (is_signing_name x.name)) in
    kept keeps qs x signed found

-- ---- the query

all_there : (five : DraftValues) (own ps qs : List Param) → HaveValues five ps → HaveValues five qs
    → IsPermutation own (others_of ps) → IsPermutation own (others_of qs)
    → (xs ys : List Param) → IsPermutation (signed_params ps) xs → IsPermutation (signed_params qs) ys
    → All (Contains ys) xs
all_there five own ps qs h k to_p to_q xs ys to_x to_y =
    All-permutation (Contains ys) (signed_params ps) xs to_x
    (λ j d within.
    let x = get_or (signed_params ps) j d in
    Contains-permutation (signed_params qs) ys x to_y
    (there_too five own ps qs h k to_p to_q x (All-contains_itself (signed_params ps) j d within)))

pub query_same : (five : DraftValues) (own ps qs : List Param) → HaveValues five ps → HaveValues five qs
    → IsPermutation own (others_of ps) → IsPermutation own (others_of qs)
    → (text other : List ℕ) → IsCanonicalQuery ps text → IsCanonicalQuery qs other → other ≡ text
query_same five own ps qs h k to_p to_q text other a b =
    let there = all_there five own ps qs h k to_p to_q a.ordered b.ordered a.rearranged b.rearranged in
    let back = all_there five own qs ps k h to_q to_p b.ordered a.ordered b.rearranged a.rearranged in
    let same = ascending_once (λ (p : Param). uri_encoded Encoded p.name) a.ordered b.ordered a.ascend b.ascend
    there back in
    b.joined ∙ ap (λ (ps : List Param). join_with_byte 38 (map param_text ps)) same ∙ sym a.joined
