-- The parameters of a written link: the signature, the five other signing parameters, and the order's own.
use Rattle.std.proofs.Common.{◌≡◌, ℕ, true, false, not, List, [], ◌∷◌, ◌++◌, length, codes, refl, sym, ap, subst, ◌∙◌, All}
use Rattle.std.specs.Prelude.{IsPermutation, IsTrue, filter}
use Rattle.std.specs.List.{list_any, AllByRecursion}
use Rattle.std.proofs.lemmas.Bool.{and_left, not_from_false}
use Rattle.std.proofs.lemmas.List.{append-nil}
use Rattle.std.proofs.lemmas.List.Elements.{All-append, All-weaker, All-from_recursion, recursion_from_All, filter-append, filter_passes}
use Rattle.std.proofs.lemmas.List.Folds.{list_any_none}
use Rattle.std.proofs.lemmas.List.Sorted.{All-permutation, IsPermutation-refl, IsPermutation-sym, IsPermutation-push_more, list_any-IsPermutation}
use Rattle.sigtext.specs.Bytes.{same_bytes, begins_with}
use Rattle.sigtext.specs.CanonicalQuery.{signed_params, IsCanonicalQuery}
use Rattle.sigtext.specs.Params.{params_named, StandOnce}
use Rattle.sigtext.specs.Target.{Param}
use Rattle.sigtext.proofs.Filtered.{IsPermutation-filter}
use Rattle.sigtext.proofs.Filters.{each_passes}
use Rattle.links.specs.Drafts.{DraftValues, param, draft_params}
use Rattle.links.specs.Orders.{IsOwnParam}
use Rattle.links.specs.WellFormed.{HasValue, AreTheSix}
use Rattle.sigtext.specs.Readable.{signing_names, is_signing_name, is_other_amz_name}
use Rattle.links.proofs.OwnParams.{Begin, names_differ, opposed, joined_once, joined_value, moved_once, moved_value}

abbrev pub sixth : List ℕ → Param
sixth sig = param (codes "X-Amz-Signature") sig

-- the six with these values, and the order's own parameters, rearranged
pub record AreWritten (five : DraftValues) (sig : List ℕ) (others params : List Param) : Type 0 where
  pub six : AreTheSix params
  pub signing : IsTrue (list_any (λ q. is_signing_name q.name) params)
  pub algorithm : HasValue params (codes "X-Amz-Algorithm") (codes "AWS4-HMAC-SHA256")
  pub credential : HasValue params (codes "X-Amz-Credential") five.credential
  pub date : HasValue params (codes "X-Amz-Date") five.date
  pub expires : HasValue params (codes "X-Amz-Expires") five.expires
  pub names : HasValue params (codes "X-Amz-SignedHeaders") five.names
  pub signature : HasValue params (codes "X-Amz-Signature") sig
  pub kept : IsPermutation others (filter (λ q. not (is_signing_name q.name)) params)

-- ---- the signing parameters alone

abbrev front : List ℕ
front = codes "X-Amz-"

abbrev five_params : DraftValues → List Param
five_params five = draft_params five []

abbrev six_params : DraftValues → List ℕ → List Param
six_params five sig = sixth sig ∷ draft_params five []

five_begin : (five : DraftValues) → Begin front true (five_params five)
five_begin five = All-from_recursion (λ p. begins_with p.name front ≡ true) (five_params five) (refl, (refl, (refl, (refl, (refl, tt)))))

six_begin : (five : DraftValues) (sig : List ℕ) → Begin front true (six_params five sig)
six_begin five sig = All-from_recursion (λ p. begins_with p.name front ≡ true) (six_params five sig) (refl, (refl, (refl, (refl, (refl, (refl, tt))))))

five_once : (five : DraftValues) → StandOnce (five_params five)
five_once five = (refl, (refl, (refl, (refl, (refl, tt)))))

six_once : (five : DraftValues) (sig : List ℕ) → StandOnce (six_params five sig)
six_once five sig = (refl, (refl, (refl, (refl, (refl, (refl, tt))))))

names_begin : All (λ n. begins_with n front ≡ true) signing_names
names_begin = All-from_recursion (λ n. begins_with n front ≡ true) signing_names (refl, (refl, (refl, (refl, (refl, (refl, tt))))))

no_other_six : (five : DraftValues) (sig : List ℕ) → All (λ p. is_other_amz_name p.name ≡ false) (six_params five sig)
no_other_six five sig = All-from_recursion (λ p. is_other_amz_name p.name ≡ false) (six_params five sig) (refl, (refl, (refl, (refl, (refl, (refl, tt))))))

six_sign : (five : DraftValues) (sig : List ℕ) → filter (λ q. not (is_signing_name q.name)) (six_params five sig) ≡ []
six_sign five sig = refl

five_signed : (five : DraftValues) → signed_params (five_params five) ≡ five_params five
five_signed five = refl

-- ---- the order's own

abbrev Own : List Param → Type 0
Own others = AllByRecursion (IsOwnParam others) others

free : (others : List Param) → Own others → Begin front false others
free others own = All-weaker (IsOwnParam others) (λ p. begins_with p.name front ≡ false) (λ p o. o.free) others (All-from_recursion (IsOwnParam others) others own)

own_once : (others : List Param) → Own others → StandOnce others
own_once others own =
    recursion_from_All (λ p. length (params_named p.name others) ≡ 1) others
    (All-weaker (IsOwnParam others) (λ p. length (params_named p.name others) ≡ 1) (λ p o. o.once) others (All-from_recursion (IsOwnParam others) others own))

-- a name without this prefix is none of the names that have it
unlike : (name : List ℕ) (ns : List (List ℕ)) → begins_with name front ≡ false → All (λ n. begins_with n front ≡ true) ns → list_any (same_bytes name) ns ≡ false
unlike name ns h begins =
    list_any_none (same_bytes name) ns
    (All-weaker (λ n. begins_with n front ≡ true) (λ n. same_bytes name n ≡ false) (λ n k. names_differ front name n (opposed _ _ true h k)) ns begins)

own_kept : (others : List Param) → Own others → filter (λ q. not (is_signing_name q.name)) others ≡ others
own_kept others own =
    each_passes (λ q. not (is_signing_name q.name)) others
    (All-weaker (λ p. begins_with p.name front ≡ false) (λ p. not (is_signing_name p.name) ≡ true) (λ p h. not_from_false _ (unlike p.name signing_names h names_begin)) others (free others own))

own_signed : (others : List Param) → Own others → signed_params others ≡ others
own_signed others own =
    each_passes (λ q. not (same_bytes q.name (codes "X-Amz-Signature"))) others
    (All-weaker (λ p. begins_with p.name front ≡ false) (λ p. not (same_bytes p.name (codes "X-Amz-Signature")) ≡ true)
    (λ p h. not_from_false _ (names_differ front p.name (codes "X-Amz-Signature") (opposed _ _ true h refl))) others (free others own))

-- ---- all of them

abbrev whole : DraftValues → List ℕ → List Param → List Param
whole five sig others = six_params five sig ++ others

no_other_all : (five : DraftValues) (sig : List ℕ) (others : List Param) → Own others → list_any (λ p. is_other_amz_name p.name) (whole five sig others) ≡ false
no_other_all five sig others own =
    list_any_none (λ p. is_other_amz_name p.name) (whole five sig others)
    (All-append (λ p. is_other_amz_name p.name ≡ false) (six_params five sig) others (no_other_six five sig)
    (All-weaker (λ p. begins_with p.name front ≡ false) (λ p. is_other_amz_name p.name ≡ false) (λ p h. and_left _ _ h) others (free others own)))

signing_all : (five : DraftValues) (sig : List ℕ) (others : List Param) → list_any (λ p. is_signing_name p.name) (whole five sig others) ≡ true
signing_all five sig others = refl

kept_all : (five : DraftValues) (sig : List ℕ) (others : List Param) → Own others → filter (λ q. not (is_signing_name q.name)) (whole five sig others) ≡ others
kept_all five sig others own =
    filter-append (λ q. not (is_signing_name q.name)) (six_params five sig) others
    ∙ ap (λ (ps : List Param). ps ++ filter (λ q. not (is_signing_name q.name)) others) (six_sign five sig)
    ∙ own_kept others own

-- a value among the six stays the only value of its name
value_all : (five : DraftValues) (sig : List ℕ) (others params : List Param) (name value : List ℕ) → Own others → IsPermutation (whole five sig others) params
    → begins_with name front ≡ true → HasValue (six_params five sig) name value → HasValue params name value
value_all five sig others params name value own moved begins has =
    moved_value (whole five sig others) params name value moved (joined_value front name value (six_params five sig) others begins (free others own) has)

-- this holds for every rearrangement of the parameters
pub written : (five : DraftValues) (sig : List ℕ) (others params : List Param) → AllByRecursion (IsOwnParam others) others → IsPermutation (sixth sig ∷ draft_params five others) params → AreWritten five sig others params
written five sig others params own moved =
    let algorithm = value_all five sig others params (codes "X-Amz-Algorithm") (codes "AWS4-HMAC-SHA256") own moved refl refl in
    let credential = value_all five sig others params (codes "X-Amz-Credential") five.credential own moved refl refl in
    let date = value_all five sig others params (codes "X-Amz-Date") five.date own moved refl refl in
    let expires = value_all five sig others params (codes "X-Amz-Expires") five.expires own moved refl refl in
    let names = value_all five sig others params (codes "X-Amz-SignedHeaders") five.names own moved refl refl in
    let signature = value_all five sig others params (codes "X-Amz-Signature") sig own moved refl refl in
    record {
      six = record {
        once = moved_once (whole five sig others) params moved (joined_once front (six_params five sig) others (six_begin five sig) (free others own) (six_once five sig) (own_once others own));
        there = (ap length algorithm, (ap length credential, (ap length date, (ap length expires, (ap length names, (ap length signature, tt))))));
        no_other = sym (list_any-IsPermutation (λ p. is_other_amz_name p.name) (whole five sig others) params moved) ∙ no_other_all five sig others own;
      };
      signing = sym (list_any-IsPermutation (λ p. is_signing_name p.name) (whole five sig others) params moved) ∙ signing_all five sig others;
      algorithm = algorithm;
      credential = credential;
      date = date;
      expires = expires;
      names = names;
      signature = signature;
      kept = subst (λ (ps : List Param). IsPermutation ps (filter (λ q. not (is_signing_name q.name)) params)) (kept_all five sig others own) (IsPermutation-filter (λ q. not (is_signing_name q.name)) (whole five sig others) params moved);
    }

-- ---- without the signature

pub draft_once : (five : DraftValues) (others : List Param) → AllByRecursion (IsOwnParam others) others → StandOnce (draft_params five others)
draft_once five others own = joined_once front (five_params five) others (five_begin five) (free others own) (five_once five) (own_once others own)

-- no parameter of a draft is the signature
draft_signed : (five : DraftValues) (others : List Param) → Own others → signed_params (five_params five ++ others) ≡ five_params five ++ others
draft_signed five others own =
    filter-append (λ q. not (same_bytes q.name (codes "X-Amz-Signature"))) (five_params five) others
    ∙ ap (λ (ps : List Param). ps ++ signed_params others) (five_signed five)
    ∙ ap (λ (ps : List Param). five_params five ++ ps) (own_signed others own)

-- the draft's parameters in the order of its query, with the signature at the end
pub final_moved : (five : DraftValues) (sig : List ℕ) (others ordered : List Param) → AllByRecursion (IsOwnParam others) others → IsPermutation (signed_params (draft_params five others)) ordered
    → IsPermutation (sixth sig ∷ draft_params five others) (ordered ++ sixth sig ∷ [])
final_moved five sig others ordered own moved =
    let draft = five_params five ++ others in
    let same = subst (λ (ps : List Param). IsPermutation ps ordered) (draft_signed five others own) moved in
    IsPermutation-sym (ordered ++ sixth sig ∷ []) (sixth sig ∷ draft)
    (IsPermutation-push_more ordered draft (sixth sig ∷ draft) (sixth sig) (IsPermutation-sym draft ordered same) (IsPermutation-refl (sixth sig ∷ draft)))

-- the signature at the end is not signed
end_unsigned : (sig : List ℕ) (ordered : List Param) → All (λ p. not (same_bytes p.name (codes "X-Amz-Signature")) ≡ true) ordered → signed_params (ordered ++ sixth sig ∷ []) ≡ ordered
end_unsigned sig ordered h =
    filter-append (λ q. not (same_bytes q.name (codes "X-Amz-Signature"))) ordered (sixth sig ∷ [])
    ∙ append-nil (signed_params ordered)
    ∙ each_passes (λ q. not (same_bytes q.name (codes "X-Amz-Signature"))) ordered h

-- so it does not change the canonical query
pub final_query : (five : DraftValues) (sig : List ℕ) (others : List Param) (query : List ℕ) → AllByRecursion (IsOwnParam others) others → (q : IsCanonicalQuery (draft_params five others) query)
    → IsCanonicalQuery (q.ordered ++ sixth sig ∷ []) query
final_query five sig others query own q =
    let signs = λ (p : Param). not (same_bytes p.name (codes "X-Amz-Signature")) ≡ true in
    let each = All-permutation signs (signed_params (draft_params five others)) q.ordered q.rearranged (filter_passes (λ p. not (same_bytes p.name (codes "X-Amz-Signature"))) (draft_params five others)) in
    record {
      ordered = q.ordered;
      rearranged = subst (λ (ps : List Param). IsPermutation ps q.ordered) (sym (end_unsigned sig q.ordered each)) (IsPermutation-refl q.ordered);
      ascend = q.ascend;
      joined = q.joined;
    }
