-- Which rule after 18 is the first that fails for a well-formed request.
use Rattle.std.proofs.Common.{◌≡◌, ℕ, ◌+◌, ◌<◌, ◌≤◌, true, List, [], ◌∷◌, Option, Some, None, Result, Ok, Err, refl, sym, ap, subst, ◌∙◌, ◌⊎◌, inl, inr, ⊎_elim, arith}
use Rattle.std.specs.Prelude.{◌≢◌, IsFalse, IsTrue, IsSome, IfSome, IsSomeAnd, MatchResult, option_map, codes}
use Rattle.std.proofs.lemmas.Bool.{cases_lt}
use Rattle.std.specs.FinMap.{get}
use Rattle.sigtext.specs.declared.refusal.Refusal.{Refusal}
use Rattle.sigtext.specs.declared.refusal.Refusal.TheVariants as rule
use Rattle.sigtext.specs.Refusals.{number_of}
use Rattle.sigtext.specs.Request.{Request}
use Rattle.sigtext.specs.Rules.{HoldBefore, AllHold, IsFirstToFail}
use Rattle.links.specs.WellFormed.{LinkValues, HeadRule, IsWellFormed}
use Rattle.links.specs.Admits.{KnownKey, IsSignedBy, LinkRule}
use Rattle.links.specs.Moments.{Now, HasBegun, IsNotOver}
use Rattle.links.proofs.Parts.{parts_before}
use Rattle.boxes.specs.declared.rows.Role.{Role}
use Rattle.boxes.specs.declared.rows.Role.TheVariants.{Clerk, Link}
use Rattle.boxes.specs.State.{Key, State}
use Rattle.boxes.specs.Limits.{IsLimited, MayUse}
use Rattle.boxes.specs.Sound.{IsSound}
use Rattle.boxes.specs.Deciding.{IsLeastToFail}
use Rattle.boxes.specs.Rules.{UploadRule, Upload, FetchRule}
use Rattle.boxes.specs.State.{Place}
use Rattle.boxes.specs.Steps.{Command, IsPossible}
use Rattle.office.specs.Admitted.{IsAdmitted, ReachesBoxes}
use Rattle.office.specs.Rules.{IsPut, IsPost, IsFetch, known, judged_at, place_of, upload_of, MaySend, FormRule, DeskRule, Asks, Rule}
use Rattle.links.proofs.Texts.{clash}

-- ---- methods

pub head_is : (x y : ℕ) (xs ys : List ℕ) → x ∷ xs ≡ y ∷ ys → x ≡ y
head_is x y xs ys e = cc

pub second_is : (x y u v : ℕ) (xs ys : List ℕ) → x ∷ u ∷ xs ≡ y ∷ v ∷ ys → u ≡ v
second_is x y u v xs ys e = cc

pub put_no_post : (r : Request) → IsPut r → IsPost r → ⊥
put_no_post r put post = let e = second_is 80 80 85 79 (84 ∷ []) (83 ∷ 84 ∷ []) (sym put ∙ post) in omega (arith, e)

pub fetch_no_put : (r : Request) → IsFetch r → IsPut r → ⊥
fetch_no_put r (inl get) put = let e = head_is 71 80 (69 ∷ 84 ∷ []) (85 ∷ 84 ∷ []) (sym get ∙ put) in omega (arith, e)
fetch_no_put r (inr head) put = let e = head_is 72 80 (69 ∷ 65 ∷ 68 ∷ []) (85 ∷ 84 ∷ []) (sym head ∙ put) in omega (arith, e)

pub fetch_no_post : (r : Request) → IsFetch r → IsPost r → ⊥
fetch_no_post r (inl get) post = let e = head_is 71 80 (69 ∷ 84 ∷ []) (79 ∷ 83 ∷ 84 ∷ []) (sym get ∙ post) in omega (arith, e)
fetch_no_post r (inr head) post = let e = head_is 72 80 (69 ∷ 65 ∷ 68 ∷ []) (79 ∷ 83 ∷ 84 ∷ []) (sym head ∙ post) in omega (arith, e)

-- ---- rules with small numbers

upload_rule : (s : State) (u : Upload) (q : Refusal) → number_of q < 27 → UploadRule q s u
upload_rule s u rule.NoSuchBox lt = absurd (omega arith)
upload_rule s u rule.NameTooLong lt = absurd (omega arith)
upload_rule s u rule.NameNotAllowed lt = absurd (omega arith)
upload_rule s u rule.BoxClosed lt = absurd (omega arith)
upload_rule s u rule.OtherBytesKept lt = absurd (omega arith)
upload_rule s u rule.TooManyFiles lt = absurd (omega arith)
upload_rule s u rule.QuotaPassed lt = absurd (omega arith)
upload_rule s u _ lt = (tt, inr (any _))
  where
    any : {X : Type 0} (o : Option X) → IfSome o (λ x. Unit {0})
    any None = tt
    any (Some x) = tt

fetch_rule : (s : State) (place : Place) (q : Refusal) → number_of q < 27 → FetchRule q s place
fetch_rule s place rule.NoSuchBox lt = absurd (omega arith)
fetch_rule s place rule.NameTooLong lt = absurd (omega arith)
fetch_rule s place rule.NameNotAllowed lt = absurd (omega arith)
fetch_rule s place rule.NoSuchFile lt = absurd (omega arith)
fetch_rule s place _ lt = tt

desk_rule : (s : State) (p : LinkValues) (q : Refusal) → number_of q < 35 → DeskRule q s p
desk_rule s p rule.CommandMalformed lt = absurd (omega arith)
desk_rule s p rule.CommandNotPossible lt = absurd (omega arith)
desk_rule s p _ lt = tt

-- ---- the rules before a number

-- the rules of the link before this number
pub link_before : (key : Option KnownKey) (r : Request) (now : Now) (p : LinkValues) (n : ℕ) → (19 < n → IsSome key) → (20 < n → IfSome key (λ k. IsFalse k.revoked)) → (21 < n → IfSome key (λ k. IsSignedBy k.secret r p))
    → (22 < n → HasBegun now p.start) → (23 < n → IsNotOver now p.start p.expires) → (q : Refusal) → number_of q < n → LinkRule q key r now p
link_before key r now p n there unrevoked signed begun over rule.KeyUnknown lt = there lt
link_before key r now p n there unrevoked signed begun over rule.KeyRevoked lt = unrevoked lt
link_before key r now p n there unrevoked signed begun over rule.SignatureMismatch lt = signed lt
link_before key r now p n there unrevoked signed begun over rule.NotYetValid lt = begun lt
link_before key r now p n there unrevoked signed begun over rule.Expired lt = over lt
link_before key r now p n there unrevoked signed begun over _ lt = tt

form_rule : (s : State) (r : Request) (p : LinkValues) (q : Refusal) → number_of q < 24 → FormRule q s r p
form_rule s r p rule.RoleNotAllowed lt = absurd (omega arith)
form_rule s r p rule.LengthMissing lt = absurd (omega arith)
form_rule s r p rule.BodyNotTaken lt = absurd (omega arith)
form_rule s r p _ lt = tt

-- up to 27 no rule of boxes or of the desk applies
rules_before : (s : State) (r : Request) (now : ℕ) (p : LinkValues) (n : Refusal) → number_of n ≤ 27 → ((q : Refusal) → number_of q < number_of n → HeadRule q r p)
    → ((q : Refusal) → number_of q < number_of n → LinkRule q (known s p.key_id) r (judged_at s now) p) → ((q : Refusal) → number_of q < number_of n → FormRule q s r p) → HoldBefore (Rule s r now) n p
rules_before s r now p n most formed link form q lt = record {
  head = formed q lt;
  link = link q lt;
  form = form q lt;
  put = λ put. upload_rule s (upload_of r now p) q (omega arith);
  fetch = λ fetch. fetch_rule s (place_of p.path) q (omega arith);
  post = λ post. desk_rule s p q (omega arith);
}

-- the same up to 24, before the rules of the form
pub link_rules : (s : State) (r : Request) (now : ℕ) (p : LinkValues) (n : Refusal) → number_of n ≤ 24 → IsWellFormed r p
    → ((q : Refusal) → number_of q < number_of n → LinkRule q (known s p.key_id) r (judged_at s now) p) → HoldBefore (Rule s r now) n p
link_rules s r now p n most formed link =
    rules_before s r now p n (omega arith) (λ q lt. formed q) link (λ q lt. form_rule s r p q (omega arith))

-- ---- the rules 7 to 18

head_number : (r : Request) (q : Refusal) → IsFirstToFail (λ x p. HeadRule x r p) q → number_of q ≤ 18
head_number r rule.Method f = omega arith
head_number r rule.Target f = omega arith
head_number r rule.NotSigned f = omega arith
head_number r rule.Parameters f = omega arith
head_number r rule.Algorithm f = omega arith
head_number r rule.Credential f = omega arith
head_number r rule.Date f = omega arith
head_number r rule.Expiry f = omega arith
head_number r rule.SignedHeaders f = omega arith
head_number r rule.SignatureText f = omega arith
head_number r rule.SignedValues f = omega arith
head_number r rule.HeaderNotSigned f = omega arith
head_number r _ f = absurd (f.fails f.parts f.before tt)

pub head_first : (s : State) (r : Request) (now : ℕ) (q : Refusal) → IsFirstToFail (λ x p. HeadRule x r p) q → IsFirstToFail (Rule s r now) q
head_first s r now q f =
    let most = head_number r q f in
    record {
      parts = f.parts;
      before = rules_before s r now f.parts q (omega arith) f.before
          (link_before (known s f.parts.key_id) r (judged_at s now) f.parts (number_of q) (λ lt. absurd (omega arith)) (λ lt. absurd (omega arith)) (λ lt. absurd (omega arith)) (λ lt. absurd (omega arith)) (λ lt. absurd (omega arith)))
          (λ x lt. form_rule s r f.parts x (omega arith));
      fails = λ other hold bad. f.fails other (λ x lt. (hold x lt).head) bad.head;
    }

-- parts that obey the rules before those on keys are the parts of the request
pub same_parts : (s : State) (r : Request) (now : ℕ) (p other : LinkValues) (n : Refusal) → 19 ≤ number_of n → IsWellFormed r p → HoldBefore (Rule s r now) n other → other ≡ p
same_parts s r now p other n least formed hold = parts_before r p other formed (λ q lt. (hold q (omega arith)).head)

-- ---- the key

pub none_some : {A : Type 0} (o : Option A) → o ≡ None → IsSome o → ⊥
none_some None e h = cc
none_some (Some x) e h = absurd cc

pub known_none : (s : State) (id : List ℕ) → get s.keys id ≡ None → known s id ≡ None
known_none s id e = ap (λ (o : Option Key). option_map (λ k. record { secret = k.secret; revoked = k.revoked }) o) e

known_some : (s : State) (id : List ℕ) (k : Key) → get s.keys id ≡ Some k → known s id ≡ Some (record { secret = k.secret; revoked = k.revoked })
known_some s id k e = ap (λ (o : Option Key). option_map (λ k. record { secret = k.secret; revoked = k.revoked }) o) e

pub key_unknown : (s : State) (r : Request) (now : ℕ) (p : LinkValues) → IsWellFormed r p → get s.keys p.key_id ≡ None → IsFirstToFail (Rule s r now) rule.KeyUnknown
key_unknown s r now p formed none = record {
  parts = p;
  before = link_rules s r now p rule.KeyUnknown (omega arith) formed
      (link_before (known s p.key_id) r (judged_at s now) p 19 (λ lt. absurd (omega arith)) (λ lt. absurd (omega arith)) (λ lt. absurd (omega arith)) (λ lt. absurd (omega arith)) (λ lt. absurd (omega arith)));
  fails = λ other hold bad.
      let same = same_parts s r now p other rule.KeyUnknown (omega arith) formed hold in
      none_some (known s p.key_id) (known_none s p.key_id none) (subst (λ (q : LinkValues). IsSome (known s q.key_id)) same bad.link);
}

-- the key exists: what a rule says of it
at_key : (s : State) (p : LinkValues) (k : Key) (P : KnownKey → Type 0) → get s.keys p.key_id ≡ Some k → P (record { secret = k.secret; revoked = k.revoked }) → IfSome (known s p.key_id) P
at_key s p k P there h = subst (λ (o : Option KnownKey). IfSome o P) (sym (known_some s p.key_id k there)) h

of_key : (s : State) (p : LinkValues) (k : Key) (P : KnownKey → Type 0) → get s.keys p.key_id ≡ Some k → IfSome (known s p.key_id) P → P (record { secret = k.secret; revoked = k.revoked })
of_key s p k P there h = subst (λ (o : Option KnownKey). IfSome o P) (known_some s p.key_id k there) h

some_key : (s : State) (p : LinkValues) (k : Key) → get s.keys p.key_id ≡ Some k → IsSome (known s p.key_id)
some_key s p k there = subst (λ (o : Option KnownKey). IsSome o) (sym (known_some s p.key_id k there)) refl

pub key_revoked : (s : State) (r : Request) (now : ℕ) (p : LinkValues) (k : Key) → IsWellFormed r p → get s.keys p.key_id ≡ Some k → k.revoked ≡ true → IsFirstToFail (Rule s r now) rule.KeyRevoked
key_revoked s r now p k formed there revoked = record {
  parts = p;
  before = link_rules s r now p rule.KeyRevoked (omega arith) formed
      (link_before (known s p.key_id) r (judged_at s now) p 20 (λ lt. some_key s p k there) (λ lt. absurd (omega arith)) (λ lt. absurd (omega arith)) (λ lt. absurd (omega arith)) (λ lt. absurd (omega arith)));
  fails = λ other hold bad.
      let same = same_parts s r now p other rule.KeyRevoked (omega arith) formed hold in
      let unrevoked = of_key s p k (λ x. IsFalse x.revoked) there (subst (λ (q : LinkValues). IfSome (known s q.key_id) (λ x. IsFalse x.revoked)) same bad.link) in
      clash k.revoked unrevoked revoked;
}

-- a key that exists and is not revoked
pub record HasKey (s : State) (p : LinkValues) (k : Key) : Type 0 where
  pub there : get s.keys p.key_id ≡ Some k
  pub unrevoked : IsFalse k.revoked

pub signature_mismatch : (s : State) (r : Request) (now : ℕ) (p : LinkValues) (k : Key) → IsWellFormed r p → HasKey s p k
    → (IsSignedBy k.secret r p → ⊥) → IsFirstToFail (Rule s r now) rule.SignatureMismatch
signature_mismatch s r now p k formed key mismatch = record {
  parts = p;
  before = link_rules s r now p rule.SignatureMismatch (omega arith) formed
      (link_before (known s p.key_id) r (judged_at s now) p 21 (λ lt. some_key s p k key.there) (λ lt. at_key s p k (λ x. IsFalse x.revoked) key.there key.unrevoked) (λ lt. absurd (omega arith)) (λ lt. absurd (omega arith)) (λ lt. absurd (omega arith)));
  fails = λ other hold bad.
      let same = same_parts s r now p other rule.SignatureMismatch (omega arith) formed hold in
      mismatch (of_key s p k (λ x. IsSignedBy x.secret r p) key.there (subst (λ (q : LinkValues). IfSome (known s q.key_id) (λ x. IsSignedBy x.secret r q)) same bad.link));
}

pub not_yet_valid : (s : State) (r : Request) (now : ℕ) (p : LinkValues) (k : Key) → IsWellFormed r p → HasKey s p k
    → IsSignedBy k.secret r p → now + s.allowance < p.start → IsFirstToFail (Rule s r now) rule.NotYetValid
not_yet_valid s r now p k formed key signed early = record {
  parts = p;
  before = link_rules s r now p rule.NotYetValid (omega arith) formed
      (link_before (known s p.key_id) r (judged_at s now) p 22 (λ lt. some_key s p k key.there) (λ lt. at_key s p k (λ x. IsFalse x.revoked) key.there key.unrevoked) (λ lt. at_key s p k (λ x. IsSignedBy x.secret r p) key.there signed) (λ lt. absurd (omega arith)) (λ lt. absurd (omega arith)));
  fails = λ other hold bad.
      let same = same_parts s r now p other rule.NotYetValid (omega arith) formed hold in
      let begun : HasBegun (judged_at s now) p.start = subst (λ (q : LinkValues). HasBegun (judged_at s now) q.start) same bad.link in
      omega arith;
}

pub expired : (s : State) (r : Request) (now : ℕ) (p : LinkValues) (k : Key) → IsWellFormed r p → HasKey s p k
    → IsSignedBy k.secret r p → HasBegun (judged_at s now) p.start → p.start + p.expires ≤ now → IsFirstToFail (Rule s r now) rule.Expired
expired s r now p k formed key signed begun late = record {
  parts = p;
  before = link_rules s r now p rule.Expired (omega arith) formed
      (link_before (known s p.key_id) r (judged_at s now) p 23 (λ lt. some_key s p k key.there) (λ lt. at_key s p k (λ x. IsFalse x.revoked) key.there key.unrevoked) (λ lt. at_key s p k (λ x. IsSignedBy x.secret r p) key.there signed) (λ lt. begun) (λ lt. absurd (omega arith)));
  fails = λ other hold bad.
      let same = same_parts s r now p other rule.Expired (omega arith) formed hold in
      let not_over : IsNotOver (judged_at s now) p.start p.expires = subst (λ (q : LinkValues). IsNotOver (judged_at s now) q.start q.expires) same bad.link in
      omega arith;
}

-- ---- past the link

link_holds : (s : State) (r : Request) (now : ℕ) (p : LinkValues) (k : Key) → IsAdmitted s r now p k → (q : Refusal) → LinkRule q (known s p.key_id) r (judged_at s now) p
link_holds s r now p k a q =
    link_before (known s p.key_id) r (judged_at s now) p (number_of q + 1) (λ lt. some_key s p k a.there) (λ lt. at_key s p k (λ x. IsFalse x.revoked) a.there a.unrevoked)
    (λ lt. at_key s p k (λ x. IsSignedBy x.secret r p) a.there a.signed) (λ lt. a.begun) (λ lt. a.not_over) q (omega arith)

-- the role of the key that exists
its_role : (o : Option Key) (k : Key) (P : Role → Type 0) → o ≡ Some k → IfSome o (λ x. P x.role) → P k.role
its_role None k P e h = absurd cc
its_role (Some x) k P e h = let is : x ≡ k = cc in subst (λ (y : Key). P y.role) is h

some_role : (o : Option Key) (k : Key) (P : Role → Type 0) → o ≡ Some k → P k.role → IfSome o (λ x. P x.role)
some_role None k P e h = absurd cc
some_role (Some x) k P e h = let is : k ≡ x = cc in subst (λ (y : Key). P y.role) is h

-- the role of a limited key
limited_role : (o : Option Key) (k : Key) → o ≡ Some k → IsSomeAnd o (λ x. x.role ≡ Link) → k.role ≡ Link
limited_role None k e h = absurd h
limited_role (Some x) k e h = let is : x ≡ k = cc in ap (λ (y : Key). y.role) (sym is) ∙ h

clerk_no_link : Clerk ≡ Link → ⊥
clerk_no_link e = cc

-- a clerk's key is never limited
pub clerk_unlimited : (s : State) (id : List ℕ) (k : Key) → IsSound s → get s.keys id ≡ Some k → k.role ≡ Clerk → IsLimited s id → ⊥
clerk_unlimited s id k sound there clerk limited =
    clerk_no_link (sym clerk ∙ limited_role (get s.keys id) k there (sound.limits id limited.0 limited.1).link)

module _ (s : State) (r : Request) (now : ℕ) (p : LinkValues) (k : Key) (a : IsAdmitted s r now p k) where
  pub role_not_allowed : (MaySend s r p → ⊥) → IsFirstToFail (Rule s r now) rule.RoleNotAllowed
  role_not_allowed barred = record {
    parts = p;
    before = link_rules s r now p rule.RoleNotAllowed (omega arith) a.well_formed (λ q lt. link_holds s r now p k a q);
    fails = λ o hold bad.
        let same = same_parts s r now p o rule.RoleNotAllowed (omega arith) a.well_formed hold in
        barred (subst (λ (q : LinkValues). MaySend s r q) same bad.form);
  }

  -- a clerk may send anything
  pub clerk_may : IsSound s → k.role ≡ Clerk → MaySend s r p
  clerk_may sound clerk = record {
    desk = λ post. some_role (get s.keys p.key_id) k (λ x. x ≡ Clerk) a.there clerk;
    boxes = λ uses limited. absurd (clerk_unlimited s p.key_id k sound a.there clerk limited);
  }

  -- anything but a POST may be sent if the key may use the box
  pub box_used : (IsPost r → ⊥) → MayUse s p.key_id (place_of p.path).box → MaySend s r p
  box_used no_post may = record { desk = λ post. absurd (no_post post); boxes = λ uses. may }

  pub box_barred : IsPut r ⊎ IsFetch r → (MayUse s p.key_id (place_of p.path).box → ⊥) → MaySend s r p → ⊥
  box_barred uses barred may = barred (may.boxes uses)

  pub no_clerk_posts : IsPost r → (k.role ≡ Clerk → ⊥) → MaySend s r p → ⊥
  no_clerk_posts post other may = other (its_role (get s.keys p.key_id) k (λ x. x ≡ Clerk) a.there (may.desk post))

  -- the rules of the form before 25
  early_form : MaySend s r p → (q : Refusal) → number_of q < 25 → FormRule q s r p
  early_form may rule.RoleNotAllowed lt = may
  early_form may rule.LengthMissing lt = absurd (omega arith)
  early_form may rule.BodyNotTaken lt = absurd (omega arith)
  early_form may _ lt = tt

  -- the rules of the form before 26
  late_form : MaySend s r p → (IsPut r → ⊥) → (q : Refusal) → number_of q < 26 → FormRule q s r p
  late_form may no_put rule.RoleNotAllowed lt = may
  late_form may no_put rule.LengthMissing lt = λ put. absurd (no_put put)
  late_form may no_put rule.BodyNotTaken lt = absurd (omega arith)
  late_form may no_put _ lt = tt

  pub length_missing : MaySend s r p → IsPut r → IsFalse r.has_length → IsFirstToFail (Rule s r now) rule.LengthMissing
  length_missing may put none = record {
    parts = p;
    before = rules_before s r now p rule.LengthMissing (omega arith) (λ q lt. a.well_formed q) (λ q lt. link_holds s r now p k a q) (early_form may);
    fails = λ o hold bad. clash r.has_length none (bad.form put);
  }

  pub body_not_taken : MaySend s r p → (IsPut r → ⊥) → (r.body ≡ [] → ⊥) → IsFirstToFail (Rule s r now) rule.BodyNotTaken
  body_not_taken may no_put full = record {
    parts = p;
    before = rules_before s r now p rule.BodyNotTaken (omega arith) (λ q lt. a.well_formed q) (λ q lt. link_holds s r now p k a q) (late_form may no_put);
    fails = λ o hold bad. full (bad.form no_put);
  }

  -- the rules of the form follow from what they ask for
  pub form_holds : MaySend s r p → (IsPut r → IsTrue r.has_length) → (r.method ≢ codes "PUT" → r.body ≡ []) → (q : Refusal) → FormRule q s r p
  form_holds may given bare rule.RoleNotAllowed = may
  form_holds may given bare rule.LengthMissing = given
  form_holds may given bare rule.BodyNotTaken = bare
  form_holds may given bare _ = tt

  pub reaches_boxes : ((q : Refusal) → FormRule q s r p) → ReachesBoxes s r now p
  reaches_boxes form = record { head = a.well_formed; link = link_holds s r now p k a; form = form }

  -- the result of checking the form
  pub all_checked : {T : Type 0} (result : Result T Refusal) → MatchResult result (λ done. (q : Refusal) → FormRule q s r p) (λ q. IsFirstToFail (Rule s r now) q)
      → MatchResult result (λ done. ReachesBoxes s r now p) (λ q. (q ≢ rule.TryAgain) → IsFirstToFail (Rule s r now) q)
  all_checked (Ok done) form = reaches_boxes form
  all_checked (Err q) first = λ other. first

-- ---- the rules of boxes and of the desk

module _ (s : State) (r : Request) (now : ℕ) (p : LinkValues) (reached : ReachesBoxes s r now p) where
  pub holds_put : IsPut r → ((q : Refusal) → UploadRule q s (upload_of r now p)) → AllHold (Rule s r now) p
  holds_put put rules q = record {
    head = reached.head q;
    link = reached.link q;
    form = reached.form q;
    put = λ _. rules q;
    fetch = λ fetch. absurd (fetch_no_put r fetch put);
    post = λ post. absurd (put_no_post r put post);
  }

  pub holds_fetch : IsFetch r → ((q : Refusal) → FetchRule q s (place_of p.path)) → AllHold (Rule s r now) p
  holds_fetch fetch rules q = record {
    head = reached.head q;
    link = reached.link q;
    form = reached.form q;
    put = λ put. absurd (fetch_no_put r fetch put);
    fetch = λ _. rules q;
    post = λ post. absurd (fetch_no_post r fetch post);
  }

  pub first_put : (q : Refusal) → IsPut r → IsLeastToFail (λ x. UploadRule x s (upload_of r now p)) q → IsFirstToFail (Rule s r now) q
  first_put q put least = record {
    parts = p;
    before = λ x lt. record {
      head = reached.head x;
      link = reached.link x;
      form = reached.form x;
      put = λ _. least.before x lt;
      fetch = λ fetch. absurd (fetch_no_put r fetch put);
      post = λ post. absurd (put_no_post r put post);
    };
    fails = λ o hold bad.
        ⊎_elim (λ (small : number_of q < 27). least.fails (upload_rule s (upload_of r now p) q small))
        (λ (large : 27 ≤ number_of q).
        let same = same_parts s r now p o q (omega arith) reached.head hold in
        least.fails (subst (λ (x : LinkValues). UploadRule q s (upload_of r now x)) same (bad.put put)))
        (cases_lt (number_of q) 27);
  }

  pub first_fetch : (q : Refusal) → IsFetch r → IsLeastToFail (λ x. FetchRule x s (place_of p.path)) q → IsFirstToFail (Rule s r now) q
  first_fetch q fetch least = record {
    parts = p;
    before = λ x lt. record {
      head = reached.head x;
      link = reached.link x;
      form = reached.form x;
      put = λ put. absurd (fetch_no_put r fetch put);
      fetch = λ _. least.before x lt;
      post = λ post. absurd (fetch_no_post r fetch post);
    };
    fails = λ o hold bad.
        ⊎_elim (λ (small : number_of q < 27). least.fails (fetch_rule s (place_of p.path) q small))
        (λ (large : 27 ≤ number_of q).
        let same = same_parts s r now p o q (omega arith) reached.head hold in
        least.fails (subst (λ (x : LinkValues). FetchRule q s (place_of x.path)) same (bad.fetch fetch)))
        (cases_lt (number_of q) 27);
  }

  -- ---- the desk

  -- the rules of the desk before this one
  desk_before : (n : ℕ) → ((q : Refusal) → number_of q < n → DeskRule q s p) → IsPost r → (x : Refusal) → number_of x < n → Rule s r now x p
  desk_before n rules post x lt = record {
    head = reached.head x;
    link = reached.link x;
    form = reached.form x;
    put = λ put. absurd (put_no_post r put post);
    fetch = λ fetch. absurd (fetch_no_post r fetch post);
    post = λ _. rules x lt;
  }

  -- no command is asked for
  pub no_command : IsPost r → ((command : Command) → Asks p command → ⊥) → IsFirstToFail (Rule s r now) rule.CommandMalformed
  no_command post none = record {
    parts = p;
    before = desk_before 35 (desk_rule s p) post;
    fails = λ o hold bad.
        let same = same_parts s r now p o rule.CommandMalformed (omega arith) reached.head hold in
        let asked = bad.post post in
        none asked.0 (subst (λ (x : LinkValues). Asks x asked.0) same asked.1);
  }

  is_asked : (command : Command) → Asks p command → (q : Refusal) → number_of q < 36 → DeskRule q s p
  is_asked command asks rule.CommandMalformed lt = (command, asks)
  is_asked command asks rule.CommandNotPossible lt = absurd (omega arith)
  is_asked command asks _ lt = tt

  -- a command is asked for, and no command that is asked for is possible
  pub no_possible : IsPost r → (command : Command) → Asks p command → ((other : Command) → Asks p other → IsPossible s other → ⊥)
      → IsFirstToFail (Rule s r now) rule.CommandNotPossible
  no_possible post command asks none = record {
    parts = p;
    before = desk_before 36 (is_asked command asks) post;
    fails = λ o hold bad.
        let same = same_parts s r now p o rule.CommandNotPossible (omega arith) reached.head hold in
        let asked = bad.post post in
        none asked.0 (subst (λ (x : LinkValues). Asks x asked.0) same asked.1) asked.2;
  }

  is_possible : (command : Command) → Asks p command → IsPossible s command → (q : Refusal) → DeskRule q s p
  is_possible command asks possible rule.CommandMalformed = (command, asks)
  is_possible command asks possible rule.CommandNotPossible = (command, asks, possible)
  is_possible command asks possible _ = tt

  -- a possible command is asked for
  pub holds_post : IsPost r → (command : Command) → Asks p command → IsPossible s command → AllHold (Rule s r now) p
  holds_post post command asks possible q = record {
    head = reached.head q;
    link = reached.link q;
    form = reached.form q;
    put = λ put. absurd (put_no_post r put post);
    fetch = λ fetch. absurd (fetch_no_post r fetch post);
    post = λ _. is_possible command asks possible q;
  }
