-- Requests that are alike obey the same rules and get the same answer.
use Rattle.std.proofs.Common.{◌≡◌, ℕ, ◌≤◌, Bool, true, List, [], ◌∷◌, Option, Some, None, refl, sym, ap, subst, ◌∙◌, ◌⊎◌, inl, inr, ⊎_elim, arith}
use Rattle.std.specs.Prelude.{IsFalse, IsTrue, IsSome, IfSome, filter, not, codes}
use Rattle.std.proofs.lemmas.Bool.{cases_lt, cases_Bool, cond-true, cond-false}
use Rattle.std.proofs.lemmas.List.Sorted.{IsPermutation-sym}
use Rattle.std.proofs.lemmas.Slice.Eq.{bytes_eq-Decides}
use Rattle.std.specs.FinMap.{get}
use Rattle.sigtext.specs.declared.refusal.Refusal.{Refusal}
use Rattle.sigtext.specs.declared.refusal.Refusal.TheVariants as rule
use Rattle.sigtext.specs.Refusals.{number_of}
use Rattle.sigtext.specs.Bytes.{same_bytes}
use Rattle.sigtext.specs.Target.{Param}
use Rattle.sigtext.specs.Params.{params_named}
use Rattle.sigtext.specs.CanonicalQuery.{signed_params}
use Rattle.sigtext.specs.Request.{Request}
use Rattle.sigtext.specs.Rules.{HoldBefore, AllHold, IsFirstToFail}
use Rattle.sigtext.proofs.Filters.{moved_one}
use Rattle.sigtext.proofs.Uniqueness.{canonical_once}
use Rattle.sigv4.specs.Signature.{CredentialScope, signature_of}
use Rattle.links.specs.WellFormed.{LinkValues, HeadRule, IsWellFormed, HasValue}
use Rattle.links.specs.Admits.{KnownKey, IsSignedBy, LinkRule, signed_of}
use Rattle.links.specs.Alike.{SameText, SaysTheSame}
use Rattle.links.proofs.Alike.{says_the_same}
use Rattle.links.proofs.Parts.{parts_before}
use Rattle.office.proofs.Deciding.{link_before, link_rules, same_parts}
use Rattle.office.proofs.Once.{replies_once}
use Rattle.links.specs.Moments.{HasBegun, IsNotOver}
use Rattle.boxes.specs.declared.rows.Role.TheVariants.{Clerk}
use Rattle.boxes.specs.State.{State}
use Rattle.boxes.specs.Limits.{MayUse}
use Rattle.boxes.specs.Rules.{Upload, UploadRule, FetchRule}
use Rattle.boxes.specs.State.{Place}
use Rattle.boxes.specs.Steps.{Command, UploadStep, FetchStep}
use Rattle.boxes.specs.Steps as step
use Rattle.wire.specs.Answers.{Said, answer_text}
use Rattle.wire.specs.declared.answer.Answer.{Answer}
use Rattle.office.specs.Alike.{AreAlike}
use Rattle.office.specs.Answering.{AcceptsRequest, Replies, AnswersRequest, is_head, put, fetch, post, refuses, accepts}
use Rattle.office.specs.Offices.{IsAnswered, IsTheAnswer}
use Rattle.office.specs.Rules.{IsPut, IsFetch, known, judged_at, place_of, upload_of, FormRule, DeskRule, Asks, Rule}

-- ---- the parameters other than the signature

-- everything that passes the first test passes the second, so the second may be applied first
twice : {X : Type 0} (t u : X → Bool) → ((x : X) → t x ≡ true → u x ≡ true) → (xs : List X) → filter t (filter u xs) ≡ filter t xs
twice t u h [] = refl
twice {X} t u h (x ∷ xs) =
    ⊎_elim
    (λ yes. ap (filter t) (cond-true _ _ _ (h x yes)) ∙ cond-true _ _ _ yes ∙ ap (λ (ys : List X). x ∷ ys) (twice t u h xs) ∙ sym (cond-true _ _ _ yes))
    (λ no. ⊎_elim
    (λ kept. ap (filter t) (cond-true _ _ _ kept) ∙ cond-false _ _ _ no ∙ twice t u h xs ∙ sym (cond-false _ _ _ no))
    (λ dropped. ap (filter t) (cond-false _ _ _ dropped) ∙ twice t u h xs ∙ sym (cond-false _ _ _ no))
    (cases_Bool (u x)))
    (cases_Bool (t x))

abbrev is_desk : Param → Bool
is_desk p = same_bytes p.name (codes "desk")

abbrev is_covered : Param → Bool
is_covered p = not (same_bytes p.name (codes "X-Amz-Signature"))

desk_covered : (p : Param) → is_desk p ≡ true → is_covered p ≡ true
desk_covered p e = subst (λ (name : List ℕ). not (same_bytes name (codes "X-Amz-Signature")) ≡ true) (sym ((bytes_eq-Decides p.name (codes "desk")).0 e)) refl

-- the parameter `desk` is among the signed ones
desk_signed : (params : List Param) → params_named (codes "desk") (signed_params params) ≡ params_named (codes "desk") params
desk_signed params = twice is_desk is_covered desk_covered params

-- ---- rules

-- what two requests with these parts have in common
record IsTheSame (r s : Request) (p q : LinkValues) : Type 0 where
  says : SaysTheSame r s p q
  text : SameText r s p q
  signature : p.signature ≡ q.signature
  body : r.body ≡ s.body
  length : IsPut r → r.has_length ≡ s.has_length

turned : (r s : Request) (p q : LinkValues) → IsTheSame r s p q → IsTheSame s r q p
turned r s p q h = record {
  says = record {
    method = sym h.says.method;
    path = sym h.says.path;
    params = IsPermutation-sym (signed_params p.params) (signed_params q.params) h.says.params;
    key_id = sym h.says.key_id;
    scope = sym h.says.scope;
    date = sym h.says.date;
    start = sym h.says.start;
    expires = sym h.says.expires;
    signed = sym h.says.signed;
  };
  text = record { text = h.text.text; one = h.text.other; other = h.text.one };
  signature = sym h.signature;
  body = sym h.body;
  length = λ put. sym (h.length (h.says.method ∙ put));
}

module _ (st : State) (r s : Request) (now : ℕ) (p q : LinkValues) (h : IsTheSame r s p q) where
  desk_value : (text : List ℕ) → HasValue p.params (codes "desk") text → HasValue q.params (codes "desk") text
  desk_value text has =
      sym (desk_signed q.params)
      ∙ moved_one is_desk (signed_params q.params) (signed_params p.params) (record { name = codes "desk"; value = text })
      (IsPermutation-sym (signed_params p.params) (signed_params q.params) h.says.params) (desk_signed p.params ∙ has)

  signed_too : (secret : List ℕ) → IsSignedBy secret r p → IsSignedBy secret s q
  signed_too secret by =
      let one = canonical_once (signed_of r p) by.text h.text.text by.is_canonical h.text.one in
      record {
        text = h.text.text;
        is_canonical = h.text.other;
        same = sym h.signature ∙ by.same ∙ ap (λ (t : List ℕ). signature_of secret p.date p.scope t) (sym one)
            ∙ ap (λ (d : List ℕ). signature_of secret d p.scope h.text.text) h.says.date
            ∙ ap (λ (c : CredentialScope). signature_of secret q.date c h.text.text) h.says.scope;
      }

  some_too : (key : Option KnownKey) → IfSome key (λ k. IsSignedBy k.secret r p) → IfSome key (λ k. IsSignedBy k.secret s q)
  some_too None by = tt
  some_too (Some k) by = signed_too k.secret by

  -- a rule of the link that depends on its key id
  at_key : (P : Option KnownKey → Type 0) → P (known st p.key_id) → P (known st q.key_id)
  at_key P has = subst (λ (id : List ℕ). P (known st id)) h.says.key_id has

  link_too : (x : Refusal) → LinkRule x (known st p.key_id) r (judged_at st now) p → LinkRule x (known st q.key_id) s (judged_at st now) q
  link_too rule.KeyUnknown has = at_key (λ key. IsSome key) has
  link_too rule.KeyRevoked has = at_key (λ key. IfSome key (λ k. IsFalse k.revoked)) has
  link_too rule.SignatureMismatch has = at_key (λ key. IfSome key (λ k. IsSignedBy k.secret s q)) (some_too (known st p.key_id) has)
  link_too rule.NotYetValid has = subst (λ (start : ℕ). HasBegun (judged_at st now) start) h.says.start has
  link_too rule.Expired has =
      subst (λ (start : ℕ). IsNotOver (judged_at st now) start q.expires) h.says.start
      (subst (λ (expires : ℕ). IsNotOver (judged_at st now) p.start expires) h.says.expires has)
  link_too _ has = tt

  fetch_was : IsFetch s → IsFetch r
  fetch_was (inl get) = inl (h.says.method ∙ get)
  fetch_was (inr head) = inr (h.says.method ∙ head)

  uses_was : IsPut s ⊎ IsFetch s → IsPut r ⊎ IsFetch r
  uses_was (inl is_put) = inl (h.says.method ∙ is_put)
  uses_was (inr is_fetch) = inr (fetch_was is_fetch)

  form_too : (x : Refusal) → FormRule x st r p → FormRule x st s q
  form_too rule.RoleNotAllowed has = record {
    desk = λ is_post. subst (λ (id : List ℕ). IfSome (get st.keys id) (λ k. k.role ≡ Clerk)) h.says.key_id (has.desk (h.says.method ∙ is_post));
    boxes = λ uses.
        subst (λ (id : List ℕ). MayUse st id (place_of q.path).box) h.says.key_id
        (subst (λ (path : List ℕ). MayUse st p.key_id (place_of path).box) h.says.path (has.boxes (uses_was uses)));
  }
  form_too rule.LengthMissing has = λ is_put. let was = h.says.method ∙ is_put in subst (λ (b : Bool). IsTrue b) (h.length was) (has was)
  form_too rule.BodyNotTaken has = λ other. sym h.body ∙ has (λ is_put. other (sym h.says.method ∙ is_put))
  form_too _ has = tt

  upload_same : upload_of r now p ≡ upload_of s now q
  upload_same = rw (h.says.path, h.body, h.says.key_id) refl

  place_same : place_of p.path ≡ place_of q.path
  place_same = ap place_of h.says.path

  asks_too : (command : Command) → Asks p command → Asks q command
  asks_too command asked = record {
    at_desk = sym h.says.path ∙ asked.at_desk;
    text = asked.text;
    given = desk_value asked.text asked.given;
    is_command = asked.is_command;
    form = asked.form;
  }

  desk_too : (x : Refusal) → DeskRule x st p → DeskRule x st q
  desk_too rule.CommandMalformed (command, asked) = (command, asks_too command asked)
  desk_too rule.CommandNotPossible (command, asked, possible) = (command, asks_too command asked, possible)
  desk_too _ has = tt

  fetch_too : IsFetch r → IsFetch s
  fetch_too (inl get) = inl (sym h.says.method ∙ get)
  fetch_too (inr head) = inr (sym h.says.method ∙ head)

  rule_too : (x : Refusal) → HeadRule x s q → Rule st r now x p → Rule st s now x q
  rule_too x head has = record {
    head = head;
    link = link_too x has.link;
    form = form_too x has.form;
    put = λ is_put. subst (λ (u : Upload). UploadRule x st u) upload_same (has.put (h.says.method ∙ is_put));
    fetch = λ is_fetch. subst (λ place. FetchRule x st place) place_same (has.fetch (fetch_was is_fetch));
    post = λ is_post. desk_too x (has.post (h.says.method ∙ is_post));
  }

-- ---- answers

-- the rules before those on keys hold for the parts of a well-formed request
up_to_key : (st : State) (r : Request) (now : ℕ) (p : LinkValues) → IsWellFormed r p → HoldBefore (Rule st r now) rule.KeyUnknown p
up_to_key st r now p formed =
    link_rules st r now p rule.KeyUnknown (omega arith) formed
    (link_before (known st p.key_id) r (judged_at st now) p 19 (λ lt. absurd (omega (arith, lt))) (λ lt. absurd (omega (arith, lt))) (λ lt. absurd (omega (arith, lt))) (λ lt. absurd (omega (arith, lt))) (λ lt. absurd (omega (arith, lt))))

module _ (st : State) (r s : Request) (now : ℕ) (p q : LinkValues) (formed : IsWellFormed r p) (others : IsWellFormed s q) (h : IsTheSame r s p q) where
  all_too : (other : LinkValues) → AllHold (Rule st r now) other → (other ≡ p) × AllHold (Rule st s now) q
  all_too other all =
      let is = parts_before r p other formed (λ x lt. (all x).head) in
      (is, λ x. rule_too st r s now p q h x (others x) (subst (λ (z : LinkValues). Rule st r now x z) is (all x)))

  late : (x : Refusal) → 19 ≤ number_of x → IsFirstToFail (Rule st r now) x → IsFirstToFail (Rule st s now) x
  late x least f =
      let is = same_parts st r now p f.parts x least formed f.before in
      let before : HoldBefore (Rule st r now) x p = λ y lt. subst (λ (z : LinkValues). Rule st r now y z) is (f.before y lt) in
      record {
        parts = q;
        before = λ y lt. rule_too st r s now p q h y (others y) (before y lt);
        fails = λ other hold bad.
            let its = same_parts st s now q other x least others hold in
            f.fails p before (rule_too st s r now q p (turned r s p q h) x (formed x) (subst (λ (z : LinkValues). Rule st s now x z) its bad));
      }

  refused_too : (x : Refusal) → IsFirstToFail (Rule st r now) x → IsFirstToFail (Rule st s now) x
  refused_too x f =
      ⊎_elim
      (λ early. let hold = up_to_key st r now p formed in absurd (f.fails p (λ y lt. hold y (omega (arith, lt, early))) (hold x early)))
      (λ least. late x least f)
      (cases_lt (number_of x) 19)

  accepted_too : (reply : step.StepReply) (after : State) → AcceptsRequest st r now reply after → AcceptsRequest st s now reply after
  accepted_too _ _ (put other reply after all is_put does) =
      let (is, hold) = all_too other all in
      put q reply after hold (sym h.says.method ∙ is_put)
      (subst (λ (u : Upload). UploadStep st u reply after) (ap (λ (z : LinkValues). upload_of r now z) is ∙ upload_same st r s now p q h) does)
  accepted_too _ _ (fetch other reply after all is_fetch does) =
      let (is, hold) = all_too other all in
      fetch q reply after hold (fetch_too st r s now p q h is_fetch)
      (subst (λ (place : Place). FetchStep st place reply after) (ap (λ (z : LinkValues). place_of z.path) is ∙ place_same st r s now p q h) does)
  accepted_too _ _ (post other command after all is_post asked does) =
      let (is, hold) = all_too other all in
      post q command after hold (sym h.says.method ∙ is_post)
      (asks_too st r s now p q h command (subst (λ (z : LinkValues). Asks z command) is asked)) does

  replied_too : (reply : Said) (after : State) → Replies st r now reply after → Replies st s now reply after
  replied_too _ _ (refuses x fails) = refuses x (refused_too x fails)
  replied_too _ _ (accepts reply after does) = accepts reply after (accepted_too reply after does)

  answered_too : (text : List ℕ) (after : State) → AnswersRequest st r now text after → AnswersRequest st s now text after
  answered_too text after a = record {
    reply = a.reply;
    replies = replied_too a.reply after a.replies;
    is = a.is ∙ ap (λ (method : List ℕ). answer_text (same_bytes method (codes "HEAD")) a.reply) h.says.method;
  }

answers_once : (st : State) (r : Request) (now : ℕ) (text other : List ℕ) (x y : State) → AnswersRequest st r now text x → AnswersRequest st r now other y → (other ≡ text) × (y ≡ x)
answers_once st r now text other x y a b =
    let same = replies_once st r now a.reply b.reply x y a.replies b.replies in
    (b.is ∙ ap (answer_text (is_head r)) same.0 ∙ sym a.is, same.1)

common : (r other : Request) (h : AreAlike r other) → IsTheSame r other h.mine h.its
common r other h = record {
  says = says_the_same r other h.mine h.its h.formed h.other_formed h.text;
  text = h.text;
  signature = h.signature;
  body = h.body;
  length = h.length;
}

-- the reply to a request is also the reply to each request like it
pub replied_alike : (s after : State) (r other : Request) (now : ℕ) (said : Said) → AreAlike r other → Replies s r now said after → Replies s other now said after
replied_alike s after r other now said h replied = replied_too s r other now h.mine h.its h.formed h.other_formed (common r other h) said after replied

-- the answer to a request is the only answer to each request like it
pub the_answer : (means : State → Type 0) (s : State) (r other : Request) (now : ℕ) (a : Answer) → AreAlike r other → IsAnswered means s r now a → IsTheAnswer means s other now a
the_answer means s r other now a h answered told =
    let (after, left, is) = answered told in
    let it = answered_too s r other now h.mine h.its h.formed h.other_formed (common r other h) _ after is in
    (after, left, it, λ text x one. answers_once s other now _ text after x it one)
