-- A link is read back as its order.
use Rattle.std.proofs.Common.{◌≡◌, ℕ, Bool, true, not, List, [], ◌∷◌, map, codes, sym, ap, subst, ◌∙◌, All}
use Rattle.std.specs.Prelude.{IsPermutation, filter}
use Rattle.std.proofs.lemmas.Bool.{false_from_ne_true, not_from_false}
use Rattle.std.proofs.lemmas.List.Elements.{All-from_recursion, All-map, All-weaker}
use Rattle.std.proofs.lemmas.List.Sorted.{IsPermutation-map, IsPermutation-sym, IsPermutation-trans}
use Rattle.std.proofs.lemmas.Slice.Eq.{bytes_eq-Decides}
use Rattle.sigtext.specs.declared.refusal.Refusal.TheVariants as rule
use Rattle.sigtext.specs.Bytes.{same_bytes}
use Rattle.sigtext.specs.Request.{Request}
use Rattle.sigtext.specs.SignedHeaders.{Header, trimmed, IsSignedValue}
use Rattle.sigtext.specs.SignedNames.{AreSignedNames}
use Rattle.sigtext.specs.Target.{IsTargetOf}
use Rattle.sigtext.proofs.Filtered.{IsPermutation-filter}
use Rattle.sigtext.proofs.Filters.{each_passes}
use Rattle.sigtext.proofs.NamesOnce.{names_once}
use Rattle.sigtext.proofs.Uniqueness.{target_once}
use Rattle.sigv4.specs.Credential.{IsCredential}
use Rattle.sigv4.specs.Dates.{WritesMoment}
use Rattle.sigv4.specs.Signature.{CredentialScope}
use Rattle.sigv4.proofs.Credentials.{credential_once}
use Rattle.sigv4.proofs.Moments.{moment_once}
use Rattle.links.specs.declared.orders.LinkFault.TheVariants as fault
use Rattle.links.specs.Forms.{IsExpiry}
use Rattle.links.specs.Orders.{Terms, IsOwnHeader, AreSound, wanted, IsRequestFor, IsLinkFor}
use Rattle.links.specs.SameOrders.{TellTheSame, OrdersTheSame}
use Rattle.links.specs.WellFormed.{LinkValues}
use Rattle.links.proofs.Parts.{parts_once}
use Rattle.links.proofs.ReadTexts.{HasTexts, texts_read}
use Rattle.links.proofs.SameParams.{others_of}
use Rattle.links.proofs.Values.{value_same, expiry_once}

-- what the parameters of a link say
pub record ParamsSay (p q : LinkValues) : Type 0 where
  pub key_id : q.key_id ≡ p.key_id
  pub scope : q.scope ≡ p.scope
  pub start : q.start ≡ p.start
  pub expires : q.expires ≡ p.expires
  pub names : map (λ (s : Header). s.name) q.signed ≡ map (λ (s : Header). s.name) p.signed

-- equal parameters say the same
params_say : (p q : LinkValues) → q.params ≡ p.params → HasTexts p → HasTexts q → ParamsSay p q
params_say p q same h k =
    let credential = value_same p.params q.params (codes "X-Amz-Credential") h.five.credential k.five.credential same
    h.values.credential k.values.credential in
    let date = value_same p.params q.params (codes "X-Amz-Date") h.five.date k.five.date same
    h.values.date k.values.date in
    let expires = value_same p.params q.params (codes "X-Amz-Expires") h.five.expires k.five.expires same
    h.values.expires k.values.expires in
    let names = value_same p.params q.params (codes "X-Amz-SignedHeaders") h.five.names k.five.names same
    h.values.names k.values.names in
    let (key, scope) = credential_once h.five.credential h.five.date p.key_id q.key_id p.scope q.scope h.says_scope
    (subst (λ (x : List ℕ). IsCredential x h.five.date q.key_id q.scope) credential
    (subst (λ (d : List ℕ). IsCredential k.five.credential d q.key_id q.scope) date k.says_scope)) in
    record {
      key_id = key;
      scope = scope;
      start = moment_once h.five.date p.start q.start h.says_start
          (subst (λ (d : List ℕ). WritesMoment d q.start) date k.says_start);
      expires = expiry_once h.five.expires p.expires q.expires h.says_expires
          (subst (λ (x : List ℕ). IsExpiry x q.expires) expires k.says_expires);
      names = names_once h.five.names (map (λ (s : Header). s.name) p.signed) (map (λ (s : Header). s.name) q.signed)
          h.says_names
          (subst (λ (x : List ℕ). AreSignedNames x (map (λ (s : Header). s.name) q.signed)) names k.says_names);
    }

-- ---- the headers besides `host`

is_other : List ℕ → Bool
is_other name = not (same_bytes name (codes "host"))

others_pass : (t : Terms) → AreSound t → All (λ h. is_other h.name ≡ true) t.headers
unfolding is_other
others_pass t sound =
    All-weaker (IsOwnHeader t.headers) (λ h. not (same_bytes h.name (codes "host")) ≡ true)
    (λ h own. not_from_false _ (false_from_ne_true _ (λ e. own.other ((bytes_eq-Decides h.name (codes "host")).0 e))))
    t.headers (All-from_recursion (IsOwnHeader t.headers) t.headers (sound fault.Headers))

other_headers : (t : Terms) → AreSound t → filter (λ h. is_other h.name) (wanted t) ≡ t.headers
unfolding is_other
other_headers t sound = each_passes (λ h. is_other h.name) t.headers (others_pass t sound)

other_names : (t : Terms) → AreSound t → filter is_other (map (λ h. h.name) (wanted t)) ≡ map (λ h. h.name) t.headers
unfolding is_other
other_names t sound =
    each_passes is_other (map (λ h. h.name) t.headers)
    (All-map (λ n. is_other n ≡ true) (λ (h : Header). h.name) t.headers (others_pass t sound))

-- the headers besides `host`, in two rearrangements
headers_moved : (t u : Terms) → AreSound t → AreSound u → IsPermutation (wanted t) (wanted u)
    → IsPermutation t.headers u.headers
headers_moved t u sound sound_too moved =
    subst (λ (xs : List Header). IsPermutation xs u.headers) (other_headers t sound)
    (subst (λ (ys : List Header). IsPermutation (filter (λ h. is_other h.name) (wanted t)) ys) (other_headers u sound_too)
    (IsPermutation-filter (λ h. is_other h.name) (wanted t) (wanted u) moved))

names_moved : (t u : Terms) → AreSound t → AreSound u
    → IsPermutation (map (λ h. h.name) (wanted t)) (map (λ h. h.name) (wanted u))
    → IsPermutation (map (λ h. h.name) t.headers) (map (λ h. h.name) u.headers)
names_moved t u sound sound_too moved =
    subst (λ (xs : List (List ℕ)). IsPermutation xs (map (λ h. h.name) u.headers)) (other_names t sound)
    (subst (λ (ys : List (List ℕ)). IsPermutation (filter is_other (map (λ h. h.name) (wanted t))) ys)
    (other_names u sound_too)
    (IsPermutation-filter is_other (map (λ h. h.name) (wanted t)) (map (λ h. h.name) (wanted u)) moved))

-- ---- rearrangements of one list

both_ways : {X : Type 0} (xs ys zs ws : List X) → IsPermutation xs zs → IsPermutation ys ws → ws ≡ zs → IsPermutation xs ys
both_ways {X} xs ys zs ws h k same =
    IsPermutation-trans xs zs ys h (IsPermutation-sym ys zs (subst (λ (l : List X). IsPermutation ys l) same k))

-- ---- what the target tells

pub told_back : (t u : Terms) (target : List ℕ) → IsLinkFor t target → IsLinkFor u target → TellTheSame t u
told_back t u target h k =
    let (r, is) = h.sent in
    let (s, is_too) = k.sent in
    let formed = h.formed r is in
    let formed_too = k.formed s is_too in
    let p = h.parts in
    let q = k.parts in
    let one = subst (λ (x : List ℕ). IsTargetOf x p.path p.params) is.target_is (formed rule.Target) in
    let two = subst (λ (x : List ℕ). IsTargetOf x q.path q.params) is_too.target_is (formed_too rule.Target) in
    let (path, params) = target_once target p.path q.path p.params q.params one two in
    let say = params_say p q params (texts_read r p formed) (texts_read s q formed_too) in
    let name : Header → List ℕ = λ x. x.name in
    record {
      path = sym k.says.path ∙ path ∙ h.says.path;
      params = both_ways t.params u.params (others_of p.params) (others_of q.params) h.says.params k.says.params
          (ap others_of params);
      names = names_moved t u h.sound k.sound
          (both_ways (map name (wanted t)) (map name (wanted u)) (map name p.signed) (map name q.signed)
          (IsPermutation-map name (wanted t) p.signed h.says.signed)
          (IsPermutation-map name (wanted u) q.signed k.says.signed) say.names);
      start = sym k.says.start ∙ say.start ∙ h.says.start;
      expires = sym k.says.expires ∙ say.expires ∙ h.says.expires;
      key_id = sym k.says.key_id ∙ say.key_id ∙ h.says.key_id;
      region = sym k.says.region ∙ ap (λ (x : CredentialScope). x.region) say.scope ∙ h.says.region;
    }

-- ---- what the target and a request with it tell

one_value : (headers : List Header) (name value other : List ℕ) → IsSignedValue headers name value
    → IsSignedValue headers name other → other ≡ value
one_value headers name value other (h, is, at) (g, is_too, at_too) =
    let same = alone h g (sym is ∙ is_too) in
    at_too ∙ sym (ap (λ (x : Header). trimmed x.value) same) ∙ sym at
  where
    alone : (x y : Header) → x ∷ [] ≡ y ∷ [] → x ≡ y
    alone x y e = cc

pub read_back : (t u : Terms) (target : List ℕ) (r : Request) → IsLinkFor t target → IsLinkFor u target
    → IsRequestFor t target r → IsRequestFor u target r → OrdersTheSame t u
read_back t u target r h k is is_too =
    let told = told_back t u target h k in
    let same = parts_once r h.parts k.parts (h.formed r is) (k.formed r is_too) in
    let moved = both_ways (wanted t) (wanted u) h.parts.signed k.parts.signed h.says.signed k.says.signed
    (ap (λ (x : LinkValues). x.signed) same) in
    record {
      method = sym is_too.method_is ∙ is.method_is;
      path = told.path;
      params = told.params;
      headers = headers_moved t u h.sound k.sound moved;
      start = told.start;
      expires = told.expires;
      key_id = told.key_id;
      host = one_value r.headers (codes "host") t.host u.host is.given.0 is_too.given.0;
      region = told.region;
    }
