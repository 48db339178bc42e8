-- The machine is a function: a request has one reply, and one state after it.
use Rattle.std.proofs.Common.{◌≡◌, ◌∙◌, ◌-◌, ◌<◌, ℕ, List, [], ◌∷◌, get_or, true, refl, sym, ap, subst, ⊎_elim, arith}
use Rattle.std.specs.FinMap.{get, insert}
use Rattle.std.proofs.lemmas.Bool.{cases_lt}
use Rattle.sigtext.specs.declared.refusal.Refusal.{Refusal}
use Rattle.sigtext.specs.declared.refusal.Refusal.TheVariants as rule
use Rattle.sigtext.specs.Refusals.{number_of}
use Rattle.sigtext.specs.Request.{Request}
use Rattle.sigtext.specs.Rules.{AllHold, IsFirstToFail}
use Rattle.links.specs.WellFormed.{LinkValues}
use Rattle.links.proofs.Parts.{parts_once}
use Rattle.boxes.specs.Rules.{Upload}
use Rattle.boxes.specs.State.{File, Key, Place, Receipt, Settings, State}
use Rattle.boxes.specs.Steps.{AddBox, AddKey, CloseBox, Command, CommandStep, DropFile, FetchStep, HasReceipt, LimitKey, RevokeKey, SetAllowance, UploadStep, again, found, taken}
use Rattle.boxes.specs.Steps as step
use Rattle.boxes.proofs.CommandSteps.{allowance_set_is, box_added_is, box_closed_is, file_dropped_is, key_added_is, key_limited_is, key_revoked_is}
use Rattle.wire.specs.Answers.{Said, Refused}
use Rattle.office.specs.Answering.{AcceptsRequest, Replies, accepts, fetch, post, put, refuses, shown}
use Rattle.office.specs.Rules.{Asks, Rule, place_of, upload_of}
use Rattle.office.proofs.Deciding.{fetch_no_post, fetch_no_put, put_no_post}
use Rattle.office.proofs.Repeats.{command_asked}
use Rattle.office.proofs.Standing.{receipt_once, same_some, some_and}

-- ---- refusals

named : List Refusal
named =
    rule.HeadMalformed ∷ rule.HeadTooLong ∷ rule.TransferCoding ∷ rule.LengthMalformed ∷ rule.BodyTooLarge ∷
    rule.BodyIncomplete ∷ rule.Method ∷ rule.Target ∷ rule.NotSigned ∷ rule.Parameters ∷ rule.Algorithm ∷
    rule.Credential ∷ rule.Date ∷ rule.Expiry ∷ rule.SignedHeaders ∷ rule.SignatureText ∷ rule.SignedValues ∷
    rule.HeaderNotSigned ∷ rule.KeyUnknown ∷ rule.KeyRevoked ∷ rule.SignatureMismatch ∷ rule.NotYetValid ∷
    rule.Expired ∷ rule.RoleNotAllowed ∷ rule.LengthMissing ∷ rule.BodyNotTaken ∷ rule.NoSuchBox ∷ rule.NameTooLong ∷
    rule.NameNotAllowed ∷ rule.BoxClosed ∷ rule.OtherBytesKept ∷ rule.TooManyFiles ∷ rule.QuotaPassed ∷
    rule.NoSuchFile ∷ rule.CommandMalformed ∷ rule.CommandNotPossible ∷ []

named_again : (q : Refusal) → get_or named (number_of q - 1) rule.TryAgain ≡ q
unfolding named
named_again rule.HeadMalformed = refl
named_again rule.HeadTooLong = refl
named_again rule.TransferCoding = refl
named_again rule.LengthMalformed = refl
named_again rule.BodyTooLarge = refl
named_again rule.BodyIncomplete = refl
named_again rule.Method = refl
named_again rule.Target = refl
named_again rule.NotSigned = refl
named_again rule.Parameters = refl
named_again rule.Algorithm = refl
named_again rule.Credential = refl
named_again rule.Date = refl
named_again rule.Expiry = refl
named_again rule.SignedHeaders = refl
named_again rule.SignatureText = refl
named_again rule.SignedValues = refl
named_again rule.HeaderNotSigned = refl
named_again rule.KeyUnknown = refl
named_again rule.KeyRevoked = refl
named_again rule.SignatureMismatch = refl
named_again rule.NotYetValid = refl
named_again rule.Expired = refl
named_again rule.RoleNotAllowed = refl
named_again rule.LengthMissing = refl
named_again rule.BodyNotTaken = refl
named_again rule.NoSuchBox = refl
named_again rule.NameTooLong = refl
named_again rule.NameNotAllowed = refl
named_again rule.BoxClosed = refl
named_again rule.OtherBytesKept = refl
named_again rule.TooManyFiles = refl
named_again rule.QuotaPassed = refl
named_again rule.NoSuchFile = refl
named_again rule.CommandMalformed = refl
named_again rule.CommandNotPossible = refl
named_again rule.TryAgain = refl

-- no two refusals have the same number
number_once : (p q : Refusal) → number_of q ≡ number_of p → q ≡ p
number_once p q e = sym (named_again q) ∙ ap (λ n. get_or named (n - 1) rule.TryAgain) e ∙ named_again p

apart : (m n : ℕ) → (m < n → ⊥) → (n < m → ⊥) → m ≡ n
apart m n a b = ⊎_elim (λ less. absurd (a less)) (λ least. ⊎_elim (λ less. absurd (b less)) (λ more. omega (arith, least, more)) (cases_lt n m)) (cases_lt m n)

-- only one rule is the first that fails
first_once : {P : Type 0} (R : Refusal → P → Type 0) (p q : Refusal) → IsFirstToFail R p → IsFirstToFail R q → q ≡ p
first_once R p q f g =
    number_once p q (apart (number_of q) (number_of p)
    (λ less. g.fails f.parts (λ x lt. f.before x (omega (arith, less, lt))) (f.before q less))
    (λ less. f.fails g.parts (λ x lt. g.before x (omega (arith, less, lt))) (g.before p less)))

-- ---- steps

upload_once : (s : State) (u : Upload) (a b : step.StepReply) (x y : State) → UploadStep s u a x → UploadStep s u b y → (b ≡ a) × (y ≡ x)
upload_once s u _ _ _ _ (again f r there holds listed) (again g q there' holds' listed') =
    let same = same_some g f (get s.files u.place) there' there in
    let one = receipt_once s f.receipt q r (subst (λ (x : File). HasReceipt s x.receipt q) same listed') listed in
    (ap (λ (x : File). step.Kept x.receipt q) same ∙ ap (λ (x : Receipt). step.Kept f.receipt x) one, refl)
upload_once s u _ _ _ _ (again f r there holds listed) (taken new) = absurd (new (some_and (λ x. x.bytes ≡ u.bytes) (get s.files u.place) f there holds))
upload_once s u _ _ _ _ (taken new) (again f r there holds listed) = absurd (new (some_and (λ x. x.bytes ≡ u.bytes) (get s.files u.place) f there holds))
upload_once s u _ _ _ _ (taken new) (taken new') = (refl, refl)

fetch_once : (s : State) (place : Place) (a b : step.StepReply) (x y : State) → FetchStep s place a x → FetchStep s place b y → (b ≡ a) × (y ≡ x)
fetch_once s place _ _ _ _ (found f r there listed) (found g q there' listed') =
    let same = same_some g f (get s.files place) there' there in
    let one = receipt_once s f.receipt q r (subst (λ (x : File). HasReceipt s x.receipt q) same listed') listed in
    (ap (λ (x : File). step.Found x.receipt q x.bytes) same ∙ ap (λ (x : Receipt). step.Found f.receipt x f.bytes) one, refl)

command_step_once : (s : State) (command : Command) (x y : State) → CommandStep s command x → CommandStep s command y → y ≡ x
command_step_once s (AddKey id role secret) x y h k = key_added_is s id role secret y k ∙ sym (key_added_is s id role secret x h)
command_step_once s (RevokeKey id) x y h k =
    let a = key_revoked_is s id x h in
    let b = key_revoked_is s id y k in
    let same = same_some b.0 a.0 (get s.keys id) b.1 a.1 in
    b.2 ∙ ap (λ (k : Key). record s { keys = insert s.keys id (record k { revoked = true }) }) same ∙ sym a.2
command_step_once s (AddBox name settings) x y h k = box_added_is s name settings y k ∙ sym (box_added_is s name settings x h)
command_step_once s (CloseBox name moment) x y h k =
    let a = box_closed_is s name moment x h in
    let b = box_closed_is s name moment y k in
    let same = same_some b.0 a.0 (get s.boxes name) b.1 a.1 in
    b.2 ∙ ap (λ (k : Settings). record s { boxes = insert s.boxes name (record k { closes = moment }) }) same ∙ sym a.2
command_step_once s (DropFile place) x y h k = file_dropped_is s place y k ∙ sym (file_dropped_is s place x h)
command_step_once s (LimitKey id box) x y h k = key_limited_is s id box y k ∙ sym (key_limited_is s id box x h)
command_step_once s (SetAllowance seconds) x y h k = allowance_set_is s seconds y k ∙ sym (allowance_set_is s seconds x h)

-- ---- replies

module _ (s : State) (r : Request) (now : ℕ) where
  one_parts : (p q : LinkValues) → AllHold (Rule s r now) p → AllHold (Rule s r now) q → q ≡ p
  one_parts p q a b = parts_once r p q (λ x. (a x).head) (λ x. (b x).head)

  -- an accepted request is not refused
  not_refused : (q : Refusal) (reply : step.StepReply) (after : State) → IsFirstToFail (Rule s r now) q → AcceptsRequest s r now reply after → ⊥
  not_refused q _ _ f (put p reply after all is_put does) = f.fails p (λ x lt. all x) (all q)
  not_refused q _ _ f (fetch p reply after all is_fetch does) = f.fails p (λ x lt. all x) (all q)
  not_refused q _ _ f (post p command after all is_post asks does) = f.fails p (λ x lt. all x) (all q)

  accepts_once : (a b : step.StepReply) (x y : State) → AcceptsRequest s r now a x → AcceptsRequest s r now b y → (b ≡ a) × (y ≡ x)
  accepts_once _ _ _ _ (put p a x all is does) (put q b y all' is' does') =
      upload_once s (upload_of r now p) a b x y does (subst (λ (z : LinkValues). UploadStep s (upload_of r now z) b y) (one_parts p q all all') does')
  accepts_once _ _ _ _ (fetch p a x all is does) (fetch q b y all' is' does') =
      fetch_once s (place_of p.path) a b x y does (subst (λ (z : LinkValues). FetchStep s (place_of z.path) b y) (one_parts p q all all') does')
  accepts_once _ _ _ _ (post p c x all is asks does) (post q d y all' is' asks' does') =
      let same = command_asked p c d asks (subst (λ (z : LinkValues). Asks z d) (one_parts p q all all') asks') in
      (refl, command_step_once s c x y does (subst (λ (z : Command). CommandStep s z y) same does'))
  accepts_once _ _ _ _ (put p a x all is does) (fetch q b y all' is' does') = absurd (fetch_no_put r is' is)
  accepts_once _ _ _ _ (put p a x all is does) (post q d y all' is' asks' does') = absurd (put_no_post r is is')
  accepts_once _ _ _ _ (fetch p a x all is does) (put q b y all' is' does') = absurd (fetch_no_put r is is')
  accepts_once _ _ _ _ (fetch p a x all is does) (post q d y all' is' asks' does') = absurd (fetch_no_post r is is')
  accepts_once _ _ _ _ (post p c x all is asks does) (put q b y all' is' does') = absurd (put_no_post r is' is)
  accepts_once _ _ _ _ (post p c x all is asks does) (fetch q b y all' is' does') = absurd (fetch_no_post r is' is)

  -- a request has one reply, and one state after it
  pub replies_once : (a b : Said) (x y : State) → Replies s r now a x → Replies s r now b y → (b ≡ a) × (y ≡ x)
  replies_once _ _ _ _ (refuses p f) (refuses q g) = (ap Refused (first_once (Rule s r now) p q f g), refl)
  replies_once _ _ _ _ (refuses p f) (accepts b y h) = absurd (not_refused p b y f h)
  replies_once _ _ _ _ (accepts a x h) (refuses q g) = absurd (not_refused q a x g h)
  replies_once _ _ _ _ (accepts a x h) (accepts b y k) = let same = accepts_once a b x y h k in (ap shown same.0, same.1)
