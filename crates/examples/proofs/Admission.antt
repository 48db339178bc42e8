-- A link is admitted exactly if some parts obey every rule up to 23.
use Rattle.std.proofs.Common.{◌≡◌, ℕ, ◌≤◌, Option, Some, None, inr, refl, sym, subst, arith}
use Rattle.std.specs.Prelude.{⊤, IsFalse, IsSome, IfSome}
use Rattle.sigtext.specs.declared.refusal.Refusal.{Refusal}
use Rattle.sigtext.specs.declared.refusal.Refusal.TheVariants as rule
use Rattle.sigtext.specs.Refusals.{number_of}
use Rattle.sigtext.specs.Request.{Request}
use Rattle.links.specs.WellFormed.{LinkValues, HeadRule}
use Rattle.links.specs.Admits.{LinkRule, IsSignedBy, Admits}
use Rattle.boxes.specs.State.{State}
use Rattle.boxes.specs.Rules.{UploadRule, FetchRule}
use Rattle.office.specs.Rules.{IsPut, IsPost, IsFetch, place_of, known, judged_at, upload_of, FormRule, DeskRule, Rule}

any : {X : Type 0} (o : Option X) → IfSome o (λ x. ⊤)
any None = tt
any (Some x) = tt

-- what the rules from 24 on say of one refusal
record Later (s : State) (r : Request) (now : ℕ) (q : Refusal) (p : LinkValues) : Type 0 where
  pub form : FormRule q s r p
  pub put : IsPut r → UploadRule q s (upload_of r now p)
  pub fetch : IsFetch r → FetchRule q s (place_of p.path)
  pub post : IsPost r → DeskRule q s p

-- nothing, up to rule 23
later : (s : State) (r : Request) (now : ℕ) (p : LinkValues) (q : Refusal) → number_of q ≤ 23 → Later s r now q p
later s r now p rule.HeadMalformed le = record { form = tt; put = λ _. (tt, inr (any _)); fetch = λ _. tt; post = λ _. tt }
later s r now p rule.HeadTooLong le = record { form = tt; put = λ _. (tt, inr (any _)); fetch = λ _. tt; post = λ _. tt }
later s r now p rule.TransferCoding le = record { form = tt; put = λ _. (tt, inr (any _)); fetch = λ _. tt; post = λ _. tt }
later s r now p rule.LengthMalformed le = record { form = tt; put = λ _. (tt, inr (any _)); fetch = λ _. tt; post = λ _. tt }
later s r now p rule.BodyTooLarge le = record { form = tt; put = λ _. (tt, inr (any _)); fetch = λ _. tt; post = λ _. tt }
later s r now p rule.BodyIncomplete le = record { form = tt; put = λ _. (tt, inr (any _)); fetch = λ _. tt; post = λ _. tt }
later s r now p rule.Method le = record { form = tt; put = λ _. (tt, inr (any _)); fetch = λ _. tt; post = λ _. tt }
later s r now p rule.Target le = record { form = tt; put = λ _. (tt, inr (any _)); fetch = λ _. tt; post = λ _. tt }
later s r now p rule.NotSigned le = record { form = tt; put = λ _. (tt, inr (any _)); fetch = λ _. tt; post = λ _. tt }
later s r now p rule.Parameters le = record { form = tt; put = λ _. (tt, inr (any _)); fetch = λ _. tt; post = λ _. tt }
later s r now p rule.Algorithm le = record { form = tt; put = λ _. (tt, inr (any _)); fetch = λ _. tt; post = λ _. tt }
later s r now p rule.Credential le = record { form = tt; put = λ _. (tt, inr (any _)); fetch = λ _. tt; post = λ _. tt }
later s r now p rule.Date le = record { form = tt; put = λ _. (tt, inr (any _)); fetch = λ _. tt; post = λ _. tt }
later s r now p rule.Expiry le = record { form = tt; put = λ _. (tt, inr (any _)); fetch = λ _. tt; post = λ _. tt }
later s r now p rule.SignedHeaders le = record { form = tt; put = λ _. (tt, inr (any _)); fetch = λ _. tt; post = λ _. tt }
later s r now p rule.SignatureText le = record { form = tt; put = λ _. (tt, inr (any _)); fetch = λ _. tt; post = λ _. tt }
later s r now p rule.SignedValues le = record { form = tt; put = λ _. (tt, inr (any _)); fetch = λ _. tt; post = λ _. tt }
later s r now p rule.HeaderNotSigned le = record { form = tt; put = λ _. (tt, inr (any _)); fetch = λ _. tt; post = λ _. tt }
later s r now p rule.KeyUnknown le = record { form = tt; put = λ _. (tt, inr (any _)); fetch = λ _. tt; post = λ _. tt }
later s r now p rule.KeyRevoked le = record { form = tt; put = λ _. (tt, inr (any _)); fetch = λ _. tt; post = λ _. tt }
later s r now p rule.SignatureMismatch le = record { form = tt; put = λ _. (tt, inr (any _)); fetch = λ _. tt; post = λ _. tt }
later s r now p rule.NotYetValid le = record { form = tt; put = λ _. (tt, inr (any _)); fetch = λ _. tt; post = λ _. tt }
later s r now p rule.Expired le = record { form = tt; put = λ _. (tt, inr (any _)); fetch = λ _. tt; post = λ _. tt }
later s r now p rule.RoleNotAllowed le = absurd (omega arith)
later s r now p rule.LengthMissing le = absurd (omega arith)
later s r now p rule.BodyNotTaken le = absurd (omega arith)
later s r now p rule.NoSuchBox le = absurd (omega arith)
later s r now p rule.NameTooLong le = absurd (omega arith)
later s r now p rule.NameNotAllowed le = absurd (omega arith)
later s r now p rule.BoxClosed le = absurd (omega arith)
later s r now p rule.OtherBytesKept le = absurd (omega arith)
later s r now p rule.TooManyFiles le = absurd (omega arith)
later s r now p rule.QuotaPassed le = absurd (omega arith)
later s r now p rule.NoSuchFile le = absurd (omega arith)
later s r now p rule.CommandMalformed le = absurd (omega arith)
later s r now p rule.CommandNotPossible le = absurd (omega arith)
later s r now p rule.TryAgain le = absurd (omega arith)

link_rule : (s : State) (r : Request) (now : ℕ) (a : Admits (known s) r (judged_at s now)) (q : Refusal) → LinkRule q (known s a.parts.key_id) r (judged_at s now) a.parts
link_rule s r now a rule.HeadMalformed = tt
link_rule s r now a rule.HeadTooLong = tt
link_rule s r now a rule.TransferCoding = tt
link_rule s r now a rule.LengthMalformed = tt
link_rule s r now a rule.BodyTooLarge = tt
link_rule s r now a rule.BodyIncomplete = tt
link_rule s r now a rule.Method = tt
link_rule s r now a rule.Target = tt
link_rule s r now a rule.NotSigned = tt
link_rule s r now a rule.Parameters = tt
link_rule s r now a rule.Algorithm = tt
link_rule s r now a rule.Credential = tt
link_rule s r now a rule.Date = tt
link_rule s r now a rule.Expiry = tt
link_rule s r now a rule.SignedHeaders = tt
link_rule s r now a rule.SignatureText = tt
link_rule s r now a rule.SignedValues = tt
link_rule s r now a rule.HeaderNotSigned = tt
link_rule s r now a rule.KeyUnknown = subst IsSome (sym a.there) refl
link_rule s r now a rule.KeyRevoked = subst (λ o. IfSome o (λ k. IsFalse k.revoked)) (sym a.there) a.unrevoked
link_rule s r now a rule.SignatureMismatch = subst (λ o. IfSome o (λ k. IsSignedBy k.secret r a.parts)) (sym a.there) a.signed
link_rule s r now a rule.NotYetValid = a.begun
link_rule s r now a rule.Expired = a.not_over
link_rule s r now a rule.RoleNotAllowed = tt
link_rule s r now a rule.LengthMissing = tt
link_rule s r now a rule.BodyNotTaken = tt
link_rule s r now a rule.NoSuchBox = tt
link_rule s r now a rule.NameTooLong = tt
link_rule s r now a rule.NameNotAllowed = tt
link_rule s r now a rule.BoxClosed = tt
link_rule s r now a rule.OtherBytesKept = tt
link_rule s r now a rule.TooManyFiles = tt
link_rule s r now a rule.QuotaPassed = tt
link_rule s r now a rule.NoSuchFile = tt
link_rule s r now a rule.CommandMalformed = tt
link_rule s r now a rule.CommandNotPossible = tt
link_rule s r now a rule.TryAgain = tt

pub admitted_hold : (s : State) (r : Request) (now : ℕ) → Admits (known s) r (judged_at s now) → (p : LinkValues) × ((q : Refusal) → number_of q ≤ 23 → Rule s r now q p)
admitted_hold s r now a = (
  a.parts,
  λ q le.
      let rest = later s r now a.parts q le in
      record { head = a.well_formed q; link = link_rule s r now a q; form = rest.form; put = rest.put; fetch = rest.fetch; post = rest.post },
)

head_rule : (s : State) (r : Request) (now : ℕ) (p : LinkValues) → ((q : Refusal) → number_of q ≤ 23 → Rule s r now q p) → (q : Refusal) → HeadRule q r p
head_rule s r now p hold rule.HeadMalformed = tt
head_rule s r now p hold rule.HeadTooLong = tt
head_rule s r now p hold rule.TransferCoding = tt
head_rule s r now p hold rule.LengthMalformed = tt
head_rule s r now p hold rule.BodyTooLarge = tt
head_rule s r now p hold rule.BodyIncomplete = tt
head_rule s r now p hold rule.Method = (hold rule.Method (omega arith)).head
head_rule s r now p hold rule.Target = (hold rule.Target (omega arith)).head
head_rule s r now p hold rule.NotSigned = (hold rule.NotSigned (omega arith)).head
head_rule s r now p hold rule.Parameters = (hold rule.Parameters (omega arith)).head
head_rule s r now p hold rule.Algorithm = (hold rule.Algorithm (omega arith)).head
head_rule s r now p hold rule.Credential = (hold rule.Credential (omega arith)).head
head_rule s r now p hold rule.Date = (hold rule.Date (omega arith)).head
head_rule s r now p hold rule.Expiry = (hold rule.Expiry (omega arith)).head
head_rule s r now p hold rule.SignedHeaders = (hold rule.SignedHeaders (omega arith)).head
head_rule s r now p hold rule.SignatureText = (hold rule.SignatureText (omega arith)).head
head_rule s r now p hold rule.SignedValues = (hold rule.SignedValues (omega arith)).head
head_rule s r now p hold rule.HeaderNotSigned = (hold rule.HeaderNotSigned (omega arith)).head
head_rule s r now p hold rule.KeyUnknown = tt
head_rule s r now p hold rule.KeyRevoked = tt
head_rule s r now p hold rule.SignatureMismatch = tt
head_rule s r now p hold rule.NotYetValid = tt
head_rule s r now p hold rule.Expired = tt
head_rule s r now p hold rule.RoleNotAllowed = tt
head_rule s r now p hold rule.LengthMissing = tt
head_rule s r now p hold rule.BodyNotTaken = tt
head_rule s r now p hold rule.NoSuchBox = tt
head_rule s r now p hold rule.NameTooLong = tt
head_rule s r now p hold rule.NameNotAllowed = tt
head_rule s r now p hold rule.BoxClosed = tt
head_rule s r now p hold rule.OtherBytesKept = tt
head_rule s r now p hold rule.TooManyFiles = tt
head_rule s r now p hold rule.QuotaPassed = tt
head_rule s r now p hold rule.NoSuchFile = tt
head_rule s r now p hold rule.CommandMalformed = tt
head_rule s r now p hold rule.CommandNotPossible = tt
head_rule s r now p hold rule.TryAgain = tt

there_is : {X : Type 0} (o : Option X) → IsSome o → (x : X) × (o ≡ Some x)
there_is None there = cc
there_is (Some x) there = (x, refl)

pub hold_admitted : (s : State) (r : Request) (now : ℕ) (p : LinkValues) → ((q : Refusal) → number_of q ≤ 23 → Rule s r now q p) → Admits (known s) r (judged_at s now)
hold_admitted s r now p hold =
    let key = there_is (known s p.key_id) (hold rule.KeyUnknown (omega arith)).link in
    record {
      parts = p;
      well_formed = head_rule s r now p hold;
      key = key.0;
      there = key.1;
      unrevoked = subst (λ o. IfSome o (λ k. IsFalse k.revoked)) key.1 (hold rule.KeyRevoked (omega arith)).link;
      signed = subst (λ o. IfSome o (λ k. IsSignedBy k.secret r p)) key.1 (hold rule.SignatureMismatch (omega arith)).link;
      begun = (hold rule.NotYetValid (omega arith)).link;
      not_over = (hold rule.Expired (omega arith)).link;
    }
