-- Consequences of what was foreseen of a message.
use Rattle.std.proofs.Common.{◌≡◌, ◌≢◌, ℕ, List, Result, Ok, Err, ap, refl, sym, subst, ◌∙◌}
use Rattle.std.specs.Prelude.{IfErr, IfOk, IsErr, OnErr, OnOk, is_err, true, false}
use Rattle.boxes.specs.declared.keep.KeepFault.{KeepFault}
use Rattle.office.specs.Premise.{IsFault}
use Rattle.sigtext.specs.declared.refusal.Refusal.{Refusal}
use Rattle.sigtext.specs.declared.refusal.Refusal.TheVariants as rule
use Rattle.sigtext.specs.Request.{Request}
use Rattle.sigtext.specs.Rules.{IsFirstToFail}
use Rattle.links.specs.WellFormed.{LinkValues, IsWellFormed}
use Rattle.boxes.specs.State.{State}
use Rattle.boxes.specs.declared.change.NewFile.{NewFile}
use Rattle.wire.specs.declared.answer.Reply.{Reply}
use Rattle.wire.specs.declared.answer.Reply.TheVariants as reply
use Rattle.office.specs.declared.requests.foreseeing.Prospect.{Prospect}
use Rattle.office.specs.declared.requests.foreseeing.Errand.{Errand}
use Rattle.office.specs.Admitted.{IsAdmitted, ReachesBoxes}
use Rattle.office.specs.Foreseeing.{ComesTo, Foresees, IsErrandOf, IsForeseen, IsReadOf, IsUpload}
use Rattle.sigtext.specs.Readable.{IsReadable}
use Rattle.office.specs.Replying.{IsNoRefusal, IsReceiptFor, IsReplied}
use Rattle.office.specs.Rules.{Rule}

pub readable_of : (r : Request) (p : LinkValues) → IsWellFormed r p → IsReadable r
readable_of r p formed = record {
  served = formed rule.Method;
  path = p.path;
  params = p.params;
  target = formed rule.Target;
  named = (formed rule.NotSigned, (formed rule.Parameters).no_other);
}

-- a message that was not given up was read
pub read_of : (s : State) (r : Request) (foreseen : Result Prospect Refusal) → Foresees s r foreseen → foreseen ≢ Err rule.TryAgain → IsReadOf r foreseen
read_of s r (Ok f) is other = (is.parts, is.link)
read_of s r (Err q) is other = λ again. absurd (other (ap Err again))

pub ok_no_err : {T : Type 0} (x : T) (q : Refusal) (result : Result T Refusal) → result ≡ Ok x → result ≡ Err q → ⊥
ok_no_err x q result a b = cc

pub err_is : {T : Type 0} (x y : Refusal) (result : Result T Refusal) → result ≡ Err x → result ≡ Err y → x ≡ y
err_is x y result a b = cc

ok_is : {T : Type 0} (x y : T) (result : Result T Refusal) → result ≡ Ok x → result ≡ Ok y → x ≡ y
ok_is x y result a b = cc

-- ---- a reply that is given once nothing is staged any more, or refusal 40

-- a message that was to be refused is refused
pub denied : (means : State → Type 0) (s : State) (r : Request) (now : ℕ) (q : Refusal) (result : Result Reply Refusal) → (result ≢ Err rule.TryAgain → result ≡ Err q)
    → (q ≢ rule.TryAgain → IsFirstToFail (Rule s r now) q) → IsReplied means s r now result
denied means s r now q (Ok x) gives fails = absurd (ok_no_err x q (Ok x) refl (gives (ok_no_err x rule.TryAgain (Ok x) refl)))
denied means s r now q (Err y) gives fails = λ other.
    let same : y ≡ q = err_is y q (Err y) refl (gives (λ again. other (err_is y rule.TryAgain (Err y) refl again))) in
    subst (IsFirstToFail (Rule s r now)) (sym same) (fails (λ again. other (same ∙ again)))

-- it gets no reply
pub no_reply : (P : Reply → Type 0) (q : Refusal) (result : Result Reply Refusal) → (result ≢ Err rule.TryAgain → result ≡ Err q) → IfOk result P
no_reply P q (Ok x) gives = absurd (ok_no_err x q (Ok x) refl (gives (ok_no_err x rule.TryAgain (Ok x) refl)))
no_reply P q (Err y) gives = tt

pub gave_reply : (P : Reply → Type 0) (x : Reply) (result : Result Reply Refusal) → (result ≢ Err rule.TryAgain → result ≡ Ok x) → P x → IfOk result P
gave_reply P x (Ok y) gives holds = subst P (ok_is x y (Ok y) (gives (ok_no_err y rule.TryAgain (Ok y) refl)) refl) holds
gave_reply P x (Err y) gives holds = tt

-- a receipt is no refusal, and neither is the reply to a command
pub done_plain : IsNoRefusal reply.Done
done_plain q other = cc

pub kept_plain : (x : Reply) (number size : ℕ) (digest : List ℕ) → x ≡ reply.Kept number size digest → IsNoRefusal x
kept_plain x number size digest is q other = cc

pub receipt_plain : (f : NewFile) (result : Result Reply Refusal) → IfOk result (IsReceiptFor f) → IfOk result IsNoRefusal
receipt_plain f (Ok x) is = kept_plain x f.number f.size f.digest is
receipt_plain f (Err y) is = tt

-- a message that was to get a reply gets it
pub told : (means : State → Type 0) (s : State) (r : Request) (now : ℕ) (x : Reply) (result : Result Reply Refusal) → (result ≢ Err rule.TryAgain → result ≡ Ok x)
    → IsReplied means s r now (Ok x) → IsReplied means s r now result
told means s r now x (Ok y) gives is =
    subst (λ (z : Reply). IsReplied means s r now (Ok z)) (ok_is x y (Ok y) (gives (ok_no_err y rule.TryAgain (Ok y) refl)) refl) is
told means s r now x (Err y) gives is = λ other. absurd (ok_no_err x y (Err y) (gives (λ again. other (err_is y rule.TryAgain (Err y) refl again))) refl)

pub if_told : (P : Reply → Type 0) (x : Reply) (result : Result Reply Refusal) → (result ≢ Err rule.TryAgain → result ≡ Ok x) → P x → IfOk result P
if_told P x (Ok y) gives is = subst P (ok_is x y (Ok y) (gives (ok_no_err y rule.TryAgain (Ok y) refl)) refl) is
if_told P x (Err y) gives is = tt

pub whatever_err : {T E : Type 0} {P : Type 0} (result : Result T E) → P → OnErr result P
whatever_err (Ok x) is = tt
whatever_err (Err e) is = is

pub failed_is : {T : Type 0} (result : Result T KeepFault) → IsErr result → IsFault result
failed_is (Ok x) is = absurd cc
failed_is (Err f) is = tt

pub if_whatever_err : {T E : Type 0} {P : Type 0} (result : Result T E) → P → IfErr result (λ e. P)
if_whatever_err (Ok x) is = tt
if_whatever_err (Err e) is = is

pub weaker_ok : {T E : Type 0} {P Q : T → Type 0} (result : Result T E) → ((x : T) → P x → Q x) → IfOk result P → IfOk result Q
weaker_ok (Ok x) f is = f x is
weaker_ok (Err e) f is = tt

-- ---- what was foreseen, within the window of the link

module _ (s : State) (r : Request) (f : Prospect) (is : IsForeseen s r f) (now : ℕ) (admitted : IsAdmitted s r now is.parts is.key) where
  -- the errand of the message
  pub errand_of : (e : Errand) → f.errand ≡ Ok e → IsErrandOf s r is.parts e × ReachesBoxes s r now is.parts
  errand_of e same = let x = subst (ComesTo s r is.parts is.key) same is.comes in (x.0, x.1 now admitted)

  -- or its refusal
  pub refused_of : (q : Refusal) → f.errand ≡ Err q → q ≢ rule.TryAgain → IsFirstToFail (Rule s r now) q
  refused_of q same other = subst (ComesTo s r is.parts is.key) same is.comes other now admitted

-- ---- what can be read of a message that was not answered

pub upload_readable : (r : Request) (foreseen : Result Prospect Refusal) → IsUpload foreseen → IsReadOf r foreseen → IsReadable r
upload_readable r (Ok f) upload is = readable_of r is.0 is.1.well_formed
upload_readable r (Err q) upload is = absurd upload

pub err_whatever : {T P : Type 0} (result : Result T Refusal) → P → IfErr result (λ q. q ≡ rule.TryAgain → P)
err_whatever (Ok x) is = tt
err_whatever (Err q) is = λ again. is

pub of_err : {T E P : Type 0} (result : Result T E) → true ≡ is_err result → OnErr result P → P
of_err (Ok x) e is = absurd cc
of_err (Err f) e is = is

pub of_ok : {T E P : Type 0} (result : Result T E) → is_err result ≡ false → OnOk result P → P
of_ok (Ok x) e is = is
of_ok (Err f) e is = absurd cc

pub no_fault : {T : Type 0} (result : Result T KeepFault) → is_err result ≡ false → IsFault result → ⊥
no_fault (Ok x) e is = is
no_fault (Err f) e is = cc
