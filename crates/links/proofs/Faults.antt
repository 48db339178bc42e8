-- The first fault of an order.
use Rattle.std.proofs.Common.{◌≡◌, ◌≢◌, ℕ, ◌<◌, true, false, List, Option, Some, None, sym, arith}
use Rattle.std.specs.Prelude.{IfNone, IfSome, IsFalse, IsTrue, is_some}
use Rattle.std.specs.List.{list_any}
use Rattle.std.proofs.lemmas.Bool.{false≢true}
use Rattle.sigtext.specs.Bytes.{same_bytes}
use Rattle.links.specs.Methods.{method_text}
use Rattle.links.specs.Orders.{Terms, TermRule, AreSound, IsFirstFault, fault_place}
use Rattle.sigtext.specs.Readable.{methods}
use Rattle.links.specs.declared.methods.Method.{Method}
use Rattle.links.specs.declared.orders.LinkFault.{LinkFault}
use Rattle.links.specs.declared.orders.LinkFault.TheVariants as fault
use Rattle.links.proofs.ServedMethods.{served_method}
use Rattle.links.proofs.Texts.{clash}

-- a method is read exactly if it is served
pub served : (o : Option Method) (text : List ℕ) → IfSome o (λ m. text ≡ method_text m) → is_some o ≡ true → IsTrue (list_any (same_bytes text) methods)
served (Some m) text is some = served_method text m is
served None text is some = absurd (false≢true some)

pub unserved : (o : Option Method) (text : List ℕ) → IfNone o (IsFalse (list_any (same_bytes text) methods)) → is_some o ≡ false → IsTrue (list_any (same_bytes text) methods) → ⊥
unserved (Some m) text is none holds = false≢true (sym none)
unserved None text is none holds = clash _ is holds

-- the fault is reported first
abbrev pub IsReported : Terms → LinkFault → Type 0
IsReported t f = (f ≢ fault.Memory) × IsFirstFault t f

module _ (t : Terms) where
  -- the requirements below a place hold
  before : (n : ℕ) → (1 < n → TermRule fault.Method t) → (2 < n → TermRule fault.Path t) → (3 < n → TermRule fault.Params t) → (4 < n → TermRule fault.Headers t) → (5 < n → TermRule fault.Host t) → (6 < n → TermRule fault.Region t) → (7 < n → TermRule fault.Key t) → (8 < n → TermRule fault.Expires t) → (g : LinkFault) → fault_place g < n → TermRule g t
  before n m p q h o r k e fault.Method lt = m lt
  before n m p q h o r k e fault.Path lt = p lt
  before n m p q h o r k e fault.Params lt = q lt
  before n m p q h o r k e fault.Headers lt = h lt
  before n m p q h o r k e fault.Host lt = o lt
  before n m p q h o r k e fault.Region lt = r lt
  before n m p q h o r k e fault.Key lt = k lt
  before n m p q h o r k e fault.Expires lt = e lt
  before n m p q h o r k e fault.Memory lt = tt

  pub method_first : (TermRule fault.Method t → ⊥) → IsReported t fault.Method
  method_first fails = (λ e. cc, record { before = before 1 (λ lt. absurd (omega arith)) (λ lt. absurd (omega arith)) (λ lt. absurd (omega arith)) (λ lt. absurd (omega arith)) (λ lt. absurd (omega arith)) (λ lt. absurd (omega arith)) (λ lt. absurd (omega arith)) (λ lt. absurd (omega arith)); fails = fails })

  pub path_first : TermRule fault.Method t → (TermRule fault.Path t → ⊥) → IsReported t fault.Path
  path_first m fails = (λ e. cc, record { before = before 2 (λ lt. m) (λ lt. absurd (omega arith)) (λ lt. absurd (omega arith)) (λ lt. absurd (omega arith)) (λ lt. absurd (omega arith)) (λ lt. absurd (omega arith)) (λ lt. absurd (omega arith)) (λ lt. absurd (omega arith)); fails = fails })

  pub params_first : TermRule fault.Method t → TermRule fault.Path t → (TermRule fault.Params t → ⊥) → IsReported t fault.Params
  params_first m p fails = (λ e. cc, record { before = before 3 (λ lt. m) (λ lt. p) (λ lt. absurd (omega arith)) (λ lt. absurd (omega arith)) (λ lt. absurd (omega arith)) (λ lt. absurd (omega arith)) (λ lt. absurd (omega arith)) (λ lt. absurd (omega arith)); fails = fails })

  pub headers_first : TermRule fault.Method t → TermRule fault.Path t → TermRule fault.Params t → (TermRule fault.Headers t → ⊥) → IsReported t fault.Headers
  headers_first m p q fails = (λ e. cc, record { before = before 4 (λ lt. m) (λ lt. p) (λ lt. q) (λ lt. absurd (omega arith)) (λ lt. absurd (omega arith)) (λ lt. absurd (omega arith)) (λ lt. absurd (omega arith)) (λ lt. absurd (omega arith)); fails = fails })

  pub host_first : TermRule fault.Method t → TermRule fault.Path t → TermRule fault.Params t → TermRule fault.Headers t → (TermRule fault.Host t → ⊥) → IsReported t fault.Host
  host_first m p q h fails = (λ e. cc, record { before = before 5 (λ lt. m) (λ lt. p) (λ lt. q) (λ lt. h) (λ lt. absurd (omega arith)) (λ lt. absurd (omega arith)) (λ lt. absurd (omega arith)) (λ lt. absurd (omega arith)); fails = fails })

  pub region_first : TermRule fault.Method t → TermRule fault.Path t → TermRule fault.Params t → TermRule fault.Headers t → TermRule fault.Host t → (TermRule fault.Region t → ⊥) → IsReported t fault.Region
  region_first m p q h o fails = (λ e. cc, record { before = before 6 (λ lt. m) (λ lt. p) (λ lt. q) (λ lt. h) (λ lt. o) (λ lt. absurd (omega arith)) (λ lt. absurd (omega arith)) (λ lt. absurd (omega arith)); fails = fails })

  pub key_first : TermRule fault.Method t → TermRule fault.Path t → TermRule fault.Params t → TermRule fault.Headers t → TermRule fault.Host t → TermRule fault.Region t → (TermRule fault.Key t → ⊥) → IsReported t fault.Key
  key_first m p q h o r fails = (λ e. cc, record { before = before 7 (λ lt. m) (λ lt. p) (λ lt. q) (λ lt. h) (λ lt. o) (λ lt. r) (λ lt. absurd (omega arith)) (λ lt. absurd (omega arith)); fails = fails })

  pub expires_first : TermRule fault.Method t → TermRule fault.Path t → TermRule fault.Params t → TermRule fault.Headers t → TermRule fault.Host t → TermRule fault.Region t → TermRule fault.Key t → (TermRule fault.Expires t → ⊥) → IsReported t fault.Expires
  expires_first m p q h o r k fails = (λ e. cc, record { before = before 8 (λ lt. m) (λ lt. p) (λ lt. q) (λ lt. h) (λ lt. o) (λ lt. r) (λ lt. k) (λ lt. absurd (omega arith)); fails = fails })

  pub all_sound : TermRule fault.Method t → TermRule fault.Path t → TermRule fault.Params t → TermRule fault.Headers t → TermRule fault.Host t → TermRule fault.Region t → TermRule fault.Key t → TermRule fault.Expires t → AreSound t
  all_sound m p q h o r k e fault.Method = m
  all_sound m p q h o r k e fault.Path = p
  all_sound m p q h o r k e fault.Params = q
  all_sound m p q h o r k e fault.Headers = h
  all_sound m p q h o r k e fault.Host = o
  all_sound m p q h o r k e fault.Region = r
  all_sound m p q h o r k e fault.Key = k
  all_sound m p q h o r k e fault.Expires = e
  all_sound m p q h o r k e fault.Memory = tt
