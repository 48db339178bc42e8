-- The parts of a request decide whether it is admitted.
use Rattle.std.proofs.Common.{◌≡◌, ℕ, List, Option, Some, sym, ap, subst, ◌∙◌}
use Rattle.std.specs.Prelude.{◌↔◌, IsFalse}
use Rattle.sigtext.specs.Request.{Request}
use Rattle.links.specs.WellFormed.{LinkValues, IsWellFormed}
use Rattle.links.specs.Moments.{Now, HasBegun, IsNotOver}
use Rattle.links.specs.Admits.{KnownKey, IsSignedBy, Admits}
use Rattle.links.proofs.Parts.{parts_once}

one_key : (a b : KnownKey) → Some a ≡ Some b → a ≡ b
one_key a b e = cc

decides : (look_up : List ℕ → Option KnownKey) (r : Request) (n : Now) (p : LinkValues) (k : KnownKey) → IsWellFormed r p → look_up p.key_id ≡ Some k
    → Admits look_up r n → IsSignedBy k.secret r p × HasBegun n p.start × IsNotOver n p.start p.expires
decides look_up r n p k formed there a =
    let same = parts_once r p a.parts formed a.well_formed in
    let key = one_key a.key k (sym a.there ∙ ap (λ (q : LinkValues). look_up q.key_id) same ∙ there) in (
      subst (λ (x : KnownKey). IsSignedBy x.secret r p) key (subst (λ (q : LinkValues). IsSignedBy a.key.secret r q) same a.signed),
      subst (λ (q : LinkValues). HasBegun n q.start) same a.begun,
      subst (λ (q : LinkValues). IsNotOver n q.start q.expires) same a.not_over,
    )

pub admitted : (look_up : List ℕ → Option KnownKey) (r : Request) (n : Now) (p : LinkValues) (k : KnownKey) → IsWellFormed r p → look_up p.key_id ≡ Some k → IsFalse k.revoked
    → Admits look_up r n ↔ (IsSignedBy k.secret r p × HasBegun n p.start × IsNotOver n p.start p.expires)
admitted look_up r n p k formed there unrevoked = (
  decides look_up r n p k formed there,
  λ held. record { parts = p; well_formed = formed; key = k; there = there; unrevoked = unrevoked; signed = held.0; begun = held.1; not_over = held.2 },
)
