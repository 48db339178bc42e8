-- Whether a connection has ended.
use Rattle.std.proofs.Common.{◌≡◌, true, false, Option, None, Some, refl}
use Rattle.std.specs.Prelude.{is_some}
use Rattle.wire.specs.declared.session.SessionEnd.{SessionEnd}

pub none_of : {X : Type 0} (e : Option X) → is_some e ≡ false → e ≡ None
none_of None h = refl
none_of (Some x) h = absurd cc

pub not_none : {X : Type 0} (e : Option X) → is_some e ≡ true → e ≡ None → ⊥
not_none None h is = absurd cc
not_none (Some x) h is = absurd cc

pub some_of : (e : Option SessionEnd) → is_some e ≡ true → (x : SessionEnd) × (e ≡ Some x)
some_of None h = absurd cc
some_of (Some x) h = (x, refl)
