-- The box of a stored file exists.
use Rattle.std.proofs.Common.{◌≡◌, List, ℕ, Option, Some, None, refl, subst}
use Rattle.std.specs.Prelude.{IsSome, IsSomeAnd}
use Rattle.std.specs.FinMap.{get}
use Rattle.boxes.specs.State.{Place, File, State}
use Rattle.boxes.specs.Sound.{IsSound, IsReceipt}
use Rattle.boxes.proofs.NoBox.{all_at}

pub there_is : {X : Type 0} (o : Option X) → IsSome o → (x : X) × (o ≡ Some x)
there_is None h = absurd cc
there_is (Some x) h = (x, refl)

and_some : {X : Type 0} (P : X → Type 0) (o : Option X) → IsSomeAnd o P → IsSome o
and_some P None h = absurd h
and_some P (Some x) h = refl

-- the box of a stored file exists
pub file_in_box : (s : State) (place : Place) (f : File) → IsSound s → get s.files place ≡ Some f → IsSome (get s.boxes place.box)
file_in_box s place f sound there =
    let it = sound.files place f there in
    let r = all_at (IsReceipt s) s.receipts it.listed.place it.receipt sound.receipts it.listed.listed in
    subst (λ (b : List ℕ). IsSome (get s.boxes b)) it.box (and_some _ (get s.boxes it.receipt.box) r.box)
