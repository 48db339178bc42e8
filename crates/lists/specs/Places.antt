-- The places of the files, in order.
use Rattle.std.specs.Prelude.{◌≡◌, ℕ, List, [], Option}
use Rattle.std.specs.declared.cmp.Ordering.TheVariants.{Less}
use Rattle.sigtext.specs.Bytes.{bytes_cmp}
use Rattle.boxes.specs.State.{Place, place_cmp, State}
use Rattle.boxes.specs.Next.{IsFile, IsNext}
use Rattle.lists.specs.declared.places.FilePlace.{FilePlace}

abbrev pub place_in : FilePlace → Place
place_in p = record { box = p.in_box.items; name = p.name.items }

-- the first file in the boxes after this one
abbrev pub IsFirstPast : State → List ℕ → Option Place → Type 0
IsFirstPast s box found =
    IsNext place_cmp (λ place. IsFile s place × (bytes_cmp box place.box ≡ Less)) (record { box = box; name = [] }) found
