-- The place that a `FilePlace` stands for.
use Rattle.boxes.specs.State.{Place}
use Rattle.office.specs.declared.requests.places.FilePlace.{FilePlace}

abbrev pub place_at : FilePlace → Place
place_at p = record { box = p.in_box.now; name = p.name.now }
