-- Office files of both versions.
use Rattle.std.specs.Prelude.{◌≡◌, ◌⊎◌}
use Rattle.sqlite.specs.State.{State}
use Rattle.boxes.specs.State.{State as Office}
use Rattle.boxes.specs.Sound.{IsSound}
use Rattle.sqltables.specs.Schema.{v1}
use Rattle.sqltables.specs.Means.{Means}
use Rattle.sqltables.specs.Kept.{KeepsState}
use Rattle.sqlaudit.specs.Opened.{AreShort}
use Rattle.sqlkeeper.specs.declared.file_keeper.OpenFault.{OpenFault}
use Rattle.sqlkeeper.specs.declared.file_keeper.OpenFault.TheVariants.{Shape, Version}

-- the tables of version 1 mean this sound state, whose files were never longer than version 1 allows
pub record KeepsFirst (s : State) (office : Office) : Type 0 where
  pub means : Means v1 s office
  pub sound : IsSound office
  pub short : AreShort office

-- the tables mean this sound state, in version 1 or in version 2
abbrev pub IsOfficeFile : State → Office → Type 0
IsOfficeFile s office = KeepsFirst s office ⊎ KeepsState s office

-- the file was refused because of its contents
abbrev pub IsRefusedFile : OpenFault → Type 0
IsRefusedFile fault = (fault ≡ Version) ⊎ (fault ≡ Shape)
