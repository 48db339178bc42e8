-- The versions of office files, as named in the code.
use Rattle.sqltables.specs.Schema.{Version, v1, v2}
use Rattle.sqlaudit.specs.declared.formats.Format.{Format}
use Rattle.sqlaudit.specs.declared.formats.Format.TheVariants.{First, Second}

abbrev pub version_of : Format → Version
version_of First = v1
version_of Second = v2
