-- What a `Field` means.
use Rattle.sigtext.specs.SignedHeaders.{Header}
use Rattle.sigtext.specs.declared.field.Field.{Field}

abbrev pub header_of : Field → Header
header_of f = record { name = f.name.now; value = f.value.now }
