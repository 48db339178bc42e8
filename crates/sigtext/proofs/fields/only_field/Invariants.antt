use Rattle.std.proofs.Common.{take, map}
use Rattle.sigtext.specs.Fields.{header_of}
use Rattle.sigtext.specs.SignedHeaders.{lower_case, named}
use Rattle.sigtext.proofs.NamedFields.{IsFoundIn}
use Rattle.sigtext.proofs.fields.only_field.Given as goal

abbrev pub invariant-loop-field : goal.invariant-loop-field
invariant-loop-field l = IsFoundIn (named (lower_case l.name) (map header_of (take l.field-index l.fields))) l.found
