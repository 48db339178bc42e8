-- Decoded texts.
use Rattle.percent_encoding.specs.Percent.{percent_decode}
use Rattle.sigtext.specs.Target.{Param}
use Rattle.sigtext.specs.declared.target.RawParam.{RawParam}

-- the parameter that the raw name and value decode to
abbrev pub decoded_param : RawParam → Param
decoded_param raw = record { name = percent_decode raw.name.now; value = percent_decode raw.value.now }
