-- What a `Scope` means.
use Rattle.sigv4.specs.Signature.{CredentialScope}
use Rattle.sigv4.specs.declared.scope.Scope.{Scope}

abbrev pub scope_of : Scope → CredentialScope
scope_of s = record { date = s.date.now; region = s.region.now }
