use Rattle.std.proofs.Common.{List, ℕ, map, refl, sym, subst, arith}
use Rattle.sigtext.specs.Fields.{header_of}
use Rattle.sigtext.specs.SignedNames.{AreSignedNames}
use Rattle.sigtext.specs.SignedValues.{ValueRule}
use Rattle.sigtext.specs.Signing.{values_of}
use Rattle.links.proofs.ReadAgain.{only_again, known_reading, none_fails, known_values}
use Rattle.links.proofs.writing.read_parts.Goals as goal

pub unreachable-requires : goal.unreachable-requires
unreachable-requires c = let is = c.requires.target in c.in_default.ensures.err is.0 is.1 is.2

pub want_of_memory-requires : goal.want_of_memory-requires
want_of_memory-requires c =
    let is = c.requires.target in
    only_again _ (λ other. (c.in-Err.ensures.err other).1 is.0 is.1 (known_reading _ _ is.0 is.1 c.in-Ok.ensures.ok is.2) is.3)

pub want_of_memory-requires-in-Err-signed_values : goal.want_of_memory-requires-in-Err-signed_values
want_of_memory-requires-in-Err-signed_values c =
    let headers = map header_of c.args.fields.now in
    let ns = map (λ f. f.name.now) c.args.fields.now in
    let names = subst (λ (t : List ℕ). AreSignedNames t ns) (sym c.in-Ok-read-2.ensures.ok.0) c.requires.names in
    only_again _ (λ other. none_fails (ValueRule headers ns) _ headers c.requires.values (c.in-Err-signed_values.ensures.err ns names other))

pub returns-in-Ok-signed_values : goal.returns-in-Ok-signed_values
returns-in-Ok-signed_values c path params is =
    let spelled = known_reading _ _ path params c.in-Ok.ensures.ok is in
    let headers = map header_of c.args.fields.now in
    let ns = map (λ f. f.name.now) c.args.fields.now in
    let names = subst (λ (t : List ℕ). AreSignedNames t ns) (sym c.in-Ok-read-2.ensures.ok.0) c.requires.names in
    record {
      method = refl;
      path = spelled.path_spelled;
      params = c.in-Ok-read.ensures.ok path params spelled;
      headers = known_values headers ns (values_of c.in-Ok-signed_values.values) headers (c.in-Ok-signed_values.ensures.ok ns names) c.requires.values;
    }

pub unreachable-requires-in_default-read : goal.unreachable-requires-in_default-read
unreachable-requires-in_default-read c = grind arith
