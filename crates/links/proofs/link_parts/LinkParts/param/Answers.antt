use Rattle.std.proofs.Common.{◌∙◌, ◌++◌, List, ℕ, ap, arith}
use Rattle.percent_encoding.specs.Percent.{percent_decode}
use Rattle.links.proofs.SixLemmas.{value_read, whatever_err}
use Rattle.links.proofs.link_parts.LinkParts.param.Goals as goal

pub returns-in_err-value-clause-memory : goal.returns-in_err-value-clause-memory
returns-in_err-value-clause-memory c =
    whatever_err c.from_residual.result (λ r p is. let found = c.in-Some.ensures.some p.params is.signed.params in (found.0, found.2))

pub returns-in_err-append_to-clause-memory : goal.returns-in_err-append_to-clause-memory
returns-in_err-append_to-clause-memory c =
    whatever_err c.from_residual-in_err-append_to.result (λ r p is. let found = c.in-Some.ensures.some p.params is.signed.params in (found.0, found.2))

pub returns-clause-found : goal.returns-clause-found
returns-clause-found c r p is =
    let found = c.in-Some.ensures.some p.params is.signed.params in
    let empty = ap (λ (t : List ℕ). t ++ percent_decode c.percent_decode.result.bytes.now) c.in_ok-value.ensures.items in
    value_read c.in-Some.raw.now _ p.params c.args.name.now found (c.in_ok-append_to.ensures.ok ∙ empty ∙ c.percent_decode.ensures.bytes)

pub returns-in_default-clause-found : goal.returns-in_default-clause-found
returns-in_default-clause-found c = grind arith
