use Rattle.std.proofs.Common.{map, List, ℕ, length, subst, sym, ◌≡◌}
use Rattle.sigtext.specs.Fields.{header_of}
use Rattle.sigtext.specs.SignedHeaders.{named}
use Rattle.sigtext.proofs.ValuesNamed.{lower_name}
use Rattle.links.proofs.orders.is_own_header.Goals as goal

pub returns-then-is_bare_value : goal.returns-then-is_bare_value
returns-then-is_bare_value c =
    let name = c.is_own_name.ensures.0 c.if-not-is_own_name.false in
    let value = c.is_bare_value.ensures.0 c.if-is_bare_value.true in
    let lower = lower_name _ name.0.each in
    let Alone = λ (n : List ℕ). length (named n (map header_of c.args.headers.now)) ≡ 1 in (
      λ t. record { form = name.0; once = subst Alone lower (c.is_alone.ensures.0 t); other = name.1; fit = value.0; bare = value.1 },
      λ own. c.is_alone.ensures.1 (subst Alone (sym lower) own.once),
    )
