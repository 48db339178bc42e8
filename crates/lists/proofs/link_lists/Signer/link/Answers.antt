use Rattle.std.proofs.Common.{[], ◌++◌, ap, subst, ◌∙◌, arith}
use Rattle.links.specs.Orders.{IsLinkFor, Terms}
use Rattle.lists.proofs.link_lists.Signer.link.Goals as goal

pub returns-in-Ok-write_link-clause-link : goal.returns-in-Ok-write_link-clause-link
returns-in-Ok-write_link-clause-link c =
    let s = c.args.self.now in
    let wish = c.args.wish.now in
    let path = c.deref.ensures.value ∙ c.in-Ok.ensures in
    let (target, written, leads) = c.in-Ok-write_link.ensures.ok in (
      target,
      subst (λ (t : Terms). IsLinkFor t target) (λ i. record {
        method = c.text.ensures i;
        path = path i;
        params = [];
        headers = [];
        start = wish.start;
        expires = wish.expires;
        key_id = s.key.id.now;
        secret = s.key.secret.now;
        host = s.host.now;
        region = s.region.now;
      }) leads,
      written ∙ ap (λ t. t ++ target) c.in-Ok-front_of.ensures,
    )

pub unreachable-requires : goal.unreachable-requires
unreachable-requires c = grind arith
