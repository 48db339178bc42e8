use Rattle.links.proofs.link_parts.LinkParts.key_id.Goals as goal

pub returns : goal.returns
returns c r p is = (c.scope.ensures r p is).0
