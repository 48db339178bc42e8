use Rattle.links.proofs.Parts.{parts_once}
use Rattle.links.proofs.Admitted.{admitted}
use Rattle.links.proofs.laws.law_of_parts.Goals as goal

pub returns-clause-one : goal.returns-clause-one
returns-clause-one c = parts_once

pub returns-clause-admitted : goal.returns-clause-admitted
returns-clause-admitted c = admitted
