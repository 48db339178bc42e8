use Rattle.links.proofs.OnlyLink.{only_link}
use Rattle.links.proofs.ReadBack.{told_back, read_back}
use Rattle.links.proofs.laws.law_of_links.Goals as goal

pub returns-clause-only : goal.returns-clause-only
returns-clause-only c = only_link

pub returns-clause-told_back : goal.returns-clause-told_back
returns-clause-told_back c = told_back

pub returns-clause-read_back : goal.returns-clause-read_back
returns-clause-read_back c = read_back
