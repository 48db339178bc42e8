use Rattle.office.proofs.Placing.{cut_place, whole_place}
use Rattle.office.proofs.requests.places.read_place.Goals as goal

pub returns-in-Some : goal.returns-in-Some
returns-in-Some c = cut_place c.args.path.now c.behind_first-rest.result.now c.in-Some.in_box.now c.in-Some.name.now c.behind_first-rest.ensures c.in-Some.ensures.0 c.in-Some.ensures.1

pub returns-in-None : goal.returns-in-None
returns-in-None c = whole_place c.args.path.now c.behind_first-rest.result.now c.behind_first-rest.ensures c.in-None.ensures
