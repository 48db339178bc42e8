use Rattle.std.proofs.Common.{arith}
use Rattle.boxes.proofs.uploads.check_place.Goals as goal

pub returns-then-eq : goal.returns-then-eq
returns-then-eq c = grind arith

pub returns-then-not-open_at : goal.returns-then-not-open_at
returns-then-not-open_at c = grind arith

pub returns-then-view-row : goal.returns-then-view-row
returns-then-view-row c = grind arith
