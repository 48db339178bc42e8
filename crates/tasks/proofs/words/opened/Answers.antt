use Rattle.std.proofs.Common.{arith}
use Rattle.tasks.proofs.words.opened.Goals as goal

pub about-command-requires-text-text : goal.about-command-requires-text-text
about-command-requires-text-text c = grind arith

pub new-requires-text-name : goal.new-requires-text-name
new-requires-text-name c = grind arith

pub returns-in-After : goal.returns-in-After
returns-in-After c = grind arith

pub returns-in-Nothing : goal.returns-in-Nothing
returns-in-Nothing c = grind arith

pub returns-in-Usage : goal.returns-in-Usage
returns-in-Usage c = grind arith
