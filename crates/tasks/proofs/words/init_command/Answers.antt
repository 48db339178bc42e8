use Rattle.tasks.specs.Tasks.{init_app, file_rule, clerk_rule, secret_rule, secret_file_rule, east_rule, west_rule, allowance_rule}
use Rattle.tasks.specs.Building.{app_in}
use Rattle.tasks.proofs.words.init_command.Goals as goal

pub returns : goal.returns
unfolding app_in init_app file_rule clerk_rule secret_rule secret_file_rule east_rule west_rule allowance_rule
returns c = c.built.ensures
