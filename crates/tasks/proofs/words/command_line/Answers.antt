use Rattle.tasks.specs.Tasks.{drop_app, init_app, desk_app, target_app, link_app, links_app, manifest_app, compare_app, list_app, export_app, replay_app, serve_app, migrate_app, file_rule, streams_rule, at_rule, line_rule, method_rule, target_rule, what_rule, dir_rule, box_rule, clerk_rule, key_rule, host_rule, region_rule, start_rule, secret_rule, secret_file_rule, expires_rule, listen_rule, connections_rule, patience_rule, open_rule, room_rule, manifest_rule, east_rule, west_rule, allowance_rule}
use Rattle.tasks.specs.Building.{app_in}
use Rattle.tasks.proofs.words.command_line.Goals as goal

pub returns : goal.returns
unfolding app_in drop_app init_app desk_app target_app link_app links_app manifest_app compare_app list_app export_app replay_app serve_app migrate_app file_rule streams_rule at_rule line_rule method_rule target_rule what_rule dir_rule box_rule clerk_rule key_rule host_rule region_rule start_rule secret_rule secret_file_rule expires_rule listen_rule connections_rule patience_rule open_rule room_rule manifest_rule east_rule west_rule allowance_rule
returns c = c.with_commands.ensures _ c.bare_line.ensures
