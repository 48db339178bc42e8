-- Examples of command lines, evaluated by clap's own definition.
use Rattle.std.proofs.Common.{◌≡◌, true, inl, inr, refl, ap, List, [], ◌∷◌, Option, Some, None, is_some, codes}
use Rattle.std.specs.Option.{option_map_or}
use Rattle.std.specs.Prelude.{option_map}
use Rattle.clap.specs.Words.{Row, Text, all_of, fault_of, first_of, subcommand_of, takes}
use Rattle.clap.specs.declared.error.kind.ErrorKind.TheVariants.{ArgumentConflict, DisplayHelp, DisplayHelpOnMissingArgumentOrSubcommand, InvalidValue, MissingRequiredArgument, UnknownArgument, ValueValidation}
use Rattle.clap.proofs.OnLiterals.{clap_on_literals}
use Rattle.tasks.specs.Tasks.{IsSecretFault, allowance_rule, at_rule, box_rule, clerk_rule, compare_app, connections_rule, desk_app, dir_rule, drop_app, east_rule, expires_rule, export_app, file_rule, host_rule, init_app, key_rule, line_rule, link_app, links_app, list_app, listen_rule, manifest_app, manifest_rule, method_rule, migrate_app, open_rule, patience_rule, region_rule, replay_app, room_rule, secret_file_rule, secret_rule, serve_app, start_rule, streams_rule, target_app, target_rule, west_rule, what_rule}

abbrev replay_words : List Text
replay_words = codes "drop" ∷ codes "replay" ∷ codes "memory:ID/SECRET" ∷ codes "row1.http" ∷ codes "--at" ∷ codes "20130524T000000Z" ∷ codes "row2.http" ∷ []

abbrev texts_in : Text × List Row → Text × Option Text × Option Text × Option (List Text)
texts_in p = (p.0, first_of (codes "file") p.1, first_of (codes "at") p.1, all_of (codes "stream") p.1)

words_are_taken : takes drop_app replay_words ≡ true
unfolding drop_app init_app desk_app target_app link_app links_app manifest_app compare_app list_app export_app replay_app serve_app migrate_app file_rule line_rule what_rule dir_rule box_rule streams_rule at_rule method_rule target_rule clerk_rule secret_rule secret_file_rule key_rule host_rule region_rule start_rule expires_rule east_rule west_rule allowance_rule listen_rule connections_rule patience_rule open_rule room_rule manifest_rule clap_on_literals
words_are_taken = refl

words_name_a_replay : option_map texts_in (subcommand_of drop_app replay_words)
    ≡ Some (codes "replay", Some (codes "memory:ID/SECRET"), Some (codes "20130524T000000Z"), Some (codes "row1.http" ∷ codes "row2.http" ∷ []))
unfolding drop_app init_app desk_app target_app link_app links_app manifest_app compare_app list_app export_app replay_app serve_app migrate_app file_rule line_rule what_rule dir_rule box_rule streams_rule at_rule method_rule target_rule clerk_rule secret_rule secret_file_rule key_rule host_rule region_rule start_rule expires_rule east_rule west_rule allowance_rule listen_rule connections_rule patience_rule open_rule room_rule manifest_rule clap_on_literals
words_name_a_replay = refl

no_fault : fault_of drop_app replay_words ≡ []
unfolding drop_app init_app desk_app target_app link_app links_app manifest_app compare_app list_app export_app replay_app serve_app migrate_app file_rule line_rule what_rule dir_rule box_rule streams_rule at_rule method_rule target_rule clerk_rule secret_rule secret_file_rule key_rule host_rule region_rule start_rule expires_rule east_rule west_rule allowance_rule listen_rule connections_rule patience_rule open_rule room_rule manifest_rule clap_on_literals
no_fault = refl

no_command : fault_of drop_app (codes "drop" ∷ []) ≡ DisplayHelpOnMissingArgumentOrSubcommand ∷ []
unfolding drop_app init_app desk_app target_app link_app links_app manifest_app compare_app list_app export_app replay_app serve_app migrate_app file_rule line_rule what_rule dir_rule box_rule streams_rule at_rule method_rule target_rule clerk_rule secret_rule secret_file_rule key_rule host_rule region_rule start_rule expires_rule east_rule west_rule allowance_rule listen_rule connections_rule patience_rule open_rule room_rule manifest_rule clap_on_literals
no_command = refl

no_moment : fault_of drop_app (codes "drop" ∷ codes "replay" ∷ codes "f" ∷ codes "s" ∷ []) ≡ MissingRequiredArgument ∷ []
unfolding drop_app init_app desk_app target_app link_app links_app manifest_app compare_app list_app export_app replay_app serve_app migrate_app file_rule line_rule what_rule dir_rule box_rule streams_rule at_rule method_rule target_rule clerk_rule secret_rule secret_file_rule key_rule host_rule region_rule start_rule expires_rule east_rule west_rule allowance_rule listen_rule connections_rule patience_rule open_rule room_rule manifest_rule clap_on_literals
no_moment = refl

no_stream : fault_of drop_app (codes "drop" ∷ codes "replay" ∷ codes "f" ∷ codes "--at" ∷ codes "m" ∷ []) ≡ MissingRequiredArgument ∷ []
unfolding drop_app init_app desk_app target_app link_app links_app manifest_app compare_app list_app export_app replay_app serve_app migrate_app file_rule line_rule what_rule dir_rule box_rule streams_rule at_rule method_rule target_rule clerk_rule secret_rule secret_file_rule key_rule host_rule region_rule start_rule expires_rule east_rule west_rule allowance_rule listen_rule connections_rule patience_rule open_rule room_rule manifest_rule clap_on_literals
no_stream = refl

help_asked : fault_of drop_app (codes "drop" ∷ codes "replay" ∷ codes "--help" ∷ []) ≡ DisplayHelp ∷ []
unfolding drop_app init_app desk_app target_app link_app links_app manifest_app compare_app list_app export_app replay_app serve_app migrate_app file_rule line_rule what_rule dir_rule box_rule streams_rule at_rule method_rule target_rule clerk_rule secret_rule secret_file_rule key_rule host_rule region_rule start_rule expires_rule east_rule west_rule allowance_rule listen_rule connections_rule patience_rule open_rule room_rule manifest_rule clap_on_literals
help_asked = refl

abbrev init_words : Text → List Text
init_words east = codes "drop" ∷ codes "init" ∷ codes "f" ∷ codes "--clerk" ∷ codes "k" ∷ codes "--secret" ∷ codes "s" ∷ codes "--east" ∷ east ∷ []

abbrev sides_in : Text × List Row → Text × Option Text × Option Text
sides_in p = (p.0, first_of (codes "east") p.1, first_of (codes "west") p.1)

words_name_an_init : option_map sides_in (subcommand_of drop_app (init_words (codes "60"))) ≡ Some (codes "init", Some (codes "60"), Some (codes "0"))
unfolding drop_app init_app desk_app target_app link_app links_app manifest_app compare_app list_app export_app replay_app serve_app migrate_app file_rule line_rule what_rule dir_rule box_rule streams_rule at_rule method_rule target_rule clerk_rule secret_rule secret_file_rule key_rule host_rule region_rule start_rule expires_rule east_rule west_rule allowance_rule listen_rule connections_rule patience_rule open_rule room_rule manifest_rule clap_on_literals
words_name_an_init = refl

fourteen_hours : fault_of drop_app (init_words (codes "840")) ≡ []
unfolding drop_app init_app desk_app target_app link_app links_app manifest_app compare_app list_app export_app replay_app serve_app migrate_app file_rule line_rule what_rule dir_rule box_rule streams_rule at_rule method_rule target_rule clerk_rule secret_rule secret_file_rule key_rule host_rule region_rule start_rule expires_rule east_rule west_rule allowance_rule listen_rule connections_rule patience_rule open_rule room_rule manifest_rule clap_on_literals
fourteen_hours = refl

more_than_fourteen_hours : fault_of drop_app (init_words (codes "841")) ≡ ValueValidation ∷ []
unfolding drop_app init_app desk_app target_app link_app links_app manifest_app compare_app list_app export_app replay_app serve_app migrate_app file_rule line_rule what_rule dir_rule box_rule streams_rule at_rule method_rule target_rule clerk_rule secret_rule secret_file_rule key_rule host_rule region_rule start_rule expires_rule east_rule west_rule allowance_rule listen_rule connections_rule patience_rule open_rule room_rule manifest_rule clap_on_literals
more_than_fourteen_hours = refl

abbrev allowing_words : Text → List Text
allowing_words seconds = codes "drop" ∷ codes "init" ∷ codes "f" ∷ codes "--clerk" ∷ codes "k" ∷ codes "--secret" ∷ codes "s" ∷ codes "--allowance" ∷ seconds ∷ []

abbrev allowance_in : Text × List Row → Text × Option Text × Option Text
allowance_in p = (p.0, first_of (codes "east") p.1, first_of (codes "allowance") p.1)

words_name_an_allowance : option_map allowance_in (subcommand_of drop_app (allowing_words (codes "900"))) ≡ Some (codes "init", Some (codes "0"), Some (codes "900"))
unfolding drop_app init_app desk_app target_app link_app links_app manifest_app compare_app list_app export_app replay_app serve_app migrate_app file_rule line_rule what_rule dir_rule box_rule streams_rule at_rule method_rule target_rule clerk_rule secret_rule secret_file_rule key_rule host_rule region_rule start_rule expires_rule east_rule west_rule allowance_rule listen_rule connections_rule patience_rule open_rule room_rule manifest_rule clap_on_literals
words_name_an_allowance = refl

no_allowance : option_map allowance_in (subcommand_of drop_app (init_words (codes "60"))) ≡ Some (codes "init", Some (codes "60"), Some (codes "0"))
unfolding drop_app init_app desk_app target_app link_app links_app manifest_app compare_app list_app export_app replay_app serve_app migrate_app file_rule line_rule what_rule dir_rule box_rule streams_rule at_rule method_rule target_rule clerk_rule secret_rule secret_file_rule key_rule host_rule region_rule start_rule expires_rule east_rule west_rule allowance_rule listen_rule connections_rule patience_rule open_rule room_rule manifest_rule clap_on_literals
no_allowance = refl

a_quarter_of_an_hour : fault_of drop_app (allowing_words (codes "900")) ≡ []
unfolding drop_app init_app desk_app target_app link_app links_app manifest_app compare_app list_app export_app replay_app serve_app migrate_app file_rule line_rule what_rule dir_rule box_rule streams_rule at_rule method_rule target_rule clerk_rule secret_rule secret_file_rule key_rule host_rule region_rule start_rule expires_rule east_rule west_rule allowance_rule listen_rule connections_rule patience_rule open_rule room_rule manifest_rule clap_on_literals
a_quarter_of_an_hour = refl

more_than_a_quarter_of_an_hour : fault_of drop_app (allowing_words (codes "901")) ≡ ValueValidation ∷ []
unfolding drop_app init_app desk_app target_app link_app links_app manifest_app compare_app list_app export_app replay_app serve_app migrate_app file_rule line_rule what_rule dir_rule box_rule streams_rule at_rule method_rule target_rule clerk_rule secret_rule secret_file_rule key_rule host_rule region_rule start_rule expires_rule east_rule west_rule allowance_rule listen_rule connections_rule patience_rule open_rule room_rule manifest_rule clap_on_literals
more_than_a_quarter_of_an_hour = refl

abbrev link_words : Text → List Text
link_words expires = codes "drop" ∷ codes "link" ∷ codes "f" ∷ codes "GET" ∷ codes "b/n" ∷ codes "--key" ∷ codes "k" ∷ codes "--host" ∷ codes "h" ∷ codes "--region" ∷ codes "r" ∷ codes "--start" ∷ codes "m" ∷ codes "--expires" ∷ expires ∷ []

abbrev order_in : Text × List Row → Text × Option Text × Option Text × Option Text
order_in p = (p.0, first_of (codes "method") p.1, first_of (codes "target") p.1, first_of (codes "expires") p.1)

words_name_a_link : option_map order_in (subcommand_of drop_app (link_words (codes "604800"))) ≡ Some (codes "link", Some (codes "GET"), Some (codes "b/n"), Some (codes "604800"))
unfolding drop_app init_app desk_app target_app link_app links_app manifest_app compare_app list_app export_app replay_app serve_app migrate_app file_rule line_rule what_rule dir_rule box_rule streams_rule at_rule method_rule target_rule clerk_rule secret_rule secret_file_rule key_rule host_rule region_rule start_rule expires_rule east_rule west_rule allowance_rule listen_rule connections_rule patience_rule open_rule room_rule manifest_rule clap_on_literals
words_name_a_link = refl

a_week : fault_of drop_app (link_words (codes "604800")) ≡ []
unfolding drop_app init_app desk_app target_app link_app links_app manifest_app compare_app list_app export_app replay_app serve_app migrate_app file_rule line_rule what_rule dir_rule box_rule streams_rule at_rule method_rule target_rule clerk_rule secret_rule secret_file_rule key_rule host_rule region_rule start_rule expires_rule east_rule west_rule allowance_rule listen_rule connections_rule patience_rule open_rule room_rule manifest_rule clap_on_literals
a_week = refl

more_than_a_week : fault_of drop_app (link_words (codes "604801")) ≡ ValueValidation ∷ []
unfolding drop_app init_app desk_app target_app link_app links_app manifest_app compare_app list_app export_app replay_app serve_app migrate_app file_rule line_rule what_rule dir_rule box_rule streams_rule at_rule method_rule target_rule clerk_rule secret_rule secret_file_rule key_rule host_rule region_rule start_rule expires_rule east_rule west_rule allowance_rule listen_rule connections_rule patience_rule open_rule room_rule manifest_rule clap_on_literals
more_than_a_week = refl

no_second : fault_of drop_app (link_words (codes "0")) ≡ ValueValidation ∷ []
unfolding drop_app init_app desk_app target_app link_app links_app manifest_app compare_app list_app export_app replay_app serve_app migrate_app file_rule line_rule what_rule dir_rule box_rule streams_rule at_rule method_rule target_rule clerk_rule secret_rule secret_file_rule key_rule host_rule region_rule start_rule expires_rule east_rule west_rule allowance_rule listen_rule connections_rule patience_rule open_rule room_rule manifest_rule clap_on_literals
no_second = refl

abbrev serve_words : Text → List Text
serve_words connections = codes "drop" ∷ codes "serve" ∷ codes "f" ∷ codes "--listen" ∷ codes "127.0.0.1:8080" ∷ codes "--connections" ∷ connections ∷ []

abbrev service_in : Text × List Row → Text × Option Text × Option Text × Option Text × Option Text
service_in p = (p.0, first_of (codes "listen") p.1, first_of (codes "connections") p.1, first_of (codes "patience") p.1, first_of (codes "open") p.1)

words_name_a_service : option_map service_in (subcommand_of drop_app (serve_words (codes "1000000")))
    ≡ Some (codes "serve", Some (codes "127.0.0.1:8080"), Some (codes "1000000"), Some (codes "30"), Some (codes "512"))
unfolding drop_app init_app desk_app target_app link_app links_app manifest_app compare_app list_app export_app replay_app serve_app migrate_app file_rule line_rule what_rule dir_rule box_rule streams_rule at_rule method_rule target_rule clerk_rule secret_rule secret_file_rule key_rule host_rule region_rule start_rule expires_rule east_rule west_rule allowance_rule listen_rule connections_rule patience_rule open_rule room_rule manifest_rule clap_on_literals
words_name_a_service = refl

a_million_connections : fault_of drop_app (serve_words (codes "1000000")) ≡ []
unfolding drop_app init_app desk_app target_app link_app links_app manifest_app compare_app list_app export_app replay_app serve_app migrate_app file_rule line_rule what_rule dir_rule box_rule streams_rule at_rule method_rule target_rule clerk_rule secret_rule secret_file_rule key_rule host_rule region_rule start_rule expires_rule east_rule west_rule allowance_rule listen_rule connections_rule patience_rule open_rule room_rule manifest_rule clap_on_literals
a_million_connections = refl

more_than_a_million : fault_of drop_app (serve_words (codes "1000001")) ≡ ValueValidation ∷ []
unfolding drop_app init_app desk_app target_app link_app links_app manifest_app compare_app list_app export_app replay_app serve_app migrate_app file_rule line_rule what_rule dir_rule box_rule streams_rule at_rule method_rule target_rule clerk_rule secret_rule secret_file_rule key_rule host_rule region_rule start_rule expires_rule east_rule west_rule allowance_rule listen_rule connections_rule patience_rule open_rule room_rule manifest_rule clap_on_literals
more_than_a_million = refl

more_than_an_hour : fault_of drop_app (codes "drop" ∷ codes "serve" ∷ codes "f" ∷ codes "--listen" ∷ codes "a" ∷ codes "--connections" ∷ codes "1" ∷ codes "--patience" ∷ codes "3601" ∷ []) ≡ ValueValidation ∷ []
unfolding drop_app init_app desk_app target_app link_app links_app manifest_app compare_app list_app export_app replay_app serve_app migrate_app file_rule line_rule what_rule dir_rule box_rule streams_rule at_rule method_rule target_rule clerk_rule secret_rule secret_file_rule key_rule host_rule region_rule start_rule expires_rule east_rule west_rule allowance_rule listen_rule connections_rule patience_rule open_rule room_rule manifest_rule clap_on_literals
more_than_an_hour = refl

abbrev open_words : Text → List Text
open_words number = codes "drop" ∷ codes "serve" ∷ codes "f" ∷ codes "--listen" ∷ codes "a" ∷ codes "--connections" ∷ codes "1" ∷ codes "--open" ∷ number ∷ []

most_are_open : fault_of drop_app (open_words (codes "4096")) ≡ []
unfolding drop_app init_app desk_app target_app link_app links_app manifest_app compare_app list_app export_app replay_app serve_app migrate_app file_rule line_rule what_rule dir_rule box_rule streams_rule at_rule method_rule target_rule clerk_rule secret_rule secret_file_rule key_rule host_rule region_rule start_rule expires_rule east_rule west_rule allowance_rule listen_rule connections_rule patience_rule open_rule room_rule manifest_rule clap_on_literals
most_are_open = refl

more_are_open : fault_of drop_app (open_words (codes "4097")) ≡ ValueValidation ∷ []
unfolding drop_app init_app desk_app target_app link_app links_app manifest_app compare_app list_app export_app replay_app serve_app migrate_app file_rule line_rule what_rule dir_rule box_rule streams_rule at_rule method_rule target_rule clerk_rule secret_rule secret_file_rule key_rule host_rule region_rule start_rule expires_rule east_rule west_rule allowance_rule listen_rule connections_rule patience_rule open_rule room_rule manifest_rule clap_on_literals
more_are_open = refl

none_is_open : fault_of drop_app (open_words (codes "0")) ≡ ValueValidation ∷ []
unfolding drop_app init_app desk_app target_app link_app links_app manifest_app compare_app list_app export_app replay_app serve_app migrate_app file_rule line_rule what_rule dir_rule box_rule streams_rule at_rule method_rule target_rule clerk_rule secret_rule secret_file_rule key_rule host_rule region_rule start_rule expires_rule east_rule west_rule allowance_rule listen_rule connections_rule patience_rule open_rule room_rule manifest_rule clap_on_literals
none_is_open = refl

abbrev room_words : Text → List Text
room_words megabytes = codes "drop" ∷ codes "serve" ∷ codes "f" ∷ codes "--listen" ∷ codes "a" ∷ codes "--connections" ∷ codes "1" ∷ codes "--room" ∷ megabytes ∷ []

most_room : fault_of drop_app (room_words (codes "1000000")) ≡ []
unfolding drop_app init_app desk_app target_app link_app links_app manifest_app compare_app list_app export_app replay_app serve_app migrate_app file_rule line_rule what_rule dir_rule box_rule streams_rule at_rule method_rule target_rule clerk_rule secret_rule secret_file_rule key_rule host_rule region_rule start_rule expires_rule east_rule west_rule allowance_rule listen_rule connections_rule patience_rule open_rule room_rule manifest_rule clap_on_literals
most_room = refl

more_room : fault_of drop_app (room_words (codes "1000001")) ≡ ValueValidation ∷ []
unfolding drop_app init_app desk_app target_app link_app links_app manifest_app compare_app list_app export_app replay_app serve_app migrate_app file_rule line_rule what_rule dir_rule box_rule streams_rule at_rule method_rule target_rule clerk_rule secret_rule secret_file_rule key_rule host_rule region_rule start_rule expires_rule east_rule west_rule allowance_rule listen_rule connections_rule patience_rule open_rule room_rule manifest_rule clap_on_literals
more_room = refl

no_room : fault_of drop_app (room_words (codes "0")) ≡ ValueValidation ∷ []
unfolding drop_app init_app desk_app target_app link_app links_app manifest_app compare_app list_app export_app replay_app serve_app migrate_app file_rule line_rule what_rule dir_rule box_rule streams_rule at_rule method_rule target_rule clerk_rule secret_rule secret_file_rule key_rule host_rule region_rule start_rule expires_rule east_rule west_rule allowance_rule listen_rule connections_rule patience_rule open_rule room_rule manifest_rule clap_on_literals
no_room = refl

-- the secret of init: as a word, in a file, neither and both
abbrev secret_words : List Text → List Text
secret_words more = codes "drop" ∷ codes "init" ∷ codes "f" ∷ codes "--clerk" ∷ codes "k" ∷ more

abbrev secrets_in : Text × List Row → Text × Option Text × Option Text
secrets_in p = (p.0, first_of (codes "secret") p.1, first_of (codes "secret-file") p.1)

abbrev given_word : List Text
given_word = codes "--secret" ∷ codes "s" ∷ []

abbrev given_file : List Text
given_file = codes "--secret-file" ∷ codes "p" ∷ []

abbrev given_both : List Text
given_both = codes "--secret-file" ∷ codes "p" ∷ codes "--secret" ∷ codes "s" ∷ []

words_give_a_secret : option_map secrets_in (subcommand_of drop_app (secret_words given_word)) ≡ Some (codes "init", Some (codes "s"), None)
unfolding drop_app init_app desk_app target_app link_app links_app manifest_app compare_app list_app export_app replay_app serve_app migrate_app file_rule line_rule what_rule dir_rule box_rule streams_rule at_rule method_rule target_rule clerk_rule secret_rule secret_file_rule key_rule host_rule region_rule start_rule expires_rule east_rule west_rule allowance_rule listen_rule connections_rule patience_rule open_rule room_rule manifest_rule clap_on_literals
words_give_a_secret = refl

words_name_its_file : option_map secrets_in (subcommand_of drop_app (secret_words given_file)) ≡ Some (codes "init", None, Some (codes "p"))
unfolding drop_app init_app desk_app target_app link_app links_app manifest_app compare_app list_app export_app replay_app serve_app migrate_app file_rule line_rule what_rule dir_rule box_rule streams_rule at_rule method_rule target_rule clerk_rule secret_rule secret_file_rule key_rule host_rule region_rule start_rule expires_rule east_rule west_rule allowance_rule listen_rule connections_rule patience_rule open_rule room_rule manifest_rule clap_on_literals
words_name_its_file = refl

words_give_none : option_map secrets_in (subcommand_of drop_app (secret_words [])) ≡ Some (codes "init", None, None)
unfolding drop_app init_app desk_app target_app link_app links_app manifest_app compare_app list_app export_app replay_app serve_app migrate_app file_rule line_rule what_rule dir_rule box_rule streams_rule at_rule method_rule target_rule clerk_rule secret_rule secret_file_rule key_rule host_rule region_rule start_rule expires_rule east_rule west_rule allowance_rule listen_rule connections_rule patience_rule open_rule room_rule manifest_rule clap_on_literals
words_give_none = refl

words_give_both : option_map secrets_in (subcommand_of drop_app (secret_words given_both)) ≡ Some (codes "init", Some (codes "s"), Some (codes "p"))
unfolding drop_app init_app desk_app target_app link_app links_app manifest_app compare_app list_app export_app replay_app serve_app migrate_app file_rule line_rule what_rule dir_rule box_rule streams_rule at_rule method_rule target_rule clerk_rule secret_rule secret_file_rule key_rule host_rule region_rule start_rule expires_rule east_rule west_rule allowance_rule listen_rule connections_rule patience_rule open_rule room_rule manifest_rule clap_on_literals
words_give_both = refl

-- clap accepts the words of all four
clap_takes_a_file : takes drop_app (secret_words given_file) ≡ true
unfolding drop_app init_app desk_app target_app link_app links_app manifest_app compare_app list_app export_app replay_app serve_app migrate_app file_rule line_rule what_rule dir_rule box_rule streams_rule at_rule method_rule target_rule clerk_rule secret_rule secret_file_rule key_rule host_rule region_rule start_rule expires_rule east_rule west_rule allowance_rule listen_rule connections_rule patience_rule open_rule room_rule manifest_rule clap_on_literals
clap_takes_a_file = refl

clap_takes_none : fault_of drop_app (secret_words []) ≡ []
unfolding drop_app init_app desk_app target_app link_app links_app manifest_app compare_app list_app export_app replay_app serve_app migrate_app file_rule line_rule what_rule dir_rule box_rule streams_rule at_rule method_rule target_rule clerk_rule secret_rule secret_file_rule key_rule host_rule region_rule start_rule expires_rule east_rule west_rule allowance_rule listen_rule connections_rule patience_rule open_rule room_rule manifest_rule clap_on_literals
clap_takes_none = refl

clap_takes_both : fault_of drop_app (secret_words given_both) ≡ []
unfolding drop_app init_app desk_app target_app link_app links_app manifest_app compare_app list_app export_app replay_app serve_app migrate_app file_rule line_rule what_rule dir_rule box_rule streams_rule at_rule method_rule target_rule clerk_rule secret_rule secret_file_rule key_rule host_rule region_rule start_rule expires_rule east_rule west_rule allowance_rule listen_rule connections_rule patience_rule open_rule room_rule manifest_rule clap_on_literals
clap_takes_both = refl

no_value_of_a_file : fault_of drop_app (secret_words (codes "--secret-file" ∷ [])) ≡ InvalidValue ∷ []
unfolding drop_app init_app desk_app target_app link_app links_app manifest_app compare_app list_app export_app replay_app serve_app migrate_app file_rule line_rule what_rule dir_rule box_rule streams_rule at_rule method_rule target_rule clerk_rule secret_rule secret_file_rule key_rule host_rule region_rule start_rule expires_rule east_rule west_rule allowance_rule listen_rule connections_rule patience_rule open_rule room_rule manifest_rule clap_on_literals
no_value_of_a_file = refl

-- the last two are refused
abbrev Given : Type 0
Given = Option (Text × Option Text × Option Text)

none_refused : (named : Option (Text × List Row)) → option_map secrets_in named ≡ Some (codes "init", None, None) → IsSecretFault named MissingRequiredArgument
none_refused None is = let bad : ⊥ = cc in absurd bad
none_refused (Some (name, rows)) is =
    let called : name ≡ codes "init" = ap (λ (o : Given). option_map_or (λ p. p.0) o name) is in
    let word : first_of (codes "secret") rows ≡ None = ap (λ (o : Given). option_map_or (λ p. p.1) o (first_of (codes "secret") rows)) is in
    let file : first_of (codes "secret-file") rows ≡ None = ap (λ (o : Given). option_map_or (λ p. p.2) o (first_of (codes "secret-file") rows)) is in
    inl ((rows, ap (λ (n : Text). Some (n, rows)) called, word, file), refl)

both_refused : (named : Option (Text × List Row)) → option_map secrets_in named ≡ Some (codes "init", Some (codes "s"), Some (codes "p")) → IsSecretFault named ArgumentConflict
both_refused None is = let bad : ⊥ = cc in absurd bad
both_refused (Some (name, rows)) is =
    let called : name ≡ codes "init" = ap (λ (o : Given). option_map_or (λ p. p.0) o name) is in
    let word : first_of (codes "secret") rows ≡ Some (codes "s") = ap (λ (o : Given). option_map_or (λ p. p.1) o (first_of (codes "secret") rows)) is in
    let file : first_of (codes "secret-file") rows ≡ Some (codes "p") = ap (λ (o : Given). option_map_or (λ p. p.2) o (first_of (codes "secret-file") rows)) is in
    inr ((rows, ap (λ (n : Text). Some (n, rows)) called, ap is_some word, ap is_some file), refl)

none_is_a_fault : IsSecretFault (subcommand_of drop_app (secret_words [])) MissingRequiredArgument
none_is_a_fault = none_refused (subcommand_of drop_app (secret_words [])) words_give_none

both_are_a_fault : IsSecretFault (subcommand_of drop_app (secret_words given_both)) ArgumentConflict
both_are_a_fault = both_refused (subcommand_of drop_app (secret_words given_both)) words_give_both

-- a line of the desk is one word
abbrev desk_words : List Text → List Text
desk_words more = codes "drop" ∷ codes "desk" ∷ codes "f" ∷ more

abbrev desk_in : Text × List Row → Text × Option Text × Option Text
desk_in p = (p.0, first_of (codes "file") p.1, first_of (codes "line") p.1)

words_name_the_desk : option_map desk_in (subcommand_of drop_app (desk_words (codes "key revoke tender-2" ∷ []))) ≡ Some (codes "desk", Some (codes "f"), Some (codes "key revoke tender-2"))
unfolding drop_app init_app desk_app target_app link_app links_app manifest_app compare_app list_app export_app replay_app serve_app migrate_app file_rule line_rule what_rule dir_rule box_rule streams_rule at_rule method_rule target_rule clerk_rule secret_rule secret_file_rule key_rule host_rule region_rule start_rule expires_rule east_rule west_rule allowance_rule listen_rule connections_rule patience_rule open_rule room_rule manifest_rule clap_on_literals
words_name_the_desk = refl

one_line : fault_of drop_app (desk_words (codes "key revoke tender-2" ∷ [])) ≡ []
unfolding drop_app init_app desk_app target_app link_app links_app manifest_app compare_app list_app export_app replay_app serve_app migrate_app file_rule line_rule what_rule dir_rule box_rule streams_rule at_rule method_rule target_rule clerk_rule secret_rule secret_file_rule key_rule host_rule region_rule start_rule expires_rule east_rule west_rule allowance_rule listen_rule connections_rule patience_rule open_rule room_rule manifest_rule clap_on_literals
one_line = refl

no_line : fault_of drop_app (desk_words []) ≡ MissingRequiredArgument ∷ []
unfolding drop_app init_app desk_app target_app link_app links_app manifest_app compare_app list_app export_app replay_app serve_app migrate_app file_rule line_rule what_rule dir_rule box_rule streams_rule at_rule method_rule target_rule clerk_rule secret_rule secret_file_rule key_rule host_rule region_rule start_rule expires_rule east_rule west_rule allowance_rule listen_rule connections_rule patience_rule open_rule room_rule manifest_rule clap_on_literals
no_line = refl

a_line_without_quotes : fault_of drop_app (desk_words (codes "key" ∷ codes "revoke" ∷ codes "tender-2" ∷ [])) ≡ UnknownArgument ∷ []
unfolding drop_app init_app desk_app target_app link_app links_app manifest_app compare_app list_app export_app replay_app serve_app migrate_app file_rule line_rule what_rule dir_rule box_rule streams_rule at_rule method_rule target_rule clerk_rule secret_rule secret_file_rule key_rule host_rule region_rule start_rule expires_rule east_rule west_rule allowance_rule listen_rule connections_rule patience_rule open_rule room_rule manifest_rule clap_on_literals
a_line_without_quotes = refl

-- many links, a manifest, and comparing one
abbrev links_words : List Text → List Text
links_words more = codes "drop" ∷ codes "links" ∷ codes "f" ∷ codes "--key" ∷ codes "k" ∷ codes "--host" ∷ codes "h" ∷ more

abbrev signing_in : Text × List Row → Text × Option Text × Option Text × Option Text × Option Text
signing_in p = (p.0, first_of (codes "file") p.1, first_of (codes "key") p.1, first_of (codes "host") p.1, first_of (codes "region") p.1)

words_name_many_links : option_map signing_in (subcommand_of drop_app (links_words (codes "--region" ∷ codes "r" ∷ []))) ≡ Some (codes "links", Some (codes "f"), Some (codes "k"), Some (codes "h"), Some (codes "r"))
unfolding drop_app init_app desk_app target_app link_app links_app manifest_app compare_app list_app export_app replay_app serve_app migrate_app file_rule line_rule what_rule dir_rule box_rule streams_rule at_rule method_rule target_rule clerk_rule secret_rule secret_file_rule key_rule host_rule region_rule start_rule expires_rule east_rule west_rule allowance_rule listen_rule connections_rule patience_rule open_rule room_rule manifest_rule clap_on_literals
words_name_many_links = refl

no_region : fault_of drop_app (links_words []) ≡ MissingRequiredArgument ∷ []
unfolding drop_app init_app desk_app target_app link_app links_app manifest_app compare_app list_app export_app replay_app serve_app migrate_app file_rule line_rule what_rule dir_rule box_rule streams_rule at_rule method_rule target_rule clerk_rule secret_rule secret_file_rule key_rule host_rule region_rule start_rule expires_rule east_rule west_rule allowance_rule listen_rule connections_rule patience_rule open_rule room_rule manifest_rule clap_on_literals
no_region = refl

abbrev file_in : Text × List Row → Text × Option Text
file_in p = (p.0, first_of (codes "file") p.1)

words_name_a_manifest : option_map file_in (subcommand_of drop_app (codes "drop" ∷ codes "manifest" ∷ codes "f" ∷ [])) ≡ Some (codes "manifest", Some (codes "f"))
unfolding drop_app init_app desk_app target_app link_app links_app manifest_app compare_app list_app export_app replay_app serve_app migrate_app file_rule line_rule what_rule dir_rule box_rule streams_rule at_rule method_rule target_rule clerk_rule secret_rule secret_file_rule key_rule host_rule region_rule start_rule expires_rule east_rule west_rule allowance_rule listen_rule connections_rule patience_rule open_rule room_rule manifest_rule clap_on_literals
words_name_a_manifest = refl

words_name_a_comparison : option_map file_in (subcommand_of drop_app (codes "drop" ∷ codes "compare" ∷ codes "f" ∷ [])) ≡ Some (codes "compare", Some (codes "f"))
unfolding drop_app init_app desk_app target_app link_app links_app manifest_app compare_app list_app export_app replay_app serve_app migrate_app file_rule line_rule what_rule dir_rule box_rule streams_rule at_rule method_rule target_rule clerk_rule secret_rule secret_file_rule key_rule host_rule region_rule start_rule expires_rule east_rule west_rule allowance_rule listen_rule connections_rule patience_rule open_rule room_rule manifest_rule clap_on_literals
words_name_a_comparison = refl

no_office : fault_of drop_app (codes "drop" ∷ codes "manifest" ∷ []) ≡ MissingRequiredArgument ∷ []
unfolding drop_app init_app desk_app target_app link_app links_app manifest_app compare_app list_app export_app replay_app serve_app migrate_app file_rule line_rule what_rule dir_rule box_rule streams_rule at_rule method_rule target_rule clerk_rule secret_rule secret_file_rule key_rule host_rule region_rule start_rule expires_rule east_rule west_rule allowance_rule listen_rule connections_rule patience_rule open_rule room_rule manifest_rule clap_on_literals
no_office = refl

-- a migration of a file
words_name_a_migration : option_map file_in (subcommand_of drop_app (codes "drop" ∷ codes "migrate" ∷ codes "f" ∷ [])) ≡ Some (codes "migrate", Some (codes "f"))
unfolding drop_app init_app desk_app target_app link_app links_app manifest_app compare_app list_app export_app replay_app serve_app migrate_app file_rule line_rule what_rule dir_rule box_rule streams_rule at_rule method_rule target_rule clerk_rule secret_rule secret_file_rule key_rule host_rule region_rule start_rule expires_rule east_rule west_rule allowance_rule listen_rule connections_rule patience_rule open_rule room_rule manifest_rule clap_on_literals
words_name_a_migration = refl

no_file_to_migrate : fault_of drop_app (codes "drop" ∷ codes "migrate" ∷ []) ≡ MissingRequiredArgument ∷ []
unfolding drop_app init_app desk_app target_app link_app links_app manifest_app compare_app list_app export_app replay_app serve_app migrate_app file_rule line_rule what_rule dir_rule box_rule streams_rule at_rule method_rule target_rule clerk_rule secret_rule secret_file_rule key_rule host_rule region_rule start_rule expires_rule east_rule west_rule allowance_rule listen_rule connections_rule patience_rule open_rule room_rule manifest_rule clap_on_literals
no_file_to_migrate = refl
