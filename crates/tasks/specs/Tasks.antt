-- The command line of the program, as clap parses it, and the task that its words name.
use Rattle.std.specs.Prelude.{◌≡◌, ◌⊎◌, [], ◌∷◌, List, codes, map, option_map, Option, Some, None, is_some, true}
use Rattle.clap.specs.Lexer.{usize_max}
use Rattle.clap.specs.Words.{App, IsAmong, Row, Rule, Text, all_of, fault_of, first_of, new_app, new_rule, subcommand_of, with_rule, with_subcommand}
use Rattle.clap.specs.Simple.{on_top}
use Rattle.clap.specs.declared.builder.value_parser.ValueParser.TheVariants.{Unsigned}
use Rattle.clap.specs.declared.error.kind.ErrorKind.{ErrorKind}
use Rattle.clap.specs.declared.error.kind.ErrorKind.TheVariants.{ArgumentConflict, MissingRequiredArgument}
use Rattle.tasks.specs.declared.task.Desk.{Desk}
use Rattle.tasks.specs.declared.task.Export.{Export}
use Rattle.tasks.specs.declared.task.Init.{Init}
use Rattle.tasks.specs.declared.task.Link.{Link}
use Rattle.tasks.specs.declared.task.Links.{Links}
use Rattle.tasks.specs.declared.task.Listing.{Listing}
use Rattle.tasks.specs.declared.task.OfficeFile.{OfficeFile}
use Rattle.tasks.specs.declared.task.Replay.{Replay}
use Rattle.tasks.specs.declared.task.Secret.{Secret}
use Rattle.tasks.specs.declared.task.Secret.TheVariants as secret
use Rattle.tasks.specs.declared.task.Serve.{Serve}
use Rattle.tasks.specs.declared.task.Task.{Task}
use Rattle.tasks.specs.declared.task.Task.TheVariants as task

-- ---- the words of the commands; the help has one name for each value

-- FILE and the like
abbrev pub word_rule : Text → Rule
word_rule id = record (new_rule id) { value_names = 1; required = true }

-- --at MOMENT and the like
abbrev pub option_rule : Text → Rule
option_rule id = record (new_rule id) { long = Some id; value_names = 1; required = true }

-- --secret SECRET and the like, which are optional
abbrev pub optional_rule : Text → Rule
optional_rule id = record (new_rule id) { long = Some id; value_names = 1 }

-- FILE
unfoldable pub file_rule : Rule
file_rule = word_rule (codes "file")

-- STREAM.., at least one
unfoldable pub streams_rule : Rule
streams_rule = record (word_rule (codes "stream")) { range = Some (record { start_inclusive = 1; end_inclusive = usize_max }) }

-- --at MOMENT
unfoldable pub at_rule : Rule
at_rule = option_rule (codes "at")

-- LINE
unfoldable pub line_rule : Rule
line_rule = word_rule (codes "line")

-- METHOD, TARGET
unfoldable pub method_rule : Rule
method_rule = word_rule (codes "method")

unfoldable pub target_rule : Rule
target_rule = word_rule (codes "target")

-- WHAT, DIR
unfoldable pub what_rule : Rule
what_rule = word_rule (codes "what")

unfoldable pub dir_rule : Rule
dir_rule = word_rule (codes "dir")

-- --box NAME, optional
unfoldable pub box_rule : Rule
box_rule = optional_rule (codes "box")

-- --clerk ID, --key ID, --host H, --region R, --start MOMENT
unfoldable pub clerk_rule : Rule
clerk_rule = option_rule (codes "clerk")

unfoldable pub key_rule : Rule
key_rule = option_rule (codes "key")

unfoldable pub host_rule : Rule
host_rule = option_rule (codes "host")

unfoldable pub region_rule : Rule
region_rule = option_rule (codes "region")

unfoldable pub start_rule : Rule
start_rule = option_rule (codes "start")

-- --secret SECRET and --secret-file SECRETFILE. clap does not know that exactly one of them is required;
-- Task::read checks it.
unfoldable pub secret_rule : Rule
secret_rule = optional_rule (codes "secret")

unfoldable pub secret_file_rule : Rule
secret_file_rule = optional_rule (codes "secret-file")

-- --expires N, a whole number from 1 to 604800
unfoldable pub expires_rule : Rule
expires_rule = record (option_rule (codes "expires")) { parser = Some (Unsigned 1 604800) }

-- --listen ADDR
unfoldable pub listen_rule : Rule
listen_rule = option_rule (codes "listen")

-- --connections N, a whole number from 1 to 1000000
unfoldable pub connections_rule : Rule
connections_rule = record (option_rule (codes "connections")) { parser = Some (Unsigned 1 1000000) }

-- --patience SECONDS, a whole number from 0 to 3600, 30 by default
unfoldable pub patience_rule : Rule
patience_rule = record (new_rule (codes "patience")) { long = Some (codes "patience"); value_names = 1; defaults = codes "30" ∷ []; parser = Some (Unsigned 0 3600) }

-- --open N, a whole number from 1 to 4096, 512 by default
unfoldable pub open_rule : Rule
open_rule = record (new_rule (codes "open")) { long = Some (codes "open"); value_names = 1; defaults = codes "512" ∷ []; parser = Some (Unsigned 1 4096) }

-- --room MB, a whole number from 1 to 1000000, optional
unfoldable pub room_rule : Rule
room_rule = record (optional_rule (codes "room")) { parser = Some (Unsigned 1 1000000) }

-- --manifest OUT, optional
unfoldable pub manifest_rule : Rule
manifest_rule = optional_rule (codes "manifest")

-- --east M and --west M, whole numbers from 0 to 840, 0 by default
abbrev pub minutes_rule : Text → Rule
minutes_rule id = record (new_rule id) { long = Some id; value_names = 1; defaults = codes "0" ∷ []; parser = Some (Unsigned 0 840) }

unfoldable pub east_rule : Rule
east_rule = minutes_rule (codes "east")

unfoldable pub west_rule : Rule
west_rule = minutes_rule (codes "west")

-- --allowance N, a whole number from 0 to 900, 0 by default
unfoldable pub allowance_rule : Rule
allowance_rule = record (new_rule (codes "allowance")) { long = Some (codes "allowance"); value_names = 1; defaults = codes "0" ∷ []; parser = Some (Unsigned 0 900) }

-- ---- the commands

-- init FILE --clerk ID
abbrev pub clerk_app : App
clerk_app = with_rule (with_rule (new_app (codes "init")) file_rule) clerk_rule

-- init FILE --clerk ID --secret SECRET --secret-file SECRETFILE --east M --west M --allowance N
unfoldable pub init_app : App
init_app = with_rule (with_rule (with_rule (with_rule (with_rule clerk_app secret_rule) secret_file_rule) east_rule) west_rule) allowance_rule

-- desk FILE LINE
unfoldable pub desk_app : App
desk_app = with_rule (with_rule (new_app (codes "desk")) file_rule) line_rule

-- FILE METHOD TARGET
unfoldable pub target_app : App
target_app = with_rule (with_rule (with_rule (new_app (codes "link")) file_rule) method_rule) target_rule

-- link FILE METHOD TARGET --key ID --host H --region R --start MOMENT --expires N
unfoldable pub link_app : App
link_app = with_rule (with_rule (with_rule (with_rule (with_rule target_app key_rule) host_rule) region_rule) start_rule) expires_rule

-- links FILE --key ID --host H --region R
unfoldable pub links_app : App
links_app = with_rule (with_rule (with_rule (with_rule (new_app (codes "links")) file_rule) key_rule) host_rule) region_rule

-- manifest FILE
unfoldable pub manifest_app : App
manifest_app = with_rule (new_app (codes "manifest")) file_rule

-- compare FILE
unfoldable pub compare_app : App
compare_app = with_rule (new_app (codes "compare")) file_rule

-- list FILE WHAT
unfoldable pub list_app : App
list_app = with_rule (with_rule (new_app (codes "list")) file_rule) what_rule

-- export FILE DIR --box NAME
unfoldable pub export_app : App
export_app = with_rule (with_rule (with_rule (new_app (codes "export")) file_rule) dir_rule) box_rule

-- replay FILE STREAM.. --at MOMENT
unfoldable pub replay_app : App
replay_app = with_rule (with_rule (with_rule (new_app (codes "replay")) file_rule) streams_rule) at_rule

-- serve FILE --listen ADDR --connections N --patience SECONDS --open N --room MB --manifest OUT
unfoldable pub serve_app : App
serve_app =
    let with_bounds = with_rule (with_rule (with_rule (new_app (codes "serve")) file_rule) listen_rule) connections_rule in
    with_rule (with_rule (with_rule (with_rule with_bounds patience_rule) open_rule) room_rule) manifest_rule

-- migrate FILE
unfoldable pub migrate_app : App
migrate_app = with_rule (new_app (codes "migrate")) file_rule

-- drop without its commands; it shows help if no word follows, and can show its version
abbrev pub bare_app : App
bare_app = on_top (λ s. record s { subcommand_required = true; arg_required_else_help = true; has_version = true }) (new_app (codes "drop"))

-- this with the commands that make an office, run lines of its desk and sign links
abbrev pub with_desk_commands : App → App
with_desk_commands app =
    let with_desk = with_subcommand (with_subcommand app init_app.top) desk_app.top in
    with_subcommand (with_subcommand with_desk link_app.top) links_app.top

-- this with the commands that list what an office holds, and write its files
abbrev pub with_list_commands : App → App
with_list_commands app =
    let with_manifests = with_subcommand (with_subcommand app manifest_app.top) compare_app.top in
    with_subcommand (with_subcommand with_manifests list_app.top) export_app.top

-- this with the commands that answer requests, and that migrate an office file
abbrev pub with_server_commands : App → App
with_server_commands app = with_subcommand (with_subcommand (with_subcommand app replay_app.top) serve_app.top) migrate_app.top

-- drop COMMAND
unfoldable pub drop_app : App
drop_app = with_server_commands (with_list_commands (with_desk_commands bare_app))

-- ---- the values in the matches

-- the matches contain this secret, and not the other kind
abbrev pub IsSecretIn : List Row → Secret → Type 0
IsSecretIn rows (secret.Given text) = (first_of (codes "secret") rows ≡ Some text.now) × (first_of (codes "secret-file") rows ≡ None)
IsSecretIn rows (secret.InFile name) = (first_of (codes "secret") rows ≡ None) × (first_of (codes "secret-file") rows ≡ Some name.now)

-- the matches contain these values
abbrev pub IsInitOf : List Row → Init → Type 0
IsInitOf rows i =
    (first_of (codes "file") rows ≡ Some i.file.now)
    × (first_of (codes "clerk") rows ≡ Some i.clerk.now)
    × IsSecretIn rows i.secret
    × (first_of (codes "east") rows ≡ Some i.east.now)
    × (first_of (codes "west") rows ≡ Some i.west.now)
    × (first_of (codes "allowance") rows ≡ Some i.allowance.now)

abbrev pub IsDeskIn : List Row → Desk → Type 0
IsDeskIn rows d =
    (first_of (codes "file") rows ≡ Some d.file.now)
    × (first_of (codes "line") rows ≡ Some d.line.now)

abbrev pub IsLinkIn : List Row → Link → Type 0
IsLinkIn rows l =
    (first_of (codes "file") rows ≡ Some l.file.now)
    × (first_of (codes "method") rows ≡ Some l.method.now)
    × (first_of (codes "target") rows ≡ Some l.target.now)
    × (first_of (codes "key") rows ≡ Some l.key.now)
    × (first_of (codes "host") rows ≡ Some l.host.now)
    × (first_of (codes "region") rows ≡ Some l.region.now)
    × (first_of (codes "start") rows ≡ Some l.start.now)
    × (first_of (codes "expires") rows ≡ Some l.expires.now)

abbrev pub IsLinksIn : List Row → Links → Type 0
IsLinksIn rows l =
    (first_of (codes "file") rows ≡ Some l.file.now)
    × (first_of (codes "key") rows ≡ Some l.key.now)
    × (first_of (codes "host") rows ≡ Some l.host.now)
    × (first_of (codes "region") rows ≡ Some l.region.now)

abbrev pub IsOfficeIn : List Row → OfficeFile → Type 0
IsOfficeIn rows o = first_of (codes "file") rows ≡ Some o.file.now

abbrev pub IsListingIn : List Row → Listing → Type 0
IsListingIn rows l =
    (first_of (codes "file") rows ≡ Some l.file.now)
    × (first_of (codes "what") rows ≡ Some l.what.now)

-- an argument that was not given has no value
abbrev pub IsExportIn : List Row → Export → Type 0
IsExportIn rows e =
    (first_of (codes "file") rows ≡ Some e.file.now)
    × (first_of (codes "dir") rows ≡ Some e.folder.now)
    × (first_of (codes "box") rows ≡ option_map (λ b. b.now) e.in_box)

abbrev pub IsReplayOf : List Row → Replay → Type 0
IsReplayOf rows r =
    (first_of (codes "file") rows ≡ Some r.file.now)
    × (first_of (codes "at") rows ≡ Some r.at.now)
    × (all_of (codes "stream") rows ≡ Some (map (λ s. s.now) r.streams.items))

abbrev pub IsServeIn : List Row → Serve → Type 0
IsServeIn rows s =
    (first_of (codes "file") rows ≡ Some s.file.now)
    × (first_of (codes "listen") rows ≡ Some s.listen.now)
    × (first_of (codes "connections") rows ≡ Some s.connections.now)
    × (first_of (codes "patience") rows ≡ Some s.patience.now)
    × (first_of (codes "open") rows ≡ Some s.open.now)
    × (first_of (codes "room") rows ≡ option_map (λ m. m.now) s.room)
    × (first_of (codes "manifest") rows ≡ option_map (λ m. m.now) s.manifest)

-- the matches contain a value for this argument
abbrev pub HasValue : Text → List Row → Type 0
HasValue id rows = is_some (first_of id rows) ≡ true

-- the matches contain exactly one secret, as a word or in a file
abbrev pub HasOneSecret : List Row → Type 0
HasOneSecret rows =
    (HasValue (codes "secret") rows × (first_of (codes "secret-file") rows ≡ None)) ⊎ ((first_of (codes "secret") rows ≡ None) × HasValue (codes "secret-file") rows)

-- the matches contain each value
abbrev pub HasInit : List Row → Type 0
HasInit rows =
    HasValue (codes "file") rows × HasValue (codes "clerk") rows × HasOneSecret rows × HasValue (codes "east") rows × HasValue (codes "west") rows
    × HasValue (codes "allowance") rows

abbrev pub HasDesk : List Row → Type 0
HasDesk rows = HasValue (codes "file") rows × HasValue (codes "line") rows

abbrev pub HasLink : List Row → Type 0
HasLink rows =
    HasValue (codes "file") rows × HasValue (codes "method") rows × HasValue (codes "target") rows × HasValue (codes "key") rows
    × HasValue (codes "host") rows × HasValue (codes "region") rows × HasValue (codes "start") rows × HasValue (codes "expires") rows

abbrev pub HasLinks : List Row → Type 0
HasLinks rows =
    HasValue (codes "file") rows × HasValue (codes "key") rows × HasValue (codes "host") rows × HasValue (codes "region") rows

abbrev pub HasListing : List Row → Type 0
HasListing rows = HasValue (codes "file") rows × HasValue (codes "what") rows

abbrev pub HasExport : List Row → Type 0
HasExport rows = HasValue (codes "file") rows × HasValue (codes "dir") rows

abbrev pub HasReplay : List Row → Type 0
HasReplay rows =
    HasValue (codes "file") rows × HasValue (codes "at") rows × (is_some (all_of (codes "stream") rows) ≡ true)

abbrev pub HasServe : List Row → Type 0
HasServe rows =
    HasValue (codes "file") rows × HasValue (codes "listen") rows × HasValue (codes "connections") rows × HasValue (codes "patience") rows
    × HasValue (codes "open") rows

-- ---- the task

-- the command that the words name, with its matches, is this task
abbrev pub IsTaskIn : Option (Text × List Row) → Task → Type 0
IsTaskIn named (task.Init i) = (rows : List Row) × (named ≡ Some (codes "init", rows)) × IsInitOf rows i
IsTaskIn named (task.Desk d) = (rows : List Row) × (named ≡ Some (codes "desk", rows)) × IsDeskIn rows d
IsTaskIn named (task.Link l) = (rows : List Row) × (named ≡ Some (codes "link", rows)) × IsLinkIn rows l
IsTaskIn named (task.Links l) = (rows : List Row) × (named ≡ Some (codes "links", rows)) × IsLinksIn rows l
IsTaskIn named (task.Manifest o) = (rows : List Row) × (named ≡ Some (codes "manifest", rows)) × IsOfficeIn rows o
IsTaskIn named (task.Compare o) = (rows : List Row) × (named ≡ Some (codes "compare", rows)) × IsOfficeIn rows o
IsTaskIn named (task.List l) = (rows : List Row) × (named ≡ Some (codes "list", rows)) × IsListingIn rows l
IsTaskIn named (task.Export e) = (rows : List Row) × (named ≡ Some (codes "export", rows)) × IsExportIn rows e
IsTaskIn named (task.Replay r) = (rows : List Row) × (named ≡ Some (codes "replay", rows)) × IsReplayOf rows r
IsTaskIn named (task.Serve s) = (rows : List Row) × (named ≡ Some (codes "serve", rows)) × IsServeIn rows s
IsTaskIn named (task.Migrate o) = (rows : List Row) × (named ≡ Some (codes "migrate", rows)) × IsOfficeIn rows o

abbrev pub NamesInit : Option (Text × List Row) → Type 0
NamesInit named = (rows : List Row) × (named ≡ Some (codes "init", rows)) × HasInit rows

abbrev pub NamesDesk : Option (Text × List Row) → Type 0
NamesDesk named = (rows : List Row) × (named ≡ Some (codes "desk", rows)) × HasDesk rows

abbrev pub NamesLink : Option (Text × List Row) → Type 0
NamesLink named = (rows : List Row) × (named ≡ Some (codes "link", rows)) × HasLink rows

abbrev pub NamesLinks : Option (Text × List Row) → Type 0
NamesLinks named = (rows : List Row) × (named ≡ Some (codes "links", rows)) × HasLinks rows

abbrev pub NamesManifest : Option (Text × List Row) → Type 0
NamesManifest named = (rows : List Row) × (named ≡ Some (codes "manifest", rows)) × HasValue (codes "file") rows

abbrev pub NamesCompare : Option (Text × List Row) → Type 0
NamesCompare named = (rows : List Row) × (named ≡ Some (codes "compare", rows)) × HasValue (codes "file") rows

abbrev pub NamesListing : Option (Text × List Row) → Type 0
NamesListing named = (rows : List Row) × (named ≡ Some (codes "list", rows)) × HasListing rows

-- a list that is read or written
abbrev pub NamesList : Option (Text × List Row) → Type 0
NamesList named = NamesLinks named ⊎ (NamesManifest named ⊎ (NamesCompare named ⊎ NamesListing named))

abbrev pub NamesExport : Option (Text × List Row) → Type 0
NamesExport named = (rows : List Row) × (named ≡ Some (codes "export", rows)) × HasExport rows

-- a list or an export
abbrev pub NamesStock : Option (Text × List Row) → Type 0
NamesStock named = NamesList named ⊎ NamesExport named

abbrev pub NamesReplay : Option (Text × List Row) → Type 0
NamesReplay named = (rows : List Row) × (named ≡ Some (codes "replay", rows)) × HasReplay rows

abbrev pub NamesServe : Option (Text × List Row) → Type 0
NamesServe named = (rows : List Row) × (named ≡ Some (codes "serve", rows)) × HasServe rows

abbrev pub NamesMigrate : Option (Text × List Row) → Type 0
NamesMigrate named = (rows : List Row) × (named ≡ Some (codes "migrate", rows)) × HasValue (codes "file") rows

-- the command that the words name, with its matches, is a task
abbrev pub NamesTask : Option (Text × List Row) → Type 0
NamesTask named =
    NamesInit named ⊎ (NamesDesk named ⊎ (NamesLink named ⊎ (NamesStock named ⊎ (NamesReplay named ⊎ (NamesServe named ⊎ NamesMigrate named)))))

-- ---- the secret of init

-- init is named without a secret
abbrev pub NamesNoSecret : Option (Text × List Row) → Type 0
NamesNoSecret named =
    (rows : List Row) × (named ≡ Some (codes "init", rows)) × (first_of (codes "secret") rows ≡ None) × (first_of (codes "secret-file") rows ≡ None)

-- init is named with two secrets, as a word and in a file
abbrev pub NamesTwoSecrets : Option (Text × List Row) → Type 0
NamesTwoSecrets named =
    (rows : List Row) × (named ≡ Some (codes "init", rows)) × HasValue (codes "secret") rows × HasValue (codes "secret-file") rows

-- the secrets of init are refused with an error of this kind
abbrev pub IsSecretFault : Option (Text × List Row) → ErrorKind → Type 0
IsSecretFault named kind =
    (NamesNoSecret named × (kind ≡ MissingRequiredArgument)) ⊎ (NamesTwoSecrets named × (kind ≡ ArgumentConflict))

-- if init is named, it has exactly one secret
abbrev pub NamesOneSecret : Option (Text × List Row) → Type 0
NamesOneSecret named = (rows : List Row) → named ≡ Some (codes "init", rows) → HasOneSecret rows

-- the words name this task
abbrev pub IsTaskOf : List Text → Task → Type 0
IsTaskOf words = IsTaskIn (subcommand_of drop_app words)

-- The words have a fault of this kind. Either it is one by clap's own definition, or clap accepts them and
-- the secrets of init are refused.
abbrev pub IsFaultOf : List Text → ErrorKind → Type 0
IsFaultOf words kind =
    IsAmong kind (fault_of drop_app words) ⊎ ((fault_of drop_app words ≡ []) × IsSecretFault (subcommand_of drop_app words) kind)
