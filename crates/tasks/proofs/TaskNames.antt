-- Words without a fault name a task.
use Rattle.std.proofs.Common.{◌≡◌, ◌⊎◌, inl, inr, ◌∙◌, ◌||◌, Bool, cond, true, false, refl, sym, ap, subst, List, [], ◌∷◌, Option, Some, None, codes}
use Rattle.std.specs.List.{find, list_all}
use Rattle.std.specs.Str.{bytes_eq}
use Rattle.std.proofs.lemmas.Slice.Eq.{bytes_eq-Decides}
use Rattle.clap.specs.Simple.{Shape, argument_words, built, built_leaf, help_shape, inherited, is_simple, label_of, marked_built, on_top, rows_at, with_leaf_noted}
use Rattle.clap.specs.Faults.{fault_of, is_simple_and_free, level_fault}
use Rattle.clap.specs.Walk.{Row, Text, answers_to, nothing_held, rows_after}
use Rattle.clap.specs.Words.{App, subcommand_of}
use Rattle.clap.proofs.OnLiterals.{clap_on_literals}
use Rattle.tasks.specs.Tasks.{HasDesk, HasExport, HasInit, HasLink, HasLinks, HasListing, HasOneSecret, HasReplay, HasServe, HasValue, NamesOneSecret, NamesTask, allowance_rule, at_rule, box_rule, clerk_rule, compare_app, connections_rule, desk_app, dir_rule, drop_app, east_rule, expires_rule, export_app, file_rule, host_rule, init_app, key_rule, line_rule, link_app, links_app, list_app, listen_rule, manifest_app, manifest_rule, method_rule, migrate_app, open_rule, patience_rule, region_rule, replay_app, room_rule, secret_file_rule, secret_rule, serve_app, start_rule, streams_rule, target_app, target_rule, west_rule, what_rule}
use Rattle.tasks.proofs.FullRows.{fills}
use Rattle.tasks.proofs.Defaulted.{all_given, default_value, has_default}
use Rattle.tasks.proofs.FaultFree.{Enters, enters, needed_value, needs}

pub simple : is_simple drop_app ≡ true
unfolding drop_app init_app desk_app link_app target_app links_app manifest_app compare_app list_app export_app replay_app serve_app migrate_app file_rule line_rule what_rule dir_rule box_rule streams_rule at_rule method_rule target_rule clerk_rule secret_rule secret_file_rule key_rule host_rule region_rule start_rule expires_rule east_rule west_rule allowance_rule listen_rule connections_rule patience_rule open_rule room_rule manifest_rule clap_on_literals
simple = refl

pub simple_and_free : is_simple_and_free drop_app ≡ true
unfolding drop_app init_app desk_app link_app target_app links_app manifest_app compare_app list_app export_app replay_app serve_app migrate_app file_rule line_rule what_rule dir_rule box_rule streams_rule at_rule method_rule target_rule clerk_rule secret_rule secret_file_rule key_rule host_rule region_rule start_rule expires_rule east_rule west_rule allowance_rule listen_rule connections_rule patience_rule open_rule room_rule manifest_rule clap_on_literals
simple_and_free = refl

-- ---- the commands as clap builds them

-- the settings that a command inherits from the program
settings : Shape
unfolding drop_app
settings = (on_top with_leaf_noted (on_top marked_built drop_app)).top

init_built : Shape
init_built = built_leaf (inherited settings init_app.top)

desk_built : Shape
desk_built = built_leaf (inherited settings desk_app.top)

link_built : Shape
link_built = built_leaf (inherited settings link_app.top)

links_built : Shape
links_built = built_leaf (inherited settings links_app.top)

manifest_built : Shape
manifest_built = built_leaf (inherited settings manifest_app.top)

compare_built : Shape
compare_built = built_leaf (inherited settings compare_app.top)

list_built : Shape
list_built = built_leaf (inherited settings list_app.top)

export_built : Shape
export_built = built_leaf (inherited settings export_app.top)

replay_built : Shape
replay_built = built_leaf (inherited settings replay_app.top)

serve_built : Shape
serve_built = built_leaf (inherited settings serve_app.top)

migrate_built : Shape
migrate_built = built_leaf (inherited settings migrate_app.top)

help_built : Shape
help_built = built_leaf help_shape

commands : (built drop_app).subs ≡ init_built ∷ desk_built ∷ link_built ∷ links_built ∷ manifest_built ∷ compare_built ∷ list_built ∷ export_built ∷ replay_built ∷ serve_built ∷ migrate_built ∷ help_built ∷ []
unfolding drop_app settings init_built desk_built link_built links_built manifest_built compare_built list_built export_built replay_built serve_built migrate_built help_built
commands = refl

has_help : (built drop_app).top.disable_help_subcommand ≡ false
unfolding drop_app
has_help = refl

needs_command : (built drop_app).top.subcommand_required ≡ true
unfolding drop_app
needs_command = refl

-- ---- init

init_name : init_built.name ≡ codes "init"
unfolding init_built settings drop_app init_app
init_name = refl

init_fills : list_all fills init_built.rules ≡ true
unfolding init_built settings drop_app init_app file_rule clerk_rule secret_rule secret_file_rule east_rule west_rule allowance_rule
init_fills = refl

init_asks : init_built.subcommand_negates_reqs ≡ false
unfolding init_built settings drop_app init_app
init_asks = refl

init_needs_file : needs (codes "file") init_built.rules ≡ true
unfolding init_built settings drop_app init_app file_rule clerk_rule secret_rule secret_file_rule east_rule west_rule allowance_rule
init_needs_file = refl

init_needs_clerk : needs (codes "clerk") init_built.rules ≡ true
unfolding init_built settings drop_app init_app file_rule clerk_rule secret_rule secret_file_rule east_rule west_rule allowance_rule
init_needs_clerk = refl

init_has_east : has_default (codes "east") init_built.rules ≡ true
unfolding init_built settings drop_app init_app file_rule clerk_rule secret_rule secret_file_rule east_rule west_rule allowance_rule
init_has_east = refl

init_has_west : has_default (codes "west") init_built.rules ≡ true
unfolding init_built settings drop_app init_app file_rule clerk_rule secret_rule secret_file_rule east_rule west_rule allowance_rule
init_has_west = refl

init_has_allowance : has_default (codes "allowance") init_built.rules ≡ true
unfolding init_built settings drop_app init_app file_rule clerk_rule secret_rule secret_file_rule east_rule west_rule allowance_rule
init_has_allowance = refl

init_values : (words : List Text) → level_fault init_built [] nothing_held words false [] ≡ [] → HasOneSecret (rows_after init_built.rules [] words)
    → HasInit (rows_after init_built.rules [] words)
init_values words free one =
    let given = needed_value init_built words init_fills init_asks free in (
      given (codes "file") init_needs_file,
      given (codes "clerk") init_needs_clerk,
      one,
      default_value init_built words init_fills free (codes "east") init_has_east,
      default_value init_built words init_fills free (codes "west") init_has_west,
      default_value init_built words init_fills free (codes "allowance") init_has_allowance,
    )

-- ---- desk

desk_name : desk_built.name ≡ codes "desk"
unfolding desk_built settings drop_app desk_app
desk_name = refl

desk_fills : list_all fills desk_built.rules ≡ true
unfolding desk_built settings drop_app desk_app file_rule line_rule
desk_fills = refl

desk_asks : desk_built.subcommand_negates_reqs ≡ false
unfolding desk_built settings drop_app desk_app
desk_asks = refl

desk_needs_file : needs (codes "file") desk_built.rules ≡ true
unfolding desk_built settings drop_app desk_app file_rule line_rule
desk_needs_file = refl

desk_needs_line : needs (codes "line") desk_built.rules ≡ true
unfolding desk_built settings drop_app desk_app file_rule line_rule
desk_needs_line = refl

desk_values : (words : List Text) → level_fault desk_built [] nothing_held words false [] ≡ [] → HasDesk (rows_after desk_built.rules [] words)
desk_values words free =
    let given = needed_value desk_built words desk_fills desk_asks free in (given (codes "file") desk_needs_file, given (codes "line") desk_needs_line)

-- ---- link

link_name : link_built.name ≡ codes "link"
unfolding link_built settings drop_app link_app target_app
link_name = refl

link_fills : list_all fills link_built.rules ≡ true
unfolding link_built settings drop_app link_app target_app file_rule method_rule target_rule key_rule host_rule region_rule start_rule expires_rule
link_fills = refl

link_asks : link_built.subcommand_negates_reqs ≡ false
unfolding link_built settings drop_app link_app target_app
link_asks = refl

link_needs_file : needs (codes "file") link_built.rules ≡ true
unfolding link_built settings drop_app link_app target_app file_rule method_rule target_rule key_rule host_rule region_rule start_rule expires_rule
link_needs_file = refl

link_needs_method : needs (codes "method") link_built.rules ≡ true
unfolding link_built settings drop_app link_app target_app file_rule method_rule target_rule key_rule host_rule region_rule start_rule expires_rule
link_needs_method = refl

link_needs_target : needs (codes "target") link_built.rules ≡ true
unfolding link_built settings drop_app link_app target_app file_rule method_rule target_rule key_rule host_rule region_rule start_rule expires_rule
link_needs_target = refl

link_needs_key : needs (codes "key") link_built.rules ≡ true
unfolding link_built settings drop_app link_app target_app file_rule method_rule target_rule key_rule host_rule region_rule start_rule expires_rule
link_needs_key = refl

link_needs_host : needs (codes "host") link_built.rules ≡ true
unfolding link_built settings drop_app link_app target_app file_rule method_rule target_rule key_rule host_rule region_rule start_rule expires_rule
link_needs_host = refl

link_needs_region : needs (codes "region") link_built.rules ≡ true
unfolding link_built settings drop_app link_app target_app file_rule method_rule target_rule key_rule host_rule region_rule start_rule expires_rule
link_needs_region = refl

link_needs_start : needs (codes "start") link_built.rules ≡ true
unfolding link_built settings drop_app link_app target_app file_rule method_rule target_rule key_rule host_rule region_rule start_rule expires_rule
link_needs_start = refl

link_needs_expires : needs (codes "expires") link_built.rules ≡ true
unfolding link_built settings drop_app link_app target_app file_rule method_rule target_rule key_rule host_rule region_rule start_rule expires_rule
link_needs_expires = refl

link_values : (words : List Text) → level_fault link_built [] nothing_held words false [] ≡ [] → HasLink (rows_after link_built.rules [] words)
link_values words free =
    let given = needed_value link_built words link_fills link_asks free in (
      given (codes "file") link_needs_file,
      given (codes "method") link_needs_method,
      given (codes "target") link_needs_target,
      given (codes "key") link_needs_key,
      given (codes "host") link_needs_host,
      given (codes "region") link_needs_region,
      given (codes "start") link_needs_start,
      given (codes "expires") link_needs_expires,
    )

-- ---- links

links_name : links_built.name ≡ codes "links"
unfolding links_built settings drop_app links_app
links_name = refl

links_fills : list_all fills links_built.rules ≡ true
unfolding links_built settings drop_app links_app file_rule key_rule host_rule region_rule
links_fills = refl

links_asks : links_built.subcommand_negates_reqs ≡ false
unfolding links_built settings drop_app links_app
links_asks = refl

links_needs_file : needs (codes "file") links_built.rules ≡ true
unfolding links_built settings drop_app links_app file_rule key_rule host_rule region_rule
links_needs_file = refl

links_needs_key : needs (codes "key") links_built.rules ≡ true
unfolding links_built settings drop_app links_app file_rule key_rule host_rule region_rule
links_needs_key = refl

links_needs_host : needs (codes "host") links_built.rules ≡ true
unfolding links_built settings drop_app links_app file_rule key_rule host_rule region_rule
links_needs_host = refl

links_needs_region : needs (codes "region") links_built.rules ≡ true
unfolding links_built settings drop_app links_app file_rule key_rule host_rule region_rule
links_needs_region = refl

links_values : (words : List Text) → level_fault links_built [] nothing_held words false [] ≡ [] → HasLinks (rows_after links_built.rules [] words)
links_values words free =
    let given = needed_value links_built words links_fills links_asks free in (
      given (codes "file") links_needs_file,
      given (codes "key") links_needs_key,
      given (codes "host") links_needs_host,
      given (codes "region") links_needs_region,
    )

-- ---- manifest

manifest_name : manifest_built.name ≡ codes "manifest"
unfolding manifest_built settings drop_app manifest_app
manifest_name = refl

manifest_fills : list_all fills manifest_built.rules ≡ true
unfolding manifest_built settings drop_app manifest_app file_rule
manifest_fills = refl

manifest_asks : manifest_built.subcommand_negates_reqs ≡ false
unfolding manifest_built settings drop_app manifest_app
manifest_asks = refl

manifest_needs_file : needs (codes "file") manifest_built.rules ≡ true
unfolding manifest_built settings drop_app manifest_app file_rule
manifest_needs_file = refl

manifest_values : (words : List Text) → level_fault manifest_built [] nothing_held words false [] ≡ [] → HasValue (codes "file") (rows_after manifest_built.rules [] words)
manifest_values words free = needed_value manifest_built words manifest_fills manifest_asks free (codes "file") manifest_needs_file

-- ---- compare

compare_name : compare_built.name ≡ codes "compare"
unfolding compare_built settings drop_app compare_app
compare_name = refl

compare_fills : list_all fills compare_built.rules ≡ true
unfolding compare_built settings drop_app compare_app file_rule
compare_fills = refl

compare_asks : compare_built.subcommand_negates_reqs ≡ false
unfolding compare_built settings drop_app compare_app
compare_asks = refl

compare_needs_file : needs (codes "file") compare_built.rules ≡ true
unfolding compare_built settings drop_app compare_app file_rule
compare_needs_file = refl

compare_values : (words : List Text) → level_fault compare_built [] nothing_held words false [] ≡ [] → HasValue (codes "file") (rows_after compare_built.rules [] words)
compare_values words free = needed_value compare_built words compare_fills compare_asks free (codes "file") compare_needs_file

-- ---- list

list_name : list_built.name ≡ codes "list"
unfolding list_built settings drop_app list_app
list_name = refl

list_fills : list_all fills list_built.rules ≡ true
unfolding list_built settings drop_app list_app file_rule what_rule
list_fills = refl

list_asks : list_built.subcommand_negates_reqs ≡ false
unfolding list_built settings drop_app list_app
list_asks = refl

list_needs_file : needs (codes "file") list_built.rules ≡ true
unfolding list_built settings drop_app list_app file_rule what_rule
list_needs_file = refl

list_needs_what : needs (codes "what") list_built.rules ≡ true
unfolding list_built settings drop_app list_app file_rule what_rule
list_needs_what = refl

list_values : (words : List Text) → level_fault list_built [] nothing_held words false [] ≡ [] → HasListing (rows_after list_built.rules [] words)
list_values words free =
    let given = needed_value list_built words list_fills list_asks free in (given (codes "file") list_needs_file, given (codes "what") list_needs_what)

-- ---- export

export_name : export_built.name ≡ codes "export"
unfolding export_built settings drop_app export_app
export_name = refl

export_fills : list_all fills export_built.rules ≡ true
unfolding export_built settings drop_app export_app file_rule dir_rule box_rule
export_fills = refl

export_asks : export_built.subcommand_negates_reqs ≡ false
unfolding export_built settings drop_app export_app
export_asks = refl

export_needs_file : needs (codes "file") export_built.rules ≡ true
unfolding export_built settings drop_app export_app file_rule dir_rule box_rule
export_needs_file = refl

export_needs_dir : needs (codes "dir") export_built.rules ≡ true
unfolding export_built settings drop_app export_app file_rule dir_rule box_rule
export_needs_dir = refl

export_values : (words : List Text) → level_fault export_built [] nothing_held words false [] ≡ [] → HasExport (rows_after export_built.rules [] words)
export_values words free =
    let given = needed_value export_built words export_fills export_asks free in (given (codes "file") export_needs_file, given (codes "dir") export_needs_dir)

-- ---- replay

replay_name : replay_built.name ≡ codes "replay"
unfolding replay_built settings drop_app replay_app
replay_name = refl

replay_fills : list_all fills replay_built.rules ≡ true
unfolding replay_built settings drop_app replay_app file_rule streams_rule at_rule
replay_fills = refl

replay_asks : replay_built.subcommand_negates_reqs ≡ false
unfolding replay_built settings drop_app replay_app
replay_asks = refl

replay_needs_file : needs (codes "file") replay_built.rules ≡ true
unfolding replay_built settings drop_app replay_app file_rule streams_rule at_rule
replay_needs_file = refl

replay_needs_at : needs (codes "at") replay_built.rules ≡ true
unfolding replay_built settings drop_app replay_app file_rule streams_rule at_rule
replay_needs_at = refl

replay_needs_stream : needs (codes "stream") replay_built.rules ≡ true
unfolding replay_built settings drop_app replay_app file_rule streams_rule at_rule
replay_needs_stream = refl

replay_values : (words : List Text) → level_fault replay_built [] nothing_held words false [] ≡ [] → HasReplay (rows_after replay_built.rules [] words)
replay_values words free =
    let given = needed_value replay_built words replay_fills replay_asks free in (
      given (codes "file") replay_needs_file,
      given (codes "at") replay_needs_at,
      all_given (codes "stream") (rows_after replay_built.rules [] words) (given (codes "stream") replay_needs_stream),
    )

-- ---- serve

serve_name : serve_built.name ≡ codes "serve"
unfolding serve_built settings drop_app serve_app
serve_name = refl

serve_fills : list_all fills serve_built.rules ≡ true
unfolding serve_built settings drop_app serve_app file_rule listen_rule connections_rule patience_rule open_rule room_rule manifest_rule
serve_fills = refl

serve_asks : serve_built.subcommand_negates_reqs ≡ false
unfolding serve_built settings drop_app serve_app
serve_asks = refl

serve_needs_file : needs (codes "file") serve_built.rules ≡ true
unfolding serve_built settings drop_app serve_app file_rule listen_rule connections_rule patience_rule open_rule room_rule manifest_rule
serve_needs_file = refl

serve_needs_listen : needs (codes "listen") serve_built.rules ≡ true
unfolding serve_built settings drop_app serve_app file_rule listen_rule connections_rule patience_rule open_rule room_rule manifest_rule
serve_needs_listen = refl

serve_needs_connections : needs (codes "connections") serve_built.rules ≡ true
unfolding serve_built settings drop_app serve_app file_rule listen_rule connections_rule patience_rule open_rule room_rule manifest_rule
serve_needs_connections = refl

serve_has_patience : has_default (codes "patience") serve_built.rules ≡ true
unfolding serve_built settings drop_app serve_app file_rule listen_rule connections_rule patience_rule open_rule room_rule manifest_rule
serve_has_patience = refl

serve_has_open : has_default (codes "open") serve_built.rules ≡ true
unfolding serve_built settings drop_app serve_app file_rule listen_rule connections_rule patience_rule open_rule room_rule manifest_rule
serve_has_open = refl

serve_values : (words : List Text) → level_fault serve_built [] nothing_held words false [] ≡ [] → HasServe (rows_after serve_built.rules [] words)
serve_values words free =
    let given = needed_value serve_built words serve_fills serve_asks free in (
      given (codes "file") serve_needs_file,
      given (codes "listen") serve_needs_listen,
      given (codes "connections") serve_needs_connections,
      default_value serve_built words serve_fills free (codes "patience") serve_has_patience,
      default_value serve_built words serve_fills free (codes "open") serve_has_open,
    )

-- ---- migrate

migrate_name : migrate_built.name ≡ codes "migrate"
unfolding migrate_built settings drop_app migrate_app
migrate_name = refl

migrate_fills : list_all fills migrate_built.rules ≡ true
unfolding migrate_built settings drop_app migrate_app file_rule
migrate_fills = refl

migrate_asks : migrate_built.subcommand_negates_reqs ≡ false
unfolding migrate_built settings drop_app migrate_app
migrate_asks = refl

migrate_needs_file : needs (codes "file") migrate_built.rules ≡ true
unfolding migrate_built settings drop_app migrate_app file_rule
migrate_needs_file = refl

migrate_values : (words : List Text) → level_fault migrate_built [] nothing_held words false [] ≡ [] → HasValue (codes "file") (rows_after migrate_built.rules [] words)
migrate_values words free = needed_value migrate_built words migrate_fills migrate_asks free (codes "file") migrate_needs_file

-- ---- the command that is named by words without a fault

help_named : (name : Text) → bytes_eq name (codes "help") ≡ false → answers_to name (label_of help_built) ≡ false
unfolding help_built
help_named name elsewhere = go (bytes_eq (codes "help") name) (bytes_eq-Decides (codes "help") name).0
  where
    go : (b : Bool) → (b ≡ true → codes "help" ≡ name) → (b || false) ≡ false
    go false is = refl
    go true is =
        let met : bytes_eq name (codes "help") ≡ true = (bytes_eq-Decides name (codes "help")).1 (sym (is refl)) in
        let bad : ⊥ = cc in
        absurd bad

found_task : (name : Text) (s : Shape) → bytes_eq name (codes "help") ≡ false
    → find (λ x. answers_to name (label_of x)) (init_built ∷ desk_built ∷ link_built ∷ links_built ∷ manifest_built ∷ compare_built ∷ list_built ∷ export_built ∷ replay_built ∷ serve_built ∷ migrate_built ∷ help_built ∷ []) ≡ Some s
    → (init_built ≡ s) ⊎ ((desk_built ≡ s) ⊎ ((link_built ≡ s) ⊎ ((((links_built ≡ s) ⊎ ((manifest_built ≡ s) ⊎ ((compare_built ≡ s) ⊎ (list_built ≡ s)))) ⊎ (export_built ≡ s)) ⊎ ((replay_built ≡ s) ⊎ ((serve_built ≡ s) ⊎ (migrate_built ≡ s))))))
found_task name s elsewhere found =
    go (answers_to name (label_of init_built)) (answers_to name (label_of desk_built)) (answers_to name (label_of link_built)) (answers_to name (label_of links_built)) (answers_to name (label_of manifest_built)) (answers_to name (label_of compare_built)) (answers_to name (label_of list_built)) (answers_to name (label_of export_built)) (answers_to name (label_of replay_built)) (answers_to name (label_of serve_built)) (answers_to name (label_of migrate_built))
    (answers_to name (label_of help_built)) (help_named name elsewhere) found
  where
    go : (a b c d e f g h i j m k : Bool) → k ≡ false
        → cond a (Some init_built) (cond b (Some desk_built) (cond c (Some link_built) (cond d (Some links_built) (cond e (Some manifest_built) (cond f (Some compare_built) (cond g (Some list_built) (cond h (Some export_built) (cond i (Some replay_built) (cond j (Some serve_built) (cond m (Some migrate_built) (cond k (Some help_built) None))))))))))) ≡ Some s
        → (init_built ≡ s) ⊎ ((desk_built ≡ s) ⊎ ((link_built ≡ s) ⊎ ((((links_built ≡ s) ⊎ ((manifest_built ≡ s) ⊎ ((compare_built ≡ s) ⊎ (list_built ≡ s)))) ⊎ (export_built ≡ s)) ⊎ ((replay_built ≡ s) ⊎ ((serve_built ≡ s) ⊎ (migrate_built ≡ s))))))
    go true b c d e f g h i j m k z at = inl cc
    go false true c d e f g h i j m k z at = inr (inl cc)
    go false false true d e f g h i j m k z at = inr (inr (inl cc))
    go false false false true e f g h i j m k z at = inr (inr (inr (inl (inl (inl cc)))))
    go false false false false true f g h i j m k z at = inr (inr (inr (inl (inl (inr (inl cc))))))
    go false false false false false true g h i j m k z at = inr (inr (inr (inl (inl (inr (inr (inl cc)))))))
    go false false false false false false true h i j m k z at = inr (inr (inr (inl (inl (inr (inr (inr cc)))))))
    go false false false false false false false true i j m k z at = inr (inr (inr (inl (inr cc))))
    go false false false false false false false false true j m k z at = inr (inr (inr (inr (inl cc))))
    go false false false false false false false false false true m k z at = inr (inr (inr (inr (inr (inl cc)))))
    go false false false false false false false false false false true k z at = inr (inr (inr (inr (inr (inr cc)))))
    go false false false false false false false false false false false true z at = let bad : ⊥ = cc in absurd bad
    go false false false false false false false false false false false false z at = let bad : ⊥ = cc in absurd bad

-- the words name the command of this shape without a fault
module _ (words : List Text) (e : Enters (built drop_app) (argument_words drop_app words)) (s : Shape) (is : s ≡ e.shape) where
  rows_named : (name : Text) → s.name ≡ name → subcommand_of drop_app words ≡ Some (name, rows_after s.rules [] e.rest)
  rows_named name called = e.entered ∙ ap (λ x. Some (rows_at x e.rest)) (sym is) ∙ ap (λ (n : Text). Some (n, rows_after s.rules [] e.rest)) called

  free_here : level_fault s [] nothing_held e.rest false [] ≡ []
  free_here = subst (λ x. level_fault x [] nothing_held e.rest false [] ≡ []) (sym is) e.fault_free

pub task_named : (words : List Text) → fault_of drop_app words ≡ [] → NamesOneSecret (subcommand_of drop_app words) → NamesTask (subcommand_of drop_app words)
task_named words free one =
    let e = enters (built drop_app) (argument_words drop_app words) has_help needs_command free in
    let found : find (λ s. answers_to e.name (label_of s)) (init_built ∷ desk_built ∷ link_built ∷ links_built ∷ manifest_built ∷ compare_built ∷ list_built ∷ export_built ∷ replay_built ∷ serve_built ∷ migrate_built ∷ help_built ∷ []) ≡ Some e.shape =
    ap (find (λ s. answers_to e.name (label_of s))) (sym commands) ∙ e.found in
    elim (found_task e.name e.shape e.not_help found) [
      | inl is ↦
          let named = rows_named words e init_built is (codes "init") init_name in
          inl (rows_after init_built.rules [] e.rest, named, init_values e.rest (free_here words e init_built is) (one (rows_after init_built.rules [] e.rest) named))
      | inr (inl is) ↦ inr (inl (rows_after desk_built.rules [] e.rest, rows_named words e desk_built is (codes "desk") desk_name, desk_values e.rest (free_here words e desk_built is)))
      | inr (inr (inl is)) ↦ inr (inr (inl (rows_after link_built.rules [] e.rest, rows_named words e link_built is (codes "link") link_name, link_values e.rest (free_here words e link_built is))))
      | inr (inr (inr (inl (inl (inl is))))) ↦ inr (inr (inr (inl (inl (inl (rows_after links_built.rules [] e.rest, rows_named words e links_built is (codes "links") links_name, links_values e.rest (free_here words e links_built is)))))))
      | inr (inr (inr (inl (inl (inr (inl is)))))) ↦ inr (inr (inr (inl (inl (inr (inl (rows_after manifest_built.rules [] e.rest, rows_named words e manifest_built is (codes "manifest") manifest_name, manifest_values e.rest (free_here words e manifest_built is))))))))
      | inr (inr (inr (inl (inl (inr (inr (inl is))))))) ↦ inr (inr (inr (inl (inl (inr (inr (inl (rows_after compare_built.rules [] e.rest, rows_named words e compare_built is (codes "compare") compare_name, compare_values e.rest (free_here words e compare_built is)))))))))
      | inr (inr (inr (inl (inl (inr (inr (inr is))))))) ↦ inr (inr (inr (inl (inl (inr (inr (inr (rows_after list_built.rules [] e.rest, rows_named words e list_built is (codes "list") list_name, list_values e.rest (free_here words e list_built is)))))))))
      | inr (inr (inr (inl (inr is)))) ↦ inr (inr (inr (inl (inr (rows_after export_built.rules [] e.rest, rows_named words e export_built is (codes "export") export_name, export_values e.rest (free_here words e export_built is))))))
      | inr (inr (inr (inr (inl is)))) ↦ inr (inr (inr (inr (inl (rows_after replay_built.rules [] e.rest, rows_named words e replay_built is (codes "replay") replay_name, replay_values e.rest (free_here words e replay_built is))))))
      | inr (inr (inr (inr (inr (inl is))))) ↦ inr (inr (inr (inr (inr (inl (rows_after serve_built.rules [] e.rest, rows_named words e serve_built is (codes "serve") serve_name, serve_values e.rest (free_here words e serve_built is)))))))
      | inr (inr (inr (inr (inr (inr is))))) ↦ inr (inr (inr (inr (inr (inr (rows_after migrate_built.rules [] e.rest, rows_named words e migrate_built is (codes "migrate") migrate_name, migrate_values e.rest (free_here words e migrate_built is)))))))
    ]

-- ---- a command that parses like the program's own

pub free_of : (a : App) (words : List Text) → a ≡ drop_app → (is_simple_and_free a ≡ true → fault_of a words ≡ []) → fault_of drop_app words ≡ []
free_of a words is free = ap (λ x. fault_of x words) (sym is) ∙ free (ap is_simple_and_free is ∙ simple_and_free)

pub named_by : (a : App) (words : List Text) (named : Option (Text × List Row)) → a ≡ drop_app → (is_simple a ≡ true → named ≡ subcommand_of a words)
    → named ≡ subcommand_of drop_app words
named_by a words named is met = met (ap is_simple is ∙ simple) ∙ ap (λ x. subcommand_of x words) is

pub names_task : (a : App) (words : List Text) (named : Option (Text × List Row)) → a ≡ drop_app → (is_simple_and_free a ≡ true → fault_of a words ≡ [])
    → (is_simple a ≡ true → named ≡ subcommand_of a words) → NamesOneSecret named → NamesTask named
names_task a words named is free met one =
    let same = named_by a words named is met in
    subst NamesTask (sym same) (task_named words (free_of a words is free) (subst NamesOneSecret same one))
