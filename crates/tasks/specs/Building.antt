-- The rules of clap that the descriptions of commands and arguments stand for.
use Rattle.std.specs.Prelude.{◌≡◌, ◌⊎◌, List, [], ◌∷◌, Option, Some, false, fold}
use Rattle.std.specs.Borrow.{Bor}
use Rattle.clap.specs.Lexer.{usize_max}
use Rattle.clap.specs.Words.{App, Row, Rule, Text, app_of, new_app, new_rule, with_rule, with_subcommand}
use Rattle.clap.specs.declared.builder.command.Command.{Command}
use Rattle.clap.specs.declared.builder.command.Command.TheViews.{out-Command}
use Rattle.clap.specs.declared.builder.value_parser.ValueParser.TheVariants.{Unsigned}
use Rattle.tasks.specs.declared.words.Argument.{Argument}
use Rattle.tasks.specs.declared.words.Form.{Form}
use Rattle.tasks.specs.declared.words.Given.{Given}
use Rattle.tasks.specs.declared.words.Given.TheVariants as given
use Rattle.tasks.specs.declared.words.Value.{Value}
use Rattle.tasks.specs.declared.words.Value.TheVariants as value
use Rattle.tasks.specs.Tasks.{NamesDesk, NamesInit, NamesLink, NamesMigrate, NamesServe, NamesStock}

-- the command is this one, and no argument of it holds for commands below it
pub record IsLocal (app : App) (command : Command) : Type 0 where
  pub is : app_of command ≡ app
  pub local : (out-Command command).has_globals ≡ false

-- the rule of an option with this value
abbrev pub valued : Rule → Value → Rule
valued rule value.Text = rule
valued rule (value.Number least most) = record rule { parser = Some (Unsigned least most) }
valued rule (value.Defaulted least most default) = record rule { defaults = default.now ∷ []; parser = Some (Unsigned least most) }

-- the rule of an argument that is given so
abbrev pub given_so : Rule → Given → Rule
given_so rule given.Word = rule
given_so rule given.Words = record rule { range = Some (record { start_inclusive = 1; end_inclusive = usize_max }) }
given_so rule (given.Option value) = valued (record rule { long = Some rule.id }) value

-- the rule of an argument
abbrev pub rule_in : Argument → Rule
rule_in a = given_so (record (new_rule a.id.now) { value_names = 1; required = a.required }) a.given

-- the command of a form
unfoldable pub app_in : Form → App
app_in f = fold (λ app a. with_rule app (rule_in a)) (new_app f.name.now) f.arguments.now

-- a command line with the commands of these forms
abbrev pub lined : App → List (Bor Form) → App
lined = fold (λ app f. with_subcommand app (app_in f.now).top)

-- the command that the words name, with its matches, is a task and no replay
abbrev pub NamesSole : Option (Text × List Row) → Type 0
NamesSole named = NamesInit named ⊎ (NamesDesk named ⊎ (NamesLink named ⊎ (NamesStock named ⊎ (NamesServe named ⊎ NamesMigrate named))))
