-- The command line as `clap` has it, and what it asks for.
use Rattle.std.specs.Prelude.{◌≡◌, Bool, false, true, List, [], ◌∷◌, ◌++◌, Option, Some, None, ⊤, ◌≢◌, codes, map, option_map, unwrap_or, Result, MatchResult}
use Rattle.std.specs.List.{All}
use Rattle.std.specs.Option.{option_map_or}
use Rattle.std.specs.Str.{bytes_eq}
use Rattle.clap.specs.Words.{App, all_of, app_of, kind_of, Row, Rule, Shape, Text, first_of, new_app, new_rule, one_of, with_rule, with_subcommand}
use Rattle.clap.specs.Simple.{new_shape}
use Rattle.clap.specs.declared.builder.ArgAction.TheVariants.{Append, SetTrue}
use Rattle.clap.specs.declared.builder.command.Command.{Command as Words}
use Rattle.clap.specs.declared.builder.command.Command.TheViews.{out-Command}
use Rattle.clap.specs.declared.error.Error.{Error}
use Rattle.clap.specs.declared.error.kind.ErrorKind.{ErrorKind}
use Rattle.clap.specs.declared.error.kind.ErrorKind.TheVariants.{OutOfMemory}
use Rattle.cli_options.specs.declared.command_options.Color.{Color}
use Rattle.cli_options.specs.declared.command_options.Color.TheVariants.{Always, Auto, Never}
use Rattle.cli_options.specs.declared.command.Command.{Command}
use Rattle.cli_options.specs.declared.command.Command.TheVariants as command
use Rattle.cli_options.specs.declared.command.CommandLine.{CommandLine}
use Rattle.cli_options.specs.declared.command_table.CommandForm.{CommandForm}
use Rattle.cli_options.specs.declared.command_table.ArgumentForm.{ArgumentForm}
use Rattle.cli_options.specs.declared.command_table.ArgumentForm.TheVariants as word

-- a flag of this name
abbrev pub flag_rule : Text → Rule
flag_rule name = record (new_rule name) { long = Some name; action = Some SetTrue }

-- an option of this name, with a value
abbrev pub option_rule : Text → Rule
option_rule name = record (new_rule name) { long = Some name; value_names = 1 }

-- an option of this name, with a value, that may be given several times
abbrev pub options_rule : Text → Rule
options_rule name = record (new_rule name) { long = Some name; value_names = 1; action = Some Append }

-- an argument that is required
abbrev pub file_rule : Text → Rule
file_rule name = record (new_rule name) { required = true; value_names = 1 }

-- an argument that may be omitted
abbrev pub word_rule : Text → Rule
word_rule name = record (new_rule name) { value_names = 1 }

-- an argument that is required, and may be repeated
abbrev pub words_rule : Text → Rule
words_rule name = record (new_rule name) { required = true; value_names = 1; action = Some Append }

-- a command with these rules
abbrev pub with_rules : Text → List Rule → Shape
with_rules name rules = record (new_shape name) { rules = rules }

-- the option that gives a name its value
abbrev pub set : Rule
set = options_rule (codes "set")

-- a command on a start list
abbrev pub of_list : Text → List Rule → Shape
of_list name rules = with_rules name (rules ++ set ∷ file_rule (codes "list") ∷ [])

-- a command on a scenario
abbrev pub of_scenario : Text → List Rule → Shape
of_scenario name rules =
    with_rules name (option_rule (codes "machine") ∷ (rules ++ set ∷ file_rule (codes "scenario") ∷ []))

-- the program without its commands
abbrev pub bare : App
bare = record (new_app (codes "nethrywel")) {
  top = record (new_shape (codes "nethrywel")) { has_version = true; disable_help_subcommand = true };
}

-- a program with these commands after those that it has
abbrev pub with_commands : App → List Shape → App
with_commands app [] = app
with_commands app (shape ∷ shapes) = with_commands (with_subcommand app shape) shapes

-- a command with these arguments after those that it has
abbrev pub with_arguments : App → List Rule → App
with_arguments app [] = app
with_arguments app (rule ∷ rules) = with_arguments (with_rule app rule) rules

-- an argument or an option of a table
abbrev pub rule_told : ArgumentForm → Rule
rule_told (word.Flag id _) = flag_rule id.now
rule_told (word.Value id _ _) = option_rule id.now
rule_told (word.Values id _ _) = options_rule id.now
rule_told (word.Needed id _ _) = file_rule id.now
rule_told (word.Optional id _ _) = word_rule id.now
rule_told (word.Several id _ _) = words_rule id.now

-- a command of a table
abbrev pub command_told : CommandForm → App
command_told form = with_arguments (new_app form.name.now) (map rule_told form.words.now)

-- a command is that of a table, and no argument of it counts for others
abbrev pub IsTold : CommandForm → Words → Type 0
IsTold form made = (app_of made ≡ command_told form) × ((out-Command made).has_globals ≡ false)

-- the command that runs a scenario
abbrev pub run : Shape
run =
    of_scenario (codes "run")
    (option_rule (codes "only") ∷ flag_rule (codes "accounts") ∷ flag_rule (codes "numbers") ∷ option_rule (codes "color")
    ∷ flag_rule (codes "json") ∷ [])

-- the command that records a scenario
abbrev pub record_shape : Shape
record_shape =
    of_scenario (codes "record")
    (flag_rule (codes "all") ∷ flag_rule (codes "write") ∷ flag_rule (codes "json") ∷ [])

-- the command that prints the findings of a start list
abbrev pub check : Shape
check =
    of_list (codes "check")
    (flag_rule (codes "strict") ∷ flag_rule (codes "json") ∷ option_rule (codes "policy") ∷ [])

-- the command that prints a start list's components
abbrev pub tree : Shape
tree = of_list (codes "tree") (flag_rule (codes "dot") ∷ flag_rule (codes "json") ∷ [])

-- the command that compares a component's two runs, or those of all scripts
abbrev pub alone : Shape
alone =
    with_rules (codes "alone")
    (option_rule (codes "machine") ∷ flag_rule (codes "all") ∷ flag_rule (codes "summary") ∷ flag_rule (codes "json") ∷ set
    ∷ file_rule (codes "name") ∷ word_rule (codes "scenario") ∷ [])

-- the command that prints which scripts reach which servers
abbrev pub reach : Shape
reach =
    of_list (codes "reach")
    (flag_rule (codes "json") ∷ options_rule (codes "from") ∷ options_rule (codes "to") ∷ [])

-- the command that prints where one session request is routed to
abbrev pub route : Shape
route =
    with_rules (codes "route")
    (flag_rule (codes "json") ∷ set ∷ file_rule (codes "list") ∷ file_rule (codes "client") ∷ file_rule (codes "service")
    ∷ word_rule (codes "args") ∷ [])

-- the command that runs scenarios as tests
abbrev pub test : Shape
test =
    with_rules (codes "test")
    (option_rule (codes "machine") ∷ option_rule (codes "junit") ∷ options_rule (codes "filter") ∷ flag_rule (codes "strict")
    ∷ flag_rule (codes "coverage") ∷ option_rule (codes "threshold") ∷ flag_rule (codes "json") ∷ set ∷ option_rule (codes "color") ∷ words_rule (codes "path") ∷ [])

-- the command that compares two start lists
abbrev pub diff : Shape
diff =
    with_rules (codes "diff")
    (flag_rule (codes "json") ∷ option_rule (codes "policy") ∷ option_rule (codes "scenario-after") ∷ set ∷ file_rule (codes "before") ∷ file_rule (codes "after")
    ∷ word_rule (codes "scenario") ∷ [])

-- the command that prints a page of help
abbrev pub help : Shape
help = with_rules (codes "help") (word_rule (codes "topic") ∷ [])

-- the rules of a command with documents of JSON
abbrev pub json_flag : List Rule
json_flag = flag_rule (codes "json") ∷ []

-- the command that prints the sufficient budgets of accounts
abbrev pub least : Shape
least =
    with_rules (codes "least")
    (option_rule (codes "machine") ∷ flag_rule (codes "as-donated") ∷ flag_rule (codes "json") ∷ flag_rule (codes "list")
    ∷ flag_rule (codes "scenario") ∷ flag_rule (codes "safe") ∷ set ∷ file_rule (codes "played") ∷ [])

-- the program itself
abbrev pub program : App
program =
    with_commands bare
    (run ∷ record_shape ∷ check ∷ tree ∷ reach ∷ route ∷ of_scenario (codes "trace") json_flag
    ∷ of_scenario (codes "accounts") json_flag ∷ alone ∷ least ∷ test ∷ diff ∷ help ∷ [])

-- a text denotes that a flag was used
abbrev pub is_true : Option Text → Bool
is_true text = option_map_or (λ t. bytes_eq t (codes "true")) text false

-- the flag of this id was used
abbrev pub is_set : Text → List Row → Bool
is_set id rows = is_true (one_of id rows)

-- the first value of this id, or a text in its place
abbrev pub first_or : Text → Text → List Row → Text
first_or text id rows = unwrap_or (first_of id rows) text

-- the condition under which lines are coloured, by its name
abbrev pub IsColor : Option Color → Text → Type 0
IsColor (Some Auto) word = word ≡ codes "auto"
IsColor (Some Always) word = word ≡ codes "always"
IsColor (Some Never) word = word ≡ codes "never"
IsColor None word = (word ≢ codes "auto") × (word ≢ codes "always") × (word ≢ codes "never")

-- an error of this kind, unless the host is out of memory
abbrev pub IsRefusal : ErrorKind → Result Error Error → Type 0
IsRefusal kind made = MatchResult made (λ error. kind_of error ≡ kind) (λ error. kind_of error ≡ OutOfMemory)

-- a command is what these rows ask for after this name
abbrev pub Asks : Command → Text → List Row → Type 0
Asks (command.Run asked) name rows = (name ≡ codes "run")
    × (option_map (λ t. t.now) asked.machine ≡ first_of (codes "machine") rows)
    × (option_map (λ t. t.now) asked.only ≡ first_of (codes "only") rows)
    × (asked.accounts ≡ is_set (codes "accounts") rows)
    × (asked.numbers ≡ is_set (codes "numbers") rows)
    × IsColor asked.color (first_or (codes "auto") (codes "color") rows)
    × (asked.json ≡ is_set (codes "json") rows)
    × (asked.scenario.now ≡ first_or (codes "-") (codes "scenario") rows)
Asks (command.Record asked) name rows = (name ≡ codes "record")
    × (option_map (λ t. t.now) asked.machine ≡ first_of (codes "machine") rows)
    × (asked.all ≡ is_set (codes "all") rows)
    × (asked.write ≡ is_set (codes "write") rows)
    × (asked.json ≡ is_set (codes "json") rows)
    × (asked.scenario.now ≡ first_or (codes "-") (codes "scenario") rows)
Asks (command.Check asked) name rows = (name ≡ codes "check")
    × (asked.strict ≡ is_set (codes "strict") rows)
    × (asked.json ≡ is_set (codes "json") rows)
    × (option_map (λ t. t.now) asked.policy ≡ first_of (codes "policy") rows)
    × (asked.list.now ≡ first_or (codes "-") (codes "list") rows)
Asks (command.Tree asked) name rows = (name ≡ codes "tree")
    × (asked.dot ≡ is_set (codes "dot") rows)
    × (asked.json ≡ is_set (codes "json") rows)
    × (asked.list.now ≡ first_or (codes "-") (codes "list") rows)
Asks (command.Reach asked) name rows = (name ≡ codes "reach")
    × (asked.json ≡ is_set (codes "json") rows)
    × (map (λ t. t.now) asked.from.items ≡ unwrap_or (all_of (codes "from") rows) [])
    × (map (λ t. t.now) asked.to.items ≡ unwrap_or (all_of (codes "to") rows) [])
    × (asked.list.now ≡ first_or (codes "-") (codes "list") rows)
Asks (command.Route asked) name rows = (name ≡ codes "route")
    × (asked.json ≡ is_set (codes "json") rows)
    × (asked.list.now ≡ first_or (codes "-") (codes "list") rows)
    × (asked.client.now ≡ first_or [] (codes "client") rows)
    × (asked.service.now ≡ first_or [] (codes "service") rows)
    × (asked.args.now ≡ first_or [] (codes "args") rows)
Asks (command.Trace asked) name rows = (name ≡ codes "trace")
    × (option_map (λ t. t.now) asked.machine ≡ first_of (codes "machine") rows)
    × (asked.json ≡ is_set (codes "json") rows)
    × (asked.scenario.now ≡ first_or (codes "-") (codes "scenario") rows)
Asks (command.Accounts asked) name rows = (name ≡ codes "accounts")
    × (option_map (λ t. t.now) asked.machine ≡ first_of (codes "machine") rows)
    × (asked.json ≡ is_set (codes "json") rows)
    × (asked.scenario.now ≡ first_or (codes "-") (codes "scenario") rows)
Asks (command.Alone asked) name rows = (name ≡ codes "alone")
    × (option_map (λ t. t.now) asked.machine ≡ first_of (codes "machine") rows)
    × (asked.all ≡ is_set (codes "all") rows)
    × (asked.summary ≡ is_set (codes "summary") rows)
    × (asked.json ≡ is_set (codes "json") rows)
    × (asked.name.now ≡ first_or [] (codes "name") rows)
    × (option_map (λ t. t.now) asked.scenario ≡ first_of (codes "scenario") rows)
Asks (command.Least asked) name rows = (name ≡ codes "least")
    × (option_map (λ t. t.now) asked.machine ≡ first_of (codes "machine") rows)
    × (asked.as_donated ≡ is_set (codes "as-donated") rows)
    × (asked.json ≡ is_set (codes "json") rows)
    × (asked.list ≡ is_set (codes "list") rows)
    × (asked.donations ≡ is_set (codes "scenario") rows)
    × (asked.safe ≡ is_set (codes "safe") rows)
    × (asked.scenario.now ≡ first_or (codes "-") (codes "played") rows)
Asks (command.Diff asked) name rows = (name ≡ codes "diff")
    × (asked.json ≡ is_set (codes "json") rows)
    × (asked.before.now ≡ first_or [] (codes "before") rows)
    × (asked.after.now ≡ first_or [] (codes "after") rows)
    × (option_map (λ t. t.now) asked.scenario ≡ first_of (codes "scenario") rows)
    × (option_map (λ t. t.now) asked.scenario_after ≡ first_of (codes "scenario-after") rows)
    × (option_map (λ t. t.now) asked.policy ≡ first_of (codes "policy") rows)
Asks (command.Test asked) name rows = (name ≡ codes "test")
    × (option_map (λ t. t.now) asked.machine ≡ first_of (codes "machine") rows)
    × (option_map (λ t. t.now) asked.junit ≡ first_of (codes "junit") rows)
    × (map (λ t. t.now) asked.filters.items ≡ unwrap_or (all_of (codes "filter") rows) [])
    × (asked.strict ≡ is_set (codes "strict") rows)
    × (asked.coverage ≡ is_set (codes "coverage") rows)
    × (option_map (λ t. t.now) asked.threshold ≡ first_of (codes "threshold") rows)
    × (asked.json ≡ is_set (codes "json") rows)
    × IsColor asked.color (first_or (codes "auto") (codes "color") rows)
    × (map (λ t. t.now) asked.paths.items ≡ unwrap_or (all_of (codes "path") rows) [])
Asks (command.Help topic) name rows = (name ≡ codes "help")
    × (option_map (λ t. t.now) topic ≡ first_of (codes "topic") rows)

-- the names of all commands
abbrev pub names : List Text
names = codes "run" ∷ codes "record" ∷ codes "check" ∷ codes "tree" ∷ codes "reach" ∷ codes "route" ∷ codes "trace" ∷ codes "accounts" ∷ codes "alone" ∷ codes "least" ∷ codes "test" ∷ codes "diff" ∷ codes "help" ∷ []

-- a command, if there is one, is what these rows ask for after this name
abbrev pub IsCommand : Option Command → Text → List Row → Type 0
IsCommand (Some command) name rows = Asks command name rows
IsCommand None name rows = All (λ known. name ≢ known) names

-- a request, if there is one, is what a command line asks for
abbrev pub AsksAs : Option CommandLine → Option (Text × List Row) → Type 0
AsksAs (Some request) (Some asked) = Asks request.command asked.0 asked.1
    × (map (λ t. t.now) request.given.items ≡ unwrap_or (all_of (codes "set") asked.1) [])
AsksAs (Some request) None = ⊥
AsksAs None (Some asked) = All (λ known. asked.0 ≢ known) names
AsksAs None None = ⊤
