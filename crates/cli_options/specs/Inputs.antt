-- Which of the files that a command reads are standard input.
use Rattle.std.specs.Prelude.{ℕ, ◌∷◌, ◌++◌, [], Bool, false, List, length, filter, codes, nat_lt, Option, Some, None}
use Rattle.std.specs.Option.{option_copied, option_to_list, unwrap_or}
use Rattle.std.specs.Str.{bytes_eq}
use Rattle.cli_options.specs.declared.command.Command.{Command}
use Rattle.cli_options.specs.declared.command.Command.TheVariants as command
use Rattle.cli_options.specs.declared.command_options.DiffOptions.{DiffOptions}

-- a path denotes standard input
abbrev pub is_input : List ℕ → Bool
is_input path = bytes_eq path (codes "-")

-- a file is given and is standard input
abbrev pub is_given_input : Option (List ℕ) → Bool
is_given_input None = false
is_given_input (Some path) = is_input path

-- the path of a file, if one is given
abbrev pub given : Option (List ℕ) → List (List ℕ)
given path = option_to_list path

-- the paths of the files that `diff` reads
abbrev pub diff_files : DiffOptions → List (List ℕ)
diff_files asked =
    given (option_copied asked.scenario) ++ (given (option_copied asked.scenario_after)
    ++ (given (option_copied asked.policy) ++ asked.before.now ∷ asked.after.now ∷ []))

-- the paths of the files that a command reads. `test` opens the files that its paths denote, and these are never standard input.
abbrev pub files_read : Command → List (List ℕ)
files_read (command.Run asked) = given (option_copied asked.machine) ++ asked.scenario.now ∷ []
files_read (command.Record asked) = given (option_copied asked.machine) ++ asked.scenario.now ∷ []
files_read (command.Check asked) = given (option_copied asked.policy) ++ asked.list.now ∷ []
files_read (command.Tree asked) = asked.list.now ∷ []
files_read (command.Reach asked) = asked.list.now ∷ []
files_read (command.Route asked) = asked.list.now ∷ []
files_read (command.Trace asked) = given (option_copied asked.machine) ++ asked.scenario.now ∷ []
files_read (command.Accounts asked) = given (option_copied asked.machine) ++ asked.scenario.now ∷ []
files_read (command.Least asked) = given (option_copied asked.machine) ++ asked.scenario.now ∷ []
files_read (command.Alone asked) = given (option_copied asked.machine) ++ unwrap_or (option_copied asked.scenario) asked.name.now ∷ []
files_read (command.Diff asked) = diff_files asked
files_read (command.Test asked) = given (option_copied asked.machine)
files_read (command.Help topic) = []

-- how many of these are standard input
abbrev pub inputs : List (List ℕ) → ℕ
inputs paths = length (filter is_input paths)

-- two of these are standard input
abbrev pub is_repeated : List (List ℕ) → Bool
is_repeated paths = nat_lt 1 (inputs paths)

abbrev pub reads_twice : Command → Bool
reads_twice command = is_repeated (files_read command)
