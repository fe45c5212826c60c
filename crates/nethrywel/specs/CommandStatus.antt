-- The exit status of each command, and of a command line.
use Rattle.std.specs.Prelude.{◌≡◌, ◌⊎◌, ℕ, ◌||◌, ◌&&◌, Bool, false, true, List, [], ◌∷◌, codes, is_none, is_some, MatchBool, Option, Some, None, Result, Ok, Err}
use Rattle.std.specs.Borrow.{Bor}
use Rattle.std.specs.Option.{option_map_or}
use Rattle.std.specs.Str.{bytes_eq}
use Rattle.clap.specs.Words.{HasKind, Text, fault_of, kind_of, subcommand_of}
use Rattle.clap.specs.declared.error.Error.{Error}
use Rattle.clap.specs.declared.error.kind.ErrorKind.{ErrorKind}
use Rattle.clap.specs.declared.error.kind.ErrorKind.TheVariants.{DisplayHelp, DisplayVersion, OutOfMemory}
use Rattle.cli_options.specs.Inputs.{files_read, reads_twice}
use Rattle.cli_options.specs.Line.{AsksAs, program}
use Rattle.cli_options.specs.declared.command.Command.{Command}
use Rattle.cli_options.specs.declared.command.Command.TheVariants as command
use Rattle.cli_options.specs.declared.command.CommandLine.{CommandLine}
use Rattle.cli_options.specs.declared.command_options.AloneOptions.{AloneOptions}
use Rattle.cli_options.specs.declared.command_options.DiffOptions.{DiffOptions}
use Rattle.cli_options.specs.declared.command_options.RunOptions.{RunOptions}
use Rattle.cli_options.specs.declared.command_options.TestOptions.{TestOptions}
use Rattle.line_names.specs.NameTable.{nothing}
use Rattle.cli_base.specs.Statuses.{EndsAs, IsZero}
use Rattle.cli_base.specs.Given.{given_by_all, names_of, HasNoSetting, HasUnread}
use Rattle.cli_base.specs.declared.settings.Settings.{Settings}
use Rattle.cli_budgets.specs.BudgetStatus.{BudgetsEnd}
use Rattle.cli_lists.specs.Comparison.{DiffEnds}
use Rattle.cli_lists.specs.ListStatus.{CheckEnds, ReachEnds, RouteEnds, TreeEnds}
use Rattle.cli_runs.specs.CommandStatus.{AccountsEnd, AllAloneEnd, AloneEnds, RecordEnds, RunEnds, TraceEnds}
use Rattle.cli_tests.specs.Outcome.{TestsEnd}

-- ---- help

-- the help or the version is printed, the host is out of memory, or a command line is refused
abbrev pub RefusesAs : ErrorKind → ℕ → Type 0
RefusesAs DisplayHelp status = EndsAs ⊥ IsZero status
RefusesAs DisplayVersion status = EndsAs ⊥ IsZero status
RefusesAs OutOfMemory status = status ≡ 1
RefusesAs kind status = status ≡ 2

abbrev pub RefusesBy : Error → ℕ → Type 0
RefusesBy error status = RefusesAs (kind_of error) status

-- the arguments that ask for the help on a command, or on the program
abbrev pub help_words : Option (Bor (List ℕ)) → List Text
help_words None = codes "nethrywel" ∷ codes "--help" ∷ []
help_words (Some command) = codes "nethrywel" ∷ command.now ∷ codes "--help" ∷ []

-- help is what reading these arguments gives
abbrev pub HelpsBy : List Text → Result (Option CommandLine) Error → ℕ → Type 0
HelpsBy words (Ok request) status = status ≡ 0
HelpsBy words (Err error) status = HasKind (fault_of program words) error × RefusesBy error status

abbrev pub Helps : List Text → ℕ → Type 0
Helps words status = (read : Result (Option CommandLine) Error) × HelpsBy words read status

-- the page on calls is printed; else there is a command of the topic's name, or it is refused
abbrev pub HelpEnds : Option (Bor (List ℕ)) → ℕ → Type 0
HelpEnds topic status =
    MatchBool (option_map_or (λ (name : Bor (List ℕ)). bytes_eq name.now (codes "calls")) topic false) (EndsAs ⊥ IsZero status)
    (Helps (help_words topic) status)

-- ---- commands

-- `run` and `test` refuse a `--color` that isn't auto, always or never
abbrev pub RunAnswers : (List ℕ → Option (List ℕ)) → RunOptions → Settings → ℕ → Type 0
RunAnswers texts asked settings status = MatchBool (is_none asked.color) (status ≡ 2) (RunEnds texts asked settings status)

abbrev pub TestAnswers : (List ℕ → Option (List ℕ)) → TestOptions → Settings → ℕ → Type 0
TestAnswers texts asked settings status = MatchBool (is_none asked.color) (status ≡ 2) (TestsEnd texts asked settings status)

-- `alone` takes a component and a scenario, or with `--all` a scenario
abbrev pub AloneAnswers : (List ℕ → Option (List ℕ)) → AloneOptions → Settings → Option (Bor (List ℕ)) → ℕ → Type 0
AloneAnswers texts asked settings (Some scenario) status =
    MatchBool (asked.all || asked.summary) (status ≡ 2) (AloneEnds texts asked scenario.now settings status)
AloneAnswers texts asked settings None status = MatchBool asked.all (AllAloneEnd texts asked settings status) (status ≡ 2)

-- `diff` takes a scenario for the list after only next to one for both
abbrev pub lacks_scenario : DiffOptions → Bool
lacks_scenario asked = is_none asked.scenario && is_some asked.scenario_after

abbrev pub DiffAnswers : (List ℕ → Option (List ℕ)) → DiffOptions → Settings → ℕ → Type 0
DiffAnswers texts asked settings status = MatchBool (lacks_scenario asked) (status ≡ 2) (DiffEnds texts asked settings status)

-- a command with these settings ends with this status
abbrev pub AnswersBy : (List ℕ → Option (List ℕ)) → Command → Settings → ℕ → Type 0
AnswersBy texts (command.Run asked) settings status = RunAnswers texts asked settings status
AnswersBy texts (command.Record asked) settings status = RecordEnds texts asked settings status
AnswersBy texts (command.Check asked) settings status = CheckEnds texts asked settings status
AnswersBy texts (command.Tree asked) settings status = TreeEnds texts asked settings status
AnswersBy texts (command.Reach asked) settings status = ReachEnds texts asked settings status
AnswersBy texts (command.Route asked) settings status = RouteEnds texts asked settings status
AnswersBy texts (command.Trace asked) settings status = TraceEnds texts asked settings status
AnswersBy texts (command.Accounts asked) settings status = AccountsEnd texts asked settings status
AnswersBy texts (command.Least asked) settings status = BudgetsEnd texts asked settings status
AnswersBy texts (command.Alone asked) settings status = AloneAnswers texts asked settings asked.scenario status
AnswersBy texts (command.Diff asked) settings status = DiffAnswers texts asked settings status
AnswersBy texts (command.Test asked) settings status = TestAnswers texts asked settings status
AnswersBy texts (command.Help topic) settings status = HelpEnds topic status

-- ---- command lines

-- names have the values that arguments give
abbrev pub AreGiven : List (Bor (List ℕ)) → Settings → Type 0
AreGiven given settings = (names_of settings ≡ given_by_all nothing given) × (settings.given.now ≡ given)

-- a request is refused if two of its files are standard input, an argument gives no name a value, or none of its files reads a name;
-- else its command ends so, with the values of names that it gives
abbrev pub AnswersRequest : (List ℕ → Option (List ℕ)) → CommandLine → ℕ → Type 0
AnswersRequest texts request status =
    MatchBool (reads_twice request.command) (status ≡ 2)
    (EndsAs (HasNoSetting request.given.items ⊎ HasUnread texts (files_read request.command) request.given.items)
    (λ ended. (settings : Settings) × AreGiven request.given.items settings × AnswersBy texts request.command settings ended) status)

-- arguments are refused; or they are read as a request, or as none, or with an error
abbrev pub AnswersRead : (List ℕ → Option (List ℕ)) → List Text → Result (Option CommandLine) Error → ℕ → Type 0
AnswersRead texts words (Ok (Some request)) status =
    AsksAs (Some request) (subcommand_of program words) × AnswersRequest texts request status
AnswersRead texts words (Ok None) status = AsksAs None (subcommand_of program words) × (status ≡ 2)
AnswersRead texts words (Err error) status = HasKind (fault_of program words) error × RefusesBy error status

abbrev pub AnswersWords : (List ℕ → Option (List ℕ)) → List Text → ℕ → Type 0
AnswersWords texts words status = (read : Result (Option CommandLine) Error) × AnswersRead texts words read status
