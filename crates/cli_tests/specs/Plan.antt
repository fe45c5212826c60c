-- The tests of files: each scenario, and each policy once, and which of them the texts of a filter select.
use Rattle.std.specs.Prelude.{◌≡◌, ◌⊎◌, ℕ, ◌==◌, ◌||◌, Bool, false, List, [], ◌∷◌, ◌++◌, codes, filter, is_some, length, map, string_bytes, String, if◌then◌else◌, IfSome, MatchBool, Option, Some, None}
use Rattle.std.specs.Borrow.{Bor}
use Rattle.std.specs.Global.{Global}
use Rattle.std.specs.List.{list_any}
use Rattle.std.specs.Option.{option_copied}
use Rattle.std.specs.Str.{bytes_eq}
use Rattle.memchr.specs.Find.{first_of, matches}
use Rattle.cli_base.specs.Files.{IsUnknown}
use Rattle.cli_base.specs.MachineChoice.{list_beside}
use Rattle.cli_base.specs.Paths.{is_policy, stem_of}
use Rattle.cli_options.specs.declared.command_options.TestOptions.{TestOptions}
use Rattle.cli_tests.specs.declared.planned_test.PlannedTest.{PlannedTest}
use Rattle.cli_tests.specs.declared.planned_test.PlannedTest.TheVariants.{Scenario, Policy, List as ListAlone}

-- ---- the files of paths

-- a path whose text is known is a file itself
abbrev pub AreFilesAt : (List ℕ → Option (List ℕ)) → List ℕ → List (String Global) → Type 0
AreFilesAt texts path files = IfSome (texts path) (λ text. map (λ file. string_bytes file) files ≡ path ∷ [])

-- the files of paths, in the order of the paths
abbrev pub AreFiles : (List ℕ → Option (List ℕ)) → List (Bor (List ℕ)) → List (String Global) → Type 0
AreFiles texts [] files = files ≡ []
AreFiles texts (path ∷ paths) files = (first : List (String Global)) × (others : List (String Global)) × (files ≡ first ++ others)
    × AreFilesAt texts path.now first × AreFiles texts paths others

-- ---- the tests of files

-- two tests check the same list, by itself or against the same policy
abbrev pub are_same : PlannedTest → PlannedTest → Bool
are_same (Scenario one) other = false
are_same (Policy one) (Scenario other) = false
are_same (Policy one) (Policy other) = bytes_eq (string_bytes one) (string_bytes other)
are_same (Policy one) (ListAlone other) = false
are_same (ListAlone one) (Scenario other) = false
are_same (ListAlone one) (Policy other) = false
are_same (ListAlone one) (ListAlone other) = bytes_eq (string_bytes one) (string_bytes other)

-- tests, and a check unless it is among them
abbrev pub with_check : List PlannedTest → PlannedTest → List PlannedTest
with_check tests check = if list_any (are_same check) tests then tests else tests ++ check ∷ []

-- the same of a check that may not be there
abbrev pub with_check_if : List PlannedTest → Option PlannedTest → List PlannedTest
with_check_if tests None = tests
with_check_if tests (Some check) = with_check tests check

-- tests, and those of a file: of a policy, or of a scenario after that of the policy next to it; before them that of the list
abbrev pub with_file : List PlannedTest → String Global → Option PlannedTest → Option PlannedTest → List PlannedTest
with_file tests file list beside =
    if is_policy (string_bytes file) then with_check (with_check_if tests list) (Policy file)
    else with_check_if (with_check_if tests list) beside ++ Scenario file ∷ []

-- a check is that of a file, by the path of the file; without a path there is none
abbrev pub IsCheckOf : (String Global → PlannedTest) → Option (List ℕ) → Option PlannedTest → Type 0
IsCheckOf test None check = check ≡ None
IsCheckOf test (Some path) check = (file : String Global) × (check ≡ Some (test file)) × (string_bytes file ≡ path)

-- the list that a file uses is checked if findings count: the one next to it, or of a scenario without one that of the command line
abbrev pub IsListOf : (List ℕ → Option (List ℕ)) → Option (List ℕ) → List ℕ → Option PlannedTest → Type 0
IsListOf texts machine file list =
    IsCheckOf ListAlone (Some (list_beside file)) list
    ⊎ (IsUnknown texts (list_beside file) × IsCheckOf ListAlone (if is_policy file then None else machine) list)

abbrev pub IsCheckedFor : (List ℕ → Option (List ℕ)) → TestOptions → List ℕ → Option PlannedTest → Type 0
IsCheckedFor texts asked file list = MatchBool asked.strict (IsListOf texts (option_copied asked.machine) file list) (list ≡ None)

-- the path of the policy next to a scenario
abbrev pub policy_beside : List ℕ → List ℕ
policy_beside scenario = stem_of scenario ++ codes ".policy"

-- there is a policy next to a scenario if its text is known
abbrev pub IsPolicyBeside : (List ℕ → Option (List ℕ)) → List ℕ → Option PlannedTest → Type 0
IsPolicyBeside texts scenario policy =
    IsCheckOf Policy (Some (policy_beside scenario)) policy ⊎ (IsUnknown texts (policy_beside scenario) × (policy ≡ None))

-- tests, and those of files one after another
abbrev pub AreAdded : (List ℕ → Option (List ℕ)) → TestOptions → List PlannedTest → List (String Global) → List PlannedTest → Type 0
AreAdded texts asked before [] tests = tests ≡ before
AreAdded texts asked before (file ∷ files) tests =
    (list : Option PlannedTest) × IsCheckedFor texts asked (string_bytes file) list
    × ((beside : Option PlannedTest) × IsPolicyBeside texts (string_bytes file) beside
    × AreAdded texts asked (with_file before file list beside) files tests)

-- the tests of files
abbrev pub ArePlanned : (List ℕ → Option (List ℕ)) → TestOptions → List (String Global) → List PlannedTest → Type 0
ArePlanned texts asked files tests = AreAdded texts asked [] files tests

-- tests are those of the files of the command line's paths
abbrev pub AreFound : (List ℕ → Option (List ℕ)) → TestOptions → List PlannedTest → Type 0
AreFound texts asked tests = (files : List (String Global)) × AreFiles texts asked.paths.items files × ArePlanned texts asked files tests

-- ---- filters

-- the path of a test's file
abbrev pub path_of : PlannedTest → List ℕ
path_of (Scenario path) = string_bytes path
path_of (Policy path) = string_bytes path
path_of (ListAlone path) = string_bytes path

-- a text occurs in a path
abbrev pub has_text : List ℕ → List ℕ → Bool
has_text path text = is_some (first_of (matches path text 0))

-- a test is selected if its path has one of the texts, or there is no text
abbrev pub is_selected : List (List ℕ) → PlannedTest → Bool
is_selected texts test = length texts == 0 || list_any (has_text (path_of test)) texts

-- tests are those of these files that the texts of filters select, in their order
abbrev pub AreSelected : (List ℕ → Option (List ℕ)) → TestOptions → List PlannedTest → Type 0
AreSelected texts asked tests = (found : List PlannedTest) × AreFound texts asked found
    × (tests ≡ filter (is_selected (map (λ given. given.now) asked.filters.items)) found)
