-- The outcome of all tests, and the exit status.
use Rattle.std.specs.Prelude.{◌≡◌, ℕ, ◌<◌, ◌≤◌, ◌++◌, ◌||◌, ◌⊎◌, ⊤, Any, Bool, false, true, List, [], count_by, length, map, nat_lt, string_bytes, if◌then◌else◌, IsSomeAnd, Option, Some, None}
use Rattle.std.specs.Borrow.{Bor}
use Rattle.std.specs.List.{AllZip}
use Rattle.std.specs.Option.{option_copied, option_to_list}
use Rattle.std.specs.Str.Parse.{IsNumeral, digits_value, without_leading_plus}
use Rattle.view_coverage.specs.Reported.{falls_short, is_covered}
use Rattle.view_coverage.specs.declared.report.CoverageReport.{CoverageReport}
use Rattle.view_test_report.specs.Trials.{failed_among}
use Rattle.view_test_report.specs.declared.test_result.TimedResult.{TimedResult}
use Rattle.cli_options.specs.declared.command_options.TestOptions.{TestOptions}
use Rattle.cli_base.specs.Files.{IsUnknown}
use Rattle.cli_base.specs.Given.{HasUnread}
use Rattle.cli_base.specs.MachineChoice.{list_beside}
use Rattle.cli_base.specs.Paths.{is_list}
use Rattle.cli_base.specs.Statuses.{EndsAs}
use Rattle.cli_base.specs.declared.settings.Settings.{Settings}
use Rattle.cli_tests.specs.Plan.{AreFound, AreSelected, path_of}
use Rattle.cli_tests.specs.PolicyTest.{IsCheckResult, IsPolicyResult}
use Rattle.cli_tests.specs.ScenarioTest.{IsScenarioResult}
use Rattle.cli_tests.specs.declared.file_search.SearchFailure.{SearchFailure}
use Rattle.cli_tests.specs.declared.file_search.SearchFailure.TheVariants as search
use Rattle.cli_tests.specs.declared.planned_test.PlannedTest.{PlannedTest}
use Rattle.cli_tests.specs.declared.planned_test.PlannedTest.TheVariants.{Scenario, Policy, List as ListAlone}
use Rattle.cli_tests.specs.declared.test.TestOutcome.{TestOutcome}

-- ---- results

-- a test passes, or fails, as its scenario, its policy or its list does
abbrev pub IsResultOf : (List ℕ → Option (List ℕ)) → TestOptions → Settings → PlannedTest → Bool → Type 0
IsResultOf texts asked settings (Scenario path) passed =
    IsScenarioResult texts settings (option_copied asked.machine) (string_bytes path) passed
IsResultOf texts asked settings (Policy path) passed = IsPolicyResult texts asked.strict settings (string_bytes path) passed
IsResultOf texts asked settings (ListAlone path) passed = IsCheckResult texts settings (string_bytes path) passed

-- each test has its result, in the order of the tests
abbrev pub AreResults : (List ℕ → Option (List ℕ)) → TestOptions → Settings → List PlannedTest → List TimedResult → Type 0
AreResults texts asked settings tests trials = AllZip (λ (test : PlannedTest) (trial : TimedResult). IsResultOf texts asked settings test trial.result.passed) tests trials

-- ---- coverage

-- fewer rules and session requests than so many percent are covered, if a percentage is asked for
abbrev pub is_short_by : CoverageReport → Option ℕ → Bool
is_short_by report None = false
is_short_by report (Some percent) =
    falls_short percent (count_by (is_covered report.sheets.items) report.parts.items) (length report.parts.items)

-- less is covered than this threshold asks for, by a coverage of the scenarios
abbrev pub IsShortBy : Option ℕ → Bool → Type 0
IsShortBy threshold short = (report : CoverageReport) × (short ≡ is_short_by report threshold)

-- a number from 0 to 100, by its text
abbrev pub IsPercentage : List ℕ → ℕ → Type 0
IsPercentage text percent = IsNumeral 10 (without_leading_plus text) × (percent ≤ 100)
    × (percent ≡ digits_value 10 (without_leading_plus text))

abbrev pub IsNoPercentage : List ℕ → Type 0
IsNoPercentage text = IsNumeral 10 (without_leading_plus text) → 100 < digits_value 10 (without_leading_plus text)

abbrev pub AsksFor : Option (Bor (List ℕ)) → Option ℕ → Type 0
AsksFor None None = ⊤
AsksFor (Some text) (Some percent) = IsPercentage text.now percent
AsksFor None (Some percent) = ⊥
AsksFor (Some text) None = ⊥

-- ---- all tests

-- the exit status is 3 if a test failed or less is covered than asked for, and else 0
abbrev pub outcome_status : TestOutcome → ℕ
outcome_status outcome = if nat_lt 0 (length (failed_among outcome.trials.items)) || outcome.falls_short then 3 else 0

-- each test has its result, and the status is that of the results and of what they cover
pub record HasResults (texts : List ℕ → Option (List ℕ)) (asked : TestOptions) (settings : Settings) (threshold : Option ℕ)
    (tests : List PlannedTest) (status : ℕ) : Type 0 where
  pub outcome : TestOutcome
  pub each : AreResults texts asked settings tests outcome.trials.items
  pub short : IsShortBy threshold outcome.falls_short
  pub status_is : status ≡ outcome_status outcome

-- tests were run with a threshold if one is asked for: those of the files that the filters select, one at least
pub record HasTested (texts : List ℕ → Option (List ℕ)) (asked : TestOptions) (settings : Settings) (status : ℕ) : Type 0 where
  pub tests : List PlannedTest
  pub selected : AreSelected texts asked tests
  pub some : 0 < length tests
  pub threshold : Option ℕ
  pub asks : AsksFor asked.threshold threshold
  pub results : HasResults texts asked settings threshold tests status

-- the host is out of memory for the search
abbrev pub search_lacks_memory : SearchFailure → Bool
search_lacks_memory (search.Unreadable path error) = false
search_lacks_memory (search.List path) = false
search_lacks_memory (search.Irregular path) = false
search_lacks_memory (search.Replaced path) = false
search_lacks_memory (search.Nothing path) = false
search_lacks_memory (search.Unselected filters) = false
search_lacks_memory (search.Unread argument) = false
search_lacks_memory search.NoMemory = true

-- a path has no tests: it can't be read, as far as it is known, or is that of a start list
abbrev pub IsNoTest : (List ℕ → Option (List ℕ)) → List ℕ → Type 0
IsNoTest texts path = IsUnknown texts path ⊎ (is_list path ≡ true)

abbrev pub LacksPath : (List ℕ → Option (List ℕ)) → List (Bor (List ℕ)) → Type 0
LacksPath texts paths = Any (λ path. IsNoTest texts path.now) paths

-- a JUnit document would replace the file of a path, which has the same text
abbrev pub IsReplaced : (List ℕ → Option (List ℕ)) → Option (Bor (List ℕ)) → List ℕ → Type 0
IsReplaced texts junit path = IsSomeAnd junit (λ to. texts path ≡ texts to.now)

-- no test reads the file of a path: it isn't regular, or it would be replaced
abbrev pub IsNoInputFile : (List ℕ → Option (List ℕ)) → Option (Bor (List ℕ)) → List ℕ → Type 0
IsNoInputFile texts junit path = IsUnknown texts path ⊎ IsReplaced texts junit path

-- the same of the file of a test, or of the start list next to it
abbrev pub IsNoInput : (List ℕ → Option (List ℕ)) → Option (Bor (List ℕ)) → PlannedTest → Type 0
IsNoInput texts junit test = IsNoInputFile texts junit (path_of test) ⊎ IsNoInputFile texts junit (list_beside (path_of test))

-- the same of one of these tests, or the list of another path would be replaced
abbrev pub LacksInput : (List ℕ → Option (List ℕ)) → Option (Bor (List ℕ)) → Option (Bor (List ℕ)) → List PlannedTest → Type 0
LacksInput texts machine junit tests =
    IsSomeAnd machine (λ path. IsReplaced texts junit path.now) ⊎ Any (λ test. IsNoInput texts junit test) tests

-- the path of a start list that may be named
abbrev pub given_paths : Option (Bor (List ℕ)) → List (List ℕ)
given_paths machine = option_to_list (option_copied machine)

-- tests are refused: a path has none, an input of them is refused, the filters select nothing, or none of them reads a name
abbrev pub LacksTests : (List ℕ → Option (List ℕ)) → TestOptions → List (Bor (List ℕ)) → Type 0
LacksTests texts asked given =
    LacksPath texts asked.paths.items
    ⊎ (((tests : List PlannedTest) × AreFound texts asked tests × LacksInput texts asked.machine asked.junit tests)
    ⊎ (AreSelected texts asked []
    ⊎ ((tests : List PlannedTest) × AreSelected texts asked tests × HasUnread texts (given_paths asked.machine ++ map path_of tests) given)))

-- a threshold that is no percentage is refused, and so is a command without tests
abbrev pub TestsRefused : (List ℕ → Option (List ℕ)) → TestOptions → List (Bor (List ℕ)) → Type 0
TestsRefused texts asked given = IsSomeAnd asked.threshold (λ text. IsNoPercentage text.now) ⊎ LacksTests texts asked given

abbrev pub TestsEnd : (List ℕ → Option (List ℕ)) → TestOptions → Settings → ℕ → Type 0
TestsEnd texts asked settings status = EndsAs (TestsRefused texts asked settings.given.now) (HasTested texts asked settings) status
