-- JUnit's XML.
use Rattle.std.specs.Prelude.{ℕ, ◌==◌, ◌+◌, ◌/◌, ◌%◌, List, [], ◌∷◌, ◌++◌, length, take, codes, decimal, flat_map, position, string_bytes, unwrap_or, if◌then◌else◌}
use Rattle.view_test_report.specs.Trials.{failed_among, total_milliseconds}
use Rattle.view_test_report.specs.Xml.{between}
use Rattle.view_test_report.specs.declared.test_result.TestResult.{TestResult}
use Rattle.view_test_report.specs.declared.test_result.TimedResult.{TimedResult}

-- the first of these lines
abbrev pub first_line : List ℕ → List ℕ
first_line lines = take (unwrap_or (position (λ byte. byte == 10) lines) (length lines)) lines

-- the text before the number of trials
abbrev pub junit_head : List ℕ
junit_head = codes "<?xml version=\"1.0\" encoding=\"UTF-8\"?>\n<testsuites>\n<testsuite name=\"nethrywel\" tests=\""

-- a number after a text
unfoldable pub numbered : List ℕ → ℕ → List ℕ
numbered before number = before ++ decimal number

-- the numbers of trials and of those that failed
unfoldable pub counted : ℕ → ℕ → List ℕ
counted all failed = numbered junit_head all ++ numbered (codes "\" failures=\"") failed

-- a point, three digits of the milliseconds, and a quote
unfoldable pub thousandths : ℕ → List ℕ
thousandths milliseconds =
    46 ∷ (48 + milliseconds / 100 % 10) ∷ (48 + milliseconds / 10 % 10) ∷ (48 + milliseconds % 10) ∷ 34 ∷ []

-- the quote that ends an attribute, and after it a time in milliseconds as an attribute: seconds with three digits after the point
unfoldable pub timed : ℕ → List ℕ
timed milliseconds = numbered (codes "\" time=\"") (milliseconds / 1000) ++ thousandths milliseconds

-- the text before the first trial, by the number of trials, that of failures and the time of all
unfoldable pub junit_front : ℕ → ℕ → ℕ → List ℕ
junit_front all failed total = counted all failed ++ timed total ++ codes ">\n"

-- the reason for which a trial failed, by its report
unfoldable pub junit_failure : List ℕ → List ℕ
junit_failure told =
    between (codes "><failure message=\"") (first_line told) (codes "\">") ++ between [] told (codes "</failure></testcase>\n")

-- the end of a trial
abbrev pub junit_end : TestResult → List ℕ
junit_end trial = if trial.passed then codes "/>\n" else junit_failure trial.told.items

-- a trial
unfoldable pub junit_case : TimedResult → List ℕ
junit_case trial =
    between (codes "<testcase classname=\"nethrywel\" name=\"") (string_bytes trial.result.name) [] ++ timed trial.milliseconds
    ++ junit_end trial.result

-- a document of all trials
abbrev pub junit_document : List TimedResult → List ℕ
junit_document trials =
    junit_front (length trials) (length (failed_among trials)) (total_milliseconds trials) ++ flat_map junit_case trials
    ++ codes "</testsuite>\n</testsuites>\n"
