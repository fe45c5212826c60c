-- What the host tells of a file, and the results of policies and of all tests.
use Rattle.std.proofs.Common.{◌⊎◌, inl, inr, ◌<◌, ◌≤◌, ◌+◌, ◌==◌, ◌++◌, ◌∷◌, [], get_or, length, take, ◌≡◌, ◌∙◌, ap, sym, subst, refl, ℕ, Bool, false, true, true≢false, ◌≢◌, is_some, List, Option, Some, None, IfOk, IfSome, Result, Ok, Err}
use Rattle.std.specs.Option.{option_map}
use Rattle.std.proofs.lemmas.List.{take_all, take_more}
use Rattle.std.proofs.lemmas.Slice.Zip.{all_zipped_more}
use Rattle.own_model.specs.Listed.{Listed}
use Rattle.list_faults.specs.Places.{fault_of}
use Rattle.list_findings.specs.AllFindings.{all_findings}
use Rattle.list_findings.specs.declared.finding.Finding.{Finding}
use Rattle.list_parser.specs.Quota.{quota_fault}
use Rattle.list_parser.specs.StartText.{json_in, list_in}
use Rattle.list_parser.specs.declared.fault.BootFault.{BootFault}
use Rattle.list_parser.specs.declared.fault.BootFault.TheVariants.{NoMemory}
use Rattle.cli_base.specs.Files.{HasNoList, IsUnknown}
use Rattle.cli_base.specs.ListFailures.{boot_lacks_memory, lacks_memory}
use Rattle.cli_base.specs.MachineChoice.{list_beside}
use Rattle.cli_base.specs.MachineTexts.{IsFilled}
use Rattle.cli_base.specs.declared.list_file.StartListFailure.{StartListFailure}
use Rattle.cli_base.specs.declared.settings.Settings.{Settings}
use Rattle.cli_options.specs.declared.command_options.TestOptions.{TestOptions}
use Rattle.view_test_report.specs.declared.test_result.TestResult.{TestResult}
use Rattle.view_test_report.specs.declared.test_result.TimedResult.{TimedResult}
use Rattle.cli_tests.specs.Outcome.{AreResults, IsResultOf}
use Rattle.cli_tests.specs.PolicyTest.{HasNoFindings, IsListResult, IsPolicyResult}
use Rattle.cli_tests.specs.declared.planned_test.PlannedTest.{PlannedTest}

-- ---- a file

-- a file isn't known if the host doesn't tell of it what it would tell then
pub told_unknown : {E K : Type 0} (known : Option (List ℕ)) (told would : K) (result : Result K E) → result ≡ Ok told → told ≢ would
    → IfSome known (λ text. result ≡ Ok would) → known ≡ None
told_unknown None told would result is other known = refl
told_unknown (Some text) told would result is other known = absurd (other cc)

-- nor is it if the host can't tell
pub untold_unknown : {E K : Type 0} (known : Option (List ℕ)) (error : E) (would : K) (result : Result K E) → result ≡ Err error
    → IfSome known (λ text. result ≡ Ok would) → known ≡ None
untold_unknown None error would result is known = refl
untold_unknown (Some text) error would result is known = absurd cc

-- nor is it if it isn't opened
pub unopened_unknown : (known : Option (List ℕ)) (opened : Bool) → opened ≡ false → IfSome known (λ text. opened ≡ true) → known ≡ None
unopened_unknown None opened is known = refl
unopened_unknown (Some text) opened is known = absurd (true≢false (sym known ∙ is))

-- a file that isn't known may be no list
unknown_lacks : (texts : List ℕ → Option (List ℕ)) (settings : Settings) (path : List ℕ) → IsUnknown texts path → HasNoList texts settings path
unknown_lacks texts settings path unknown = rw unknown tt

-- ---- a list by itself

-- its findings
pub findings_result : {E : Type 0} (text read : List ℕ) (list : Listed) (findings found : List Finding) (result : Result TestResult E)
    → read ≡ text → Some found ≡ option_map (λ value. all_findings read value list) (json_in read)
    → findings ≡ found → IfOk result (λ test. test.passed ≡ (length findings == 0)) → IfOk result (λ test. HasNoFindings text list test.passed)
findings_result text read list findings found (Ok test) is told same passed =
    subst (λ t. HasNoFindings t list test.passed) is (found, told, subst (λ those. test.passed ≡ (length those == 0)) same passed)
findings_result text read list findings found (Err error) is told same passed = tt

-- ---- a policy

-- no list is known
pub no_list_result : (texts : List ℕ → Option (List ℕ)) (strict : Bool) (settings : Settings) (policy path : List ℕ) (passed : Bool)
    → path ≡ list_beside policy → IsUnknown texts path → passed ≡ false → IsPolicyResult texts strict settings policy passed
no_list_result texts strict settings policy path passed is unknown failed =
    inl (failed, subst (λ p. HasNoList texts settings p) is (unknown_lacks texts settings path unknown))

module _ {E : Type 0} (Passes : Listed → Bool → Type 0) where
  -- a list that boots
  pub booted_result : (text read : List ℕ) (list : Listed) (result : Result TestResult E) → read ≡ text → list_in read ≡ Ok list
      → quota_fault list ≡ None → IfOk result (λ test. Passes list test.passed)
      → IfOk result (λ test. IsListResult Passes text test.passed)
  booted_result text read list (Ok test) is listed boots kept = inr (list, subst (λ t. list_in t ≡ Ok list) is listed, boots, kept)
  booted_result text read list (Err error) is listed boots kept = tt

  -- a list that doesn't boot
  pub unbooted_result : (text read : List ℕ) (fault : BootFault) (result : Result TestResult E) → read ≡ text
      → (fault ≢ NoMemory → fault_of read ≡ Some fault) → IfOk result (λ test. boot_lacks_memory fault ≡ false)
      → IfOk result (λ test. test.passed ≡ false) → IfOk result (λ test. IsListResult Passes text test.passed)
  unbooted_result text read fault (Ok test) is faulty memory failed =
      let found : fault_of read ≡ Some fault = faulty (λ none. true≢false (sym (ap boot_lacks_memory none) ∙ memory)) in
      inl (failed, subst (λ t. is_some (fault_of t) ≡ true) is (ap is_some found))
  unbooted_result text read fault (Err error) is faulty memory failed = tt

-- the result of a list at a path: it isn't read, or it is by its text
abbrev pub IsReadResult : (List ℕ → Option (List ℕ)) → Settings → (List ℕ → Listed → Bool → Type 0) → List ℕ → Bool → Type 0
IsReadResult texts settings Passes at passed =
    ((passed ≡ false) × HasNoList texts settings at)
    ⊎ ((text : List ℕ) × IsFilled texts settings at text × IsListResult (Passes text) text passed)

module _ {E : Type 0} (texts : List ℕ → Option (List ℕ)) (settings : Settings) (Passes : List ℕ → Listed → Bool → Type 0) (path : List ℕ) where
  -- a list that is read
  pub listed_result : (at text : List ℕ) (result : Result TestResult E) → path ≡ at → IsFilled texts settings path text
      → IfOk result (λ test. IsListResult (Passes text) text test.passed) → IfOk result (λ test. IsReadResult texts settings Passes at test.passed)
  listed_result at text (Ok test) is filled listed = inr (text, subst (λ p. IsFilled texts settings p text) is filled, listed)
  listed_result at text (Err error) is filled listed = tt

  -- a list that isn't read
  pub unlisted_result : (at : List ℕ) (failure : StartListFailure) (result : Result TestResult E) → path ≡ at
      → (lacks_memory failure ≡ false → HasNoList texts settings path) → IfOk result (λ test. lacks_memory failure ≡ false)
      → IfOk result (λ test. test.passed ≡ false) → IfOk result (λ test. IsReadResult texts settings Passes at test.passed)
  unlisted_result at failure (Ok test) is lacks memory failed = inl (failed, subst (λ p. HasNoList texts settings p) is (lacks memory))
  unlisted_result at failure (Err error) is lacks memory failed = tt

-- ---- one test after another

module _ (texts : List ℕ → Option (List ℕ)) (asked : TestOptions) (settings : Settings) where
  -- the result of one test more
  pub results_more : (tests : List PlannedTest) (place : ℕ) (test : PlannedTest) (trials new_trials : List TimedResult) (trial : TimedResult)
      → place < length tests → test ≡ get_or tests place test → AreResults texts asked settings (take place tests) trials
      → IsResultOf texts asked settings test trial.result.passed → new_trials ≡ trials ++ trial ∷ [] → AreResults texts asked settings (take (place + 1) tests) new_trials
  results_more tests place test trials new_trials trial within is before result more =
      subst (λ those. AreResults texts asked settings (take (place + 1) tests) those) (sym more)
      (subst (λ those. AreResults texts asked settings those (trials ++ trial ∷ []))
      (sym (take_more tests place test within ∙ ap (λ t. take place tests ++ t ∷ []) (sym is)))
      (all_zipped_more _ (take place tests) trials test trial before result))

  -- the results of all tests
  pub results_all : (tests : List PlannedTest) (place : ℕ) (trials : List TimedResult) → length tests ≤ place
      → AreResults texts asked settings (take place tests) trials → AreResults texts asked settings tests trials
  results_all tests place trials end results = subst (λ those. AreResults texts asked settings those trials) (take_all place tests end) results
