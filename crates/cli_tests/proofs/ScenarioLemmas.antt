-- The results of scenarios.
use Rattle.std.proofs.Common.{inl, inr, ◌==◌, ◌&&◌, ◌≡◌, ◌∙◌, ap, sym, subst, ℕ, Bool, false, true, List, [], Option, Some, IfOk, IfSome, Result, Ok, Err}
use Rattle.std.specs.Prelude.{MatchResult, if◌then◌else◌}
use Rattle.own_model.specs.Listed.{Listed}
use Rattle.list_parser.specs.StartText.{list_in}
use Rattle.line_names.specs.NameTable.{NameTable}
use Rattle.line_names.specs.RoundMarks.{RoundMark}
use Rattle.line_rounds.specs.Unfolding.{UnfoldedText, unfolded}
use Rattle.line_rounds.specs.declared.fault.RoundsFault.{RoundsFault}
use Rattle.cli_base.specs.Files.{IsTextAt, IsTooLong, IsUnknown}
use Rattle.cli_base.specs.Given.{names_of}
use Rattle.cli_base.specs.Texts.{bytes_of}
use Rattle.cli_base.specs.Unfolding.{rounds_of}
use Rattle.cli_base.specs.declared.list_file.StartListFailure.{StartListFailure}
use Rattle.cli_base.specs.declared.machine.Machine.{Machine}
use Rattle.cli_base.specs.declared.settings.Settings.{Settings}
use Rattle.view_test_report.specs.declared.test_result.TestResult.{TestResult}
use Rattle.cli_tests.specs.ScenarioTest.{IsFileResult, IsFound, IsListFor, IsMachineResult, IsScenarioResult, IsTextResult, IsUnfoldedResult, IsUnreadResult, PassesBy, has_call}
use Rattle.cli_tests.proofs.RunLemmas.{less_known}

-- the host is out of memory exactly if the status is 1
pub lacks_by_status : (lacks : Bool) (status : ℕ) → status ≡ (if lacks then 1 else 2) → (status == 1) ≡ lacks
lacks_by_status true status is = ap (λ s. s == 1) is
lacks_by_status false status is = ap (λ s. s == 1) is

-- the result by the unfolded text, or by the fault of its rounds
abbrev by_rounds : Settings → Listed → Bool → Result UnfoldedText RoundsFault → Type 0
by_rounds settings list passed rounds =
    MatchResult rounds (λ lines. IsUnfoldedResult settings list lines passed) (λ fault. passed ≡ false)

module _ {E : Type 0} where
  -- a test that failed, and what else is known
  pub failed_also : (P : Type 0) (result : Result TestResult E) → P → IfOk result (λ test. test.passed ≡ false)
      → IfOk result (λ test. P × (test.passed ≡ false))
  failed_also P (Ok test) holds failed = (holds, failed)
  failed_also P (Err error) holds failed = tt

  module _ (settings : Settings) (list : Listed) where
    -- ---- a text

    -- the lines that are run, one of which is a call
    pub called_result : (lines : UnfoldedText) (marks : List RoundMark) (bytes : List ℕ) (answered : Bool) (result : Result TestResult E) → marks ≡ lines.marks → bytes ≡ lines.text
        → PassesBy settings list marks (Some bytes) answered → IfOk result (λ test. test.passed ≡ (answered && has_call lines.text))
        → IfOk result (λ test. IsUnfoldedResult settings list lines test.passed)
    called_result lines marks bytes answered (Ok test) marked read passes is = (
      answered,
      subst (λ b. PassesBy settings list lines.marks (Some b) answered) read (subst (λ ms. PassesBy settings list ms (Some bytes) answered) marked passes),
      is,
    )
    called_result lines marks bytes answered (Err error) marked read passes is = tt

    -- rounds that unfold
    pub unfolded_result : (text : List ℕ) (known : NameTable) (lines : UnfoldedText) (result : Result TestResult E) → known ≡ names_of settings
        → unfolded known text ≡ Ok lines → IfOk result (λ test. IsUnfoldedResult settings list lines test.passed)
        → IfOk result (λ test. IsTextResult settings list text test.passed)
    unfolding rounds_of
    unfolded_result text known lines (Ok test) is made passes =
        subst (λ rounds. by_rounds settings list test.passed rounds) (sym (ap (λ names. unfolded names text) (sym is) ∙ made)) passes
    unfolded_result text known lines (Err error) is made passes = tt

    -- rounds that don't unfold
    pub folded_result : (text : List ℕ) (known : NameTable) (fault : RoundsFault) (result : Result TestResult E) → known ≡ names_of settings
        → unfolded known text ≡ Err fault → IfOk result (λ test. test.passed ≡ false)
        → IfOk result (λ test. IsTextResult settings list text test.passed)
    unfolding rounds_of
    folded_result text known fault (Ok test) is made failed =
        subst (λ rounds. by_rounds settings list test.passed rounds) (sym (ap (λ names. unfolded names text) (sym is) ∙ made)) failed
    folded_result text known fault (Err error) is made failed = tt

    -- ---- a file

    module _ (texts : List ℕ → Option (List ℕ)) (scenario : List ℕ) where
      -- the lines of a file that isn't read whole are run
      pub lines_result : (text : Option (List ℕ)) (result : Result TestResult E) → IfSome (texts scenario) (λ bytes. text ≡ Some bytes)
          → IfOk result (λ test. PassesBy settings list [] text test.passed)
          → IfOk result (λ test. IsUnreadResult texts settings list scenario test.passed)
      lines_result text (Ok test) known passes = inl (less_known settings list [] (texts scenario) text test.passed known passes)
      lines_result text (Err error) known passes = tt

      -- a file that isn't opened
      pub closed_result : (result : Result TestResult E) → IsUnknown texts scenario → IfOk result (λ test. test.passed ≡ false)
          → IfOk result (λ test. IsUnreadResult texts settings list scenario test.passed)
      closed_result (Ok test) unknown failed = inr (unknown, failed)
      closed_result (Err error) unknown failed = tt

      -- a file that is read whole
      pub read_result : (text read : List ℕ) (result : Result TestResult E) → read ≡ text → IsTextAt texts scenario text
          → IfOk result (λ test. IsTextResult settings list read test.passed)
          → IfOk result (λ test. IsFileResult texts settings list scenario test.passed)
      read_result text read (Ok test) is at passes = inl (read, subst (λ t. IsTextAt texts scenario t) (sym is) at, passes)
      read_result text read (Err error) is at passes = tt

      -- a file that isn't
      pub unread_result : (result : Result TestResult E) → IsTooLong texts scenario
          → IfOk result (λ test. IsUnreadResult texts settings list scenario test.passed)
          → IfOk result (λ test. IsFileResult texts settings list scenario test.passed)
      unread_result (Ok test) long passes = inr (long, passes)
      unread_result (Err error) long passes = tt

      -- a machine with its list
      pub machine_result : (machine : Machine) (result : Result TestResult E) → list_in (bytes_of machine.text) ≡ Ok list
          → IfOk result (λ test. IsFileResult texts settings list scenario test.passed)
          → IfOk result (λ test. IsMachineResult texts settings (Ok machine) scenario test.passed)
      machine_result machine (Ok test) listed passes = (list, listed, passes)
      machine_result machine (Err error) listed passes = tt

  -- the test of a scenario on the machine of the list that is chosen for it
  pub scenario_result : (texts : List ℕ → Option (List ℕ)) (settings : Settings) (other path : Option (List ℕ))
      (found : Result Machine StartListFailure) (scenario : List ℕ) (result : Result TestResult E) → IsListFor texts other scenario path
      → IsFound texts settings path found → IfOk result (λ test. IsMachineResult texts settings found scenario test.passed)
      → IfOk result (λ test. IsScenarioResult texts settings other scenario test.passed)
  scenario_result texts settings other path (Ok machine) scenario (Ok test) chosen is passes =
      (path, chosen, inr (passes.0, (bytes_of machine.text, is.0.1, passes.1), passes.2))
  scenario_result texts settings other path (Err failure) scenario (Ok test) chosen is passes =
      (path, chosen, inl (passes.1, is.1 passes.0))
  scenario_result texts settings other path found scenario (Err error) chosen is passes = tt
