-- Exit statuses, and the texts of percentages.
use Rattle.std.proofs.Common.{inl, inr, arith, ◌≡◌, ◌⊎◌, ◌<◌, ◌^◌, ℕ, Bool, true, false, if◌then◌else◌, length, List, lt_of_not-le, Option, refl, subst}
use Rattle.std.specs.Str.Parse.{IsNumeral, digits_value, without_leading_plus}
use Rattle.cli_options.specs.declared.command_options.TestOptions.{TestOptions}
use Rattle.cli_base.specs.Statuses.{EndsAs, HasFailed, IsZero}
use Rattle.cli_base.specs.declared.settings.Settings.{Settings}
use Rattle.cli_tests.specs.Outcome.{AreResults, AsksFor, HasResults, IsNoPercentage, IsShortBy, LacksTests, TestsEnd, outcome_status}
use Rattle.cli_tests.specs.Plan.{AreSelected}
use Rattle.cli_tests.specs.declared.planned_test.PlannedTest.{PlannedTest}
use Rattle.cli_tests.specs.declared.test.TestOutcome.{TestOutcome}

-- a text that isn't read as a number of 8 bits is no percentage
pub unread_percentage : (text : List ℕ)
    → ¬ (IsNumeral 10 (without_leading_plus text) × (digits_value 10 (without_leading_plus text) < 2 ^ 8)) → IsNoPercentage text
unread_percentage text unread numeral = lt_of_not-le (λ few. unread (numeral, omega (arith, few)))

-- a write that failed
pub failed_write : (status : ℕ) (Broken : Type 0) → (Broken → status ≡ 141) → (¬ Broken → status ≡ 1) → EndsAs ⊥ IsZero status → HasFailed status
failed_write status Broken broken other (inl (inl failed)) = failed
failed_write status Broken broken other (inl (inr (is, none))) = absurd none
failed_write status Broken broken other (inr zero) =
    let unbroken : ¬ Broken = λ is. omega (arith, zero, broken is) in absurd (omega (arith, zero, other unbroken))

module _ (texts : List ℕ → Option (List ℕ)) (asked : TestOptions) (settings : Settings) (status : ℕ) where
  -- the results of tests, unless their document can't be written
  pub results_end : (threshold : Option ℕ) (tests : List PlannedTest) (outcome : TestOutcome)
      → AreResults texts asked settings tests outcome.trials.items → IsShortBy threshold outcome.falls_short
      → (status ≡ 1) ⊎ (status ≡ outcome_status outcome) → EndsAs ⊥ (HasResults texts asked settings threshold tests) status
  results_end threshold tests outcome each short (inl one) = inl (inl (inl one))
  results_end threshold tests outcome each short (inr is) = inr (record { outcome = outcome; each = each; short = short; status_is = is })

  -- tests that were selected and run
  pub tests_end : (threshold : Option ℕ) (tests run : List PlannedTest) → run ≡ tests → AreSelected texts asked tests
      → 0 < length tests → AsksFor asked.threshold threshold → EndsAs ⊥ (HasResults texts asked settings threshold run) status
      → TestsEnd texts asked settings status
  tests_end threshold tests run same selected some asks (inl (inl failed)) = inl (inl failed)
  tests_end threshold tests run same selected some asks (inl (inr (is, none))) = absurd none
  tests_end threshold tests run same selected some asks (inr results) =
      inr (record {
        tests = tests;
        selected = selected;
        some = some;
        threshold = threshold;
        asks = asks;
        results = subst (λ those. HasResults texts asked settings threshold those status) same results;
      })

  -- a search that found no tests
  pub search_ends : (memory : Bool) → status ≡ (if memory then 1 else 2) → (memory ≡ false → LacksTests texts asked settings.given.now) → TestsEnd texts asked settings status
  search_ends true is lacks = inl (inl (inl is))
  search_ends false is lacks = inl (inr (is, inr (lacks refl)))
