-- A line is one of the texts of the lines.
use Rattle.std.proofs.Common.{◌∙◌, ℕ, List, ap, map, sym}
use Rattle.std.specs.Borrow.{Bor}
use Rattle.std.specs.List.{list_any}
use Rattle.cli_tests.specs.ScenarioTest.{is_call}
use Rattle.cli_tests.proofs.PlanLemmas.{any_of_map}
use Rattle.cli_tests.proofs.scenario_test.has_call.Goals as goal

pub returns : goal.returns
returns c =
    c.any_call.ensures ∙ sym (any_of_map is_call (λ (line : Bor (List ℕ)). line.now) c.deref.result.now)
    ∙ ap (λ texts. list_any is_call texts)
    (ap (λ (lines : List (Bor (List ℕ))). map (λ (line : Bor (List ℕ)). line.now) lines) c.deref.ensures.value ∙ c.in_ok-lines.ensures)
