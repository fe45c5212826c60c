-- The text so far, and that of the rest.
use Rattle.std.proofs.Common.{◌≡◌, ◌++◌, List, ℕ, drop, map}
use Rattle.std.specs.Borrow.{Bor}
use Rattle.std.specs.List.{flat_map}
use Rattle.budget_least.specs.WrittenScenario.{donation_of, scenario_text, text_from}
use Rattle.budget_least.proofs.written_scenario.scenario_with.Given as goal

abbrev pub invariant-loop-place : goal.invariant-loop-place
invariant-loop-place l =
    l.told.items ++ text_from (donation_of (flat_map (λ lines. lines.items) l.steps)) l.place (map (λ (b : Bor (List ℕ)). b.now) (drop l.place l.lines.items))
    ≡ scenario_text (donation_of (flat_map (λ lines. lines.items) l.steps)) l.text
