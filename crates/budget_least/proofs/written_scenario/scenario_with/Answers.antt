-- A line more.
use Rattle.std.proofs.Common.{arith, ◌∙◌, ◌+◌}
use Rattle.std.specs.List.{flat_map}
use Rattle.budget_least.specs.WrittenScenario.{donation_of, scenario_text}
use Rattle.budget_least.proofs.ScenarioLemmas.{text_more}
use Rattle.budget_least.proofs.written_scenario.scenario_with.Goals as goal

pub loop-place-preserved : goal.loop-place-preserved
loop-place-preserved c =
    let donations = donation_of (flat_map (λ lines. lines.items) c.args.steps.now) in
    text_more donations c.in_ok-lines.lines.items c.loop-place.place c.index.result.now c.loop-place.told.items c.add_line.new.told.items (scenario_text donations c.args.text.now)
    c.donation_at-donation.result (omega arith) c.index.ensures
    ((rw c.as_slice.ensures.value at c.donation_at-donation.ensures) ∙ c.in_ok-donations.ensures (c.loop-place.place + 1))
    (cc (c.in_ok-add_line.ensures, c.in_ok-extend_from_slice.ensures.items, c.separator.ensures)) c.loop-place.invariant
