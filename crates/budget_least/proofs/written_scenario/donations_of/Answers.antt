-- A component's lines more.
use Rattle.std.proofs.Common.{◌∙◌}
use Rattle.budget_least.specs.WrittenScenario.{donation_at}
use Rattle.budget_least.proofs.ScenarioLemmas.{donation_more}
use Rattle.budget_least.proofs.written_scenario.donations_of.Goals as goal

pub loop-lines-preserved : goal.loop-lines-preserved
loop-lines-preserved c = λ number.
    donation_more (λ lines. lines.items) c.args.steps.now c.loop-lines.lines-index c.lines-item.result number (donation_at c.loop-lines.donations.items number) (donation_at c.add_donations.new.donations.items number)
    c.loop-lines-test.true c.lines-item.is (rw c.as_slice.ensures.value at (c.in_ok-add_donations.ensures number)) ∙ c.loop-lines.invariant number
