-- One component more.
use Rattle.std.proofs.Common.{arith, ◌<◌, ◌≤◌, length, ◌∙◌}
use Rattle.std.proofs.lemmas.List.{length-set}
use Rattle.std.specs.List.{AllByRecursion}
use Rattle.budget_least.proofs.ChangedLemmas.{kept_at}
use Rattle.budget_least.proofs.LineDonationLemmas.{become_all, become_next}
use Rattle.budget_least.specs.ComponentLines.{lines_of, AreWritten}
use Rattle.budget_least.specs.LineDonations.{IsDonated}
use Rattle.budget_least.proofs.lines_by_component.LinesByComponent.donate.Goals as goal

pub loop-component-preserved : goal.loop-component-preserved
loop-component-preserved c =
    let steps = c.loop-component.self.steps.items in
    let component = c.loop-component.component in
    let there : component < length steps = omega (arith, c.loop-component-test.true, c.len-component-end.ensures, c.args.self.now.steps.ok.0, c.loop-component.invariant.count) in
    record {
      unmeasured = c.loop-component.invariant.unmeasured;
      count = length-set steps component c.donate_all.new.steps ∙ c.loop-component.invariant.count;
      lines =
          kept_at (λ lines. lines_of lines.items) steps component c.index_mut-steps.result.now c.donate_all.new.steps there c.index_mut-steps.ensures.value
          c.in_ok-donate_all.ensures.lines
          ∙ c.loop-component.invariant.lines;
      donated = λ sessions holds written.
          become_next (λ lines. AllByRecursion (IsDonated c.args.donations.now.choice sessions) lines.items) (λ lines. AreWritten lines.items) component steps
          c.index_mut-steps.result.now c.donate_all.new.steps there c.index_mut-steps.ensures.value (c.in_ok-donate_all.ensures.donated sessions holds)
          (c.loop-component.invariant.donated sessions holds written);
    }

pub returns-clause-donated : goal.returns-clause-donated
returns-clause-donated c = λ sessions holds written.
    let steps = c.loop-component.self.steps.items in
    let past : length steps ≤ c.loop-component.component =
    omega (arith, c.loop-component-test.false, c.len-component-end.ensures, c.args.self.now.steps.ok.0, c.loop-component.invariant.count) in
    become_all (λ lines. AllByRecursion (IsDonated c.args.donations.now.choice sessions) lines.items) (λ lines. AreWritten lines.items) c.loop-component.component steps past
    (c.loop-component.invariant.donated sessions holds written)
