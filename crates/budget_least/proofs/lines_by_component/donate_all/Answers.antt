-- One line more.
use Rattle.std.proofs.Common.{arith, ◌<◌, ◌≤◌, length, ◌∙◌}
use Rattle.std.proofs.lemmas.List.{length-set}
use Rattle.budget_least.proofs.ChangedLemmas.{kept_at}
use Rattle.budget_least.proofs.LineDonationLemmas.{become_all, become_next}
use Rattle.budget_least.specs.ComponentLines.{line_of, IsAsWritten}
use Rattle.budget_least.specs.LineDonations.{IsDonated}
use Rattle.budget_least.proofs.lines_by_component.donate_all.Goals as goal

pub loop-place-preserved : goal.loop-place-preserved
loop-place-preserved c =
    let steps = c.loop-place.steps.items in
    let place = c.loop-place.place in
    let there : place < length steps = omega (arith, c.loop-place-test.true, c.len-place-end.ensures, c.args.steps.now.ok.0, c.loop-place.invariant.count) in
    record {
      count = length-set steps place c.donate.new.step ∙ c.loop-place.invariant.count;
      lines = kept_at line_of steps place c.index_mut.result.now c.donate.new.step there c.index_mut.ensures.value c.in_ok-donate.ensures.line ∙ c.loop-place.invariant.lines;
      donated = λ sessions holds written.
          become_next (IsDonated c.args.donations.now.choice sessions) IsAsWritten place steps c.index_mut.result.now c.donate.new.step there c.index_mut.ensures.value
          (c.in_ok-donate.ensures.donated sessions holds) (c.loop-place.invariant.donated sessions holds written);
    }

pub returns-clause-donated : goal.returns-clause-donated
returns-clause-donated c = λ sessions holds written.
    let steps = c.loop-place.steps.items in
    let past : length steps ≤ c.loop-place.place = omega (arith, c.loop-place-test.false, c.len-place-end.ensures, c.args.steps.now.ok.0, c.loop-place.invariant.count) in
    become_all (IsDonated c.args.donations.now.choice sessions) IsAsWritten c.loop-place.place steps past (c.loop-place.invariant.donated sessions holds written)
