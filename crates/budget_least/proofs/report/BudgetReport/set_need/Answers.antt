-- One account more, and all.
use Rattle.std.proofs.Common.{arith, ◌<◌, length, subst, add-one, ◌∙◌}
use Rattle.std.proofs.lemmas.List.{length-set}
use Rattle.std.specs.Option.{option_map}
use Rattle.budget_meter.specs.Needs.{amounts_of}
use Rattle.budget_search.specs.AccountNeeds.{IsChanged}
use Rattle.budget_least.proofs.NeededLemmas.{changed_to_end, one_more}
use Rattle.budget_least.proofs.report.BudgetReport.set_need.Goals as goal

pub loop-at-preserved : goal.loop-at-preserved
loop-at-preserved c =
    let component = c.args.component in
    let need = option_map amounts_of c.args.needed in
    let was = c.args.self.now.accounts.items in
    let news = c.loop-at.self.accounts.items in
    let there : c.loop-at.at < length news = omega (arith, c.loop-at-test.true, c.len-at-end.ensures, c.args.self.now.accounts.ok.0, c.loop-at.invariant.count) in
    record {
      list = c.loop-at.invariant.list;
      choice = c.loop-at.invariant.choice;
      scene = c.loop-at.invariant.scene;
      count = length-set news c.loop-at.at c.need.new.self ∙ c.loop-at.invariant.count;
      changed =
          rw add-one
          (one_more component need c.loop-at.at was news c.index_mut.result.now c.need.new.self c.loop-at.invariant.changed there
          (subst (λ old. IsChanged component need old c.need.new.self) c.index_mut.ensures.value c.in_ok-need.ensures));
    }

pub returns-clause-changed : goal.returns-clause-changed
returns-clause-changed c =
    let news = c.loop-at.self.accounts.items in
    changed_to_end c.args.component (option_map amounts_of c.args.needed) c.loop-at.at c.args.self.now.accounts.items news c.loop-at.invariant.changed
    (omega (arith, c.loop-at-test.false, c.len-at-end.ensures, c.args.self.now.accounts.ok.0, c.loop-at.invariant.count))
