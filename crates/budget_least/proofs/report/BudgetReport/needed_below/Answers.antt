-- Account by account.
use Rattle.std.proofs.Common.{◌+◌, drop, refl, sym, ap, ◌∙◌}
use Rattle.std.specs.Prelude.{Some, None}
use Rattle.std.specs.Option.{option_map}
use Rattle.own_model.specs.Amounts.{more_of}
use Rattle.budget_meter.specs.Needs.{amounts_of}
use Rattle.budget_least.specs.InitNeeds.{capped, needed_below}
use Rattle.budget_search.proofs.ItemLemmas.{next_item, no_item}
use Rattle.budget_least.proofs.InitNeedLemmas.{capped_all, capped_kept, first_sum, sum_step}
use Rattle.budget_least.proofs.report.BudgetReport.needed_below.Goals as goal

pub loop-account-init : goal.loop-account-init
loop-account-init c = record { sum = first_sum (needed_below c.args.self.now.choice c.args.self.now.list.now c.args.init c.as_slice-accounts.result.now); capped = refl }

pub loop-account-preserved : goal.loop-account-preserved
loop-account-preserved c =
    let choice = c.args.self.now.choice in
    let list = c.args.self.now.list.now in
    let accounts = c.as_slice-accounts.result.now in
    let i = c.loop-account.account-index in
    let item = c.account-item.result in
    record {
      sum = c.loop-account.invariant.sum
          ∙ ap (λ rest. option_map (λ more. capped (more_of (amounts_of c.loop-account.sum) more)) (needed_below choice list c.args.init rest))
          (next_item accounts i item c.loop-account-test.true c.account-item.is)
          ∙ sum_step choice list c.args.init (amounts_of c.loop-account.sum) item (drop (i + 1) accounts) (Some (amounts_of c.in-Some.next)) c.in-Some.ensures;
      capped = capped_kept choice list c.args.init (amounts_of c.loop-account.sum) item (amounts_of c.in-Some.next) c.in-Some.ensures c.loop-account.invariant.capped;
    }

pub returns-in-None : goal.returns-in-None
returns-in-None c =
    let choice = c.args.self.now.choice in
    let list = c.args.self.now.list.now in
    let accounts = c.as_slice-accounts.result.now in
    let i = c.loop-account.account-index in
    let item = c.account-item.result in
    sym (ap (λ all. option_map capped (needed_below choice list c.args.init all)) (sym c.as_slice-accounts.ensures.value)
    ∙ c.loop-account.invariant.sum
    ∙ ap (λ rest. option_map (λ more. capped (more_of (amounts_of c.loop-account.sum) more)) (needed_below choice list c.args.init rest))
    (next_item accounts i item c.loop-account-test.true c.account-item.is)
    ∙ sum_step choice list c.args.init (amounts_of c.loop-account.sum) item (drop (i + 1) accounts) None c.in-None.ensures)

pub returns : goal.returns
returns c =
    let choice = c.args.self.now.choice in
    let list = c.args.self.now.list.now in
    let accounts = c.as_slice-accounts.result.now in
    let i = c.loop-account.account-index in
    sym (ap (λ all. option_map capped (needed_below choice list c.args.init all)) (sym c.as_slice-accounts.ensures.value)
    ∙ c.loop-account.invariant.sum
    ∙ ap (λ rest. option_map (λ more. capped (more_of (amounts_of c.loop-account.sum) more)) (needed_below choice list c.args.init rest))
    (no_item accounts i c.loop-account-test.false)
    ∙ ap Some (capped_all (amounts_of c.loop-account.sum) c.loop-account.invariant.capped))
