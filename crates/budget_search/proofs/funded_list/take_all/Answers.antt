-- Each is set in turn.
use Rattle.std.proofs.Common.{None, add-one, length, sym, ap, arith, ◌∙◌}
use Rattle.own_model.specs.Listed.{Listed}
use Rattle.list_parser.proofs.BudgetLemmas.{budget_aside}
use Rattle.list_parser.specs.Budgets.{with_budget, with_reserve, with_size}
use Rattle.budget_search.proofs.AlikeLemmas.{same_count}
use Rattle.budget_search.proofs.FundedLemmas.{bared, bared_all, bared_next, length_bared}
use Rattle.budget_search.proofs.funded_list.take_all.Goals as goal

pub set_budget-requires : goal.set_budget-requires
set_budget-requires c =
    let list = c.args.machine.now in
    let taken = ap (λ (m : Listed). length m.entries) c.loop-component.invariant.taken ∙ length_bared c.loop-component.component list.entries in
    omega (arith, c.loop-component.invariant.count, c.loop-component-test.true, taken)

pub set_reserve-requires : goal.set_reserve-requires
set_reserve-requires c =
    let list = c.args.machine.now in
    let place = c.loop-component.component in
    let set =
    ap (λ (m : Listed). length m.entries)
    (c.set_budget.ensures ∙ (λ i. with_budget (c.loop-component.invariant.taken i) place (record { ram = 0; caps = 0 })))
    ∙ same_count (with_budget (record (with_size list 4096 4096) { entries = bared place list.entries }) place (record { ram = 0; caps = 0 }))
    (record (with_size list 4096 4096) { entries = bared place list.entries })
    (budget_aside (record (with_size list 4096 4096) { entries = bared place list.entries }) place (record { ram = 0; caps = 0 }))
    ∙ length_bared place list.entries in
    omega (arith, c.loop-component.invariant.count, c.loop-component-test.true, set)

pub loop-component-preserved : goal.loop-component-preserved
loop-component-preserved c =
    let list = c.args.machine.now in
    let place = c.loop-component.component in
    record {
      taken =
          c.set_reserve.ensures ∙ (λ i. with_reserve (c.set_budget.ensures i) place None)
          ∙ (λ i. with_reserve (with_budget (c.loop-component.invariant.taken i) place (record { ram = 0; caps = 0 })) place None)
          ∙ ap (λ es. record (with_size list 4096 4096) { entries = es }) (bared_next place list.entries)
          ∙ ap (λ k. record (with_size list 4096 4096) { entries = bared k list.entries }) (sym (add-one place));
      count = c.loop-component.invariant.count;
    }

pub returns : goal.returns
returns c =
    let list = c.args.machine.now in
    c.loop-component.invariant.taken
    ∙ ap (λ es. record (with_size list 4096 4096) { entries = es })
    (bared_all c.loop-component.component list.entries (omega (arith, c.loop-component.invariant.count, c.loop-component-test.false)))
