-- The text isn't read, or doesn't boot, or is another list's.
use Rattle.std.proofs.Common.{◌≡◌, false, ap, refl, subst, sym, ◌∙◌}
use Rattle.std.specs.List.{list_all}
use Rattle.std.specs.Prelude.{◌&&◌, Ok, Err}
use Rattle.list_parser.specs.StartText.{list_in}
use Rattle.budget_search.proofs.FaultLemmas.{passed_on}
use Rattle.budget_least.specs.WrittenList.{has_budget, has_size, size_of}
use Rattle.budget_least.specs.WrittenList.LacksList.{unread, other, unbooted}
use Rattle.budget_least.proofs.report.BudgetReport.start_list.Goals as goal
use Rattle.budget_least.proofs.report.BudgetReport.start_list.Goals.{else-has_budgets-via-then-has_budgets+else-has_size, else-has_budgets-via-else-has_budgets}

pub returns-in_err-list-clause-fault : goal.returns-in_err-list-clause-fault
returns-in_err-list-clause-fault c =
    passed_on _ _ c.from_residual-in_err-list.result c.from_residual-in_err-list.ensures.1
    (λ lacks. unread c.in_ok-written.written.items c.in_ok-written.ensures
    (subst (λ text. list_in text ≡ Err c.in_err-list.field-0.0) c.as_slice.ensures.value (c.in_err-list.ensures.err lacks)))

pub returns-in_err-test_boot-clause-fault : goal.returns-in_err-test_boot-clause-fault
returns-in_err-test_boot-clause-fault c =
    passed_on _ _ c.from_residual-in_err-test_boot.result c.from_residual-in_err-test_boot.ensures.1
    (λ lacks. unbooted c.in_ok-written.written.items c.in_ok-list.list c.in_ok-written.ensures
    (subst (λ text. list_in text ≡ Ok c.in_ok-list.list) c.as_slice.ensures.value c.in_ok-list.ensures.ok) (c.in_err-test_boot.ensures.fault lacks))

pub returns-else-has_budgets-clause-fault : goal.returns-else-has_budgets-clause-fault
returns-else-has_budgets-clause-fault c = λ lacks.
    let report = c.args.self.now in
    let list = c.in_ok-list.list in
    let size = size_of report.list.now c.machine-machine.result in
    let unlike : list_all (has_budget list report.choice) report.accounts.items && has_size list size ≡ false =
    elim c.else-has_budgets.branch [
      | else-has_budgets-via-then-has_budgets+else-has_size w ↦
          let sized : has_size list size ≡ false = ap (has_size list) (sym c.size_of-size.ensures) ∙ sym w.has_size.ensures ∙ w.if-has_size.false in
          (λ i. (sym c.has_budgets.ensures ∙ w.if-has_budgets.true) i && sized i)
      | else-has_budgets-via-else-has_budgets w ↦ ap (λ b. b && has_size list size) (sym c.has_budgets.ensures ∙ w.if-has_budgets.false)
    ] in
    other c.in_ok-written.written.items list c.machine-machine.result c.in_ok-written.ensures
    (subst (λ text. list_in text ≡ Ok list) c.as_slice.ensures.value c.in_ok-list.ensures.ok) c.machine-machine.ensures unlike refl
