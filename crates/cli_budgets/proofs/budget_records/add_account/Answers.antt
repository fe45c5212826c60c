-- The account is one of no component, of a server, or of another component.
use Rattle.std.proofs.Common.{◌≡◌, ◌++◌, ◌∙◌, ℕ, Bool, true, false, List, [], ap, append-nil, map, subst, sym}
use Rattle.std.specs.Prelude.{if◌then◌else◌, OnOk, Option, Some, None}
use Rattle.std.specs.List.{slice_get}
use Rattle.std.specs.Option.{option_map_or}
use Rattle.list_parser.specs.Depth.{runs_server}
use Rattle.own_model.specs.Listed.{Listed, ListedEntry}
use Rattle.view_records.specs.JsonTexts.{list_data}
use Rattle.view_records.specs.Lists.{records_of}
use Rattle.view_records.specs.Records.{Record}
use Rattle.budget_search.specs.declared.account_budgets.AccountBudgets.{AccountBudgets}
use Rattle.budget_least.specs.Report.{list_of, unmeasured_of}
use Rattle.budget_least.specs.declared.report.BudgetReport.{BudgetReport}
use Rattle.cli_budgets.specs.ReportRecords.{account_records, interval_record, named_lines, records_for, unmeasured_record}
use Rattle.cli_budgets.proofs.budget_records.add_account.Goals as goal

module _ (report : BudgetReport) (account : AccountBudgets) where
  -- by the entry of the component
  shown : (list : Listed) (component : ℕ) (there : Option ListedEntry) → there ≡ slice_get list.entries component → list ≡ list_of report →
      component ≡ account.component → option_map_or (records_for report account) there [] ≡ account_records report account
  shown list component there is same its =
      ap (λ t. option_map_or (records_for report account) t []) (is ∙ (λ i. slice_get (same i).entries (its i)))

  -- the records of an entry that is a server's, or isn't
  abbrev of_kind : ListedEntry → Bool → List Record
  of_kind entry server =
      if server then []
      else map (interval_record entry.path (list_data (map unmeasured_record (named_lines account (unmeasured_of report)))) account)
      account.found.rows.items

  by_kind : (entry : ListedEntry) (server : Bool) → server ≡ runs_server entry.binary → of_kind entry server ≡ records_for report account entry
  by_kind entry server is = ap (of_kind entry) is

  nothing_more : (old : List Record) → [] ≡ account_records report account → old ≡ old ++ account_records report account
  nothing_more old none = sym (append-nil old) ∙ ap (λ more. old ++ more) none

pub returns-in_default : goal.returns-in_default
returns-in_default c =
    let report = c.args.report.now in
    let account = c.args.account.now in
    nothing_more report account (records_of c.args.records.now)
    (shown report account c.list.result.now c.component.result None c.in_default.ensures c.list.ensures c.component.ensures)

pub returns-then-is_server : goal.returns-then-is_server
returns-then-is_server c =
    let report = c.args.report.now in
    let account = c.args.account.now in
    let entry = c.in-Some.entry.now in
    nothing_more report account (records_of c.args.records.now)
    (by_kind report account entry true (sym c.if-is_server.true ∙ c.is_server.ensures)
    ∙ shown report account c.list.result.now c.component.result (Some entry) c.in-Some.ensures c.list.ensures c.component.ensures)

pub returns : goal.returns
returns c =
    let report = c.args.report.now in
    let account = c.args.account.now in
    let entry = c.in-Some.entry.now in
    let unmeasured = c.in_ok-unmeasured.ensures ∙ ap (λ lines. map unmeasured_record (named_lines account lines)) c.unmeasured.ensures in
    subst (λ (more : List Record). OnOk c.add_intervals.result (records_of c.add_intervals.new.records ≡ records_of c.args.records.now ++ more))
    ((λ i. map (interval_record (c.path.ensures.path i) (list_data (unmeasured i)) account) account.found.rows.items)
    ∙ by_kind report account entry false (sym c.if-is_server.false ∙ c.is_server.ensures)
    ∙ shown report account c.list.result.now c.component.result (Some entry) c.in-Some.ensures c.list.ensures c.component.ensures)
    c.add_intervals.ensures
