-- The needs are those of the report.
use Rattle.std.proofs.Common.{Global, ◌≡◌, true, map, refl}
use Rattle.std.proofs.lemmas.Result.{IfOk-weaker}
use Rattle.std.specs.Prelude.{Vec}
use Rattle.std.specs.List.{flat_map}
use Rattle.budget_least.specs.Report.{accounts_of}
use Rattle.budget_least.specs.ReportOf.{IsReportOf}
use Rattle.budget_least.specs.declared.report.BudgetQuery.{BudgetQuery}
use Rattle.budget_search.specs.declared.budget_intervals.BudgetChoice.TheVariants.{Minimum}
use Rattle.line_rounds.specs.Views.{whole_view}
use Rattle.list_diff.specs.declared.need_changes.ComponentNeed.{ComponentNeed}
use Rattle.cli_lists.specs.ComparedRuns.{AreNeedsOn, AsksNeeds, need_at, needs_by, start_by}
use Rattle.cli_base.proofs.MadeLemmas.{on_made}
use Rattle.cli_lists.proofs.diff_runs.needs.Goals as goal

pub returns-in-Ok-clause-needs : goal.returns-in-Ok-clause-needs
returns-in-Ok-clause-needs c =
    let settings = c.args.settings in
    let list = c.args.run.file.list.now in
    let lines = whole_view c.args.run.lines.now in
    let report = c.in-Ok.report in
    let question : BudgetQuery =
    record { list = c.args.run.file.list; scenario = c.bytes.result; choice = Minimum; as_donated = true } in
    let asks : AsksNeeds list lines question = (refl, c.bytes.ensures, refl, refl) in
    let reported : IsReportOf question (start_by settings lines) report = rw c.in_ok-start.ensures.start at c.in-Ok.ensures.report in
    on_made (λ (v : Vec ComponentNeed Global). AreNeedsOn settings list lines v.items) c.made_or_status.result c.component_needs.result
    c.made_or_status.ensures.ok
    (IfOk-weaker c.component_needs.result
    (λ (v : Vec ComponentNeed Global). map need_at v.items ≡ flat_map (needs_by list) (accounts_of report))
    (λ (v : Vec ComponentNeed Global). AreNeedsOn settings list lines v.items)
    (λ value are. (question, asks, (report, reported, are))) c.component_needs.ensures)
