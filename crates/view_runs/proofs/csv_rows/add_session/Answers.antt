-- The selector, and the cells of the account after it.
use Rattle.std.proofs.Common.{◌++◌, ◌∙◌, ap, sym}
use Rattle.std.specs.Option.{option_map}
use Rattle.core_calls.specs.Quotas.{quotas_account}
use Rattle.csv.specs.Writing.{default_writer, fields_text}
use Rattle.run_scenario.specs.Cells.{account_cells}
use Rattle.view_runs.specs.CsvRows.{session_cells}
use Rattle.view_runs.specs.Rows.{session_view}
use Rattle.view_runs.proofs.RowLemmas.{session_then}
use Rattle.view_runs.proofs.csv_rows.add_session.Goals as goal

pub returns-in-Some : goal.returns-in-Some
returns-in-Some c =
    let old = c.args.text.now.items in
    let account = quotas_account c.in-Some.session.account in
    c.add_account.ensures.items
    ∙ ap (λ text. text ++ fields_text default_writer (account_cells account)) c.add_cell.ensures.items
    ∙ session_then old c.in-Some.session.selector account
    ∙ ap (λ session. old ++ fields_text default_writer (session_cells (option_map session_view session))) (sym c.in-Some.is)
