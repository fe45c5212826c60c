-- The cells of both accounts.
use Rattle.std.proofs.Common.{◌++◌, ◌∙◌, ap}
use Rattle.std.specs.Option.{option_map}
use Rattle.core_calls.specs.Quotas.{quotas_account}
use Rattle.csv.specs.Writing.{default_writer, fields_text}
use Rattle.view_runs.specs.CsvRows.{session_cells}
use Rattle.view_runs.specs.Rows.{session_view}
use Rattle.view_runs.proofs.RowLemmas.{figures_more}
use Rattle.view_runs.proofs.csv_rows.figures_of.Goals as goal

pub returns : goal.returns
returns c =
    let row = c.args.row.now in
    c.add_session.ensures
    ∙ ap (λ text. text ++ fields_text default_writer (session_cells (option_map session_view row.session))) c.add_own.ensures.items
    ∙ figures_more (option_map quotas_account row.account) (option_map session_view row.session)
