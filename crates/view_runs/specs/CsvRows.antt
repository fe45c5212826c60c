-- Rows of a trace as comma-separated values.
use Rattle.std.specs.Prelude.{ℕ, List, [], ◌∷◌, ◌++◌, codes, decimal, Option, Some, None}
use Rattle.std.specs.Option.{unwrap_or}
use Rattle.csv.specs.Writing.{default_writer, row_text}
use Rattle.own_model.specs.Account.{Account}
use Rattle.run_scenario.specs.Cells.{account_cells}
use Rattle.view_runs.specs.Tracing.{SessionAccount, TraceRow}

-- the cells of an account, or empty ones
abbrev pub cells_of : Option Account → List (List ℕ)
cells_of (Some account) = account_cells account
cells_of None = [] ∷ [] ∷ [] ∷ [] ∷ []

-- those of a session: its selector before them
abbrev pub session_cells : Option SessionAccount → List (List ℕ)
session_cells (Some session) = decimal session.selector ∷ account_cells session.account
session_cells None = [] ∷ cells_of None

abbrev pub figures : Option Account → Option SessionAccount → List (List ℕ)
figures account session = cells_of account ++ session_cells session

abbrev pub row_cells : TraceRow → List (List ℕ)
row_cells row =
    decimal row.number ∷ row.component ∷ row.call ∷ row.reply ∷ (figures row.account row.session ++ unwrap_or row.text [] ∷ [])

abbrev pub csv_row : TraceRow → List ℕ
csv_row row = row_text default_writer (row_cells row)

-- the names of the columns
abbrev pub csv_header : List ℕ
csv_header =
    codes "line,component,call,reply,ram_used,ram_limit,caps_used,caps_limit,session,session_ram_used,session_ram_limit,session_caps_used,session_caps_limit,text"
    ++ 10 ∷ []
