-- Rows of a trace as objects of JSON, a row a line.
use Rattle.std.specs.Prelude.{ℕ, List, [], ◌∷◌, ◌++◌, codes, Option}
use Rattle.std.specs.Option.{option_map}
use Rattle.own_model.specs.Account.{Account}
use Rattle.serde_json.specs.Written.{compact_text}
use Rattle.view_records.specs.JsonTexts.{object_of}
use Rattle.view_records.specs.Records.{CellData, Record, text, number, if_number, if_text, null_if_absent}
use Rattle.view_runs.specs.Tracing.{SessionAccount, TraceRow}

-- a figure of an account, if there is one
abbrev pub figure_cell : (Account → ℕ) → Option Account → CellData
figure_cell figure account = null_if_absent (if_number (option_map figure account))

-- the selector of a session, and its account
abbrev pub selector_cell : Option SessionAccount → CellData
selector_cell session = null_if_absent (if_number (option_map (λ (s : SessionAccount). s.selector) session))

abbrev pub account_of : Option SessionAccount → Option Account
account_of session = option_map (λ (s : SessionAccount). s.account) session

-- a row: a cell for each column, in the order of their names
abbrev pub row_record : TraceRow → Record
row_record row =
    (codes "call", text row.call)
    ∷ (codes "caps_limit", figure_cell (λ a. a.caps_limit) row.account)
    ∷ (codes "caps_used", figure_cell (λ a. a.caps_used) row.account)
    ∷ (codes "component", text row.component)
    ∷ (codes "line", number row.number)
    ∷ (codes "ram_limit", figure_cell (λ a. a.ram_limit) row.account)
    ∷ (codes "ram_used", figure_cell (λ a. a.ram_used) row.account)
    ∷ (codes "reply", text row.reply)
    ∷ (codes "session", selector_cell row.session)
    ∷ (codes "session_caps_limit", figure_cell (λ a. a.caps_limit) (account_of row.session))
    ∷ (codes "session_caps_used", figure_cell (λ a. a.caps_used) (account_of row.session))
    ∷ (codes "session_ram_limit", figure_cell (λ a. a.ram_limit) (account_of row.session))
    ∷ (codes "session_ram_used", figure_cell (λ a. a.ram_used) (account_of row.session))
    ∷ (codes "text", null_if_absent (if_text row.text)) ∷ []

abbrev pub json_row : TraceRow → List ℕ
json_row row = compact_text (object_of (row_record row)) ++ 10 ∷ []
