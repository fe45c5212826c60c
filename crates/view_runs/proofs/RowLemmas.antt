-- The row of a call, and its text, cell by cell.
use Rattle.std.proofs.Common.{◌≡◌, ℕ, ◌^◌, ◌<◌, List, [], ◌∷◌, ◌++◌, codes, Option, Some, None, refl, sym, ◌∙◌, ap, append_assoc}
use Rattle.std.specs.Prelude.{decimal}
use Rattle.std.specs.Option.{option_map, unwrap_or}
use Rattle.csv.specs.Writing.{default_writer, field_text, fields_text, is_blank, row_text}
use Rattle.own_model.specs.Account.{Account}
use Rattle.own_model.specs.Session.{Session}
use Rattle.own_model.specs.Transcript.{heard}
use Rattle.own_model.specs.World.{World, world_running}
use Rattle.run_lines.specs.declared.line_answer.LineAnswer.{LineAnswer}
use Rattle.run_lines.proofs.ToldLemmas.{world_running-append}
use Rattle.run_scenario.specs.Cells.{account_cells, cell_text}
use Rattle.run_scenario.specs.Observation.{IsAnsweredAfter}
use Rattle.run_scenario.specs.Texts.{line_text}
use Rattle.run_scenario.proofs.CellLemmas.{cell_then, cells_more, last_cell, plain_number}
use Rattle.view_runs.specs.CsvRows.{cells_of, csv_row, figures, row_cells, session_cells}
use Rattle.view_runs.specs.Tracing.{SessionAccount, TraceRow, account_in, call_text, session_in, trace_row}

-- ---- the row

-- what a core shows after a call is the row of the call
pub answered_row : {start : World} {earlier : List (List ℕ)} {call : List ℕ} {core : World} {answer : LineAnswer} (number : ℕ) → IsAnsweredAfter start earlier call core answer →
    {says : List ℕ} {account : Option Account} {session : Option SessionAccount} {text : Option (List ℕ)} →
    says ≡ call_text call → account ≡ account_in core (heard core.entries call) → session ≡ session_in core (heard core.entries call) → text ≡ line_text call →
    record { number = number; component = answer.name.now; call = says; reply = answer.reply.now; account = account; session = session; text = text } ≡ trace_row (world_running start earlier) number call
answered_row {start} {earlier} {call} {core} number answered is_call is_account is_session is_text =
    let left : core ≡ world_running (world_running start earlier) (call ∷ []) = answered.leaves ∙ sym (world_running-append start earlier (call ∷ [])) in
    let is_account_left = is_account ∙ ap (λ (world : World). account_in world (heard world.entries call)) left in
    let is_session_left = is_session ∙ ap (λ (world : World). session_in world (heard world.entries call)) left in
    λ i. record {
      number = number;
      component = answered.answers.name i;
      call = is_call i;
      reply = answered.answers.reply i;
      account = is_account_left i;
      session = is_session_left i;
      text = is_text i;
    }

abbrev with_selector : ℕ → Account → SessionAccount
with_selector selector account = record { selector = selector; account = account }

-- a session by its selector and its account
pub session_there : (selector : ℕ) (s : Option Session) (account : Option Account) → account ≡ option_map (λ (x : Session). x.account) s →
    option_map (with_selector selector) account ≡ option_map (λ (x : Session). with_selector selector x.account) s
session_there selector None account is = ap (option_map (with_selector selector)) is
session_there selector (Some x) account is = ap (option_map (with_selector selector)) is

-- ---- its cells

-- empty cells
pub four_empty : codes ",,,," ≡ fields_text default_writer (cells_of None)
unfolding fields_text
four_empty = refl

pub five_empty : codes ",,,,," ≡ fields_text default_writer (session_cells None)
unfolding fields_text
five_empty = refl

pub ruleset empty_cells = (four_empty, five_empty)

-- the cells of a session: its selector, and those of its account
pub session_then : (old : List ℕ) (selector : ℕ) (account : Account) →
    (old ++ cell_text (decimal selector)) ++ fields_text default_writer (account_cells account) ≡ old ++ fields_text default_writer (session_cells (Some (record { selector = selector; account = account })))
session_then old selector account = sym (cell_then old (decimal selector) (account_cells account))

-- the cells of both accounts
pub figures_more : (account : Option Account) (session : Option SessionAccount) →
    fields_text default_writer (cells_of account) ++ fields_text default_writer (session_cells session) ≡ fields_text default_writer (figures account session)
figures_more account session = sym (cells_more (cells_of account) (session_cells session))

-- a row is its number, three cells and the others
row_whole : (number : ℕ) (name call reply : List ℕ) (cells : List (List ℕ)) → number < 2 ^ 64 →
    decimal number ++ (cell_text name ++ (cell_text call ++ (cell_text reply ++ (fields_text default_writer cells ++ 10 ∷ []))))
    ≡ row_text default_writer (decimal number ∷ name ∷ call ∷ reply ∷ cells)
unfolding fields_text is_blank
row_whole number name call reply cells small =
    let end = 10 ∷ [] in
    let others = fields_text default_writer cells in
    let behind : fields_text default_writer (name ∷ call ∷ reply ∷ cells) ++ end ≡ cell_text name ++ (cell_text call ++ (cell_text reply ++ (others ++ end))) =
    append_assoc (cell_text name) (cell_text call ++ (cell_text reply ++ others)) end
    ∙ ap (λ text. cell_text name ++ text) (append_assoc (cell_text call) (cell_text reply ++ others) end ∙ ap (λ text. cell_text call ++ text) (append_assoc (cell_text reply) others end)) in
    ap (λ text. decimal number ++ text) (sym behind)
    ∙ ap (λ text. text ++ (fields_text default_writer (name ∷ call ∷ reply ∷ cells) ++ end)) (sym (plain_number number small))
    ∙ sym (append_assoc (field_text default_writer (decimal number)) (fields_text default_writer (name ∷ call ∷ reply ∷ cells)) end)

to_right : (a b c d e : List ℕ) → (((a ++ b) ++ c) ++ d) ++ e ≡ a ++ (b ++ (c ++ (d ++ e)))
to_right a b c d e = append_assoc ((a ++ b) ++ c) d e ∙ append_assoc (a ++ b) c (d ++ e) ∙ append_assoc a b (c ++ (d ++ e))

-- so what is put together is the row
pub row_written : (row : TraceRow) (cells : List ℕ) → row.number < 2 ^ 64 → cells ≡ fields_text default_writer (figures row.account row.session) →
    decimal row.number ++ cell_text row.component ++ cell_text row.call ++ cell_text row.reply ++ cells ++ cell_text (unwrap_or row.text []) ++ 10 ∷ [] ≡ csv_row row
row_written row cells small is_cells =
    let front = decimal row.number ++ cell_text row.component ++ cell_text row.call ++ cell_text row.reply in
    let behind = figures row.account row.session in
    let shown = unwrap_or row.text [] in
    ap (λ text. front ++ text ++ cell_text shown ++ 10 ∷ []) is_cells
    ∙ ap (λ line. line ++ 10 ∷ []) (append_assoc front (fields_text default_writer behind) (cell_text shown) ∙ ap (λ more. front ++ more) (last_cell behind shown))
    ∙ append_assoc front (fields_text default_writer (behind ++ shown ∷ [])) (10 ∷ [])
    ∙ to_right (decimal row.number) (cell_text row.component) (cell_text row.call) (cell_text row.reply) _
    ∙ row_whole row.number row.component row.call row.reply (behind ++ shown ∷ []) small
