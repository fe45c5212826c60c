-- What a row of a trace is, by its bytes.
use Rattle.std.specs.Prelude.{ℕ, List, Option}
use Rattle.std.specs.Option.{option_map}
use Rattle.own_model.specs.Text.{hex_bytes}
use Rattle.core_calls.specs.Quotas.{quotas_account}
use Rattle.run_scenario.specs.Texts.{characters_text}
use Rattle.run_scenario.specs.declared.printable_hex.PrintableHex.{PrintableHex}
use Rattle.view_runs.specs.Tracing.{SessionAccount, TraceRow}
use Rattle.view_runs.specs.declared.trace_row.SessionAccount.{SessionAccount as Named}
use Rattle.view_runs.specs.declared.trace_row.TraceRow.{TraceRow as Row}

abbrev pub session_view : Named → SessionAccount
session_view session = record { selector = session.selector; account = quotas_account session.account }

-- the text of bytes that can be printed
abbrev pub printed_text : Option PrintableHex → Option (List ℕ)
printed_text shown = option_map (λ (it : PrintableHex). characters_text (hex_bytes it.hex.now)) shown

abbrev pub row_view : Row → TraceRow
row_view row = record {
  number = row.number;
  component = row.component.now;
  call = row.call.now;
  reply = row.reply.now;
  account = option_map quotas_account row.account;
  session = option_map session_view row.session;
  text = printed_text row.text;
}
