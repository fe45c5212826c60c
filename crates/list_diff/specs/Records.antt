-- All differences of two start lists as records.
use Rattle.std.specs.Prelude.{ℕ, Bool, List, [], ◌∷◌, ◌++◌, codes, map, if◌then◌else◌, Option, Some, None}
use Rattle.std.specs.List.{flat_map}
use Rattle.std.specs.Option.{option_map}
use Rattle.std.specs.Str.Lossy.{utf8_lossy}
use Rattle.own_model.specs.Listed.{Listed}
use Rattle.run_exchanges.specs.Exchange.{Exchange}
use Rattle.line_friendly.specs.Messages.{line_message}
use Rattle.line_names.specs.Messages.{directive_message, name_message}
use Rattle.line_names.specs.Tokens.{token_at}
use Rattle.view_records.specs.Records.{CellData, Record, absent, if_number, null, null_if_absent, number, text}
use Rattle.list_diff.specs.Breaches.{ChangeAt, change_at}
use Rattle.list_diff.specs.Differences.{same_machine}
use Rattle.list_diff.specs.EntryRecords.{change_record}
use Rattle.list_diff.specs.LineResults.{made_in}
use Rattle.list_diff.specs.ReachRecords.{reach_record}
use Rattle.list_diff.specs.declared.differences.ListDifferences.{ListDifferences}
use Rattle.list_diff.specs.declared.line_outcomes.LineOutcome.{LineOutcome}
use Rattle.list_diff.specs.declared.line_outcomes.LineOutcome.TheVariants.{Answered, Faulty, Silent}
use Rattle.list_diff.specs.declared.line_outcomes.LineResult.{LineResult}
use Rattle.list_diff.specs.declared.line_outcomes.ResolutionFault.{ResolutionFault}
use Rattle.list_diff.specs.declared.line_outcomes.ResolutionFault.TheVariants as fault
use Rattle.list_diff.specs.declared.need_changes.NeedChange.{NeedChange}
use Rattle.list_diff.specs.declared.need_changes.QuotaAmounts.{QuotaAmounts}
use Rattle.list_diff.specs.declared.policy_breaches.BreachChange.{BreachChange}
use Rattle.list_diff.specs.declared.reply_changes.ReplyChange.{ReplyChange}

-- the machine after and before, unless they are the same
abbrev pub machine_records : Listed → Listed → List Record
machine_records was now =
    if same_machine was now then []
    else ((codes "kind", text (codes "machine")) ∷ (codes "change", text (codes "~")) ∷ (codes "pages", number now.pages)
    ∷ (codes "caps", number now.caps) ∷ (codes "was_pages", number was.pages) ∷ (codes "was_caps", number was.caps) ∷ []) ∷ []

-- a breach that one list alone has, with its place in the policy
abbrev pub breach_sign : Bool → List ℕ
breach_sign is_new = if is_new then codes "+" else codes "-"

abbrev pub breach_record : ChangeAt → Record
breach_record change =
    (codes "kind", text (codes "breach")) ∷ (codes "change", text (breach_sign change.is_new))
    ∷ (codes "line", number change.breach.place.line) ∷ (codes "column", number change.breach.place.column)
    ∷ (codes "text", text change.breach.text) ∷ []

-- a component that falls short, with its need and its budgets after and before
abbrev pub need_record : NeedChange → Record
need_record change =
    (codes "kind", text (codes "need")) ∷ (codes "change", text (codes "~")) ∷ (codes "name", text change.now.name.now)
    ∷ (codes "needs_ram", null_if_absent (if_number (option_map (λ (needs : QuotaAmounts). needs.ram) change.now.needs)))
    ∷ (codes "needs_caps", null_if_absent (if_number (option_map (λ (needs : QuotaAmounts). needs.caps) change.now.needs)))
    ∷ (codes "ram", number change.now.has.ram) ∷ (codes "caps", number change.now.has.caps)
    ∷ (codes "was_ram", number change.had.ram) ∷ (codes "was_caps", number change.had.caps) ∷ []

-- ---- replies

-- the answered call of a line
abbrev pub answer_in : Option LineResult → Option Exchange
answer_in None = None
answer_in (Some line) = made_in line.outcome

-- the number of the line after, or of the line before if there is none after
abbrev pub number_of : Option LineResult → Option LineResult → ℕ
number_of (Some line) was = line.number
number_of None (Some line) = line.number
number_of None None = 0

-- why a machine doesn't answer a line
abbrev pub fault_text : List ℕ → ResolutionFault → List ℕ
fault_text line fault.TooLong = codes "line of more than 8192 bytes"
fault_text line (fault.Misplaced why) = directive_message why
fault_text line (fault.Name why) = name_message why.reason (utf8_lossy (token_at line why.column))
fault_text line (fault.Line why) = line_message why.reason (utf8_lossy (token_at line why.column))

abbrev pub outcome_reason : List ℕ → LineOutcome → List ℕ
outcome_reason line (Answered exchange) = codes "no call"
outcome_reason line (Faulty why) = fault_text line why
outcome_reason line Silent = codes "no call"

abbrev pub reason_in : Option LineResult → List ℕ
reason_in None = codes "no such line"
reason_in (Some line) = outcome_reason line.line.now line.outcome

-- the reply of a machine, or null and the reason
abbrev pub reply_cell : Option Exchange → CellData
reply_cell (Some exchange) = text exchange.reply
reply_cell None = null

abbrev pub reason_cell : Option Exchange → List ℕ → CellData
reason_cell (Some exchange) why = absent
reason_cell None why = text why

-- a line that is answered differently, with a sign and the call
abbrev pub reply_record : List ℕ → ReplyChange → Exchange → Record
reply_record sign change made =
    (codes "kind", text (codes "reply")) ∷ (codes "change", text sign) ∷ (codes "line", number (number_of change.now change.was))
    ∷ (codes "name", text made.name) ∷ (codes "call", text made.call)
    ∷ (codes "reply", reply_cell (answer_in change.now)) ∷ (codes "reason", reason_cell (answer_in change.now) (reason_in change.now))
    ∷ (codes "was_reply", reply_cell (answer_in change.was)) ∷ (codes "was_reason", reason_cell (answer_in change.was) (reason_in change.was)) ∷ []

-- by the calls that are answered before and after
abbrev pub reply_by : ReplyChange → Option Exchange → Option Exchange → List Record
reply_by change None None = []
reply_by change None (Some now) = reply_record (codes "+") change now ∷ []
reply_by change (Some was) None = reply_record (codes "-") change was ∷ []
reply_by change (Some was) (Some now) = reply_record (codes "~") change now ∷ []

abbrev pub reply_records : ReplyChange → List Record
reply_records change = reply_by change (answer_in change.was) (answer_in change.now)

-- ---- all

-- the machine, entries, labels, breaches, needs and replies, in this order
abbrev pub difference_records : ListDifferences → List Record
difference_records found =
    machine_records found.before.now found.after.now
    ++ (map (change_record found.before.now found.after.now) found.changes.now
    ++ (map reach_record found.leads.now ++ (map (λ (change : BreachChange). breach_record (change_at change)) found.breaches.now
    ++ (map need_record found.lacks.now ++ flat_map reply_records found.replies.now))))
