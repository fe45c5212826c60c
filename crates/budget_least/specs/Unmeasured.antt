-- Lines that aren't measured, and the reasons for it in words.
use Rattle.std.specs.Prelude.{ℕ, ◌&&◌, Bool, true, false, List, ◌++◌, not, codes, nat_eq, is_some, if◌then◌else◌, string_bytes}
use Rattle.std.specs.Option.{option_map_or}
use Rattle.line_names.specs.declared.fault.NameReason.{NameReason}
use Rattle.line_names.specs.declared.fault.NameReason.TheVariants.{UnknownName}
use Rattle.line_steps.specs.declared.unread_line.UnreadReason.{UnreadReason}
use Rattle.line_steps.specs.declared.unread_line.UnreadReason.TheVariants.{Name}
use Rattle.budget_search.specs.declared.account_budgets.AccountBudgets.{AccountBudgets}
use Rattle.budget_least.specs.declared.unmeasured_line.UnmeasuredLine.{UnmeasuredLine}
use Rattle.budget_least.specs.declared.unmeasured_line.UnmeasuredReason.{UnmeasuredReason}
use Rattle.budget_least.specs.declared.unmeasured_line.UnmeasuredReason.TheVariants.{Unread, Unsettled}

-- a line is named with an account: its component's own, at the first iteration of a round in which it isn't measured
abbrev pub is_named_with : AccountBudgets → UnmeasuredLine → Bool
is_named_with account line =
    not line.is_again && not (is_some account.session) && option_map_or (λ component. nat_eq component account.component) line.component false

-- a name in a line has no value
abbrev pub is_unknown_name : NameReason → Bool
is_unknown_name UnknownName = true
is_unknown_name reason = false

abbrev pub is_unbound : UnreadReason → Bool
is_unbound (Name fault) = is_unknown_name fault.reason
is_unbound why = false

-- the reason in the words of an account's block, about this text of the line
abbrev pub words_of : UnmeasuredReason → List ℕ → List ℕ
words_of Unsettled token = codes "a name in it has another value with the minimum"
words_of (Unread why) token = if is_unbound why then token ++ codes " is unbound" else codes "it can't be parsed"

abbrev pub reason_text : UnmeasuredLine → List ℕ
reason_text line = words_of line.why (string_bytes line.token)
