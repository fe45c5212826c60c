-- The lines that have an error under the budgets that a report writes.
use Rattle.std.specs.Prelude.{◌≡◌, ⊤, ℕ, ◌+◌, ◌==◌, ◌||◌, ◌&&◌, Bool, true, false, not, is_some, List, [], ◌∷◌, codes, length, min, replicate, if◌then◌else◌, Option, Some, None}
use Rattle.std.specs.List.{position, slice_get, slice_split}
use Rattle.std.specs.Option.{option_and_then, option_map_or, unwrap_or}
use Rattle.std.specs.Str.{bytes_eq}
use Rattle.trade_base.specs.Refusal.{refusal_name}
use Rattle.trade_base.specs.declared.refusal.Refusal.TheVariants.{BadLine, UnknownComponent}
use Rattle.own_model.specs.Call.{Call, Spoken}
use Rattle.own_model.specs.Call.Call.{CallSession, Open, Request, Upgrade, Yield}
use Rattle.own_model.specs.Listed.{Listed}
use Rattle.own_model.specs.BufferService.{session_request}
use Rattle.own_model.specs.LogText.{log_request}
use Rattle.own_model.specs.ObjectSession.{holding_request}
use Rattle.own_model.specs.SessionArgs.{arguments_of}
use Rattle.line_friendly.specs.Expected.{meets}
use Rattle.line_names.specs.Filling.{FilledLine}
use Rattle.line_steps.specs.ResolvedLines.{ResolvedLine, is_unread, resolved_line}
use Rattle.line_steps.specs.ResolvedLines.ResolvedLine.{Follow, Call as CallLine}
use Rattle.line_steps.specs.RunPosition.{RunPosition, arrived, passed, position_following}
use Rattle.list_parser.specs.Budgets.{changed_at}
use Rattle.list_parser.specs.Depth.{runs_script}
use Rattle.list_parser.specs.declared.fault.BootFault.{BootFault}
use Rattle.run_scenario.specs.Judging.{is_other, nothing_awaited}
use Rattle.run_scenario.specs.LineSteps.{is_meant_line}
use Rattle.run_scenario.specs.UnknownNames.{names_unknown}
use Rattle.budget_search.specs.AmpleCalls.{Client}
use Rattle.budget_search.specs.NoBudgets.{IsSearchFault}
use Rattle.budget_least.specs.BoundRuns.{kept_by, made_in, BoundRun, IsClient}
use Rattle.budget_least.specs.ComponentLines.{expects_refusal, expects_shortage, is_routed, said_in}
use Rattle.budget_least.specs.InitNeeds.{is_init_at}
use Rattle.budget_least.specs.ReportOf.{AreWrittenBy}
use Rattle.budget_least.specs.declared.binding_run.BindingBudgets.{BindingBudgets}
use Rattle.budget_least.specs.declared.judged_run.JudgeFault.{JudgeFault}
use Rattle.budget_least.specs.declared.judged_run.JudgeFault.TheVariants.{Boot, Run}
use Rattle.budget_least.specs.declared.judged_run.JudgedRun.{JudgedRun}
use Rattle.budget_least.specs.declared.report.BudgetReport.{BudgetReport}

-- ---- replies

-- a reply and its expectation are both of this form
abbrev pub are_of_form : List ℕ → List ℕ → List ℕ → Bool
are_of_form reply expected form = meets reply form && meets expected form

-- a reply has another address than is expected, or other limits of an account or a session: those that other budgets change
abbrev pub has_other_amounts : Option (List ℕ) → List ℕ → Bool
has_other_amounts None reply = false
has_other_amounts (Some expected) reply =
    are_of_form reply expected (codes "at *") || (are_of_form reply expected (codes "ram * caps *")
    || are_of_form reply expected (codes "OK ram * caps *"))

-- otherwise a line has an error by its reply, or by an unknown name in its call, as in a run without log lines
abbrev pub is_error : Bool → Bool → Option (List ℕ) → List ℕ → Bool
is_error meant unknown expected reply =
    not (has_other_amounts expected reply)
    && is_other meant expected (Some (record { reply = reply; lines = []; is_unknown = unknown })) nothing_awaited

-- ---- a call

-- the run, and how many lines of each component are before its position
pub record Judging : Type 0 where
  pub run : BoundRun
  pub counts : List ℕ

-- one more, in 64 bits
abbrev pub one_more : ℕ → ℕ
one_more count = min (count + 1) 18446744073709551615

abbrev pub counted : ℕ → Judging → Judging
counted component judging = record judging { counts = changed_at one_more judging.counts component }

-- the arguments or the request of a call are in the grammar of some service
abbrev pub has_grammar : Call → Bool
has_grammar (Open service text) = is_some (arguments_of text)
has_grammar (Upgrade selector text) = is_some (arguments_of text)
has_grammar (Request text) = is_some (arguments_of text)
has_grammar (Yield text) = is_some (arguments_of text)
has_grammar (CallSession selector text) =
    is_some (session_request text) || (is_some (holding_request text) || is_some (log_request text))
has_grammar call = true

-- a call could be granted with some budget: a script makes it, and the list routes it
abbrev pub is_grantable : Listed → ℕ → Call → Bool
is_grantable list component call =
    option_map_or (λ entry. runs_script entry.binary && (is_routed list component call && has_grammar call)) (slice_get list.entries component) false

-- a call without an unknown name isn't made if its refusal is expected, and may be a shortage of quota
abbrev pub is_unmade : Bool → Listed → ℕ → Option (List ℕ) → Call → Bool
is_unmade unknown list component expected call =
    expects_refusal expected && (expects_shortage expected && (not unknown && is_grantable list component call))

-- a component makes its call, and the line has an error or not
abbrev pub IsMade : Bool → Bool → ℕ → FilledLine → Option (List ℕ) → Call → Judging → Judging → Bool → Type 0
IsMade meant unknown component filled expected call old new complained =
    (client : Client)
    × (IsClient old.run component client
    × ((new ≡ counted component (record old {
      run = kept_by (not (expects_refusal expected)) component filled
          (made_in old.run.budgets component (unwrap_or (slice_get old.counts component) 0) call client) old.run;
    }))
    × (complained ≡ is_error meant unknown expected
    (made_in old.run.budgets component (unwrap_or (slice_get old.counts component) 0) call client).text)))

-- unless it isn't made
abbrev pub IsMadeUnless : Bool → Bool → Bool → ℕ → FilledLine → Option (List ℕ) → Call → Judging → Judging → Bool → Type 0
IsMadeUnless true meant unknown component filled expected call old new complained = (new ≡ counted component old) × (complained ≡ false)
IsMadeUnless false meant unknown component filled expected call old new complained =
    IsMade meant unknown component filled expected call old new complained

-- ---- a line

-- a reply that the machine gives without a component
abbrev pub IsReplied : Bool → Bool → Option (List ℕ) → List ℕ → Judging → Judging → Bool → Type 0
IsReplied meant unknown expected reply old new complained =
    (new ≡ old) × (complained ≡ is_error meant unknown expected reply)

-- the component of a path, unless it is an init
abbrev pub caller_in : Listed → List ℕ → Option ℕ
caller_in list name =
    option_and_then (λ component. if is_init_at list component then None else Some component)
    (position (λ entry. bytes_eq entry.path name) list.entries)

abbrev pub IsJudgedBy : Bool → Bool → FilledLine → Option (List ℕ) → Call → Option ℕ → Judging → Judging → Bool → Type 0
IsJudgedBy meant unknown filled expected call None old new complained =
    IsReplied meant unknown expected (refusal_name UnknownComponent) old new complained
IsJudgedBy meant unknown filled expected call (Some component) old new complained =
    IsMadeUnless (is_unmade unknown old.run.list component expected call) meant unknown component filled expected call old new complained

abbrev pub IsJudgedCall : Bool → Bool → FilledLine → Option (List ℕ) → Option Spoken → Judging → Judging → Bool → Type 0
IsJudgedCall meant unknown filled expected None old new complained = IsReplied meant unknown expected (refusal_name BadLine) old new complained
IsJudgedCall meant unknown filled expected (Some said) old new complained =
    IsJudgedBy meant unknown filled expected said.call (caller_in old.run.list said.name) old new complained

-- the run at another position
abbrev pub at_position : RunPosition → Judging → Judging
at_position position judging = record judging { run = record judging.run { position = position } }

-- a resolved line: a directive is followed, a call is judged by its reply, and a line that can't be read has an error
abbrev pub IsJudgedAs : Bool → ResolvedLine → Judging → Judging → Bool → Type 0
IsJudgedAs meant (Follow directive) old new complained =
    (new ≡ at_position (position_following old.run.position directive) old) × (complained ≡ false)
IsJudgedAs meant (CallLine filled line expected) old new complained =
    IsJudgedCall meant (names_unknown old.run.list line) filled expected (said_in line) old new complained
IsJudgedAs meant resolved old new complained = (new ≡ old) × (complained ≡ is_unread resolved)

-- ---- all lines

-- the run, and the number of errors so far
pub record Judged : Type 0 where
  pub judging : Judging
  pub errors : ℕ

abbrev pub judging_of : JudgedRun → Judging
judging_of judged = record { run = judged.run; counts = judged.counts.items }

abbrev pub judged_of : JudgedRun → Judged
judged_of judged = record { judging = judging_of judged; errors = judged.errors }

-- a line of the text is judged at the position of the run, and rounds may begin or end there
abbrev pub IsJudged : List ℕ → Judged → Judged → Type 0
IsJudged line old new =
    (taken : Judging) × ((complained : Bool)
    × (IsJudgedAs (is_meant_line line) (resolved_line None old.judging.run.position.known line)
    (at_position (passed old.judging.run.position) old.judging) taken complained
    × (new ≡ record {
      judging = at_position (arrived taken.run.position) taken;
      errors = if complained then one_more old.errors else old.errors;
    })))

-- lines are judged, one after another
abbrev pub AreJudged : List (List ℕ) → Judged → Judged → Type 0
AreJudged [] old new = new ≡ old
AreJudged (line ∷ lines) old new = (next : Judged) × (IsJudged line old next × AreJudged lines next new)

-- before the first line
abbrev pub first_judged : Listed → RunPosition → BindingBudgets → Judged
first_judged list start budgets = record {
  judging = record {
    run = record {
      list = list;
      budgets = budgets;
      binds = true;
      position = start;
      clients = replicate (length list.entries) None;
    };
    counts = replicate (length list.entries) 0;
  };
  errors = 0;
}

-- so many lines of a scenario have an error under the budgets that a report writes
abbrev pub HasErrors : BudgetReport → List ℕ → RunPosition → ℕ → Type 0
HasErrors report scenario start errors =
    (budgets : BindingBudgets) × (AreWrittenBy report budgets × ((judging : Judging)
    × AreJudged (slice_split (λ b. b == 10) scenario) (first_judged report.list.now start budgets)
    (record { judging = judging; errors = errors })))

-- the comparison stops: a component's machine doesn't boot, as in a search; or an error can't be written, or memory is short
abbrev pub IsJudgeFault : Listed → JudgeFault → Type 0
IsJudgeFault list (Boot fault) = IsSearchFault list fault
IsJudgeFault list (Run fault) = ⊤
