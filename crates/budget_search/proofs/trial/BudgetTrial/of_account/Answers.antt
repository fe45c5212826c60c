-- From the first line on.
use Rattle.std.proofs.Common.{◌≡◌, ℕ, List, [], Result, Ok, Err, IfOk, refl, ap, ◌∙◌, subst}
use Rattle.std.specs.Prelude.{is_some}
use Rattle.own_model.specs.Amounts.{Amounts}
use Rattle.own_model.specs.Call.{Call}
use Rattle.own_model.specs.Listed.{Listed, start_list_of}
use Rattle.own_model.specs.OwnState.{OwnState}
use Rattle.own_model.specs.StartList.{entries_of}
use Rattle.own_model.specs.Transcript.{entry_at, state_at}
use Rattle.own_model.specs.World.{World, start_world}
use Rattle.budget_theorems.specs.Need.{budgeted}
use Rattle.budget_meter.specs.Needs.{amounts_of}
use Rattle.budget_meter.specs.Run.{Shows}
use Rattle.budget_meter.specs.declared.account.AccountMeter.{AccountMeter}
use Rattle.budget_search.specs.Run.{Begins, HasLeft, HasLinesLeft}
use Rattle.budget_search.specs.OwnLines.{own_lines}
use Rattle.budget_search.specs.RunLines.{RunLines, lines_in}
use Rattle.budget_search.specs.Steps.{calls_of}
use Rattle.budget_search.specs.declared.component_line.ComponentLine.{ComponentLine}
use Rattle.budget_search.specs.declared.trial.BudgetTrial.{BudgetTrial}
use Rattle.list_parser.specs.declared.fault.BootFault.{BootFault}
use Rattle.budget_search.proofs.RunLemmas.{at_first}
use Rattle.budget_search.proofs.trial.BudgetTrial.of_account.Goals as goal

-- what is shown on the machine of a list, on which all calls are left
first_shown : (list : Listed) (core : World) (component : ℕ) (budget : Amounts) (meter : AccountMeter) (calls : List Call) (made : Result BudgetTrial BootFault) →
    core ≡ start_world (start_list_of list) →
    ((s : OwnState) → Begins (start_list_of list) component budget s → HasLeft core component meter calls calls budget s) →
    IfOk made (λ trial. (all : List Call) (b : Amounts) (s : OwnState) → HasLeft core component meter all calls b s →
    Shows (entry_at core.entries component) all s b (is_some trial.refused) trial.meter) →
    IfOk made (λ trial. (s : OwnState) → Begins (start_list_of list) component budget s →
    Shows (entry_at (entries_of (start_list_of list)) component) calls s budget (is_some trial.refused) trial.meter)
first_shown list core component budget meter calls (Ok trial) started first shows = λ s begins.
    subst (λ w. Shows (entry_at w.entries component) calls s budget (is_some trial.refused) trial.meter) started
    (shows calls budget s (first s begins))
first_shown list core component budget meter calls (Err fault) started first none = tt

pub returns-clause-shows : goal.returns-clause-shows
returns-clause-shows c =
    let component = c.args.component in
    let budget = amounts_of c.args.start in
    let calls = calls_of c.args.steps.now in
    first_shown c.args.list.now c.in_ok-core.core component budget c.new-heard.result calls c.trial.result c.in_ok-core.ensures.started
    (λ s begins. at_first c.args.list.now c.in_ok-core.core component budget s c.account.result c.new-heard.result c.in_ok-core.ensures.started c.requires begins
    c.account.ensures.value c.new-heard.ensures calls)
    c.trial.ensures.shows

-- the lines that are shown on the machine of a list, on which any calls can come first
first_lines : (list : Listed) (core : World) (component : ℕ) (budget : Amounts) (meter : AccountMeter) (steps : List ComponentLine) (made : Result BudgetTrial BootFault) →
    core ≡ start_world (start_list_of list) →
    ((s : OwnState) → Begins (start_list_of list) component budget s → (calls : List Call) → HasLeft core component meter calls calls budget s) →
    IfOk made (λ trial. (whole : RunLines) → HasLinesLeft core component meter [] (own_lines (entry_at core.entries component) budget steps) whole → lines_in trial ≡ whole) →
    IfOk made (λ trial. (s : OwnState) → Begins (start_list_of list) component budget s →
    lines_in trial ≡ own_lines (entry_at (entries_of (start_list_of list)) component) budget steps (budgeted budget s))
first_lines list core component budget meter steps (Ok trial) started first lines = λ s begins.
    lines (own_lines (entry_at core.entries component) budget steps (state_at core.states component))
    (record { heard = []; budget = budget; s = s; left = first s begins; whole_is = refl })
    ∙ ap (λ w. own_lines (entry_at w.entries component) budget steps (state_at w.states component)) started
    ∙ ap (λ t. own_lines (entry_at (entries_of (start_list_of list)) component) budget steps t) begins.state
first_lines list core component budget meter steps (Err fault) started first none = tt

pub returns-clause-lines : goal.returns-clause-lines
returns-clause-lines c =
    let component = c.args.component in
    let budget = amounts_of c.args.start in
    first_lines c.args.list.now c.in_ok-core.core component budget c.new-heard.result c.args.steps.now c.trial.result c.in_ok-core.ensures.started
    (λ s begins. at_first c.args.list.now c.in_ok-core.core component budget s c.account.result c.new-heard.result c.in_ok-core.ensures.started c.requires begins
    c.account.ensures.value c.new-heard.ensures)
    c.trial.ensures.lines
