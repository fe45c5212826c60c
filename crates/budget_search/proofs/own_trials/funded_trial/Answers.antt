-- What was given to the component makes its run the list's from that budget.
use Rattle.std.proofs.Common.{◌≡◌, subst, arith}
use Rattle.std.specs.Prelude.{is_some}
use Rattle.budget_theorems.specs.Need.{budgeted}
use Rattle.budget_meter.specs.Needs.{amounts_of}
use Rattle.budget_meter.specs.Run.{Shows}
use Rattle.budget_search.specs.Alike.{own_state}
use Rattle.budget_search.specs.OwnLines.{own_lines}
use Rattle.budget_search.specs.RunLines.{lines_in}
use Rattle.budget_search.specs.Steps.{calls_of}
use Rattle.budget_search.proofs.AlikeLemmas.{funded_begins, funded_entry, same_count}
use Rattle.budget_search.proofs.own_trials.funded_trial.Goals as goal

pub of_account-requires : goal.of_account-requires
of_account-requires c = omega (arith, c.requires.there, same_count c.in_ok-machine.machine c.args.list.now c.in_ok-machine.ensures.funded.alike)

pub returns-clause-shows : goal.returns-clause-shows
returns-clause-shows c = λ script.
    let s = own_state c.args.list.now c.args.component in
    let machine = c.in_ok-machine.machine in
    let budget = amounts_of c.args.budget in
    subst (λ e. Shows e (calls_of c.args.steps.now) s budget (is_some c.in_ok-trial.trial.refused) c.in_ok-trial.trial.meter)
    (funded_entry machine c.args.list.now c.args.component budget c.requires.there c.in_ok-machine.ensures.funded)
    (c.in_ok-trial.ensures.shows s (funded_begins machine c.args.list.now c.args.component budget c.requires.there c.in_ok-machine.ensures.funded script))

pub returns-clause-lines : goal.returns-clause-lines
returns-clause-lines c = λ script.
    let s = own_state c.args.list.now c.args.component in
    let machine = c.in_ok-machine.machine in
    let budget = amounts_of c.args.budget in
    subst (λ e. lines_in c.in_ok-trial.trial ≡ own_lines e budget c.args.steps.now (budgeted budget s))
    (funded_entry machine c.args.list.now c.args.component budget c.requires.there c.in_ok-machine.ensures.funded)
    (c.in_ok-trial.ensures.lines s (funded_begins machine c.args.list.now c.args.component budget c.requires.there c.in_ok-machine.ensures.funded script))
