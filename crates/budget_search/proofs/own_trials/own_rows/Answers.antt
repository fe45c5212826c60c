-- By the stretches of runs that end with their first want.
use Rattle.std.proofs.Common.{refl, ◌∙◌}
use Rattle.budget_theorems.proofs.StretchLemmas.{ending_exact}
use Rattle.budget_theorems.specs.Intervals.{needs_to_shortfall}
use Rattle.budget_search.specs.Alike.{own_entry, own_state}
use Rattle.budget_search.specs.Own.{is_short_with}
use Rattle.budget_search.specs.OwnLines.{lines_from}
use Rattle.budget_search.specs.Steps.{calls_of}
use Rattle.budget_search.proofs.FaultLemmas.{passed_on}
use Rattle.budget_search.proofs.own_trials.own_rows.Goals as goal

pub returns-clause-exact : goal.returns-clause-exact
returns-clause-exact c = λ script budget few up.
    let list = c.args.list.now in
    let component = c.args.component in
    let steps = c.args.steps.now in
    c.in_ok-found.ensures.exact (needs_to_shortfall (own_entry list component) (calls_of steps) (own_state list component)) (is_short_with list component steps)
    (record { script = script; needs = refl; want = refl }) budget up
    ∙ ending_exact (own_entry list component) (calls_of steps) (own_state list component) c.args.most.caps c.args.most.ram budget few up

pub returns-clause-ordered : goal.returns-clause-ordered
returns-clause-ordered c = λ script.
    let list = c.args.list.now in
    let component = c.args.component in
    let steps = c.args.steps.now in
    c.in_ok-found.ensures.ordered (needs_to_shortfall (own_entry list component) (calls_of steps) (own_state list component)) (is_short_with list component steps)
    (record { script = script; needs = refl; want = refl })

pub returns-in_err-found-clause-fault : goal.returns-in_err-found-clause-fault
returns-in_err-found-clause-fault c =
    let list = c.args.list.now in
    let component = c.args.component in
    let steps = c.args.steps.now in
    passed_on _ _ c.from_residual.result c.from_residual.ensures.1
    (λ other script.
    c.in_err-found.ensures.fault other (needs_to_shortfall (own_entry list component) (calls_of steps) (own_state list component)) (is_short_with list component steps)
    (record { script = script; needs = refl; want = refl }))

pub returns-clause-lines : goal.returns-clause-lines
returns-clause-lines c = λ script. c.in_ok-found.ensures.lines (lines_from c.args.list.now c.args.component c.args.steps.now) (script, refl)
