-- The policy is refused, or two lists are compared with the breaches that one of them alone has.
use Rattle.std.proofs.Common.{inl, inr}
use Rattle.std.specs.Option.{option_copied}
use Rattle.std.proofs.lemmas.Result.{err_from_is_err_and}
use Rattle.cli_lists.specs.ComparedRuns.{HasFaultIn, LacksScenario}
use Rattle.cli_lists.specs.Comparison.{OfScenarios, PairRefused, RefusesPolicy}
use Rattle.cli_lists.proofs.ChangeLemmas.{err_as, refusal_stops, with_breaches}
use Rattle.cli_lists.proofs.ComparisonLemmas.{made_breaches}
use Rattle.cli_lists.proofs.diff.compare.Goals as goal

pub returns-in_err-breaches-clause-stopped : goal.returns-in_err-breaches-clause-stopped
returns-in_err-breaches-clause-stopped g c =
    let texts = g.H.Host.text_at c.args.host.now in
    let asked = c.args.asked.now in
    let p = err_from_is_err_and c.from_residual.result c.from_residual.ensures.1 in
    rw (p.1, p.2)
    (refusal_stops (RefusesPolicy texts (option_copied asked.policy) c.args.after.now) (PairRefused texts asked c.args.after.now)
    (OfScenarios (HasFaultIn texts c.args.settings) asked) _ (λ refused. inl refused) c.in_err-breaches.ensures.stopped)

pub returns-clause-ended : goal.returns-clause-ended
returns-clause-ended g c =
    let texts = g.H.Host.text_at c.args.host.now in
    let asked = c.args.asked.now in
    with_breaches texts c.args.settings asked c.args.before.now c.args.after.now c.as_slice.result.now c.compare_judged.result
    (made_breaches texts (option_copied asked.policy) c.args.before.now c.args.after.now c.in_ok-breaches.breaches.before.items
    c.in_ok-breaches.breaches.after.items c.changes.result c.in_ok-changes.changes c.as_slice.result.now c.in_ok-breaches.ensures.found
    c.changes.ensures c.in_ok-changes.ensures.ok c.as_slice.ensures.value)
    (rw (c.new-pair.ensures.before, c.new-pair.ensures.after, c.new-pair.ensures.breaches) at c.compare_judged.ensures.ended)

pub returns-clause-stopped : goal.returns-clause-stopped
returns-clause-stopped g c =
    let texts = g.H.Host.text_at c.args.host.now in
    let asked = c.args.asked.now in
    err_as (OfScenarios (LacksScenario texts) asked) (PairRefused texts asked c.args.after.now)
    (OfScenarios (HasFaultIn texts c.args.settings) asked) (OfScenarios (HasFaultIn texts c.args.settings) asked)
    (λ lacks. inr lacks) (λ fault. fault) c.compare_judged.result c.compare_judged.ensures.stopped
