-- By both lists.
use Rattle.std.proofs.Common.{inl, inr}
use Rattle.cli_base.specs.Files.{HasNoBoot}
use Rattle.cli_lists.specs.ComparedRuns.{HasFaultIn}
use Rattle.cli_lists.specs.Comparison.{AfterDiffers, AfterRefused, DiffRefused, ListsDiffer, OfScenarios}
use Rattle.cli_lists.proofs.ChangeLemmas.{ends_more, refusal_stops}
use Rattle.cli_lists.proofs.diff.compare_lists.Goals as goal

pub returns-in-Ok : goal.returns-in-Ok
returns-in-Ok g c =
    let texts = g.H.Host.text_at c.args.host.now in
    let asked = c.args.asked.now in
    ends_more (AfterRefused texts asked c.args.settings) (DiffRefused texts asked c.args.settings)
    (OfScenarios (HasFaultIn texts c.args.settings) asked) (AfterDiffers texts asked c.args.settings c.in-Ok.before)
    (ListsDiffer texts asked c.args.settings) (λ refused. inr refused)
    (λ changed differ. (c.in-Ok.before, c.in-Ok.ensures.read, differ)) c.compare_before.result c.compare_before.ensures

pub returns-in-Err : goal.returns-in-Err
returns-in-Err g c =
    let texts = g.H.Host.text_at c.args.host.now in
    let asked = c.args.asked.now in
    inl (refusal_stops (HasNoBoot texts c.args.settings asked.before.now) (DiffRefused texts asked c.args.settings)
    (OfScenarios (HasFaultIn texts c.args.settings) asked) c.in-Err.status (λ none. inl none) c.in-Err.ensures.failed)
