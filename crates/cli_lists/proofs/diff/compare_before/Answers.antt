-- By the list after.
use Rattle.std.proofs.Common.{inl, inr}
use Rattle.cli_base.specs.Files.{HasNoBoot}
use Rattle.cli_lists.specs.ComparedRuns.{HasFaultIn}
use Rattle.cli_lists.specs.Comparison.{AfterDiffers, AfterRefused, OfScenarios, PairDiffers, PairRefused}
use Rattle.cli_lists.proofs.ChangeLemmas.{ends_more, refusal_stops}
use Rattle.cli_lists.proofs.diff.compare_before.Goals as goal

pub returns-in-Ok : goal.returns-in-Ok
returns-in-Ok g c =
    let texts = g.H.Host.text_at c.args.host.now in
    let asked = c.args.asked.now in
    let before = c.args.before.now in
    let after = c.in-Ok.after in
    ends_more (PairRefused texts asked after) (AfterRefused texts asked c.args.settings) (OfScenarios (HasFaultIn texts c.args.settings) asked)
    (PairDiffers texts asked c.args.settings before after) (AfterDiffers texts asked c.args.settings before)
    (λ refused. inr (after, c.in-Ok.ensures.read, refused)) (λ changed differ. (after, c.in-Ok.ensures.read, differ))
    c.compare_both.result c.compare_both.ensures

pub returns-in-Err : goal.returns-in-Err
returns-in-Err g c =
    let texts = g.H.Host.text_at c.args.host.now in
    let asked = c.args.asked.now in
    inl (refusal_stops (HasNoBoot texts c.args.settings asked.after.now) (AfterRefused texts asked c.args.settings)
    (OfScenarios (HasFaultIn texts c.args.settings) asked) c.in-Err.status (λ none. inl none) c.in-Err.ensures.failed)
