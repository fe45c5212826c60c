-- With a result, and without one.
use Rattle.std.proofs.Common.{inl}
use Rattle.cli_lists.specs.ComparedRuns.{HasFaultIn}
use Rattle.cli_lists.specs.Comparison.{OfScenarios, PairDiffers, PairRefused}
use Rattle.cli_lists.proofs.ChangeLemmas.{ends_any}
use Rattle.cli_lists.proofs.diff.compare_both.Goals as goal

pub returns-in-Ok : goal.returns-in-Ok
returns-in-Ok g c =
    let texts = g.H.Host.text_at c.args.host.now in
    let asked = c.args.asked.now in
    ends_any (PairRefused texts asked c.args.after.now) (OfScenarios (HasFaultIn texts c.args.settings) asked)
    (PairDiffers texts asked c.args.settings c.args.before.now c.args.after.now) c.in-Ok.status c.in-Ok.ensures.ended

pub returns-in-Err : goal.returns-in-Err
returns-in-Err g c = inl c.in-Err.ensures.stopped
