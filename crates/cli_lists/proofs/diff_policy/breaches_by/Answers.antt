-- The breaches are those of the lines that were read.
use Rattle.cli_lists.proofs.ComparisonLemmas.{placed_by}
use Rattle.cli_lists.proofs.diff_policy.breaches_by.Goals as goal

pub returns : goal.returns
returns c =
    placed_by c.args.text.now c.args.lists.before.list.now c.args.lists.after.list.now c.in_ok-old.old c.args.policy.now
    c.lines.result.now c.lines-2.result.now c.in_ok-before.before.items c.in_ok-after.after.items
    c.in_ok-old.ensures c.requires.reads c.requires.faults c.lines.ensures c.lines-2.ensures c.in_ok-before.ensures c.in_ok-after.ensures
