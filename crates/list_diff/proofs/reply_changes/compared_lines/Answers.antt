use Rattle.std.proofs.Common.{rules}
use Rattle.list_diff.proofs.ReplyLemmas.{goes_on, goes_to_end}
use Rattle.list_diff.proofs.reply_changes.compared_lines.Goals as goal

pub loop-rest-preserved : goal.loop-rest-preserved
loop-rest-preserved c =
    rw (
      c.behind_if-rest.ensures,
      c.behind_if-rest_after.ensures,
      c.has_old-in-loop-rest.ensures,
      c.has_new-in-loop-rest.ensures,
      c.in_ok-add_line.ensures,
      c.first_if-was.ensures,
      c.first_if.ensures,
      c.has_old.ensures,
      c.has_new.ensures,
    )
    (goes_on c.args.wanted c.args.before.now c.args.after.now c.loop-rest.rest.now c.loop-rest.rest_after.now c.loop-rest.found.items
    c.next_step-step.result c.next_step-step.ensures c.loop-rest.invariant)

pub returns-clause-aligned : goal.returns-clause-aligned
returns-clause-aligned c =
    goes_to_end c.args.wanted c.args.before.now c.args.after.now c.loop-rest.rest.now c.loop-rest.rest_after.now c.loop-rest.found.items
    (search rules) (search rules) c.loop-rest.invariant
