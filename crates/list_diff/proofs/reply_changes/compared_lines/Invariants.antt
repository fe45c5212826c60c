use Rattle.std.proofs.Common.{◌+◌, length}
use Rattle.list_diff.proofs.ReplyLemmas.{Goes}
use Rattle.list_diff.proofs.reply_changes.compared_lines.Given as goal

-- what is found so far, followed by the changes of the lines that are left, are the changes of all lines
abbrev pub invariant-loop-rest : goal.invariant-loop-rest
invariant-loop-rest l = Goes l.wanted l.before l.after l.rest l.rest_after l.found.items

abbrev pub decreases-loop-rest : goal.decreases-loop-rest
decreases-loop-rest l = length l.rest + length l.rest_after
