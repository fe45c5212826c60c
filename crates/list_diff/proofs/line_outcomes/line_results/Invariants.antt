use Rattle.std.proofs.Common.{◌≡◌, ◌++◌, drop, map}
use Rattle.list_diff.specs.LineResults.{bytes_of, call_in, line_calls}
use Rattle.list_diff.proofs.line_outcomes.line_results.Given as goal

-- what came of the lines so far, and of those that are left
abbrev pub invariant-loop-line : goal.invariant-loop-line
invariant-loop-line l =
    map call_in l.results.items ++ line_calls l.run (bytes_of (drop l.line-index l.lines))
    ≡ line_calls l.initial.run (bytes_of l.lines)
