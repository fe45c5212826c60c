-- Each call within stands less deep, and what is left of the lines, and of the rounds, is still to be unfolded.
use Rattle.std.proofs.Common.{◌≡◌, ◌+◌, ◌*◌, ◌-◌, ◌≤◌, drop, length}
use Rattle.line_rounds.specs.Unfolding.{lines_from, rounds_from, within}
use Rattle.line_rounds.specs.Views.{head_view, made_of, texts}
use Rattle.line_rounds.proofs.unfolding.Unfolding.+rounds.Given as goal

abbrev pub decreases-put_lines : goal.decreases-put_lines
decreases-put_lines l = 4 * l.deep

abbrev pub decreases-put_next : goal.decreases-put_next
decreases-put_next l = 4 * l.deep + 3

abbrev pub decreases-put_rounds : goal.decreases-put_rounds
decreases-put_rounds l = 4 * l.deep + 2

abbrev pub decreases-put_each : goal.decreases-put_each
decreases-put_each l = 4 * l.deep + 1

abbrev pub invariant-put_lines-loop-at : goal.invariant-put_lines-loop-at
invariant-put_lines-loop-at l =
    (lines_from (within (l.deep - 1)) 0 (l.number + l.at) (made_of l.self) (texts (drop l.at l.lines))
    ≡ lines_from (within (l.deep - 1)) 0 l.number (made_of l.initial.self) (texts l.lines))
    × (l.at ≤ length l.lines)

abbrev pub decreases-put_lines-loop-at : goal.decreases-put_lines-loop-at
decreases-put_lines-loop-at l = length l.lines - l.at

abbrev pub invariant-put_each-loop-k : goal.invariant-put_each-loop-k
invariant-put_each-loop-k l =
    rounds_from (within l.deep) l.place (head_view l.head) l.k (l.head.count - l.k) (made_of l.self) (texts l.body)
    ≡ rounds_from (within l.deep) l.place (head_view l.head) 0 l.head.count (made_of l.initial.self) (texts l.body)
