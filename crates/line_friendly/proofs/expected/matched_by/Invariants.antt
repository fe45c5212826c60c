-- What stands for a byte in what is left of the reply.
use Rattle.std.proofs.Common.{◌≡◌, ◌≤◌, ◌-◌, drop, true}
use Rattle.line_friendly.specs.Expected.{matched_from}
use Rattle.line_friendly.proofs.expected.matched_by.Given as goal

abbrev pub invariant-loop-i : goal.invariant-loop-i
invariant-loop-i l = record {
  before : l.i ≤ l.place;
  stands : matched_from l.place true l.expected l.reply ≡ matched_from (l.place - l.i) l.begins (drop l.i l.expected) l.left;
}
