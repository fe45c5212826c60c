-- What is left of the reply meets what is left of what is expected.
use Rattle.std.proofs.Common.{◌≡◌, drop, true}
use Rattle.line_friendly.specs.Expected.{reply_behind}
use Rattle.line_friendly.proofs.expected.reply_behind.Given as goal

abbrev pub invariant-loop-i : goal.invariant-loop-i
invariant-loop-i l = reply_behind true l.expected l.reply ≡ reply_behind l.begins (drop l.i l.expected) l.left
