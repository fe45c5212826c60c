use Rattle.std.proofs.Common.{take}
use Rattle.std.specs.Prelude.{IfSome}
use Rattle.list_diff.specs.Reaches.{HasRows, IsCompared}
use Rattle.list_diff.proofs.reach_changes.rows_of.Given as goal

-- the pairs that are compared so far have their rows
abbrev pub invariant-loop-place : goal.invariant-loop-place
invariant-loop-place l = record {
  rows : HasRows l.before l.after (take l.place l.pairs) l.found.items;
  last : IfSome l.last (IsCompared l.before.list.now l.after.list.now);
}
