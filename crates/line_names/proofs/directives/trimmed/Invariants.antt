-- What is left has the same signs.
use Rattle.std.proofs.Common.{◌≡◌, ◌≤◌, length, take}
use Rattle.line_names.specs.Directives.{trimmed}
use Rattle.line_names.proofs.directives.trimmed.Given as goal

abbrev pub invariant-loop-end : goal.invariant-loop-end
invariant-loop-end l = record {
  within : l.end ≤ length l.text;
  signs : trimmed l.text ≡ trimmed (take l.end l.text);
}

abbrev pub decreases-loop-end : goal.decreases-loop-end
decreases-loop-end l = l.end
