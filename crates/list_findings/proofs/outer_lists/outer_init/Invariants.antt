use Rattle.std.proofs.Common.{◌≡◌, drop}
use Rattle.std.specs.Prelude.{find}
use Rattle.std.specs.List.{enumerate_from}
use Rattle.std.specs.Option.{option_map}
use Rattle.list_findings.specs.Outer.{entry_in, is_asked_by, outer_init}
use Rattle.list_findings.proofs.outer_lists.outer_init.Given as goal

abbrev pub invariant-loop-number : goal.invariant-loop-number
invariant-loop-number l =
    option_map entry_in (find (is_asked_by l.owner) (enumerate_from l.number (drop l.number l.entries))) ≡ outer_init l.list l.owner
