use Rattle.std.proofs.Common.{◌≡◌, drop}
use Rattle.std.specs.Prelude.{find}
use Rattle.own_model.specs.Listed.{services_of}
use Rattle.list_findings.specs.Findings.{is_in_case}
use Rattle.list_findings.proofs.near.meant_by.Given as goal

abbrev pub invariant-loop-number : goal.invariant-loop-number
invariant-loop-number l =
    find (is_in_case l.written) (drop l.number (services_of l.list.entries)) ≡ find (is_in_case l.written) (services_of l.list.entries)
