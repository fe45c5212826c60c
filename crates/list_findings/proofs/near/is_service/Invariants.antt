use Rattle.std.proofs.Common.{◌≡◌, drop}
use Rattle.std.specs.List.{list_any}
use Rattle.std.specs.Str.{bytes_eq}
use Rattle.own_model.specs.Listed.{services_of}
use Rattle.list_findings.proofs.near.is_service.Given as goal

abbrev pub invariant-loop-number : goal.invariant-loop-number
invariant-loop-number l =
    list_any (bytes_eq l.written) (drop l.number (services_of l.list.entries)) ≡ list_any (bytes_eq l.written) (services_of l.list.entries)
