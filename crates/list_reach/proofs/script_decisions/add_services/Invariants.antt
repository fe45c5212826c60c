use Rattle.std.proofs.Common.{◌≡◌, ◌++◌, drop, map}
use Rattle.own_model.specs.Listed.{services_of}
use Rattle.list_reach.proofs.script_decisions.add_services.Given as goal

abbrev pub invariant-loop-number : goal.invariant-loop-number
invariant-loop-number l =
    l.asked.items
    ++ map (λ service. record { client = l.client; entry = l.entry; service = service }) (drop l.number (services_of l.list.entries))
    ≡ l.initial.asked.items
    ++ map (λ service. record { client = l.client; entry = l.entry; service = service }) (services_of l.list.entries)
