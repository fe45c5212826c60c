use Rattle.std.proofs.Common.{◌≡◌, ◌++◌, drop}
use Rattle.std.specs.List.{enumerate_from, flat_map}
use Rattle.own_model.specs.Listed.{services_of}
use Rattle.list_reach.specs.Paths.{is_chosen}
use Rattle.list_reach.specs.ScriptDecisions.{askings, entry_askings}
use Rattle.list_reach.proofs.script_decisions.requests_of.Given as goal

abbrev pub invariant-loop-client : goal.invariant-loop-client
invariant-loop-client l =
    l.asked.items
    ++ flat_map (entry_askings (services_of l.list.entries) (is_chosen l.chosen.from.items)) (enumerate_from l.client (drop l.client l.entries))
    ≡ askings l.list (is_chosen l.chosen.from.items)
