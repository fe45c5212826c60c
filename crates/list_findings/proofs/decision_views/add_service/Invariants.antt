use Rattle.std.proofs.Common.{◌≡◌, ◌++◌, drop, map}
use Rattle.std.specs.Prelude.{All, flat_map}
use Rattle.std.specs.List.{enumerate_from}
use Rattle.list_findings.specs.Views.{IsShown, asking_by, asking_of, askings_for}
use Rattle.list_findings.proofs.decision_views.add_service.Given as goal

-- what is shown so far and what is to be shown of the other entries
abbrev pub invariant-loop-client : goal.invariant-loop-client
invariant-loop-client l = record {
  asked :
      map asking_of l.views.items ++ flat_map (asking_by l.service) (enumerate_from l.client (drop l.client l.entries))
      ≡ map asking_of l.initial.views.items ++ askings_for l.list l.service;
  shown : All (IsShown l.list) l.views.items;
}
