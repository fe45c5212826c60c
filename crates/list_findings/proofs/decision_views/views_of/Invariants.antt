use Rattle.std.proofs.Common.{◌≡◌, ◌++◌, drop, map}
use Rattle.std.specs.Prelude.{All, flat_map}
use Rattle.list_findings.specs.Views.{IsShown, asking_of, askings, askings_for}
use Rattle.list_findings.proofs.decision_views.views_of.Given as goal

-- what is shown so far and what is to be shown for the other services
abbrev pub invariant-loop-place : goal.invariant-loop-place
invariant-loop-place l = record {
  asked : map asking_of l.views.items ++ flat_map (askings_for l.list) (drop l.place l.services.items) ≡ askings l.list;
  shown : All (IsShown l.list) l.views.items;
}
