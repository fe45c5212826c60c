use Rattle.std.proofs.Common.{◌≡◌, ◌++◌, drop, map}
use Rattle.list_reach.specs.Paths.{pieces}
use Rattle.list_policy.specs.Components.{fault_at, faults_in, found_in}
use Rattle.list_policy.proofs.components.components.Given as goal

-- what was found so far and what the paths that are left denote
abbrev pub invariant-loop-number : goal.invariant-loop-number
invariant-loop-number l = record {
  found : found_in l.list l.kind (pieces 44 l.paths)
      ≡ l.found.items ++ found_in l.list l.kind (map (λ piece. piece.now) (drop l.number l.pieces.items));
  faults : map fault_at l.initial.faults.items ++ faults_in l.list l.kind l.initial.here (pieces 44 l.paths)
      ≡ map fault_at l.faults.items ++ faults_in l.list l.kind l.here (map (λ piece. piece.now) (drop l.number l.pieces.items));
}
