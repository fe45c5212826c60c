use Rattle.std.proofs.Common.{[]}
use Rattle.list_policy.specs.Components.{fault_at}
use Rattle.list_policy.specs.Verdict.{flaw_place}
use Rattle.list_policy.specs.declared.fault.PolicyFault.{PolicyFault}
use Rattle.cli_base.proofs.VerdictLemmas.{NotedTo}
use Rattle.cli_base.proofs.policy_verdict.fault_notes.Given as goal

abbrev pub invariant-loop-place : goal.invariant-loop-place
invariant-loop-place l = NotedTo (λ (fault : PolicyFault). flaw_place (fault_at fault)) l.faults [] l.place l.notes.items
