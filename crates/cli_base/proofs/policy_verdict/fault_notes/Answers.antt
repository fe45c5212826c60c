-- One fault after another.
use Rattle.std.proofs.Common.{[], ◌∙◌, ◌++◌, List, ap, arith, map, refl, sym}
use Rattle.std.proofs.lemmas.Simd.{map-map}
use Rattle.list_policy.specs.Components.{fault_at}
use Rattle.list_policy.specs.Verdict.{flaw_place}
use Rattle.list_policy.specs.declared.fault.PolicyFault.{PolicyFault}
use Rattle.cli_base.specs.PolicyVerdict.{note_place}
use Rattle.cli_base.specs.declared.policy_verdict.PolicyDiagnostic.{PolicyDiagnostic}
use Rattle.cli_base.proofs.VerdictLemmas.{noted_all, noted_more}
use Rattle.cli_base.proofs.policy_verdict.fault_notes.Goals as goal

pub loop-place-init : goal.loop-place-init
loop-place-init c =
    ap
    (λ (ns : List PolicyDiagnostic). map note_place ns ++ map (λ (fault : PolicyFault). flaw_place (fault_at fault)) c.args.faults.now)
    c.new-notes.ensures.items

pub loop-place-preserved : goal.loop-place-preserved
loop-place-preserved c =
    noted_more (λ (fault : PolicyFault). flaw_place (fault_at fault)) c.args.faults.now [] c.loop-place.place _
    c.index-faults-place.result _ c.loop-place.notes.items c.push.new.self.items refl c.loop-place-test.true c.index-faults-place.is
    c.in_ok-fault_note.ensures c.in_ok-push.ensures.items c.loop-place.invariant

pub returns : goal.returns
returns c =
    noted_all (λ (fault : PolicyFault). flaw_place (fault_at fault)) c.args.faults.now [] c.loop-place.place c.loop-place.notes.items
    (omega (arith, c.loop-place-test.false)) c.loop-place.invariant
    ∙ sym (map-map flaw_place fault_at c.args.faults.now)
