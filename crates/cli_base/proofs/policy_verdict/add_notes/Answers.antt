-- One breach after another.
use Rattle.std.proofs.Common.{arith, map, refl}
use Rattle.list_policy.specs.Line.{line_at}
use Rattle.list_policy.specs.Verdict.{breach_place}
use Rattle.cli_base.specs.PolicyVerdict.{note_place}
use Rattle.cli_base.proofs.VerdictLemmas.{noted_all, noted_more}
use Rattle.cli_base.proofs.policy_verdict.add_notes.Goals as goal

pub loop-place-preserved : goal.loop-place-preserved
loop-place-preserved c =
    noted_more (breach_place (line_at c.args.line.now)) c.args.breaches.now (map note_place c.args.broken.now.items) c.loop-place.place _
    c.index-breaches-place.result _ c.loop-place.broken.items c.push.new.self.items refl c.loop-place-test.true c.index-breaches-place.is
    c.in_ok-broken_by.ensures c.in_ok-push.ensures.items c.loop-place.invariant

pub returns : goal.returns
returns c =
    noted_all (breach_place (line_at c.args.line.now)) c.args.breaches.now (map note_place c.args.broken.now.items) c.loop-place.place
    c.loop-place.broken.items (omega (arith, c.loop-place-test.false)) c.loop-place.invariant
