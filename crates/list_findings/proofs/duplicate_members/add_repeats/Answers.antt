use Rattle.std.proofs.Common.{◌∙◌}
use Rattle.list_findings.specs.JsonKeys.{seen}
use Rattle.list_findings.proofs.SeenLemmas.{place_more}
use Rattle.list_findings.proofs.duplicate_members.add_repeats.Goals as goal

pub loop-number-preserved : goal.loop-number-preserved
loop-number-preserved c =
    place_more seen _ c.loop-number.found.items _ c.deref-key-items.result.now c.loop-number.number _ c.loop-number-test.true c.in_ok-add_repeat.ensures
    ∙ c.loop-number.invariant
