use Rattle.std.proofs.Common.{◌∙◌, map}
use Rattle.list_faults.proofs.ValueLemmas.{place_more}
use Rattle.list_faults.specs.Values.{seen}
use Rattle.list_findings.specs.Objects.{parts_of_entry, seen_part}
use Rattle.list_findings.proofs.object_parts.object_parts.Goals as goal

pub loop-number-preserved : goal.loop-number-preserved
loop-number-preserved c =
    place_more seen parts_of_entry (map seen_part c.loop-number.parts.items) _ c.deref-entry-items.result.now c.loop-number.number c.entry-item.result
    c.loop-number-test.true c.entry-item.is c.in_ok-add_entry.ensures
    ∙ c.loop-number.invariant
