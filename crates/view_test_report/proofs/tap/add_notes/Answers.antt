-- One byte more, behind `# ` where a line begins.
use Rattle.std.proofs.Common.{◌≡◌, ◌++◌, List, ℕ, [], codes}
use Rattle.std.specs.Prelude.{if◌then◌else◌}
use Rattle.view_test_report.proofs.TapLemmas.{begun, noted_more, unbegun}
use Rattle.view_test_report.proofs.tap.add_notes.Goals as goal
use Rattle.view_test_report.proofs.tap.add_notes.Goals.{then-begins+in_ok-extend_from_slice, else-begins}

pub loop-byte-preserved : goal.loop-byte-preserved
loop-byte-preserved c =
    let mark : List ℕ = if c.loop-byte.begins then codes "# " else [] in
    let marked : c.if-begins.text.items ≡ c.loop-byte.text.items ++ mark = elim c.if-begins.branch [
      | then-begins+in_ok-extend_from_slice w ↦ begun c.loop-byte.begins c.loop-byte.text.items c.if-begins.text.items w.if-begins.true (rw w.text-is w.in_ok-extend_from_slice.ensures.items)
      | else-begins w ↦ rw w.text-is (unbegun c.loop-byte.begins c.loop-byte.text.items w.if-begins.false)
    ] in
    noted_more c.loop-byte.begins c.args.lines.now c.loop-byte.text.items c.if-begins.text.items c.push.new.self.items _ c.loop-byte.byte-index c.loop-byte-test.true marked
    c.in_ok-push.ensures.items c.loop-byte.invariant
