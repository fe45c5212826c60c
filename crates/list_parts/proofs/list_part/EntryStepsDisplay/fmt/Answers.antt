-- One step more.
use Rattle.std.proofs.Common.{rules, ◌++◌}
use Rattle.std.proofs.Output.{has_written_append}
use Rattle.list_parts.specs.PartTexts.{step_text}
use Rattle.list_parts.proofs.TextLemmas.{next_step}
use Rattle.list_parts.proofs.list_part.EntryStepsDisplay.fmt.Goals as goal

pub loop-step-preserved : goal.loop-step-preserved
loop-step-preserved g c = (
  search rules,
  λ plain.
      let so_far = c.loop-step.invariant.1 plain in (
        so_far.0 ++ (c.loop-step.before.now ++ step_text c.step-item.result),
        has_written_append _ _ _ _ _ _ so_far.1 (search rules),
        next_step c.loop-step.before.now c.args.self.now c.loop-step.step-index c.step-item.result
            so_far.0 _ (rw c.as_slice-step-items.ensures at c.loop-step-test.true) (rw c.as_slice-step-items.ensures at c.step-item.is) so_far.2,
      ),
)
