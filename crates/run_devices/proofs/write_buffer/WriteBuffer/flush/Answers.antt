-- What was written leaves the rest gathered.
use Rattle.std.proofs.Common.{◌++◌, ◌∙◌, ap, take, slice_range, append-nil, sym}
use Rattle.std.proofs.lemmas.List.{take-append-drop}
use Rattle.run_devices.proofs.BlockLemmas.{front_passed}
use Rattle.run_devices.proofs.write_buffer.WriteBuffer.flush.Goals as goal

pub returns-then-self-clause-told : goal.returns-then-self-clause-told
returns-then-self-clause-told g c = (
  _,
  record {
    out = take c.write_out-count.result (slice_range c.self.inside.bytes c.self.inside.start c.self.inside.end);
    grows = c.write_out-count.ensures.written;
    parts =
        ap (λ left. take c.write_out-count.result (slice_range c.self.inside.bytes c.self.inside.start c.self.inside.end) ++ left)
        (front_passed c.self.inside.bytes c.self.inside.start c.self.inside.end c.write_out-count.result)
        ∙ take-append-drop c.write_out-count.result _ ∙ c.self.view_is ∙ sym (append-nil c.args.self.now);
  },
)
