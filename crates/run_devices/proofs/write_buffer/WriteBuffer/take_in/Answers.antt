-- What was taken in stands behind what was gathered.
use Rattle.std.proofs.Common.{◌≡◌, ◌++◌, ◌∙◌, ap, take, arith}
use Rattle.std.proofs.lemmas.Grind.{common_steps}
use Rattle.run_devices.proofs.BlockLemmas.{slice_range-grown}
use Rattle.run_devices.proofs.write_buffer.WriteBuffer.take_in.Goals as goal

pub returns-clause-grown : goal.returns-clause-grown
returns-clause-grown c =
    let copied : take c.min-count.result c.copy_from_slice.new.self ≡ take c.min-count.result c.args.bytes.now = grind (arith, common_steps) in
    slice_range-grown c.self.inside.bytes c.copy_from_slice.new.self _ c.self.inside.start c.self.inside.end c.min-count.result (omega arith) (omega arith) (omega arith)
    ∙ ap (λ ahead. ahead ++ take c.min-count.result c.copy_from_slice.new.self) c.self.view_is
    ∙ ap (λ more. c.args.self.now ++ more) copied
