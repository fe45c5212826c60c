-- By the place of the file, or where it has none.
use Rattle.std.proofs.Common.{sym, ◌∙◌}
use Rattle.budget_meter.proofs.SizeLemmas.{size_there, size_nowhere}
use Rattle.budget_meter.proofs.file_sizes.FileSizes.size.Goals as goal

pub returns : goal.returns
returns c = λ files keeps.
    size_there c.args.name.now c.args.self.now.files.items files keeps c.in_ok-place.place c.index.result.now c.index.ensures (sym c.in_ok-place.ensures.place)

pub returns-in_err-place : goal.returns-in_err-place
returns-in_err-place c = λ files keeps.
    c.from_residual.ensures ∙ size_nowhere c.args.name.now c.args.self.now.files.items files keeps (sym c.in_err-place.ensures.place)
