-- By the place of the file, or where it has none.
use Rattle.std.proofs.Common.{sym}
use Rattle.budget_meter.proofs.SizeLemmas.{resize_there, resize_nowhere}
use Rattle.budget_meter.proofs.file_sizes.FileSizes.resize.Goals as goal

pub returns-in-Some : goal.returns-in-Some
returns-in-Some c = λ files bytes long keeps.
    resize_there c.args.name.now c.args.self.now.files.items files keeps c.in-Some.place c.args.size c.index_mut.result.now bytes c.index_mut.ensures.value long (sym c.in-Some.ensures.place)

pub returns-in_default : goal.returns-in_default
returns-in_default c = λ files bytes long keeps.
    resize_nowhere c.args.name.now c.args.self.now.files.items files keeps c.args.size bytes long (sym c.in_default.ensures.place)
