-- By the place of the file, or where it has none.
use Rattle.std.proofs.Common.{ap, sym, ◌∙◌}
use Rattle.std.specs.Prelude.{map}
use Rattle.budget_meter.proofs.SizeLemmas.{remove_there, remove_nowhere}
use Rattle.budget_meter.specs.Sizes.{kept_size}
use Rattle.budget_meter.proofs.file_sizes.FileSizes.remove.Goals as goal

pub returns-in-Some : goal.returns-in-Some
returns-in-Some c = λ files keeps.
    ap (map kept_size) c.remove.ensures.items
    ∙ remove_there c.args.name.now c.args.self.now.files.items files keeps c.in-Some.place (sym c.in-Some.ensures.place)

pub returns-in_default : goal.returns-in_default
returns-in_default c = λ files keeps.
    remove_nowhere c.args.name.now c.args.self.now.files.items files keeps (sym c.in_default.ensures.place)
