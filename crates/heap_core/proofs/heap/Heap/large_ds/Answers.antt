-- The map finds the block's region at its start.
use Rattle.std.proofs.Common.{sym, ap, ◌∙◌}
use Rattle.std.specs.Option.{option_map}
use Rattle.heap_core.proofs.SiteLemmas.{large_found, large_is, told_there}
use Rattle.heap_core.proofs.heap.Heap.large_ds.Goals as goal

pub unwrap-requires : goal.unwrap-requires
unwrap-requires c = told_there _ _ _ c.heap_region.ensures.found (large_found _ _ _ c.requires.sound.1 c.heap_region.ensures.sound _ c.requires.there)

pub returns : goal.returns
returns c store sound = large_is _ _ _ sound c.heap_region.ensures.sound _ c.requires.there _ _ _ (sym c.heap_region.ensures.found ∙ ap (option_map _) c.unwrap.ensures)
