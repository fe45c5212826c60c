-- The payload stands in the chunk that holds its address, or in the region that the map finds.
use Rattle.std.proofs.Common.{sym, ap, ◌∙◌}
use Rattle.std.specs.Option.{option_map}
use Rattle.own_model.proofs.NatMapLemmas.{some_of}
use Rattle.heap_core.proofs.SiteLemmas.{found_low, told_there}
use Rattle.heap_core.proofs.StartLemmas.{start_found, start_even, start_held, chunk_even, chunk_held}
use Rattle.heap_core.proofs.heap.Heap.payload_at.Goals as goal

pub unwrap-start-requires : goal.unwrap-start-requires
unwrap-start-requires c = told_there _ _ _ c.heap_region.ensures.found (start_found _ _ _ c.requires.sound c.heap_region.ensures.sound _ c.requires.there)

pub overflow_sub-result : goal.overflow_sub-result
overflow_sub-result c =
    found_low _ _ _ c.requires.sound c.heap_region.ensures.sound _ _ _ _ (sym c.heap_region.ensures.found ∙ ap (option_map _) c.unwrap-start.ensures)

pub returns-in-None-clause-held : goal.returns-in-None-clause-held
returns-in-None-clause-held c payload into count there some few =
    start_held _ _ _ c.requires.sound c.heap_region.ensures.sound _ _ _ _ (sym c.heap_region.ensures.found ∙ ap (option_map _) c.unwrap-start.ensures) payload into count some few there

pub returns-in-None-clause-even : goal.returns-in-None-clause-even
returns-in-None-clause-even c =
    let there = some_of _ c.requires.there in
    start_even _ _ _ c.requires.sound c.heap_region.ensures.sound _ _ _ _ (sym c.heap_region.ensures.found ∙ ap (option_map _) c.unwrap-start.ensures) there.0 there.1

pub returns-in-Some-clause-held : goal.returns-in-Some-clause-held
returns-in-Some-clause-held c payload into count there some few =
    let lies = c.in-Some.ensures in
    rw c.deref.ensures.0 (chunk_held _ _ _ c.requires.sound c.lies_apart.ensures.sound _ _ _ lies payload into count some few there)

pub returns-in-Some-clause-even : goal.returns-in-Some-clause-even
returns-in-Some-clause-even c =
    let there = some_of _ c.requires.there in
    chunk_even _ _ _ c.requires.sound c.lies_apart.ensures.sound _ _ _ c.in-Some.ensures there.0 there.1
