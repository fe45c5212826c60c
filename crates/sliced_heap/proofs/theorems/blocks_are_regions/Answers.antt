-- Each law is a lemma that callers cite as well.
use Rattle.sliced_heap.proofs.HeapLaws.{blocks_are_regions, gaps_between_blocks}
use Rattle.sliced_heap.proofs.theorems.blocks_are_regions.Goals as goal

pub returns-clause-ranges : goal.returns-clause-ranges
returns-clause-ranges c = blocks_are_regions

pub returns-clause-gaps : goal.returns-clause-gaps
returns-clause-gaps c = gaps_between_blocks
