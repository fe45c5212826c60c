-- A large block is given back by its start alone, which is its payload's.
use Rattle.std.proofs.Common.{sym, ap, is_some}
use Rattle.heap_core.proofs.LookupLemmas.{large_free, large_not_free, is_large}
use Rattle.heap_core.proofs.heap.Heap.free_large.Goals as goal

pub returns-then-block-address-clause-refusal : goal.returns-then-block-address-clause-refusal
returns-then-block-address-clause-refusal c = sym (large_not_free _ _ _ c.requires.sound _ _ _ c.requires.lies c.if-block-address.true)

pub returns-clause-refusal : goal.returns-clause-refusal
returns-clause-refusal c = sym (large_free _ _ _ c.requires.sound _ _ _ c.requires.lies c.if-block-address.false)

pub returns-clause-is_large : goal.returns-clause-is_large
returns-clause-is_large c = ap is_some (is_large _ _ _ c.requires.sound _ _ _ c.requires.lies c.if-block-address.false)
