-- Why a heap isn't given a chunk.
use Rattle.std.proofs.Common.{◌≡◌, ℕ, ◌<◌, ◌≤◌, true, false, length, refl, ◌∙◌, arith, Some}
use Rattle.std.proofs.lemmas.Bool.Decides.{nat_tests}
use Rattle.std.specs.Prelude.{None, nat_le}
use Rattle.trade_base.specs.declared.refusal.Refusal.TheVariants.{TooManyChunks}
use Rattle.own_model.specs.Account.{Account, shortage}
use Rattle.own_model.specs.Growth.{Shape, growth_refusal, least_growth}
use Rattle.region_map.specs.Regions.{Regions}
use Rattle.dataspace_core.specs.Store.{Store}
use Rattle.heap_core.specs.declared.heap.Heap.{Heap}
use Rattle.heap_core.specs.Calls.{part_at}
use Rattle.heap_core.specs.Heap.{IsSound, shape_in, words_in}
use Rattle.heap_core.proofs.BlockLemmas.{length-heap_of}

-- a heap with the most chunks is given none
pub full_refused : (n : ℕ) (shape : Shape) (a : Account) → 64 ≤ length shape.chunks → growth_refusal n shape a ≡ Some TooManyChunks
full_refused n shape a full = let t : nat_le 64 (length shape.chunks) ≡ true = grind (arith, nat_tests) in rw t refl

-- one with fewer is given one where the account covers the least
pub room_refused : (n : ℕ) (shape : Shape) (a : Account) → length shape.chunks < 64 → growth_refusal n shape a ≡ shortage a (least_growth n shape).bytes 1
room_refused n shape a room = let t : nat_le 64 (length shape.chunks) ≡ false = grind (arith, nat_tests) in rw t refl

-- what covers more covers less
pub less_covered : (a : Account) (more less caps : ℕ) → less ≤ more → shortage a more caps ≡ None → shortage a less caps ≡ None
less_covered a more less caps le covered = grind (arith, nat_tests)

-- a heap has as many chunks of blocks as chunks
pub chunk_count : (heap : Heap) (store : Store) (regions : Regions) → IsSound heap store regions → length (shape_in heap (part_at heap store)).chunks ≡ length heap.chunks.items
chunk_count heap store regions sound = length-heap_of heap.fit (words_in heap (part_at heap store)) ∙ sound.laid.count
