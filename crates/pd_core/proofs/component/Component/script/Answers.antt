-- New heaps take their blocks for the account that they are made for.
use Rattle.std.proofs.Common.{sym, subst}
use Rattle.region_map.specs.Regions.{Regions}
use Rattle.dataspace_core.specs.Share.{IsWindowOf}
use Rattle.dataspace_core.specs.Store.{Store, IsOpenIn}
use Rattle.heap_core.specs.Heap.{HasNoBlocks as HasNoHeapBlocks, IsSound as IsSoundHeap}
use Rattle.sliced_heap.specs.Heap.{share_at, MapsMemory, HasNoBlocks as HasNoSliced, IsSound as IsSoundSliced}
use Rattle.pd_core.proofs.component.Component.script.Goals as goal

pub returns-clause-heap : goal.returns-clause-heap
returns-clause-heap c = record {
  heap = record {
    sound = subst (λ a. (store : Store) (regions : Regions) → IsOpenIn store a → IsWindowOf store regions.pages regions.heap_most regions.heap →
        HasNoHeapBlocks (share_at a store regions) → IsSoundHeap c.new.result store regions) (sym c.new.ensures.payer) c.new.ensures.sound;
    empty = c.new.ensures.empty;
  };
  sliced = subst (λ a. (store : Store) (regions : Regions) → IsOpenIn store a → MapsMemory store regions →
      HasNoSliced (share_at a store regions) → IsSoundSliced c.new-2.result store regions) (sym c.new-2.ensures.payer) c.new-2.ensures.sound;
  heap_pays = c.new.ensures.payer;
  sliced_pays = c.new-2.ensures.payer;
}
