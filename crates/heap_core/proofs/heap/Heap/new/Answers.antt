-- A heap without a chunk and without a large block.
use Rattle.std.proofs.Common.{refl}
use Rattle.heap_core.proofs.NewLemmas.{new_laid, new_value}
use Rattle.heap_core.specs.Heap.{share_at}
use Rattle.heap_core.proofs.heap.Heap.new.Goals as goal

pub returns-clause-sound : goal.returns-clause-sound
returns-clause-sound c store regions opens window none = record {
  opens = opens;
  window = window;
  laid = new_laid _ (share_at c.args.account.0 store regions) none c.new.ensures.empty c.new-2.ensures c.new-3.ensures refl c.new.ensures.sound;
}

pub returns-clause-empty : goal.returns-clause-empty
returns-clause-empty c share none = new_value _ share none c.new.ensures.empty c.new-2.ensures c.new-3.ensures refl

pub returns-clause-laid : goal.returns-clause-laid
returns-clause-laid c share none = new_laid _ share none c.new.ensures.empty c.new-2.ensures c.new-3.ensures refl c.new.ensures.sound
