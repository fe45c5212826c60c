-- Its lists end where they begin.
use Rattle.std.proofs.Common.{refl}
use Rattle.heap_core.proofs.NewLemmas.{new_laid, new_value}
use Rattle.heap_core.specs.Heap.{share_at, payer_of}
use Rattle.heap_core.proofs.heap.Heap.forget.Goals as goal

pub returns-clause-sound : goal.returns-clause-sound
returns-clause-sound c store regions opens window none = record {
  opens = opens;
  window = window;
  laid = new_laid _ (share_at (payer_of c.args.self.now) store regions) none c.new-self.ensures.empty c.clear.ensures c.clear-2.ensures refl c.new-self.ensures.sound;
}

pub returns-clause-empty : goal.returns-clause-empty
returns-clause-empty c share none = new_value _ share none c.new-self.ensures.empty c.clear.ensures c.clear-2.ensures refl
