-- A block is put at a gap, where no other stands.
use Rattle.own_model.proofs.SlicedNewLemmas.{new_zero}
use Rattle.own_model.proofs.sliced.new_blocks_are_zero.Goals as goal

pub returns : goal.returns
returns c = new_zero
