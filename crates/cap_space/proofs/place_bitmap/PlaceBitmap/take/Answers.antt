-- The place's bit is 1, and the bit above where no other of its word is 0.
use Rattle.std.proofs.Common.{arith, rules}
use Rattle.cap_space.proofs.PlacesLemmas.{marked-taken, summed-filled, summed-taken}
use Rattle.cap_space.proofs.place_bitmap.PlaceBitmap.take.Goals as goal

pub invariant_of-self : goal.invariant_of-self
invariant_of-self c = record { summed = summed-filled _ _ _ c.args.self.now.summed c.requires.within (omega arith) }

pub invariant_of-self-else-marked : goal.invariant_of-self-else-marked
invariant_of-self-else-marked c = record { summed = summed-taken _ _ _ c.args.self.now.summed c.requires.within (search rules) (omega arith) c.requires.free }

pub returns-then-marked : goal.returns-then-marked
returns-then-marked c = record { taken = marked-taken _ _ _ c.args.self.now.summed c.requires.within }

pub returns-else-marked : goal.returns-else-marked
returns-else-marked c = record { taken = marked-taken _ _ _ c.args.self.now.summed c.requires.within }
