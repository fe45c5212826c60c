-- The place's bit is 0, and so is the bit above.
use Rattle.std.proofs.Common.{rules}
use Rattle.cap_space.proofs.PlacesLemmas.{marked-freed, summed-freed}
use Rattle.cap_space.proofs.place_bitmap.PlaceBitmap.free.Goals as goal

pub invariant_of-self : goal.invariant_of-self
invariant_of-self c = record { summed = summed-freed _ _ _ c.args.self.now.summed c.requires.within (search rules) }

pub returns : goal.returns
returns c = record { freed = marked-freed _ _ _ c.args.self.now.summed c.requires.within }
