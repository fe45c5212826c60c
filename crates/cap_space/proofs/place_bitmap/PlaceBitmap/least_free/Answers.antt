-- The first 0 of the first word that has one.
use Rattle.std.proofs.Common.{◌+◌, ◌*◌}
use Rattle.cap_space.proofs.PlacesLemmas.{least, IsLeast}
use Rattle.cap_space.proofs.place_bitmap.PlaceBitmap.least_free.Goals as goal

is_least : (c : goal.After-trailing_ones) → IsLeast c.args.self.now.words c.args.self.now.full c.args.self.now.summed (c.trailing_ones-word.result * 64 + c.trailing_ones.result)
is_least c = least _ _ _ c.requires.room _ _ c.trailing_ones-word.ensures c.trailing_ones.ensures

pub returns-clause-within : goal.returns-clause-within
returns-clause-within c = (is_least c).within

pub returns-clause-free : goal.returns-clause-free
returns-clause-free c = (is_least c).free

pub returns-clause-first : goal.returns-clause-first
returns-clause-first c = (is_least c).first
