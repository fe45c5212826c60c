-- No bit is 1.
use Rattle.cap_space.proofs.PlacesLemmas.{marks-free, summed-free}
use Rattle.cap_space.proofs.place_bitmap.PlaceBitmap.all_free.Goals as goal

pub invariant_of-result : goal.invariant_of-result
invariant_of-result c = record { summed = summed-free }

pub returns : goal.returns
returns c = marks-free
