use Rattle.avl_alloc.proofs.FitLemmas.{found-best}
use Rattle.avl_alloc.proofs.theorems.best_hole_is_found.Goals as goal

pub returns : goal.returns
returns c size up heap t = found-best size heap t up
