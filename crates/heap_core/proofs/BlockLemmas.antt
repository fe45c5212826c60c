-- The blocks in the words of chunks.
use Rattle.std.proofs.Common.{◌≡◌, ℕ, ◌+◌, List, [], ◌∷◌, length, ap, refl, suc}
use Rattle.avl_alloc.specs.declared.best_fit.BestFit.{BestFit}
use Rattle.avl_alloc.specs.Layout.{heap_of, sizes_of, chunks_from}
use Rattle.avl_alloc.specs.Words.{Words}

length-chunks : (words : Words) (number : ℕ) (sizes : List ℕ) → length (chunks_from words number sizes) ≡ length sizes
length-chunks words number [] = refl
length-chunks words number (size ∷ sizes) = ap suc (length-chunks words (number + 1) sizes)

-- there are as many chunks of blocks as sizes
pub length-heap_of : (fit : BestFit) (words : Words) → length (heap_of fit words) ≡ length (sizes_of fit)
unfolding heap_of
length-heap_of fit words = length-chunks words 0 (sizes_of fit)
