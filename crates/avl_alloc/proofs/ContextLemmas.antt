-- A part of a heap: what is known of it, and that the rest stays while it is changed.
use Rattle.std.proofs.Common.{◌≡◌, ℕ, ◌+◌, ◌-◌, ◌/◌, ◌%◌, ◌^◌, ◌<◌, ◌≤◌, refl, sym, subst, arith, List, [], ◌∷◌, ◌++◌, length, get_or}
use Rattle.std.proofs.lemmas.Grind.{common_steps}
use Rattle.std.proofs.lemmas.List.{length-append}
use Rattle.std.proofs.Math.Seq.{get_or-append_seam}
use Rattle.own_model.specs.Heap.{Block, Used, Hole, bytes_in, Heap}
use Rattle.avl_alloc.specs.declared.best_fit.BestFit.{BestFit}
use Rattle.avl_alloc.specs.Words.{Words, place_at, within, IsNode}
use Rattle.avl_tree.specs.Tree.{Tree}
use Rattle.avl_alloc.specs.FreeBlocks.{heads, links}
use Rattle.avl_alloc.specs.Layout.{Laid, weigh_all, none, whole, sizes_of, bytes_of, IsChunk, AreChunks, IsLaidOut}
use Rattle.avl_alloc.specs.Context.{Context, heap_with, start_of, around}
use Rattle.avl_alloc.proofs.LayoutLemmas.{chunk_there}
use Rattle.avl_alloc.proofs.WeightLemmas.{weigh-site, weigh-whole, around-parts, within_le, tidy_around, laid_kept, chunks_kept, chunks_long, chunks_apart}
use Rattle.own_model.proofs.HeapBlockLemmas.{bytes-append}

-- ---- blocks put end to end

pub laid_append : (w : Words) (p : ℕ) (xs ys : List Block) → Laid w p xs → Laid w (p + bytes_in xs) ys → Laid w p (xs ++ ys)
laid_append w p [] ys laid behind = subst (λ z. Laid w z ys) (omega arith) behind
laid_append w p (Used n ∷ xs) ys laid behind = (laid.0, laid_append w (p + n) xs ys laid.1 (subst (λ z. Laid w z ys) (omega arith) behind))
laid_append w p (Hole n ∷ xs) ys laid behind = (laid.0, laid_append w (p + n) xs ys laid.1 (subst (λ z. Laid w z ys) (omega arith) behind))

pub laid_left : (w : Words) (p : ℕ) (xs ys : List Block) → Laid w p (xs ++ ys) → Laid w p xs
laid_left w p [] ys laid = tt
laid_left w p (Used n ∷ xs) ys laid = (laid.0, laid_left w (p + n) xs ys laid.1)
laid_left w p (Hole n ∷ xs) ys laid = (laid.0, laid_left w (p + n) xs ys laid.1)

pub laid_right : (w : Words) (p : ℕ) (xs ys : List Block) → Laid w p (xs ++ ys) → Laid w (p + bytes_in xs) ys
laid_right w p [] ys laid = subst (λ z. Laid w z ys) (omega arith) laid
laid_right w p (Used n ∷ xs) ys laid = subst (λ z. Laid w z ys) (omega arith) (laid_right w (p + n) xs ys laid.1)
laid_right w p (Hole n ∷ xs) ys laid = subst (λ z. Laid w z ys) (omega arith) (laid_right w (p + n) xs ys laid.1)

pub laid_even : (w : Words) (p : ℕ) (xs : List Block) → Laid w p xs → bytes_in xs % 16 ≡ 0
laid_even w p [] laid = refl
laid_even w p (Used n ∷ xs) laid = let even = laid.0.sized.even in omega (arith, laid_even w (p + n) xs laid.1)
laid_even w p (Hole n ∷ xs) laid = let even = laid.0.sized.even in omega (arith, laid_even w (p + n) xs laid.1)

pub chunks_length : (w : Words) (number : ℕ) (sizes : List ℕ) (heap : Heap) → AreChunks w number sizes heap → length sizes ≡ length heap
chunks_length w number [] [] are = refl
chunks_length w number [] (blocks ∷ rest) are = absurd are
chunks_length w number (size ∷ sizes) [] are = absurd are
chunks_length w number (size ∷ sizes) (blocks ∷ rest) are = omega (arith, chunks_length w (number + 1) sizes rest are.1)

-- chunks are few
pub sizes_few : (fit : BestFit) → fit.count ≤ 64 → length fit.sizes ≡ 64 → length (sizes_of fit) ≤ 64
sizes_few fit few sized = let most : length (sizes_of fit) ≡ fit.count = grind (arith, common_steps) in omega arith

-- ---- what is known of a part

pub record IsOpen (fit : BestFit) (w : Words) (at : Context) (xs : List Block) : Type 0 where
  pub laid : Laid w (start_of at) xs
  pub low : length at.older < 64
  pub total : bytes_in at.left + bytes_in xs + bytes_in at.right ≡ bytes_of fit (length at.older)
  pub short : bytes_of fit (length at.older) ≤ 2 ^ 32
  pub even : bytes_in at.left % 16 ≡ 0

pub site_open : (fit : BestFit) (w : Words) (at : Context) (xs : List Block) (t : Tree) → IsLaidOut fit w (heap_with at xs) t → IsOpen fit w at xs
site_open fit w at xs t is =
    let n : ℕ = length at.older in
    let blocks = at.left ++ (xs ++ at.right) in
    let long = chunks_length w 0 (sizes_of fit) (heap_with at xs) is.chunks in
    let all = length-append at.older (blocks ∷ at.newer) in
    let few = is.few in
    let sized = is.sized in
    let most = sizes_few fit few sized in
    let there = chunk_there w 0 (sizes_of fit) (heap_with at xs) n is.chunks (omega arith) in
    let chunk : IsChunk w n (bytes_of fit n) blocks =
    subst (λ z. IsChunk w n (bytes_of fit n) z) (get_or-append_seam at.older blocks at.newer [])
    (subst (λ z. IsChunk w z (bytes_of fit n) (get_or (heap_with at xs) n [])) (omega arith) there) in
    let behind = laid_right w (place_at n 0) at.left (xs ++ at.right) chunk.laid in
    record {
      laid = laid_left w (start_of at) xs at.right (subst (λ z. Laid w z (xs ++ at.right)) (omega arith) behind);
      low = omega arith;
      total = omega (arith, chunk.total, bytes-append at.left (xs ++ at.right), bytes-append xs at.right);
      short = chunk.short;
      even = laid_even w (place_at n 0) at.left (laid_left w (place_at n 0) at.left (xs ++ at.right) chunk.laid);
    }

-- at its start there is room for a node, and further on
pub site_node : (fit : BestFit) (w : Words) (at : Context) (xs : List Block) (k place : ℕ) → IsOpen fit w at xs → k % 16 ≡ 0 → k + 48 ≤ bytes_in xs → start_of at + k ≡ place → IsNode (bytes_of fit) place
site_node fit w at xs k place is step room at_place =
    let n : ℕ = length at.older in
    let low = is.low in
    let total = is.total in
    let short = is.short in
    let even = is.even in
    let number : place / 2 ^ 32 - 1 ≡ n = omega arith in
    let offset : place % 2 ^ 32 ≡ bytes_in at.left + k = omega arith in
    record {
      some = omega arith;
      low = omega arith;
      aligned = omega arith;
      short = omega arith;
      within = subst (λ z. place % 2 ^ 32 + 48 ≤ bytes_of fit z) (sym number) (omega arith);
    }

-- what lies around a part, and that it lies around
pub record IsClear (q : ℕ) (at : Context) (n : ℕ) : Type 0 where
  pub used : around (heads q) none at n ≤ around (whole q) none at n
  pub holes : around none (heads q) at n + around none (links q) at n ≤ around none (whole q) at n
  pub apart : around (whole q) none at n + around none (whole q) at n + within (start_of at) (start_of at + n) q ≤ 1

pub site_clear : (w : Words) (sizes : List ℕ) (at : Context) (xs : List Block) (n : ℕ) → bytes_in xs ≡ n → AreChunks w 0 sizes (heap_with at xs) → (q : ℕ) → IsClear q at n
site_clear w sizes at xs n bytes are q =
    let tidy = tidy_around q at xs n (chunks_long w 0 sizes (heap_with at xs) are) in
    let all = chunks_apart w q 0 sizes (heap_with at xs) are in
    let site = rw bytes at (weigh-site (whole q) (whole q) at xs) in
    let part = rw bytes at (weigh-whole q (start_of at) xs) in
    record {
      used = tidy.used;
      holes = tidy.holes;
      apart = omega (arith, around-parts (whole q) (whole q) at n, within_le (place_at 0 0) (place_at (0 + length (heap_with at xs)) 0) q);
    }

-- ---- a part changed

chunks_turned : (w v : Words) (number n : ℕ) (sizes : List ℕ) (older newer : Heap) (c d : List Block) → n ≡ number + length older →
    ((size : ℕ) → IsChunk w n size c → IsChunk v n size d) →
    ((q : ℕ) → 1 ≤ weigh_all (heads q) (heads q) number older → v q ≡ w q) →
    ((q : ℕ) → 1 ≤ weigh_all (heads q) (heads q) (n + 1) newer → v q ≡ w q) →
    AreChunks w number sizes (older ++ c ∷ newer) → AreChunks v number sizes (older ++ d ∷ newer)
chunks_turned w v number n [] [] newer c d at turn same behind are = absurd are
chunks_turned w v number n [] (b ∷ older) newer c d at turn same behind are = absurd are
chunks_turned w v number n (size ∷ sizes) [] newer c d at turn same behind are =
    let here : n ≡ number = omega arith in (
      subst (λ z. IsChunk v z size d) here (turn size (subst (λ z. IsChunk w z size c) (sym here) are.0)),
      chunks_kept w v (number + 1) sizes newer (subst (λ z. (q : ℕ) → 1 ≤ weigh_all (heads q) (heads q) (z + 1) newer → v q ≡ w q) here behind) are.1,
    )
chunks_turned w v number n (size ∷ sizes) (b ∷ older) newer c d at turn same behind are = (
  record { laid = laid_kept w v (place_at number 0) b (λ q there. same q (omega arith)) are.0.laid; total = are.0.total; short = are.0.short },
  chunks_turned w v (number + 1) n sizes older newer c d (omega arith) turn (λ q there. same q (omega arith)) behind are.1,
)

-- blocks of as many bytes in the place of others
pub site_turned : (w v : Words) (sizes : List ℕ) (at : Context) (xs ys : List Block) → bytes_in ys ≡ bytes_in xs → Laid v (start_of at) ys →
    ((q : ℕ) → 1 ≤ around (heads q) (heads q) at (bytes_in xs) → v q ≡ w q) → AreChunks w 0 sizes (heap_with at xs) → AreChunks v 0 sizes (heap_with at ys)
site_turned w v sizes at xs ys bytes laid same are =
    let n : ℕ = length at.older in
    let start : place_at n 0 + bytes_in at.left ≡ start_of at = omega arith in
    chunks_turned w v 0 n sizes at.older at.newer (at.left ++ (xs ++ at.right)) (at.left ++ (ys ++ at.right)) (omega arith)
    (λ size chunk.
    let left = laid_left w (place_at n 0) at.left (xs ++ at.right) chunk.laid in
    let rest = subst (λ z. Laid w z (xs ++ at.right)) start (laid_right w (place_at n 0) at.left (xs ++ at.right) chunk.laid) in
    let right = laid_right w (start_of at) xs at.right rest in
    let right' = laid_kept w v (start_of at + bytes_in xs) at.right (λ q there. same q (omega arith)) right in
    let rest' = laid_append v (start_of at) ys at.right laid (subst (λ z. Laid v (start_of at + z) at.right) (sym bytes) right') in
    record {
      laid = laid_append v (place_at n 0) at.left (ys ++ at.right)
          (laid_kept w v (place_at n 0) at.left (λ q there. same q (omega arith)) left)
          (subst (λ z. Laid v z (ys ++ at.right)) (sym start) rest');
      total = omega (arith, chunk.total, bytes-append at.left (xs ++ at.right), bytes-append xs at.right, bytes-append at.left (ys ++ at.right), bytes-append ys at.right);
      short = chunk.short;
    })
    (λ q there. same q (omega arith)) (λ q there. same q (omega arith)) are
