-- A heap in the words: which words it needs, and that it stays while these do.
use Rattle.std.proofs.Common.{◌≡◌, ℕ, zero, suc, ◌+◌, ◌-◌, ◌^◌, ◌<◌, ◌≤◌, true, false, refl, sym, ap, ◌∙◌, subst, inl, inr, arith, List, [], ◌∷◌, ◌++◌, length, get_or, ◌/◌, Option, Some, None}
use Rattle.std.specs.List.{AllByRecursion}
use Rattle.std.specs.Prelude.{nat_lt, if◌then◌else◌, ◌==◌, map, slice_index}
use Rattle.std.proofs.lemmas.Grind.{common_steps}
use Rattle.std.proofs.lemmas.List.{get_or_past, length-append}
use Rattle.std.proofs.Math.ListN.{get_or-append}
use Rattle.std.proofs.Math.Seq.{get_or-append_seam}
use Rattle.std.proofs.lemmas.Bool.{cases_lt}
use Rattle.std.proofs.lemmas.Bool.Decides.{nat_tests}
use Rattle.own_model.specs.Heap.{Block, Used, Hole, bytes_in, header, AreBlocks, Heap}
use Rattle.own_model.specs.BestFit.{chunk_of, payload_at}
use Rattle.avl_alloc.specs.declared.best_fit.BestFit.{BestFit}
use Rattle.avl_alloc.specs.declared.chunk.Block.{Block as BlockFound}
use Rattle.avl_alloc.specs.Words.{Words, place_at}
use Rattle.avl_tree.specs.Tree.{Tree}
use Rattle.avl_alloc.specs.FreeBlocks.{heads, links, cover, Fits}
use Rattle.avl_alloc.specs.Layout.{Laid, IsHeader, block_from, blocks_from, weigh_all, whole, kept_at, chunks_from, heap_of, sizes_of, bytes_of, IsChunk, AreChunks, IsRoom, IsLaidOut, IsSound}
use Rattle.avl_alloc.specs.Walk.{block_over}
use Rattle.avl_alloc.proofs.HoleLemmas.{holds_kept, ltb-true, ltb-false}
use Rattle.avl_alloc.proofs.WeightLemmas.{within_le, weigh_all-parts, tidy_all, chunks_kept, chunks_long, chunks_apart}

-- ---- what is kept

-- a heap stays while the words that it keeps for itself stay
pub laid_out_kept : (fit : BestFit) (w v : Words) (heap : Heap) (t : Tree) → ((q : ℕ) → 1 ≤ kept_at q heap → v q ≡ w q) → IsLaidOut fit w heap t → IsLaidOut fit v heap t
laid_out_kept fit w v heap t same is = record {
  few = is.few;
  sized = is.sized;
  chunks = chunks_kept w v 0 (sizes_of fit) heap (λ q head. same q (headed q head)) is.chunks;
  stands = record {
    at = is.stands.at;
    holds = holds_kept w v t (λ q in_tree. same q (kept q in_tree)) is.stands.holds;
    balanced = is.stands.balanced;
    low = is.stands.low;
    apart = is.stands.apart;
  };
  nodes = is.nodes;
  ordered = is.ordered;
  same = is.same;
}
  where
    headed : (q : ℕ) → 1 ≤ weigh_all (heads q) (heads q) 0 heap → 1 ≤ kept_at q heap
    headed q head =
        let tidy = tidy_all q 0 heap (chunks_long w 0 (sizes_of fit) heap is.chunks) in
        omega (arith, weigh_all-parts (heads q) (heads q) 0 heap, weigh_all-parts (heads q) (whole q) 0 heap, tidy.holes)

    kept : (q : ℕ) → 1 ≤ cover q t → 1 ≤ kept_at q heap
    kept q in_tree =
        let tidy = tidy_all q 0 heap (chunks_long w 0 (sizes_of fit) heap is.chunks) in
        omega (arith, is.same (heads q), is.same (links q), weigh_all-parts (heads q) (whole q) 0 heap, tidy.holes)

-- ---- the heap that the words tell

-- a header that is laid tells its block, and how to go on
read_step : (w : Words) (most place n left : ℕ) (b : Block) (rest : List Block) → w place ≡ n → 1 ≤ n → block_from w place ≡ b → blocks_from most w (place + n) left ≡ rest →
    blocks_from (suc most) w place (n + left) ≡ b ∷ rest
read_step w most place n left b rest sized some is on =
    let more : (n + left == 0) ≡ false = grind (arith, nat_tests) in
    let behind : blocks_from most w (place + w place) (n + left - w place) ≡ rest =
    subst (λ z. blocks_from most w (place + z) (n + left - z) ≡ rest) (sym sized) (subst (λ z. blocks_from most w (place + n) z ≡ rest) (omega arith) on) in
    subst (λ z. (if z then [] else block_from w place ∷ blocks_from most w (place + w place) (n + left - w place)) ≡ b ∷ rest) (sym more)
    (ap (λ x. x ∷ blocks_from most w (place + w place) (n + left - w place)) is ∙ ap (λ xs. b ∷ xs) behind)

read_used : (w : Words) (place n : ℕ) → IsHeader w place n 1 → block_from w place ≡ Used n
read_used w place n h =
    let test : (w (place + 8) == 0) ≡ false = let state = h.state in grind (arith, nat_tests) in
    subst (λ z. (if z then Hole (w place) else Used (w place)) ≡ Used n) (sym test) (ap Used h.size)

read_hole : (w : Words) (place n : ℕ) → IsHeader w place n 0 → block_from w place ≡ Hole n
read_hole w place n h =
    let test : (w (place + 8) == 0) ≡ true = let state = h.state in grind (arith, nat_tests) in
    subst (λ z. (if z then Hole (w place) else Used (w place)) ≡ Hole n) (sym test) (ap Hole h.size)

-- laid blocks are read back
blocks_read : (w : Words) (most place : ℕ) (blocks : List Block) → Laid w place blocks → bytes_in blocks ≤ most → blocks_from most w place (bytes_in blocks) ≡ blocks
blocks_read w zero place [] laid few = refl
blocks_read w (suc most) place [] laid few = refl
blocks_read w zero place (Used n ∷ rest) laid few = let least = laid.0.sized.least in absurd (omega arith)
blocks_read w zero place (Hole n ∷ rest) laid few = let least = laid.0.sized.least in absurd (omega arith)
blocks_read w (suc most) place (Used n ∷ rest) laid few =
    let least = laid.0.sized.least in
    read_step w most place n (bytes_in rest) (Used n) rest laid.0.size (omega arith) (read_used w place n laid.0) (blocks_read w most (place + n) rest laid.1 (omega arith))
blocks_read w (suc most) place (Hole n ∷ rest) laid few =
    let least = laid.0.sized.least in
    read_step w most place n (bytes_in rest) (Hole n) rest laid.0.size (omega arith) (read_hole w place n laid.0) (blocks_read w most (place + n) rest laid.1 (omega arith))

chunks_read : (w : Words) (number : ℕ) (sizes : List ℕ) (heap : Heap) → AreChunks w number sizes heap → chunks_from w number sizes ≡ heap
chunks_read w number [] [] are = refl
chunks_read w number [] (blocks ∷ rest) are = absurd are
chunks_read w number (size ∷ sizes) [] are = absurd are
chunks_read w number (size ∷ sizes) (blocks ∷ rest) are =
    let here : blocks_from size w (place_at number 0) size ≡ blocks =
    subst (λ z. blocks_from z w (place_at number 0) z ≡ blocks) are.0.total (blocks_read w (bytes_in blocks) (place_at number 0) blocks are.0.laid (omega arith)) in
    ap (λ x. x ∷ chunks_from w (number + 1) sizes) here ∙ ap (λ xs. blocks ∷ xs) (chunks_read w (number + 1) sizes rest are.1)

-- the heap in the words is the one that they were laid out for
pub heap_is : (fit : BestFit) (w : Words) (heap : Heap) (t : Tree) → IsLaidOut fit w heap t → heap_of fit w ≡ heap
unfolding heap_of
heap_is fit w heap t is = chunks_read w 0 (sizes_of fit) heap is.chunks

-- a heap stays as it is while the words that it keeps for itself stay: after a store into the payload of a used block, and
-- after one that lies in no chunk
pub sound_kept : (fit : BestFit) (w v : Words) → IsSound fit w → ((q : ℕ) → 1 ≤ kept_at q (heap_of fit w) → v q ≡ w q) → IsSound fit v × (heap_of fit v ≡ heap_of fit w)
unfolding IsSound
sound_kept fit w v sound same =
    let there = heap_is fit w sound.0 sound.1 sound.2 in
    let still = laid_out_kept fit w v sound.0 sound.1 (λ q kept. same q (subst (λ h. 1 ≤ kept_at q h) (sym there) kept)) sound.2 in
    ((sound.0, sound.1, still, sound.3), heap_is fit v sound.0 sound.1 still ∙ sym there)

-- ---- one chunk

-- the heap that is told is laid out in the words, and no two of its holes are neighbours
pub record IsTold (fit : BestFit) (w : Words) : Type 0 where
  pub tree : Tree
  pub laid : IsLaidOut fit w (heap_of fit w) tree
  pub blocks : AllByRecursion AreBlocks (heap_of fit w)

pub sound_told : (fit : BestFit) (w : Words) → IsSound fit w → IsTold fit w
unfolding IsSound
sound_told fit w sound =
    let same = sym (heap_is fit w sound.0 sound.1 sound.2) in
    record { tree = sound.1; laid = subst (λ h. IsLaidOut fit w h sound.1) same sound.2; blocks = subst (AllByRecursion AreBlocks) same sound.3 }

-- a heap that is laid out is sound where no two of its holes are neighbours
pub laid_sound : (fit : BestFit) (w : Words) (heap : Heap) (t : Tree) → IsLaidOut fit w heap t → AllByRecursion AreBlocks heap → IsSound fit w
unfolding IsSound
laid_sound fit w heap t laid blocks = (heap, t, laid, blocks)

pub chunk_there : (w : Words) (number : ℕ) (sizes : List ℕ) (heap : Heap) (i : ℕ) → AreChunks w number sizes heap → i < length sizes → IsChunk w (number + i) (get_or sizes i 0) (get_or heap i [])
chunk_there w number [] [] i are lt = absurd (omega arith)
chunk_there w number [] (blocks ∷ rest) i are lt = absurd are
chunk_there w number (size ∷ sizes) [] i are lt = absurd are
chunk_there w number (size ∷ sizes) (blocks ∷ rest) zero are lt = subst (λ n. IsChunk w n size blocks) (omega arith) are.0
chunk_there w number (size ∷ sizes) (blocks ∷ rest) (suc i) are lt =
    subst (λ n. IsChunk w n (get_or sizes i 0) (get_or rest i [])) (omega arith) (chunk_there w (number + 1) sizes rest i are.1 (omega arith))

chunk_missing : (w : Words) (number : ℕ) (sizes : List ℕ) (heap : Heap) (i : ℕ) → AreChunks w number sizes heap → length sizes ≤ i → get_or heap i [] ≡ []
chunk_missing w number [] [] i are le = get_or_past [] i [] (omega arith)
chunk_missing w number [] (blocks ∷ rest) i are le = absurd are
chunk_missing w number (size ∷ sizes) [] i are le = absurd are
chunk_missing w number (size ∷ sizes) (blocks ∷ rest) zero are le = absurd (omega arith)
chunk_missing w number (size ∷ sizes) (blocks ∷ rest) (suc i) are le = chunk_missing w (number + 1) sizes rest i are.1 (omega arith)

-- a chunk of a sound heap, by its number
pub record IsThere (w : Words) (chunk size : ℕ) (blocks : List Block) : Type 0 where
  pub laid : Laid w (place_at chunk 0) blocks
  pub total : bytes_in blocks ≡ size
  pub short : size ≤ 2 ^ 32
  pub low : chunk < 64

pub sound_chunk : (fit : BestFit) (w : Words) (chunk : ℕ) → IsSound fit w → chunk < fit.count → IsThere w chunk (get_or fit.sizes chunk 0) (chunk_of (heap_of fit w) chunk)
sound_chunk fit w chunk sound lt =
    let is = (sound_told fit w sound).laid in
    let few = is.few in
    let sized = is.sized in
    let long : length (sizes_of fit) ≡ fit.count = grind (arith, common_steps) in
    let read : get_or (sizes_of fit) chunk 0 ≡ get_or fit.sizes chunk 0 = grind (arith, common_steps) in
    let there = chunk_there w 0 (sizes_of fit) (heap_of fit w) chunk is.chunks (omega arith) in
    record {
      laid = subst (λ n. Laid w (place_at n 0) (get_or (heap_of fit w) chunk [])) (omega arith) there.laid;
      total = there.total ∙ read;
      short = subst (λ n. n ≤ 2 ^ 32) read there.short;
      low = omega arith;
    }

pub sound_missing : (fit : BestFit) (w : Words) (chunk : ℕ) → IsSound fit w → fit.count ≤ chunk → chunk_of (heap_of fit w) chunk ≡ []
sound_missing fit w chunk sound le =
    let is = (sound_told fit w sound).laid in
    let long : length (sizes_of fit) ≡ fit.count = grind (arith, common_steps) in
    chunk_missing w 0 (sizes_of fit) (heap_of fit w) chunk is.chunks (omega arith)

-- its bytes are words
pub sound_room : (fit : BestFit) (w : Words) (chunk : ℕ) (real : ℕ → ℕ) → IsSound fit w → chunk < fit.count → Fits (bytes_of fit) real → IsRoom real (place_at chunk 0) (bytes_in (chunk_of (heap_of fit w) chunk))
sound_room fit w chunk real sound lt fits =
    let is = (sound_told fit w sound).laid in
    let there = sound_chunk fit w chunk sound lt in
    let read : get_or (sizes_of fit) chunk 0 ≡ get_or fit.sizes chunk 0 = grind (arith, common_steps) in
    let number : place_at chunk 0 / 2 ^ 32 - 1 ≡ chunk = omega arith in
    let total = there.total in
    let low = there.low in
    let short = there.short in
    let room : bytes_in (chunk_of (heap_of fit w) chunk) ≤ real chunk = omega (arith, fits chunk) in
    record {
      some = omega arith;
      low = omega arith;
      first = omega arith;
      short = omega arith;
      within = subst (λ n. bytes_in (chunk_of (heap_of fit w) chunk) ≤ real n) (sym number) room;
    }

-- ---- sizes

-- the chunks have the sizes that the heap tells
chunks_sized : (w : Words) (number : ℕ) (sizes : List ℕ) (heap : Heap) → AreChunks w number sizes heap → map bytes_in heap ≡ sizes
chunks_sized w number [] [] are = refl
chunks_sized w number [] (blocks ∷ rest) are = absurd are
chunks_sized w number (size ∷ sizes) [] are = absurd are
chunks_sized w number (size ∷ sizes) (blocks ∷ rest) are = ap (λ n. n ∷ map bytes_in rest) are.0.total ∙ ap (λ ns. size ∷ ns) (chunks_sized w (number + 1) sizes rest are.1)

pub sound_sized : (fit : BestFit) (w : Words) → IsSound fit w → map bytes_in (heap_of fit w) ≡ sizes_of fit
sound_sized fit w sound = chunks_sized w 0 (sizes_of fit) (heap_of fit w) (sound_told fit w sound).laid.chunks

-- what has so many chunks, and one more, has them together
pub fits_one_more : (sizes : List ℕ) (bytes : ℕ) (real : ℕ → ℕ) → ((chunk : ℕ) → slice_index sizes chunk ≤ real chunk) → bytes ≤ real (length sizes) →
    (chunk : ℕ) → slice_index (sizes ++ bytes ∷ []) chunk ≤ real chunk
fits_one_more sizes bytes real fits room chunk =
    elim (cases_lt chunk (length sizes)) [
      | inl lt ↦ omega (arith, get_or-append sizes (bytes ∷ []) 0 chunk lt, fits chunk)
      | inr ge ↦ elim (cases_lt (length sizes) chunk) [
        | inl gt ↦ omega (arith, get_or_past (sizes ++ bytes ∷ []) chunk 0 (omega (arith, length-append sizes (bytes ∷ []))))
        | inr le ↦
            let here : chunk ≡ length sizes = omega arith in
            omega (arith, ap (λ i. get_or (sizes ++ bytes ∷ []) i 0) here, get_or-append_seam sizes bytes [] 0, ap real here)
      ]
    ]

-- a place lies in one block at most
pub sound_apart : (fit : BestFit) (w : Words) → IsSound fit w → (q : ℕ) → weigh_all (whole q) (whole q) 0 (heap_of fit w) ≤ 1
sound_apart fit w sound q =
    omega (arith, chunks_apart w q 0 (sizes_of fit) (heap_of fit w) (sound_told fit w sound).laid.chunks, within_le (place_at 0 0) (place_at (0 + length (heap_of fit w)) 0) q)

pub sound_blocks : (fit : BestFit) (w : Words) → IsSound fit w → AllByRecursion AreBlocks (heap_of fit w)
sound_blocks fit w sound = (sound_told fit w sound).blocks

-- ---- payloads

-- the used block of a walk's end, where its payload has the target
abbrev pub payload_over : ℕ → BlockFound → Option (ℕ × ℕ)
payload_over target b = if b.used then (if nat_lt (target - b.offset) header then None else Some (b.offset, b.size)) else None

pub payload_walked : (from before target : ℕ) (blocks : List Block) → from ≤ target → target < from + bytes_in blocks →
    payload_at from (target - from) blocks ≡ payload_over target (block_over from before target blocks)
payload_walked from before target [] le lt = absurd (omega arith)
payload_walked from before target (Used n ∷ rest) le lt =
    elim (cases_lt target (from + n)) [
      | inl inside ↦
          let here : nat_lt target (from + n) ≡ true = ltb-true inside in
          let there : nat_lt (target - from) n ≡ true = ltb-true (omega arith) in
          simp (here, there)
      | inr behind ↦
          let here : nat_lt target (from + n) ≡ false = ltb-false behind in
          let there : nat_lt (target - from) n ≡ false = ltb-false (omega arith) in
          let left : target - from - n ≡ target - (from + n) = omega arith in
          let on = payload_walked (from + n) 0 target rest behind (omega arith) in
          simp (here, there) (rw left on)
    ]
payload_walked from before target (Hole n ∷ rest) le lt =
    elim (cases_lt target (from + n)) [
      | inl inside ↦
          let here : nat_lt target (from + n) ≡ true = ltb-true inside in
          let there : nat_lt (target - from) n ≡ true = ltb-true (omega arith) in
          simp (here, there)
      | inr behind ↦
          let here : nat_lt target (from + n) ≡ false = ltb-false behind in
          let there : nat_lt (target - from) n ≡ false = ltb-false (omega arith) in
          let left : target - from - n ≡ target - (from + n) = omega arith in
          let on = payload_walked (from + n) n target rest behind (omega arith) in
          simp (here, there) (rw left on)
    ]

-- past the last block there is none
pub payload_past : (from offset : ℕ) (blocks : List Block) → bytes_in blocks ≤ offset → payload_at from offset blocks ≡ None
payload_past from offset [] le = refl
payload_past from offset (Used n ∷ rest) le =
    let there : nat_lt offset n ≡ false = ltb-false (omega arith) in
    simp there (payload_past (from + n) (offset - n) rest (omega arith))
payload_past from offset (Hole n ∷ rest) le =
    let there : nat_lt offset n ≡ false = ltb-false (omega arith) in
    simp there (payload_past (from + n) (offset - n) rest (omega arith))

-- so the walk's end tells the payload
pub payload_is : (target : ℕ) (blocks : List Block) (b : BlockFound) → target < bytes_in blocks → b ≡ block_over 0 0 target blocks → payload_at 0 target blocks ≡ payload_over target b
payload_is target blocks b lt is =
    let walked : payload_at 0 (target - 0) blocks ≡ payload_over target (block_over 0 0 target blocks) = payload_walked 0 0 target blocks (omega arith) (omega arith) in
    let whole : target - 0 ≡ target = omega arith in
    ap (λ x. payload_at 0 x blocks) (sym whole) ∙ walked ∙ ap (payload_over target) (sym is)

-- a used block whose payload has the target
pub payload_yes : (target : ℕ) (b : BlockFound) → b.used ≡ true → b.offset + 16 ≤ target → payload_over target b ≡ Some (b.offset, b.size)
payload_yes target b used from =
    let test : nat_lt (target - b.offset) 16 ≡ false = ltb-false (omega arith) in
    simp (used, test)

-- a hole, and a header
pub payload_hole : (target : ℕ) (b : BlockFound) → b.used ≡ false → payload_over target b ≡ None
payload_hole target b hole = simp hole

pub payload_header : (target : ℕ) (b : BlockFound) → b.used ≡ true → target < b.offset + 16 → payload_over target b ≡ None
payload_header target b used to =
    let test : nat_lt (target - b.offset) 16 ≡ true = ltb-true (omega arith) in
    simp (used, test)
