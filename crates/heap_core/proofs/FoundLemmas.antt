-- Where a heap's payloads come from: each is a used block's of one chunk, or a large block's.
use Rattle.std.proofs.Common.{rules, ◌≡◌, ◌≢◌, ℕ, suc, ◌+◌, ◌*◌, ◌<◌, ◌≤◌, List, [], ◌∷◌, length, get_or, refl, sym, ap, subst, ◌∙◌, ⊎_elim, ◌⊎◌, arith, Some}
use Rattle.std.proofs.lemmas.Bool.{cases_eq, cases_lt}
use Rattle.std.proofs.lemmas.Bool.Decides.{nat_tests}
use Rattle.std.proofs.lemmas.Option.{none-some, same_Some}
use Rattle.std.specs.Prelude.{None, slice_range}
use Rattle.std.specs.Option.{option_or, option_and_then}
use Rattle.std.specs.Cmp.{nat_cmp_total}
use Rattle.std.specs.Ordering.{nat_cmp}
use Rattle.std.specs.FinMap.{get, from_entries, get-from_entries}
use Rattle.own_model.specs.BestFit.{used_at, chunk_of}
use Rattle.own_model.specs.Entries.{value_of}
use Rattle.own_model.specs.Heap as model
use Rattle.own_model.specs.Heap.{Block, AreBlocks, bytes_in}
use Rattle.own_model.specs.NatMap.{NatMap}
use Rattle.own_model.specs.Region.{Region}
use Rattle.own_model.proofs.HeapBlockLemmas.{used_within}
use Rattle.own_model.proofs.EntryLemmas.{value_of-append}
use Rattle.own_model.proofs.NatMapJoinedLemmas.{from_either, get-joined}
use Rattle.own_model.proofs.NatMapLemmas.{get-picked, and_then_from, mapped_from}
use Rattle.avl_alloc.specs.Layout as avl
use Rattle.region_map.specs.Regions.{Regions}
use Rattle.dataspace_core.specs.Store.{Store, Part, part, bytes_of}
use Rattle.dataspace_core.specs.Share.{Share}
use Rattle.heap_core.specs.declared.words.Chunk.{Chunk}
use Rattle.heap_core.specs.declared.heap.Heap.{Heap}
use Rattle.heap_core.specs.Heap.{IsSound, bytes_shown, chunk_at, heap_in, large_regions, payer_of, payloads_of, share_at}
use Rattle.sliced_heap.proofs.ShareLemmas.{large_kept, large_there}
use Rattle.heap_core.proofs.PayloadLemmas.{entries_of, no_chunk, payloads-at, payloads-none, told, value_of-payloads}
use Rattle.dataspace_core.proofs.ShareLaws.{in_share}
use Rattle.heap_core.proofs.StandLemmas.{blocks, chunk_blocks, chunk_total, count_blocks, no_blocks, not_in_chunk}
use Rattle.heap_core.proofs.TakenLemmas.{in_other, other_chunk}

-- an entry of all chunks is one of a chunk
pub from_chunk : (part : Part) (chunks : List Chunk) (heap : model.Heap) (q : ℕ) (w : List ℕ) → value_of q (payloads_of part chunks heap) ≡ Some w →
    (k : ℕ) × (k < length chunks) × (value_of q (entries_of part (get_or chunks k no_chunk) (chunk_of heap k)) ≡ Some w)
from_chunk part [] heap q w h = absurd (none-some w h)
from_chunk part (x ∷ xs) [] q w h = absurd (none-some w h)
from_chunk part (x ∷ xs) (y ∷ ys) q w h = ⊎_elim
    (λ (here : value_of q (entries_of part x y) ≡ Some w). (0, omega arith, here))
    (λ (later : value_of q (payloads_of part xs ys) ≡ Some w).
    let rest = from_chunk part xs ys q w later in
    (suc rest.0, (let l = rest.1 in omega (arith, l)), rest.2))
    (from_either (value_of q (entries_of part x y)) (value_of q (payloads_of part xs ys)) w (sym (value_of-append q (entries_of part x y) (payloads_of part xs ys)) ∙ h))

-- a payload that a chunk tells is a used block's
told_used : (start : ℕ) (bytes : List ℕ) (bs : List Block) (q : ℕ) (w : List ℕ) → told start 0 bytes bs q ≡ Some w →
    (y n : ℕ) × (used_at y bs ≡ Some n) × (q ≡ start + y + 16) × (w ≡ slice_range bytes (y + 16) (y + n))
told_used start bytes bs q w h = search (rules, none-some, mapped_from, cases_lt)

-- and a used block's payload is told
used_told : (start y n : ℕ) (bytes : List ℕ) (bs : List Block) → used_at y bs ≡ Some n → told start 0 bytes bs (start + y + 16) ≡ Some (slice_range bytes (y + 16) (y + n))
used_told start y n bytes bs at = search (rules, nat_tests)

module _ (heap : Heap) (store : Store) (regions : Regions) (sound : IsSound heap store regions) where
  abbrev pub S : Share
  S = share_at (payer_of heap) store regions

  -- the blocks of a chunk, and its bytes
  abbrev pub blocks_at : ℕ → List Block
  blocks_at k = chunk_of (blocks heap S sound.laid) k

  abbrev pub bytes_at : ℕ → List ℕ
  bytes_at k = bytes_of S.part (chunk_at heap k).ds.0

  -- a payload of a used block of a chunk
  pub record IsSmall (q : ℕ) (w : List ℕ) : Type 0 where
    pub k : ℕ
    pub y : ℕ
    pub n : ℕ
    pub there : k < length heap.chunks.items
    pub used : used_at y (blocks_at k) ≡ Some n
    pub at : q ≡ (chunk_at heap k).start + y + 16
    pub is : w ≡ slice_range (bytes_at k) (y + 16) (y + n)

  -- that of a large block
  pub record IsLarge (q : ℕ) (w : List ℕ) : Type 0 where
    pub region : Region
    pub there : get (large_regions S) q ≡ Some region
    pub bytes : get S.part.spaces region.of ≡ Some w

  abbrev small_map : NatMap (List ℕ)
  small_map = from_entries {R = nat_cmp} (payloads_of S.part heap.chunks.items (blocks heap S sound.laid))

  value_at : (q : ℕ) → get (heap_in heap S).payloads q ≡ option_or (get small_map q) (get (bytes_shown S.part.spaces (large_regions S)) q)
  unfolding heap_in
  value_at q = get-joined small_map (bytes_shown S.part.spaces (large_regions S)) q

  small_from : (q : ℕ) (w : List ℕ) → get small_map q ≡ Some w → IsSmall q w
  small_from q w h =
      let from = from_chunk S.part heap.chunks.items (blocks heap S sound.laid) q w (sym (get-from_entries nat_cmp_total _ q) ∙ h) in
      let k = from.0 in
      let used = told_used (chunk_at heap k).start (bytes_at k) (blocks_at k) q w (sym (value_of-payloads (chunk_at heap k).start 0 (bytes_at k) (blocks_at k) q (chunk_blocks heap S sound.laid k from.1)) ∙ from.2) in
      record { k = k; y = used.0; n = used.1; there = from.1; used = used.2; at = used.3; is = used.4 }

  large_from : (q : ℕ) (w : List ℕ) → get (bytes_shown S.part.spaces (large_regions S)) q ≡ Some w → IsLarge q w
  large_from q w h = grind (arith, nat_tests, and_then_from, get-picked)

  -- each payload is one of these
  pub payload_from : (q : ℕ) (w : List ℕ) → get (heap_in heap S).payloads q ≡ Some w → IsSmall q w ⊎ IsLarge q w
  payload_from q w h = search (rules, small_from, large_from, from_either, value_at)

  -- ---- an address of a chunk lies in no other, and in no large block

  -- a used block lies in its chunk
  pub used_inside : (k y n : ℕ) → k < length heap.chunks.items → used_at y (blocks_at k) ≡ Some n → (48 ≤ n) × (y + n ≤ avl.bytes_of heap.fit k)
  used_inside k y n there used =
      let within = used_within y n (blocks_at k) (chunk_blocks heap S sound.laid k there) used in
      let total = chunk_total heap S sound.laid k there in
      let least = within.0.least in
      let to = within.1 in
      (omega (arith, least), omega (arith, to, total))

  -- two chunks that have an address are one
  pub one_chunk : (k c address : ℕ) → k < length heap.chunks.items → c < length heap.chunks.items →
      (chunk_at heap k).start ≤ address → address < (chunk_at heap k).start + avl.bytes_of heap.fit k →
      (chunk_at heap c).start ≤ address → address < (chunk_at heap c).start + avl.bytes_of heap.fit c → k ≡ c
  one_chunk k c address in_k in_c low high from to = search (rules, other_chunk, cases_eq)

  -- a chunk and a large block don't start at one address
  pub chunk_large : (k s : ℕ) (r : Region) → k < length heap.chunks.items → get (large_regions S) s ≡ Some r → (chunk_at heap k).start ≢ s
  chunk_large k s r there h same = grind (arith, nat_tests, large_kept, same_Some)

  -- an address in a large block is in no chunk
  pub large_outside : (k s address : ℕ) (r : Region) → k < length heap.chunks.items → get (large_regions S) s ≡ Some r → s ≤ address → address < s + r.pages * 4096 →
      (address < (chunk_at heap k).start) ⊎ ((chunk_at heap k).start + avl.bytes_of heap.fit k ≤ address)
  large_outside k s address r there h low high =
      let stands = sound.laid.chunks k there in
      let p = (in_share (part (payer_of heap) store) regions.heap regions.tags (chunk_at heap k).start _ stands.region).0 in
      let q = (in_share (part (payer_of heap) store) regions.heap regions.tags s r (large_there S s r h)).0 in
      let none = sound.window.lie.apart _ _ _ _ p q (chunk_large k s r there h) in
      subst (λ n. (address < (chunk_at heap k).start) ⊎ ((chunk_at heap k).start + n ≤ address)) (sym stands.whole)
      (in_other (chunk_at heap k).start stands.pages s r.pages address none low high)

  -- no large block starts in a chunk
  pub no_large_at : (k address : ℕ) → k < length heap.chunks.items → (chunk_at heap k).start ≤ address → address < (chunk_at heap k).start + avl.bytes_of heap.fit k → get (large_regions S) address ≡ None
  no_large_at k address there low high = elim (get (large_regions S) address) as (λ o. get (large_regions S) address ≡ o → o ≡ None) [
    | None ↦ λ e. refl
    | Some r ↦ λ e.
        let some = (sound.laid.large_stands address r e).least in
        absurd (⊎_elim
        (λ (before : address < (chunk_at heap k).start). omega (arith, before, low))
        (λ (past : (chunk_at heap k).start + avl.bytes_of heap.fit k ≤ address). omega (arith, past, high))
        (large_outside k address address r there e (omega arith) (omega (arith, some))))
  ] refl

  -- two large blocks that have an address are one
  pub one_large : (s t address : ℕ) (r q : Region) → get (large_regions S) s ≡ Some r → get (large_regions S) t ≡ Some q → s ≤ address → address < s + r.pages * 4096 → t ≤ address → address < t + q.pages * 4096 → s ≡ t
  one_large s t address r q h g low high from to = ⊎_elim
      (λ (same : s ≡ t). same)
      (λ (apart : s ≢ t).
      let a = (in_share (part (payer_of heap) store) regions.heap regions.tags s r (large_there S s r h)).0 in
      let b = (in_share (part (payer_of heap) store) regions.heap regions.tags t q (large_there S t q g)).0 in
      let none = sound.window.lie.apart s t r q a b apart in
      absurd (⊎_elim
      (λ (before : address < s). omega (arith, before, low))
      (λ (past : s + r.pages * 4096 ≤ address). omega (arith, past, high))
      (in_other s r.pages t q.pages address none from to)))
      (cases_eq s t)

  -- ---- so each is found

  -- no other chunk has a payload at an address of a chunk
  pub none_else : (k c address : ℕ) → c < length heap.chunks.items → (chunk_at heap c).start ≤ address → address < (chunk_at heap c).start + avl.bytes_of heap.fit c → k ≢ c →
      value_of address (entries_of S.part (chunk_at heap k) (blocks_at k)) ≡ None
  none_else k c address in_c low high apart = search (rules, not_in_chunk, other_chunk, entries_of, no_blocks, cases_lt)

  pub small_there : (k y n : ℕ) → k < length heap.chunks.items → used_at y (blocks_at k) ≡ Some n →
      get (heap_in heap S).payloads ((chunk_at heap k).start + y + 16) ≡ Some (slice_range (bytes_at k) (y + 16) (y + n))
  small_there k y n there used =
      let q = (chunk_at heap k).start + y + 16 in
      let inside = used_inside k y n there used in
      let least = inside.0 in
      let to = inside.1 in
      let w = slice_range (bytes_at k) (y + 16) (y + n) in
      value_at q
      ∙ ap (λ o. option_or o (get (bytes_shown S.part.spaces (large_regions S)) q)) (
      get-from_entries nat_cmp_total _ q
      ∙ payloads-at S.part q heap.chunks.items (blocks heap S sound.laid) k there (subst (λ m. k < m) (sym (count_blocks heap S sound.laid)) there)
      (λ j apart. none_else j k q there (omega arith) (omega (arith, least, to)) apart)
      ∙ value_of-payloads (chunk_at heap k).start 0 (bytes_at k) (blocks_at k) q (chunk_blocks heap S sound.laid k there)
      ∙ used_told (chunk_at heap k).start y n (bytes_at k) (blocks_at k) used
      )

  pub large_payload : (s : ℕ) (r : Region) (w : List ℕ) → get (large_regions S) s ≡ Some r → get S.part.spaces r.of ≡ Some w → get (heap_in heap S).payloads s ≡ Some w
  large_payload s r w h bytes =
      let some = (sound.laid.large_stands s r h).least in
      value_at s
      ∙ ap (λ o. option_or o (get (bytes_shown S.part.spaces (large_regions S)) s)) (
      get-from_entries nat_cmp_total _ s
      ∙ payloads-none S.part s heap.chunks.items (blocks heap S sound.laid) (λ k. ⊎_elim
      (λ (in_k : k < length heap.chunks.items). not_in_chunk heap S sound.laid k s in_k (large_outside k s s r in_k h (omega arith) (omega (arith, some))))
      (λ (out : length heap.chunks.items ≤ k). ap (λ bs. value_of s (entries_of S.part (chunk_at heap k) bs)) (no_blocks heap S sound.laid k out))
      (cases_lt k (length heap.chunks.items)))
      )
      ∙ get-picked (λ (r : Region). get S.part.spaces r.of) (large_regions S) s ∙ ap (option_and_then (λ (r : Region). get S.part.spaces r.of)) h ∙ bytes
