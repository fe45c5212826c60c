-- The best hole is taken: its payload is one more, of whatever bytes it has, and all else stays.
use Rattle.std.proofs.Common.{rules, ◌≡◌, ◌≢◌, ℕ, ◌+◌, ◌*◌, ◌<◌, ◌≤◌, true≢false, false, length, sym, ap, subst, ◌∙◌, ◌⊎◌, arith}
use Rattle.std.proofs.lemmas.Bool.{cases_lt}
use Rattle.std.proofs.lemmas.Option.{same_Some}
use Rattle.std.specs.FinMap.{get}
use Rattle.own_model.specs.Region.{overlap}
use Rattle.region_map.specs.Regions.{Regions}
use Rattle.avl_alloc.specs.Layout as avl
use Rattle.dataspace_core.specs.Store.{Store, part}
use Rattle.heap_core.specs.declared.heap.Heap.{Heap}
use Rattle.heap_core.specs.Heap.{IsSound, chunk_at, payer_of, share_at}
use Rattle.dataspace_core.proofs.ShareLaws.{in_share}

-- ranges of pages that don't overlap lie one after the other
whole_ranges : (a p b q : ℕ) → overlap a p b q ≡ false → (b + q * 4096 ≤ a) ⊎ (a + p * 4096 ≤ b)
whole_ranges a p b q h = search (rules, true≢false, cases_lt)

-- an address in a range of pages lies outside of one that doesn't overlap it
pub in_other : (a p b q address : ℕ) → overlap a p b q ≡ false → b ≤ address → address < b + q * 4096 → (address < a) ⊎ (a + p * 4096 ≤ address)
in_other a p b q address h low high = search (rules, whole_ranges)

module _ (heap : Heap) (store : Store) (regions : Regions) (sound : IsSound heap store regions) where
  -- an address in one chunk lies outside of every other one
  pub other_chunk : (k c address : ℕ) → k < length heap.chunks.items → c < length heap.chunks.items → k ≢ c → (chunk_at heap c).start ≤ address → address < (chunk_at heap c).start + avl.bytes_of heap.fit c →
      (address < (chunk_at heap k).start) ⊎ ((chunk_at heap k).start + avl.bytes_of heap.fit k ≤ address)
  other_chunk k c address in_k in_c apart low high =
      let x = sound.laid.chunks k in_k in
      let y = sound.laid.chunks c in_c in
      let p = (in_share (part (payer_of heap) store) regions.heap regions.tags (chunk_at heap k).start _ x.region).0 in
      let q = (in_share (part (payer_of heap) store) regions.heap regions.tags (chunk_at heap c).start _ y.region).0 in
      let differ : (chunk_at heap k).start ≢ (chunk_at heap c).start = λ e. apart (same_Some k c (sym x.tag ∙ ap (get (share_at (payer_of heap) store regions).tags) e ∙ y.tag)) in
      let none = sound.window.lie.apart _ _ _ _ p q differ in
      subst (λ n. (address < (chunk_at heap k).start) ⊎ ((chunk_at heap k).start + n ≤ address)) (sym x.whole)
      (in_other (chunk_at heap k).start x.pages (chunk_at heap c).start y.pages address none low (let w = y.whole in omega (arith, high, w)))
