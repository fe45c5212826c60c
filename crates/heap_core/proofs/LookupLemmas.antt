-- Which payload holds an address: it is the one of the block in which the address lies.
use Rattle.std.proofs.lemmas.Bool.Decides.{nat_tests}
use Rattle.std.proofs.Common.{rules, ◌≡◌, ◌≢◌, ℕ, ◌+◌, ◌-◌, ◌*◌, ◌<◌, ◌≤◌, cond, List, length, refl, sym, ap, subst, ◌∙◌, ⊎_elim, arith, Some, is_some}
use Rattle.std.proofs.lemmas.Bool.{false_from_ne_true}
use Rattle.std.proofs.lemmas.Option.{none-some, same_Some}
use Rattle.std.specs.Prelude.{Option, None, slice_range}
use Rattle.std.specs.Option.{option_map, option_and_then}
use Rattle.std.specs.FinMap.{get}
use Rattle.trade_base.proofs.BytesLemmas.{length-slice_range}
use Rattle.trade_base.specs.declared.refusal.Refusal.TheVariants.{PageFault}
use Rattle.own_model.specs.BestFit.{payload_at, used_at}
use Rattle.own_model.specs.Region.{Region}
use Rattle.own_model.specs.Sliced.{block_found, holds_in_payload}
use Rattle.own_model.proofs.HeapBestFitLemmas.{HasOffset, payload_has, payload_told}
use Rattle.own_model.proofs.EntryLemmas.{finds_in_map, finds_none_in_map}
use Rattle.own_model.proofs.NatMapLemmas.{get-picked, get-picked_none}
use Rattle.own_model.proofs.SlicedPayloadLemmas.{payload_holds, payload_tests}
use Rattle.own_model.specs.Heap.{Block}
use Rattle.avl_alloc.specs.declared.best_fit.UsedBlock.{UsedBlock}
use Rattle.avl_alloc.specs.Found.{used_block}
use Rattle.avl_alloc.specs.Layout as avl
use Rattle.region_map.specs.Regions.{Regions}
use Rattle.dataspace_core.specs.Store.{Store, space_at}
use Rattle.dataspace_core.specs.Share.{Share, share_in}
use Rattle.dataspace_core.proofs.PartLaws.{IsPaidBy, paid_in_part}
use Rattle.heap_core.specs.declared.heap.Heap.{Heap}
use Rattle.heap_core.specs.Calls.{HoldsRange, free_refusal}
use Rattle.heap_core.specs.Heap.{IsSound, chunk_at, heap_in, large_regions, payer_of, share_at}
use Rattle.heap_core.specs.Lookup.{LiesInChunk, LiesInLarge, LiesOutside}
use Rattle.heap_core.proofs.FoundLemmas.{IsLarge, IsSmall, blocks_at, bytes_at, large_outside, large_payload, no_large_at, one_chunk, one_large, payload_from, small_there, used_inside}
use Rattle.heap_core.proofs.MemoryLemmas.{whole_slice}
use Rattle.sliced_heap.proofs.ShareLemmas.{large_there}
use Rattle.heap_core.proofs.StandLemmas.{chunk_blocks, chunk_bytes}

module _ (heap : Heap) (store : Store) (regions : Regions) (sound : IsSound heap store regions) where
  abbrev S : Share
  S = share_at (payer_of heap) store regions

  -- a used block's payload is as long as the block behind its header
  pub small_length : (k y n : ℕ) → k < length heap.chunks.items → used_at y (blocks_at heap store regions sound k) ≡ Some n →
      length (slice_range (bytes_at heap store regions sound k) (y + 16) (y + n)) ≡ n - 16
  small_length k y n there used =
      let inside = used_inside heap store regions sound k y n there used in
      let least = inside.0 in
      let to = inside.1 in
      let long = ap length (chunk_bytes heap S sound.laid k there) ∙ (sound.laid.chunks k there).long in
      let last : y + n ≡ y + 16 + (n - 16) = omega (arith, least) in
      rw last (length-slice_range (bytes_at heap store regions sound k) (y + 16) (n - 16) (omega (arith, least, to, long)))

  -- a large block's is as long as its region
  pub large_length : (q : ℕ) (w : List ℕ) (l : IsLarge heap store regions sound q w) → length w ≡ l.region.pages * 4096
  large_length q w l = grind (arith, nat_tests, sound.laid.large_stands q l.region l.there)

  -- where a payload stands that holds an address
  pub record Holds (address q : ℕ) (w : List ℕ) : Type 0 where
    pub from : q ≤ address
    pub to : address < q + length w

  -- no payload is of nothing
  pub payload_some : (q : ℕ) (w : List ℕ) → get (heap_in heap S).payloads q ≡ Some w → Holds q q w
  payload_some q w h = ⊎_elim
      (λ (small : IsSmall heap store regions sound q w).
      let long = ap length small.is ∙ small_length small.k small.y small.n small.there small.used in
      let least = (used_inside heap store regions sound small.k small.y small.n small.there small.used).0 in
      record { from = omega arith; to = omega (arith, long, least) })
      (λ (large : IsLarge heap store regions sound q w).
      let long = large_length q w large in
      let least = (sound.laid.large_stands q large.region large.there).least in
      record { from = omega arith; to = omega (arith, long, least) })
      (payload_from heap store regions sound q w h)

  -- ---- an address in a chunk

  module _ (address c o : ℕ) (lies : LiesInChunk heap address c o) where
    abbrev start : ℕ
    start = (chunk_at heap c).start

    low : start ≤ address
    low = let at = lies.at in omega (arith, at)

    high : address < start + avl.bytes_of heap.fit c
    high = let at = lies.at in let inside = lies.inside in omega (arith, at, inside)

    -- a payload that holds it is of a used block of that chunk
    pub record IsHeld (q : ℕ) (w : List ℕ) : Type 0 where
      pub y : ℕ
      pub n : ℕ
      pub has : HasOffset (blocks_at heap store regions sound c) o y n
      pub at : q ≡ start + y + 16
      pub long : length w ≡ n - 16
      pub least : 48 ≤ n

    pub held : (q : ℕ) (w : List ℕ) → get (heap_in heap S).payloads q ≡ Some w → Holds address q w → IsHeld q w
    held q w h at = ⊎_elim
        (λ (small : IsSmall heap store regions sound q w).
        let long = ap length small.is ∙ small_length small.k small.y small.n small.there small.used in
        let inside = used_inside heap store regions sound small.k small.y small.n small.there small.used in
        let least = inside.0 in
        let within = inside.1 in
        let from = at.from in
        let to = at.to in
        let is = small.at in
        let same = one_chunk heap store regions sound small.k c address small.there lies.there (omega (arith, from, is)) (omega (arith, to, is, long, least, within)) low high in
        let starts = ap (λ k. (chunk_at heap k).start) same in
        let place = lies.at in
        record {
          y = small.y;
          n = small.n;
          has = record {
            used = subst (λ k. used_at small.y (blocks_at heap store regions sound k) ≡ Some small.n) same small.used;
            low = omega (arith, from, is, starts, place);
            high = omega (arith, to, is, starts, place, long, least);
          };
          at = omega (arith, is, starts);
          long = long;
          least = least;
        })
        (λ (large : IsLarge heap store regions sound q w).
        let long = large_length q w large in
        let from = at.from in
        let to = at.to in
        absurd (⊎_elim
        (λ (before : address < start). let l = low in omega (arith, before, l))
        (λ (past : start + avl.bytes_of heap.fit c ≤ address). let u = high in omega (arith, past, u))
        (large_outside heap store regions sound c q address large.region lies.there large.there from (omega (arith, to, long)))))
        (payload_from heap store regions sound q w h)

    -- where no used block's payload starts there, none does
    pub no_payload : ((y n : ℕ) → used_at y (blocks_at heap store regions sound c) ≡ Some n → y + 16 ≢ o) → get (heap_in heap S).payloads address ≡ None
    no_payload none = elim (get (heap_in heap S).payloads address) as (λ p. get (heap_in heap S).payloads address ≡ p → p ≡ None) [
      | None ↦ λ e. refl
      | Some w ↦ λ e.
          let is = held address w e (payload_some address w e) in
          let at = is.at in
          let place = lies.at in
          absurd (none is.y is.n is.has.used (omega (arith, at, place)))
    ] refl

    pub no_free : ((y n : ℕ) → used_at y (blocks_at heap store regions sound c) ≡ Some n → y + 16 ≢ o) → free_refusal (heap_in heap S) address ≡ Some PageFault
    no_free none = ap (λ (p : Option (List ℕ)). cond (is_some p) None (Some PageFault)) (no_payload none)

    -- and where one does, it is given back
    pub is_free : (y n : ℕ) → used_at y (blocks_at heap store regions sound c) ≡ Some n → y + 16 ≡ o → free_refusal (heap_in heap S) address ≡ None
    is_free y n used at =
        let place = lies.at in
        let is : start + y + 16 ≡ address = omega (arith, place, at) in
        ap (λ (p : Option (List ℕ)). cond (is_some p) None (Some PageFault)) (subst (λ q. get (heap_in heap S).payloads q ≡ Some (slice_range (bytes_at heap store regions sound c) (y + 16) (y + n))) is (small_there heap store regions sound c y n lies.there used))

    -- no large block starts there
    pub not_large : get (heap_in heap S).large address ≡ None
    unfolding heap_in
    not_large = get-picked_none (λ (r : Region). Some (r.pages * 4096)) (large_regions S) address (no_large_at heap store regions sound c address lies.there low high)

    -- a range in no used block's payload is in none
    pub none_in_chunk : (count : ℕ) → 1 ≤ count → ((y n : ℕ) → HasOffset (blocks_at heap store regions sound c) o y n → y + n < o + count) → block_found (heap_in heap S).payloads address count ≡ None
    none_in_chunk count some none =
        ap (option_map (λ b. (b.0, address - b.0))) (finds_none_in_map (holds_in_payload address count) (heap_in heap S).payloads (λ q w h. false_from_ne_true _ (λ holds.
        let tests = payload_tests address count q (length w) holds in
        let from = tests.0 in
        let to = tests.1 in
        let is = held q w h (record { from = from; to = omega (arith, to, some) }) in
        let past = none is.y is.n is.has in
        let at = is.at in
        let long = is.long in
        let least = is.least in
        let place = lies.at in
        absurd (omega (arith, past, to, at, long, place, least)))))

    none_told : payload_at 0 o (blocks_at heap store regions sound c) ≡ None → (y n : ℕ) → ¬ HasOffset (blocks_at heap store regions sound c) o y n
    none_told none y n has = none-some (0 + y, n) (sym none ∙ payload_told 0 o y n (blocks_at heap store regions sound c) (chunk_blocks heap S sound.laid c lies.there) has)

    pub none_there : (count : ℕ) → 1 ≤ count → payload_at 0 o (blocks_at heap store regions sound c) ≡ None → block_found (heap_in heap S).payloads address count ≡ None
    none_there count some none = none_in_chunk count some (λ y n has. absurd (none_told none y n has))

    module _ (x n : ℕ) (told : payload_at 0 o (blocks_at heap store regions sound c) ≡ Some (x, n)) where
      pub told_has : HasOffset (blocks_at heap store regions sound c) o x n
      told_has = grind (arith, nat_tests, payload_has, blocks_at, chunk_blocks, HasOffset)

      -- it is the only one
      told_only : (y m : ℕ) → HasOffset (blocks_at heap store regions sound c) o y m → (y ≡ x) × (m ≡ n)
      told_only y m has = grind (arith, nat_tests, same_Some, payload_told, blocks_at, chunk_blocks)

      pub none_past : (count : ℕ) → 1 ≤ count → x + n < o + count → block_found (heap_in heap S).payloads address count ≡ None
      none_past count some past = none_in_chunk count some (λ y m has. let only = told_only y m has in let a = only.0 in let b = only.1 in omega (arith, a, b, past))

      pub range_held : (count : ℕ) → 1 ≤ count → o + count ≤ x + n → HoldsRange heap store regions (chunk_at heap c).ds.0 o address count
      unfolding share_in
      range_held count some within =
          let has = told_has in
          let at : ℕ = start + x + 16 in
          let payload = slice_range (bytes_at heap store regions sound c) (x + 16) (x + n) in
          let stands = sound.laid.chunks c lies.there in
          let there = small_there heap store regions sound c x n lies.there has.used in
          let long = small_length c x n lies.there has.used in
          let inside = used_inside heap store regions sound c x n lies.there has.used in
          let least = inside.0 in
          let to = inside.1 in
          let place = lies.at in
          let behind = has.low in
          let size = stands.long in
          let last : x + n ≡ x + 16 + length payload = omega (arith, long, least) in
          let bytes_are = chunk_bytes heap S sound.laid c lies.there in
          record {
            start = start;
            pages = stands.pages;
            at = at;
            payload = payload;
            before = x + 16;
            region = stands.region;
            stands = omega arith;
            bytes = stands.bytes;
            there = stands.there;
            starts = there;
            is = (λ i. slice_range (bytes_are i) (x + 16) (last i));
            within = omega (arith, long, least, to, size);
            low = omega (arith, place, behind);
            high = omega (arith, place, within, long, least);
            into = omega (arith, place, behind);
            found = ap (option_map (λ b. (b.0, address - b.0)))
                (finds_in_map (holds_in_payload address count) (heap_in heap S).payloads at payload there
                (payload_holds address count at (length payload) (omega (arith, place, behind)) (omega (arith, place, within, long, least)))
                (λ q w h holds.
                let tests = payload_tests address count q (length w) holds in
                let high_end = tests.1 in
                let is = held q w h (record { from = tests.0; to = omega (arith, high_end, some) }) in
                let only = (told_only is.y is.n is.has).0 in
                let begins = is.at in
                omega (arith, only, begins)));
          }

  -- ---- an address in a large block

  module _ (address s ds : ℕ) (lies : LiesInLarge S address s ds) where
    abbrev region : Region
    region = record { of = ds; pages = lies.pages }

    pub large_bytes : (bytes : List ℕ) × (get S.part.spaces ds ≡ Some bytes) × (length bytes ≡ lies.pages * 4096) × (get (heap_in heap S).payloads s ≡ Some bytes)
    large_bytes =
        let stands = sound.laid.large_stands s region lies.region in
        (stands.bytes, stands.there, stands.whole, large_payload heap store regions sound s region stands.bytes lies.region stands.there)

    pub large_paid : IsPaidBy (payer_of heap) ds large_bytes.0 store
    unfolding share_in
    large_paid = paid_in_part (payer_of heap) ds large_bytes.0 store large_bytes.1

    pub large_size : length (space_at store ds).bytes ≡ lies.pages * 4096
    large_size = ap length large_paid.bytes_are ∙ large_bytes.2

    -- a payload that holds it is that block's
    held_large : (q : ℕ) (w : List ℕ) → get (heap_in heap S).payloads q ≡ Some w → Holds address q w → q ≡ s
    held_large q w h at = ⊎_elim
        (λ (small : IsSmall heap store regions sound q w).
        let long = ap length small.is ∙ small_length small.k small.y small.n small.there small.used in
        let inside = used_inside heap store regions sound small.k small.y small.n small.there small.used in
        let least = inside.0 in
        let within = inside.1 in
        let from = at.from in
        let to = at.to in
        let is = small.at in
        absurd (⊎_elim
        (λ (before : address < (chunk_at heap small.k).start). omega (arith, before, from, is))
        (λ (past : (chunk_at heap small.k).start + avl.bytes_of heap.fit small.k ≤ address). omega (arith, past, to, is, long, within, least))
        (large_outside heap store regions sound small.k s address region small.there lies.region lies.low lies.high)))
        (λ (large : IsLarge heap store regions sound q w).
        let long = large_length q w large in
        let to = at.to in
        one_large heap store regions sound q s address large.region region large.there lies.region at.from (omega (arith, to, long)) lies.low lies.high)
        (payload_from heap store regions sound q w h)

    pub large_free : s ≡ address → free_refusal (heap_in heap S) address ≡ None
    large_free same = ap (λ (p : Option (List ℕ)). cond (is_some p) None (Some PageFault)) (ap (get (heap_in heap S).payloads) (sym same) ∙ large_bytes.3)

    pub large_not_free : s ≢ address → free_refusal (heap_in heap S) address ≡ Some PageFault
    large_not_free other = ap (λ (p : Option (List ℕ)). cond (is_some p) None (Some PageFault)) (elim (get (heap_in heap S).payloads address) as (λ p. get (heap_in heap S).payloads address ≡ p → p ≡ None) [
      | None ↦ λ e. refl
      | Some w ↦ λ e. absurd (other (sym (held_large address w e (payload_some address w e))))
    ] refl)

    pub is_large : s ≡ address → get (heap_in heap S).large address ≡ Some (lies.pages * 4096)
    unfolding heap_in
    is_large same = get-picked (λ (r : Region). Some (r.pages * 4096)) (large_regions S) address ∙ ap (option_and_then (λ (r : Region). Some (r.pages * 4096))) (ap (get (large_regions S)) (sym same) ∙ lies.region)

    pub large_none_past : (count : ℕ) → 1 ≤ count → lies.pages * 4096 < address - s + count → block_found (heap_in heap S).payloads address count ≡ None
    large_none_past count some past = search (rules, finds_none_in_map, false_from_ne_true, payload_tests, held_large, same_Some, large_bytes)

    pub large_held : (count : ℕ) → 1 ≤ count → address - s + count ≤ lies.pages * 4096 → HoldsRange heap store regions ds (address - s) address count
    unfolding share_in
    large_held count some within =
        let bytes = large_bytes.0 in
        let long = large_bytes.2 in
        let from = lies.low in
        record {
          start = s;
          pages = lies.pages;
          at = s;
          payload = bytes;
          before = 0;
          region = large_there S s region lies.region;
          stands = omega arith;
          bytes = bytes;
          there = large_bytes.1;
          starts = large_bytes.3;
          is = sym (whole_slice bytes) ∙ ap (slice_range bytes 0) (let e : length bytes ≡ 0 + length bytes = omega arith in e);
          within = omega arith;
          low = lies.low;
          high = omega (arith, within, long, from);
          into = omega arith;
          found = ap (option_map (λ b. (b.0, address - b.0)))
              (finds_in_map (holds_in_payload address count) (heap_in heap S).payloads s bytes large_bytes.3
              (payload_holds address count s (length bytes) from (omega (arith, within, long, from)))
              (λ q w h holds.
              let tests = payload_tests address count q (length w) holds in
              let to = tests.1 in
              held_large q w h (record { from = tests.0; to = omega (arith, to, some) })));
        }

  -- ---- an address in no block

  pub nothing_there : (address : ℕ) → LiesOutside heap S address → (q : ℕ) (w : List ℕ) → get (heap_in heap S).payloads q ≡ Some w → ¬ Holds address q w
  nothing_there address lies q w h at = ⊎_elim
      (λ (small : IsSmall heap store regions sound q w).
      let long = ap length small.is ∙ small_length small.k small.y small.n small.there small.used in
      let inside = used_inside heap store regions sound small.k small.y small.n small.there small.used in
      let least = inside.0 in
      let within = inside.1 in
      let from = at.from in
      let to = at.to in
      let is = small.at in
      ⊎_elim
      (λ (before : address < (chunk_at heap small.k).start). omega (arith, before, from, is))
      (λ (past : (chunk_at heap small.k).start + avl.bytes_of heap.fit small.k ≤ address). omega (arith, past, to, is, long, within, least))
      (lies.chunks small.k small.there))
      (λ (large : IsLarge heap store regions sound q w).
      let long = large_length q w large in
      let from = at.from in
      let to = at.to in
      ⊎_elim
      (λ (before : address < q). omega (arith, before, from))
      (λ (past : q + large.region.pages * 4096 ≤ address). omega (arith, past, to, long))
      (lies.large q large.region large.there))
      (payload_from heap store regions sound q w h)

  pub outside_free : (address : ℕ) → LiesOutside heap S address → get (heap_in heap S).payloads address ≡ None
  outside_free address lies = elim (get (heap_in heap S).payloads address) as (λ p. get (heap_in heap S).payloads address ≡ p → p ≡ None) [
    | None ↦ λ e. refl
    | Some w ↦ λ e. absurd (nothing_there address lies address w e (payload_some address w e))
  ] refl

  pub outside_none : (address count : ℕ) → LiesOutside heap S address → 1 ≤ count → block_found (heap_in heap S).payloads address count ≡ None
  outside_none address count lies some = search (rules, finds_none_in_map, false_from_ne_true, payload_tests, nothing_there)

-- ---- what best fit tells of an address

no_block : {X Y : Type 0} (f : X → Y) (o : Option X) → None ≡ option_map f o → o ≡ None
no_block f None h = refl
no_block f (Some x) h = absurd (none-some (f x) h)

a_block : (c : ℕ) (o : Option (ℕ × ℕ)) (block : UsedBlock) → Some block ≡ option_map (used_block c) o → o ≡ Some (block.offset, block.size)
a_block c None block h = absurd (none-some block (sym h))
a_block c (Some p) block h = grind (arith, nat_tests, same_Some)

pub told_none : (c o : ℕ) (told blocks : List Block) → None ≡ option_map (used_block c) (payload_at 0 o told) → told ≡ blocks → payload_at 0 o blocks ≡ None
told_none c o told blocks h is = ap (payload_at 0 o) (sym is) ∙ no_block (used_block c) (payload_at 0 o told) h

pub told_some : (c o : ℕ) (told blocks : List Block) (block : UsedBlock) → Some block ≡ option_map (used_block c) (payload_at 0 o told) → told ≡ blocks → payload_at 0 o blocks ≡ Some (block.offset, block.size)
told_some c o told blocks block h is = ap (payload_at 0 o) (sym is) ∙ a_block c (payload_at 0 o told) block h
