-- The words of nodes in a page of a chunk.
use Rattle.std.proofs.Common.{◌≡◌, ℕ, ◌+◌, ◌-◌, ◌*◌, ◌/◌, ◌%◌, ◌<◌, ◌≤◌, List, length, Some, is_some, refl, sym, ap, ◌∙◌, arith, inl, inr}
use Rattle.std.proofs.lemmas.Bool.{cases_eq}
use Rattle.std.proofs.lemmas.Option.{same_Some}
use Rattle.std.specs.Prelude.{Option, None, slice_range}
use Rattle.std.specs.FinMap.{get}
use Rattle.trade_base.specs.Word.{word_of}
use Rattle.own_model.specs.Region.{Region}
use Rattle.own_model.proofs.HeapStepLemmas.{not_both}
use Rattle.region_map.specs.Regions.{Regions, AreSound, heap_found}
use Rattle.dataspace_core.specs.Store.{Store, space_at, part}
use Rattle.dataspace_core.proofs.PartLaws.{paid_in_part}
use Rattle.dataspace_core.proofs.ShareLaws.{in_share}
use Rattle.dataspace_core.proofs.WindowLaws.{in_memory}
use Rattle.heap_core.specs.declared.heap.Heap.{Heap}
use Rattle.heap_core.specs.Calls.{HoldsRange}
use Rattle.heap_core.specs.Heap.{payer_of as heap_payer, heap_in}
use Rattle.heap_core.proofs.StartLemmas.{start_found, start_held}
use Rattle.heap_core.proofs.WordsLemmas.{range_in}
use Rattle.sliced_heap.specs.declared.heap.SlicedHeap.{SlicedHeap}
use Rattle.server_frame.specs.Session.{holding_of}
use Rattle.session_nodes.specs.Calls.{HasBytes, payload_in}
use Rattle.session_nodes.specs.Node.{word_from}
use Rattle.session_nodes.specs.SoundHeaps.{HasSoundHeaps}
use Rattle.session_nodes.proofs.NodeFoundLemmas.{node_read, payload_there}

module _ {heap : Heap} {sliced : SlicedHeap} {store : Store} {regions : Regions} (f : HasSoundHeaps heap sliced store regions) where
  -- ---- where bytes of a node are held

  -- a region of the map has so many bytes from an address on; it shows the whole of a dataspace
  pub record IsIn (ds offset address count : ℕ) : Type 0 where
    pub start : ℕ
    pub pages : ℕ
    pub region : get regions.heap start ≡ Some (record { of = ds; pages = pages })
    pub at : address ≡ start + offset
    pub within : offset + count ≤ pages * 4096
    pub above : 0x100000000 ≤ start
    pub long : length (space_at store ds).bytes ≡ pages * 4096

  module _ (ds offset address count : ℕ) (held : HoldsRange heap store regions ds offset address count) where
    in_map : get regions.heap held.start ≡ Some (record { of = ds; pages = held.pages })
    in_map = (in_share (part (heap_payer heap) store) regions.heap regions.tags held.start _ held.region).0

    bytes_long : length held.bytes ≡ held.pages * 4096
    bytes_long =
        let shown = f.sound.window.shown_whole held.start (record { of = ds; pages = held.pages }) in_map in
        let mine = in_memory (heap_payer heap) ds held.bytes store held.there in
        ap length (sym mine.3) ∙ ap (λ s. length s.bytes) (same_Some mine.0 shown.space (sym mine.1 ∙ shown.there)) ∙ shown.whole

    pub is_in : IsIn ds offset address count
    is_in =
        let whole = bytes_long in
        let paid = paid_in_part (heap_payer heap) ds held.bytes store held.there in
        let low = (f.sound.window.lie.within held.start _ in_map).from_low in
        record {
          start = held.start;
          pages = held.pages;
          region = in_map;
          at = omega (arith, held.stands, held.into, held.low);
          within = omega (arith, held.into, held.low, held.high, held.within, whole);
          above = low;
          long = ap length paid.bytes_are ∙ whole;
        }

  pub node_is_in : (ds at a : ℕ) → HoldsRange heap store regions ds (at + 0) (a + 0) 96 → IsIn ds at a 96
  node_is_in ds at a held =
      let i = is_in ds (at + 0) (a + 0) 96 held in
      record { start = i.start; pages = i.pages; region = i.region; at = omega (arith, i.at); within = omega (arith, i.within); above = i.above; long = i.long }

  -- bytes of two regions, of which one has a byte of both, are in one dataspace
  one_place : (ds offset address count other at there n : ℕ) (first : IsIn ds offset address count) (second : IsIn other at there n) → 1 ≤ n →
      first.start ≤ there → there < first.start + first.pages * 4096 → (ds ≡ other) × (first.start ≡ second.start)
  one_place ds offset address count other at there n first second some low high = elim (cases_eq first.start second.start) [
    | inl same ↦ (
      ap (λ (r : Region). r.of) (same_Some (record { of = ds; pages = first.pages }) (record { of = other; pages = second.pages }) (sym first.region ∙ ap (get regions.heap) same ∙ second.region)),
      same,
    )
    | inr apart ↦ absurd (not_both first.start first.pages second.start second.pages there (f.sound.window.lie.apart first.start second.start _ _ first.region second.region apart) low high
        (omega (arith, second.at)) (omega (arith, second.at, second.within, some)))
  ]

  module _ (map : AreSound regions) (b : ℕ) (has : HasBytes (heap_in heap (holding_of sliced store regions)).payloads b 0 96) where
    -- some dataspace holds a node
    record IsHeld : Type 0 where
      ds : ℕ
      start : ℕ
      held : (into count : ℕ) → 1 ≤ count → into + count ≤ 96 → HoldsRange heap store regions ds (b - start + into) (b + into) count

    held_by : (o : Option (ℕ × ℕ × ℕ)) → heap_found regions b ≡ o → IsHeld
    held_by None none = absurd (start_found heap store regions f.sound map b (ap is_some (payload_there f b has 0 1 (omega arith) (omega arith))) none)
    held_by (Some (start, of, tag)) found = record {
      ds = of;
      start = start;
      held = λ into count some few. start_held heap store regions f.sound map b start of tag found _ into count some (omega (arith, has.within, few)) (payload_there f b has into count some few);
    }

  -- ---- a page has the words of the nodes that lie in it

  module _ (map : AreSound regions) (ds at a link : ℕ) (within : link + 8 ≤ 96) (here : IsIn ds at a 96) (page : List ℕ)
      (is : page ≡ slice_range (space_at store ds).bytes ((at + link) / 4096 * 4096) ((at + link) / 4096 * 4096 + 4096)) where
    pub word_in_page : (front b : ℕ) → front + (at + link) % 4096 ≡ a → HasBytes (heap_in heap (holding_of sliced store regions)).payloads b 0 96 → front ≤ b → b ≤ front + 4088 →
        word_from page (b - front) ≡ word_from (payload_in (heap_in heap (holding_of sliced store regions)).payloads b) link
    word_in_page front b front_is has low high =
        let first : ℕ = (at + link) / 4096 * 4096 in
        let is_at = here.at in
        let inside = here.within in
        let fits : first + 4096 ≤ length (space_at store ds).bytes = omega (arith, here.long, inside, within) in
        let its = held_by map b has (heap_found regions b) refl in
        let there = is_in its.ds (b - its.start + link) (b + link) 8 (its.held link 8 (omega arith) within) in
        let from : here.start ≤ b + link = omega (arith, is_at, front_is, low) in
        let to : b + link < here.start + here.pages * 4096 = omega (arith, is_at, front_is, high, fits, here.long) in
        let one = one_place ds at a 96 its.ds (b - its.start + link) (b + link) 8 here there (omega arith) from to in
        let place : first + (b - front) ≡ b - its.start + link = omega (arith, is_at, front_is, low, there.at, one.1) in
        ap (λ (l : List ℕ). word_of (slice_range l (b - front) (b - front + 8))) is
        ∙ ap word_of (sym (range_in (space_at store ds).bytes first 4096 (b - front) 8 fits (omega (arith, low, high))))
        ∙ ap (λ n. word_of (slice_range (space_at store ds).bytes n (n + 8))) place
        ∙ ap (λ d. word_of (slice_range (space_at store d).bytes (b - its.start + link) (b - its.start + link + 8))) one.0
        ∙ ap word_of (node_read f b has link 8 (omega arith) within its.ds (b - its.start + link) (its.held link 8 (omega arith) within))
