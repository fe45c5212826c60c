-- Where a content's bytes are found.
use Rattle.std.proofs.lemmas.Bool.Decides.{nat_tests}
use Rattle.std.proofs.Common.{rules, ◌≡◌, ℕ, ◌+◌, ◌-◌, ◌*◌, ◌^◌, ◌≤◌, true≢false, List, [], ◌∷◌, length, drop, Some, IsSome, refl, sym, ap, subst, ◌∙◌, arith, inl, inr}
use Rattle.std.proofs.lemmas.Bool.{cases_eq}
use Rattle.std.proofs.lemmas.Option.{same_Some}
use Rattle.std.specs.Prelude.{Option, None, IfSome, IfNone, slice_range, unwrap_or}
use Rattle.std.specs.FinMap.{get, insert}
use Rattle.heap_core.proofs.ClearedLemmas.{window_low}
use Rattle.trade_base.proofs.BytesLemmas.{with_bytes-nothing}
use Rattle.own_model.proofs.ByteLemmas.{with_part-within}
use Rattle.own_model.proofs.EntryLemmas.{not_found_in_map}
use Rattle.own_model.proofs.SlicedPayloadLemmas.{payload_holds}
use Rattle.own_model.specs.NatMap.{NatMap}
use Rattle.own_model.specs.OwnState.{with_part}
use Rattle.own_model.specs.Sliced.{sliced_header, block_found}
use Rattle.own_model.proofs.HeapStepLemmas.{not_both}
use Rattle.own_model.proofs.NatMapLemmas.{some_of, same, natmaps, nothing_from}
use Rattle.region_map.specs.Regions.{Regions}
use Rattle.dataspace_core.specs.Share.{Share, share_in}
use Rattle.dataspace_core.specs.Store.{Store, part, space_at, part_with_bytes, PartBecomes}
use Rattle.dataspace_core.proofs.PartLaws.{IsPaidBy, paid_in_part, becomes_paid}
use Rattle.heap_core.specs.declared.heap.Heap.{Heap}
use Rattle.sliced_heap.specs.declared.heap.SlicedHeap.{SlicedHeap}
use Rattle.sliced_heap.specs.Heap.{payer_of, share_at, HoldsRange}
use Rattle.sliced_heap.specs.Sliced.{sliced_of}
use Rattle.sliced_heap.proofs.BlockLemmas.{is_of, is_whole}
use Rattle.sliced_heap.proofs.HeapLaws.{payload_read}
use Rattle.sliced_heap.proofs.ShareLemmas.{shown_block}
use Rattle.server_frame.specs.Session.{holding_of}
use Rattle.session_nodes.specs.Calls.{HasBytes, payload_in, content_written}
use Rattle.session_nodes.specs.Found.{FindsContent, IsThere}
use Rattle.session_nodes.specs.SoundHeaps.{HasSoundHeaps, Stock}
use Rattle.session_nodes.proofs.FurnishedLemmas.{contents_held}

-- an option is there where what it tells as none can't be
pub some_by : {X P : Type 0} (o : Option X) → (P → ⊥) → IfNone o P → IsSome o
some_by None never p = absurd (never p)
some_by (Some x) never p = refl

-- what is told of an option that is there
pub told_of : {X : Type 0} (P : X → Type 0) (o : Option X) (x : X) → o ≡ Some x → IfSome o P → P x
told_of {X} P o x is p = subst (λ (q : Option X). IfSome q P) is p

-- what isn't found holds no range
pub found_none : (payloads : NatMap (List ℕ)) (address count k : ℕ) (payload : List ℕ) → block_found payloads address count ≡ None → get payloads k ≡ Some payload →
    k ≤ address → address + count ≤ k + length payload → ⊥
found_none payloads address count k payload none there from to = search (rules, true≢false, payload_holds, not_found_in_map, nothing_from)

-- what there is where there is something
pub there_is : (m : NatMap (List ℕ)) (k : ℕ) → IsSome (get m k) → get m k ≡ Some (payload_in m k)
there_is m k some = let e = some_of (get m k) some in e.1 ∙ ap (λ x. Some x) (sym (ap (λ (o : Option (List ℕ)). unwrap_or o []) e.1))

module _ {heap : Heap} {sliced : SlicedHeap} {store : Store} {regions : Regions} (f : HasSoundHeaps heap sliced store regions) (address into count : ℕ)
    (has : HasBytes (sliced_of (holding_of sliced store regions)) address into count) (some : 1 ≤ count) where
  abbrev S : Share
  S = share_at (payer_of sliced) store regions

  abbrev content : List ℕ
  content = payload_in (sliced_of (holding_of sliced store regions)) address

  -- the content is a payload of the share
  pub content_there : get (sliced_of S) address ≡ Some content
  content_there = ap (λ m. get m address) (sym (contents_held S)) ∙ there_is _ address has.there

  -- it ends below 2^40
  pub content_low : address + into + count ≤ 2 ^ 40
  content_low =
      let block = is_of S sliced.first f.session.sound.linked address content content_there in
      let mine = shown_block (payer_of sliced) store regions block.start block.region block.there in
      let window = f.sound.window in
      let within = window.lie.within block.start block.region mine.there in
      omega (arith, within.to_high, window_low regions.pages window.few, block.at, block.long, has.within)

  -- so it is found
  pub content_found : block_found (sliced_of S) (address + into) count ≡ None → ⊥
  content_found none = found_none (sliced_of S) (address + into) count address content none content_there (omega arith) (omega (arith, has.within))

  -- a range that is found lies in that payload
  module _ (ds offset : ℕ) (held : HoldsRange S ds offset (address + into) count) where
    -- the payload that holds the range is the content's
    pub same_start : held.start + sliced_header ≡ address
    same_start =
        let block = is_of S sliced.first f.session.sound.linked address content content_there in
        let mine = shown_block (payer_of sliced) store regions block.start block.region block.there in
        let its = shown_block (payer_of sliced) store regions held.start _ held.region in
        let whole = (is_whole S sliced.first f.session.sound.linked held.start _ held.region) in
        let long : length held.bytes ≡ held.pages * 4096 = ap length (same_Some held.bytes whole.bytes (sym held.there ∙ whole.there)) ∙ whole.whole in
        elim (cases_eq held.start block.start) [
          | inl same ↦ omega (arith, same, block.at)
          | inr other ↦ absurd (not_both held.start held.pages block.start block.region.pages (address + into)
              (f.sound.window.lie.apart held.start block.start _ block.region its.there mine.there other)
              (omega (arith, held.at)) (omega (arith, held.at, held.within, long, some))
              (omega (arith, block.at)) (omega (arith, block.at, block.long, has.within, some)))
        ]

    pub same_content : drop sliced_header held.bytes ≡ content
    same_content = same_Some _ content (sym held.payload ∙ ap (get (sliced_of S)) same_start ∙ content_there)

    pub same_offset : offset ≡ sliced_header + into
    same_offset = omega (arith, same_start, held.at)

    -- and its dataspace is there
    pub range_there : IsThere store ds offset count
    unfolding share_in
    range_there = grind (arith, nat_tests, natmaps, paid_in_part)

    pub finds : FindsContent sliced store regions ds offset address into count
    finds = record { held = held; at = same_start; there = range_there }

-- ---- what is read and written there

module _ {heap : Heap} {sliced : SlicedHeap} {store : Store} {regions : Regions} (f : HasSoundHeaps heap sliced store regions) (address into count ds offset : ℕ)
    (has : HasBytes (sliced_of (holding_of sliced store regions)) address into count) (some : 1 ≤ count) (found : FindsContent sliced store regions ds offset address into count) where
  -- who pays for the dataspace
  pub found_paid : IsPaidBy (payer_of sliced) ds found.held.bytes store
  unfolding share_in
  found_paid = paid_in_part (payer_of sliced) ds found.held.bytes store found.held.there

  -- its bytes are the content's
  pub content_read : slice_range (space_at store ds).bytes offset (offset + count) ≡ slice_range (payload_in (sliced_of (holding_of sliced store regions)) address) into (into + count)
  content_read =
      let share = share_at (payer_of sliced) store regions in
      let at : offset - sliced_header ≡ into = omega (arith, same_offset f address into count has some ds offset found.held) in
      ap (λ (l : List ℕ). slice_range l offset (offset + count)) found_paid.bytes_are
      ∙ payload_read share ds offset (address + into) count found.held
      ∙ (λ i. slice_range (payload_in (sym (contents_held share) i) (found.at i)) (at i) (at i + count))

  -- a write there is one of the account's
  pub found_becomes : (bytes : List ℕ) (new : Store) → PartBecomes (space_at store ds).payer (part_with_bytes (part (space_at store ds).payer store) ds offset bytes) store new →
      PartBecomes (payer_of sliced) (part_with_bytes (part (payer_of sliced) store) ds offset bytes) store new
  found_becomes bytes new written = becomes_paid (λ p. part_with_bytes p ds offset bytes) found_paid written

  -- bytes that are put there are put over the content's
  pub content_put : (bytes : List ℕ) → insert (sliced_of (share_at (payer_of sliced) store regions)) (found.held.start + sliced_header) (with_part (drop sliced_header found.held.bytes) (offset - sliced_header) bytes)
      ≡ insert (sliced_of (holding_of sliced store regions)) address (with_part (payload_in (sliced_of (holding_of sliced store regions)) address) into bytes)
  content_put bytes = grind (arith, nat_tests, natmaps, same_offset, contents_held, same_content)

-- no bytes change nothing
pub nothing_put : (contents : NatMap (List ℕ)) (address offset : ℕ) → HasBytes contents address offset 0 → insert contents address (with_part (payload_in contents address) offset []) ≡ contents
nothing_put contents address offset has = grind (arith, nat_tests, natmaps, with_part-within, with_bytes-nothing, same, natmaps, there_is)

pub nothing_written : (old : Stock) (address offset : ℕ) (bytes : List ℕ) → length bytes ≡ 0 → HasBytes old.contents address offset (length bytes) → old ≡ content_written address offset bytes old
nothing_written old address offset [] none has = λ i. record old { contents = sym (nothing_put old.contents address offset has) i }
nothing_written old address offset (b ∷ bytes) none has = absurd (omega (arith, none))
