-- A buffer is taken, filled and given back: what that leaves of both heaps.
use Rattle.std.proofs.lemmas.Bool.Decides.{nat_tests}
use Rattle.std.proofs.Common.{◌≡◌, ◌≢◌, ℕ, ◌+◌, ◌*◌, ◌/◌, ◌≤◌, ◌==◌, Bool, true, false, cond, List, length, Some, is_some, IsSome, refl, sym, ap, ◌∙◌, arith}
use Rattle.std.proofs.lemmas.Option.{none-some, same_Some}
use Rattle.std.specs.Prelude.{Option, None}
use Rattle.std.specs.FinMap.{get, insert, remove, empty, len, len-empty}
use Rattle.std.specs.Ordering.{nat_cmp}
use Rattle.trade_base.specs.Bytes.{with_bytes}
use Rattle.trade_base.specs.Page.{page_of, is_valid_size}
use Rattle.trade_base.specs.declared.refusal.Refusal.{Refusal}
use Rattle.trade_base.specs.declared.refusal.Refusal.TheVariants.{InvalidSize}
use Rattle.own_model.specs.Account.{Account, shortage, alloc_refusal, charged, credited}
use Rattle.own_model.specs.HeapWindow.{heap_gap}
use Rattle.own_model.specs.NatMap.{NatMap}
use Rattle.own_model.specs.Region.{Region}
use Rattle.own_model.proofs.NatMapLemmas.{same, natmaps, get-empty, get-insert_same, value_at}
use Rattle.own_model.proofs.Totals.{len-insert_new, len-insert_at}
use Rattle.region_map.specs.Regions.{Regions, of_no_heap, heap_attached, heap_detached}
use Rattle.dataspace_core.specs.Store.{Store, Part, Exists, part, account_in, account_of, bytes_of, space_at, part_with_space, part_with_bytes, part_without_space, PartBecomes}
use Rattle.dataspace_core.specs.Share.{share_in, IsWindowOf}
use Rattle.dataspace_core.proofs.GoneLaws as gone
use Rattle.dataspace_core.proofs.PartLaws.{IsPaidBy, account_by, account_of-part, paid_in_part, part_paid, part_open, open_after, paid_after, becomes_paid}
use Rattle.dataspace_core.proofs.PokedLaws.{poked_there, poked_length}
use Rattle.dataspace_core.proofs.WindowLaws as window
use Rattle.dataspace_core.proofs.WindowLaws.{new_in_part, own_account}
use Rattle.heap_core.specs.declared.heap.Heap.{Heap}
use Rattle.sliced_heap.specs.Window.{large_tag, MapsMemory}
use Rattle.sliced_heap.proofs.BesideLemmas.{gap_is_free, gap_is_place, maps_memory}
use Rattle.sliced_heap.proofs.ShareLemmas.{IsShownAs, shown_block, numbered-insert, numbered-remove}
use Rattle.sliced_heap.proofs.WindowLemmas.{IsPut, is_put, blocks_in_place, blocks_attached, blocks_detached}
use Rattle.sliced_heap.specs.declared.heap.SlicedHeap.{SlicedHeap}
use Rattle.sliced_heap.specs.Heap.{payer_of, share_at}
use Rattle.sliced_heap.specs.Theorems.{HeapStays}
use Rattle.sliced_heap.specs.Sliced.{sliced_tag}
use Rattle.sliced_heap.proofs.HeapLaws.{heap_stays_among, map_stays_for_payer}
use Rattle.server_frame.specs.Session.{holding_of}
use Rattle.session_nodes.specs.Found.{FindsContent}
use Rattle.session_nodes.specs.SoundHeaps.{HasSoundHeaps, KeepsSoundHeaps, stock, is_lent_tag, lent_regions}
use Rattle.session_nodes.specs.SessionBuffer.{IsBufferAt, TakesBuffer, GivesBuffer, FillsBuffer}
use Rattle.session_nodes.specs.declared.session_buffer.SessionBuffer.{SessionBuffer}
use Rattle.session_nodes.proofs.BeginLemmas.{session_share}
use Rattle.session_nodes.proofs.ContentLemmas.{chunk_in_map, stands_still, stands_more, stands_less}
use Rattle.session_nodes.proofs.FurnishedLemmas.{ChangesContents, contents_stay_furnished, contents_held, nodes_stay_in}
use Rattle.session_nodes.proofs.LentLemmas.{lent_places, shown_lent}

-- a chunk's number is none of what is lent
low_other : (k : ℕ) → k ≤ large_tag → (k == of_no_heap) ≡ false
low_other k low = grind (arith, nat_tests)

-- what isn't refused has a byte at least
pub granted_some : (n : ℕ) (account : Account) → alloc_refusal n account ≡ None → 1 ≤ n
granted_some n account none = grind (arith, nat_tests, some_by (is_valid_size n) (shortage account (page_of n) 1)) where
  some_by : (b : Bool) (o : Option Refusal) → cond b o (Some InvalidSize) ≡ None → b ≡ true
  some_by true o e = refl
  some_by false o e = absurd (none-some InvalidSize (sym e))

module _ {heap : Heap} {sliced : SlicedHeap} {store : Store} {regions : Regions} (f : HasSoundHeaps heap sliced store regions) where
  -- ---- it is taken

  module _ (ds size start : ℕ) {new : Store} (fresh : get store.spaces ds ≡ None) (becomes : PartBecomes (payer_of sliced) (part_with_space (part (payer_of sliced) store) ds size) store new)
      (some : 1 ≤ size) (gap : heap_gap regions.pages regions.heap (page_of size / 4096) ≡ Some start) where
    abbrev after : Regions
    after = heap_attached regions ds (page_of size / 4096) of_no_heap start

    free : get regions.heap start ≡ None
    free = gap_is_free regions.pages regions.heap (page_of size / 4096) start (omega (arith, some)) f.sound.window.lie gap

    -- the account's other dataspaces are shown as they were
    was_shown : (s : ℕ) (r : Region) → get regions.heap s ≡ Some r → get (part (payer_of sliced) new).spaces r.of ≡ get (part (payer_of sliced) store).spaces r.of
    was_shown s r there =
        window.others_there (payer_of sliced) ds size of_no_heap start store new regions.pages regions.heap_most regions.heap regions.tags f.session.sound.opens f.sound.window fresh becomes free r.of
        (window.unshown (payer_of sliced) ds size of_no_heap start store new regions.pages regions.heap_most regions.heap regions.tags f.session.sound.opens f.sound.window fresh becomes free s r there)

    taken_window : IsWindowOf new regions.pages regions.heap_most (insert regions.heap start (record { of = ds; pages = page_of size / 4096 }))
    taken_window = window.window_then (payer_of sliced) ds size of_no_heap start store new regions.pages regions.heap_most regions.heap regions.tags f.session.sound.opens f.sound.window fresh becomes free some
        (gap_is_place regions.pages regions.heap (page_of size / 4096) start gap)

    taken_stays : HeapStays sliced store new regions after
    taken_stays =
        heap_stays_among sliced store new regions after f.session.sound (maps_memory taken_window)
        (window.open_then (payer_of sliced) ds size of_no_heap start store new regions.pages regions.heap_most regions.heap regions.tags f.session.sound.opens f.sound.window fresh becomes free)
        (blocks_attached (payer_of sliced) store new regions start ds (page_of size / 4096) of_no_heap refl free (λ s r there. ap is_some (was_shown s r there)))
        (λ s r block. was_shown s r (shown_block (payer_of sliced) store regions s r block).there)

    charge : account_in new (payer_of sliced) ≡ charged (account_in store (payer_of sliced)) (page_of size) 1
    charge = account_by (payer_of sliced) new _ (window.charge_then (payer_of sliced) ds size of_no_heap start store new regions.pages regions.heap_most regions.heap regions.tags f.session.sound.opens f.sound.window fresh becomes free)

    count : len (part (payer_of sliced) new).spaces ≡ len (part (payer_of sliced) store).spaces + 1
    count = window.count_then (payer_of sliced) ds size of_no_heap start store new regions.pages regions.heap_most regions.heap regions.tags f.session.sound.opens f.sound.window fresh becomes free

    -- one region more is lent
    more_lent : lent_regions (share_at (payer_of sliced) new after) ≡ insert (lent_regions (share_at (payer_of sliced) store regions)) start (record { of = ds; pages = page_of size / 4096 })
    more_lent =
        ap lent_regions (window.share_then (payer_of sliced) ds size of_no_heap start store new regions.pages regions.heap_most regions.heap regions.tags f.session.sound.opens f.sound.window fresh becomes free)
        ∙ numbered-insert is_lent_tag _ _ start of_no_heap _ refl

    module _ (none : lent_regions (share_at (payer_of sliced) store regions) ≡ empty) where
      lent_now : lent_regions (share_at (payer_of sliced) new after) ≡ insert empty start (record { of = ds; pages = page_of size / 4096 })
      lent_now = more_lent ∙ ap (λ m. insert m start (record { of = ds; pages = page_of size / 4096 })) none

      taken_changes : ChangesContents f sliced new after
      taken_changes =
          let shares = window.shares_then (payer_of sliced) ds size of_no_heap start store new regions.pages regions.heap_most regions.heap regions.tags f.session.sound.opens f.sound.window fresh becomes free in
          record {
            sound = taken_stays.sound;
            payer = refl;
            others = record { shares = shares.shares; root = shares.root; parents = shares.parents; room = shares.room; rest = refl };
            lie = taken_window.lie;
            stands = stands_more f new ds (page_of size / 4096) of_no_heap start refl free (λ s k r there tag low. was_shown s r there);
            kept = λ s k r is. was_shown s r (chunk_in_map f s k r is).0;
            uses = omega (arith, count, ap (λ (x : Account). x.caps_used) charge);
            count = omega (arith, count, ap len taken_stays.blocks, ap len none, len-empty nat_cmp Region, ap len lent_now, len-insert_new {X = Region} empty start (record { of = ds; pages = page_of size / 4096 }) (get-empty start));
          }

      pub taken_furnished : KeepsSoundHeaps sliced heap sliced store new regions after
      taken_furnished = contents_stay_furnished f taken_changes

      pub taken_buffer : TakesBuffer size (record { space = record { 0 = ds }; start = start }) (stock heap sliced store regions) (stock heap sliced new after) (holding_of sliced new after) new
      taken_buffer = record {
        stock = nodes_stay_in f taken_changes _ _ charge (taken_stays.blocks ∙ sym (contents_held (share_at (payer_of sliced) store regions)));
        stands = record { possible = session_share sliced new after taken_furnished.furnished.session; pages = page_of size / 4096; region = lent_now };
        zero = (paid_in_part (payer_of sliced) ds _ new (new_in_part (payer_of sliced) ds size store new becomes)).bytes_are;
      }

  -- ---- where it stands

  module _ (lent : SessionBuffer) (stands : IsBufferAt lent (holding_of sliced store regions)) where
    abbrev region : Region
    region = record { of = lent.space.0; pages = stands.pages }

    -- its region is one of the map, of a dataspace of the account, and of no heap
    is_shown : IsShownAs (payer_of sliced) store regions lent.start region of_no_heap
    is_shown = shown_lent (payer_of sliced) store regions lent.start region (ap (λ (m : NatMap Region). get m lent.start) stands.region ∙ get-insert_same empty lent.start region lent.start refl)

    pub lent_there : IsSome (get regions.heap lent.start)
    lent_there = ap is_some is_shown.there

    -- who pays for it
    lent_paid : IsPaidBy (payer_of sliced) lent.space.0 (space_at store lent.space.0).bytes store
    lent_paid = let has = value_at (part (payer_of sliced) store).spaces lent.space.0 is_shown.paid in
        let is = paid_in_part (payer_of sliced) lent.space.0 has.0 store has.1 in
        record { exists = is.exists; payer = is.payer; bytes_are = refl }

    pub lent_exists : Exists store lent.space.0
    lent_exists = lent_paid.exists

    pub lent_had : get (part (payer_of sliced) store).spaces lent.space.0 ≡ Some (space_at store lent.space.0).bytes
    lent_had = part_paid lent_paid

    -- the dataspaces of regions of other numbers stay
    abbrev OthersStay : Store → Type 0
    OthersStay new = (s k : ℕ) (r : Region) → get regions.heap s ≡ Some r → get regions.tags s ≡ Some k → (k == of_no_heap) ≡ false → get (part (payer_of sliced) new).spaces r.of ≡ get (part (payer_of sliced) store).spaces r.of

    -- no region of another number shows its dataspace
    pub apart : (s k : ℕ) (r : Region) → get regions.heap s ≡ Some r → get regions.tags s ≡ Some k → (k == of_no_heap) ≡ false → r.of ≢ lent.space.0
    apart s k r there tag other e =
        let here = f.sound.window.once s lent.start r region there is_shown.there e in
        let same_tag = same_Some k of_no_heap (sym tag ∙ ap (get regions.tags) here ∙ is_shown.tag) in
        grind (arith, nat_tests)

    -- no content's dataspace is it
    pub content_apart : (ds at address offset n : ℕ) → FindsContent sliced store regions ds at address offset n → ds ≢ lent.space.0
    content_apart ds at address offset n found =
        let is = shown_block (payer_of sliced) store regions found.held.start _ found.held.region in
        apart found.held.start sliced_tag _ is.there is.tag refl

    -- ---- it is given back

    module _ {new : Store} (freed : PartBecomes (space_at store lent.space.0).payer (part_without_space (part (space_at store lent.space.0).payer store) lent.space.0) store new) where
      abbrev less : Regions
      less = heap_detached regions lent.start

      others_left : OthersStay new
      others_left s k r there tag other =
          gone.gone_others (payer_of sliced) lent.start lent.space.0 stands.pages store new regions.pages regions.heap_most regions.heap regions.tags f.session.sound.opens f.sound.window is_shown.shared freed r.of
          (apart s k r there tag other)

      given_window : IsWindowOf new regions.pages regions.heap_most (remove regions.heap lent.start)
      given_window = gone.gone_window (payer_of sliced) lent.start lent.space.0 stands.pages store new regions.pages regions.heap_most regions.heap regions.tags f.session.sound.opens f.sound.window is_shown.shared freed

      given_stays : HeapStays sliced store new regions less
      given_stays =
          heap_stays_among sliced store new regions less f.session.sound (maps_memory given_window)
          (gone.gone_open (payer_of sliced) lent.start lent.space.0 stands.pages store new regions.pages regions.heap_most regions.heap regions.tags f.session.sound.opens f.sound.window is_shown.shared freed)
          (blocks_detached (payer_of sliced) store new regions lent.start of_no_heap is_shown.tag refl
          (λ s r other there. ap is_some (gone.gone_others (payer_of sliced) lent.start lent.space.0 stands.pages store new regions.pages regions.heap_most regions.heap regions.tags f.session.sound.opens f.sound.window is_shown.shared freed r.of
          (λ e. other (f.sound.window.once s lent.start r region there is_shown.there e)))))
          (λ s r block. let is = shown_block (payer_of sliced) store regions s r block in others_left s sliced_tag r is.there is.tag refl)

      -- its bytes are its pages
      long : length (space_at store lent.space.0).bytes ≡ stands.pages * 4096
      long =
          let whole = gone.whole (payer_of sliced) lent.start lent.space.0 stands.pages store new regions.pages regions.heap_most regions.heap regions.tags f.session.sound.opens f.sound.window is_shown.shared in
          ap length (paid_in_part (payer_of sliced) lent.space.0 whole.0 store whole.1).bytes_are ∙ whole.2

      credit : account_in new (payer_of sliced) ≡ credited (account_in store (payer_of sliced)) (length (space_at store lent.space.0).bytes) 1
      credit =
          account_by (payer_of sliced) new _ (gone.gone_charge (payer_of sliced) lent.start lent.space.0 stands.pages store new regions.pages regions.heap_most regions.heap regions.tags f.session.sound.opens f.sound.window is_shown.shared freed)
          ∙ ap (λ n. credited (account_in store (payer_of sliced)) n 1) (sym long)

      none_left : lent_regions (share_at (payer_of sliced) new less) ≡ empty
      none_left =
          ap lent_regions (gone.gone_share (payer_of sliced) lent.start lent.space.0 stands.pages store new regions.pages regions.heap_most regions.heap regions.tags f.session.sound.opens f.sound.window is_shown.shared freed)
          ∙ numbered-remove is_lent_tag _ _ lent.start ∙ ap (λ m. remove m lent.start) stands.region ∙ same _ _ (λ q. grind (arith, natmaps))

      count_left : len (part (payer_of sliced) new).spaces + 1 ≡ len (part (payer_of sliced) store).spaces
      count_left = gone.gone_count (payer_of sliced) lent.start lent.space.0 stands.pages store new regions.pages regions.heap_most regions.heap regions.tags f.session.sound.opens f.sound.window is_shown.shared freed

      one_lent : len (lent_regions (share_at (payer_of sliced) store regions)) ≡ 1
      one_lent = ap len stands.region ∙ len-insert_new empty lent.start region (get-empty lent.start) ∙ ap (λ n. n + 1) (len-empty nat_cmp Region)

      given_changes : ChangesContents f sliced new less
      given_changes =
          let shares = gone.gone_shares (payer_of sliced) lent.start lent.space.0 stands.pages store new regions.pages regions.heap_most regions.heap regions.tags f.session.sound.opens f.sound.window is_shown.shared freed in
          let some = f.session.pays in
          record {
            sound = given_stays.sound;
            payer = refl;
            others = record { shares = shares.shares; root = shares.root; parents = shares.parents; room = shares.room; rest = refl };
            lie = given_window.lie;
            stands = stands_less f new lent.start of_no_heap is_shown.tag refl (λ s k r there tag low. others_left s k r there tag (low_other k low));
            kept = λ s k r is. let at = chunk_in_map f s k r is in others_left s k r at.0 at.1 (low_other k at.2);
            uses = omega (arith, count_left, some, ap (λ (x : Account). x.caps_used) credit);
            count = omega (arith, count_left, ap len given_stays.blocks, one_lent, ap len none_left ∙ len-empty nat_cmp Region);
          }

      pub given_furnished : KeepsSoundHeaps sliced heap sliced store new regions less
      given_furnished = contents_stay_furnished f given_changes

      pub given_buffer : GivesBuffer lent (stock heap sliced store regions) (stock heap sliced new less) (holding_of sliced new less) store
      given_buffer = record {
        stock = nodes_stay_in f given_changes _ _ credit (given_stays.blocks ∙ sym (contents_held (share_at (payer_of sliced) store regions)));
        none = none_left;
      }

    -- ---- it is filled

    module _ (place : ℕ) (bytes : List ℕ) (room : place + length bytes ≤ length (space_at store lent.space.0).bytes) {new : Store}
        (put : PartBecomes (space_at store lent.space.0).payer (part_with_bytes (part (space_at store lent.space.0).payer store) lent.space.0 place bytes) store new) where
      becomes : PartBecomes (payer_of sliced) (part_with_bytes (part (payer_of sliced) store) lent.space.0 place bytes) store new
      becomes = becomes_paid (λ p. part_with_bytes p lent.space.0 place bytes) lent_paid put

      is_filled : IsPut (payer_of sliced) lent.space.0 store new
      is_filled = is_put (payer_of sliced) lent.space.0 place bytes _ lent_had room becomes

      filled_same : OthersStay new
      filled_same s k r there tag other = is_filled.others r.of (apart s k r there tag other)

      filled_account : account_in new (payer_of sliced) ≡ account_in store (payer_of sliced)
      filled_account = sym (account_of-part (payer_of sliced) new) ∙ ap account_of becomes.own ∙ account_of-part (payer_of sliced) store

      filled_count : len (part (payer_of sliced) new).spaces ≡ len (part (payer_of sliced) store).spaces
      filled_count = ap (λ (q : Part). len q.spaces) becomes.own ∙ len-insert_at (part (payer_of sliced) store).spaces lent.space.0 (with_bytes (bytes_of (part (payer_of sliced) store) lent.space.0) place bytes) _ lent_had

      filled_maps : MapsMemory new regions
      filled_maps = map_stays_for_payer (payer_of sliced) _ (account_in store (payer_of sliced)) store new regions regions f.session.sound.maps (record { heap = refl; tags = refl; most = refl; pages = refl }) becomes f.session.sound.opens
          (own_account (payer_of sliced) store f.session.sound.opens) refl (λ s r there. poked_length (part (payer_of sliced) store) lent.space.0 place bytes _ lent_had room r.of)

      filled_stays : HeapStays sliced store new regions regions
      filled_stays =
          heap_stays_among sliced store new regions regions f.session.sound filled_maps (open_after becomes (part_open (payer_of sliced) store f.session.sound.opens))
          (blocks_in_place (payer_of sliced) store new regions (λ s r there. is_filled.alike r.of))
          (λ s r block. let is = shown_block (payer_of sliced) store regions s r block in filled_same s sliced_tag r is.there is.tag refl)

      filled_lent : lent_regions (share_at (payer_of sliced) new regions) ≡ lent_regions (share_at (payer_of sliced) store regions)
      filled_lent = lent_places (payer_of sliced) store new regions regions refl (λ s r there tag. is_filled.alike r.of)

      filled_changes : ChangesContents f sliced new regions
      filled_changes = record {
        sound = filled_stays.sound;
        payer = refl;
        others = record {
          shares = λ other apart. ap (λ q. share_in q regions.heap regions.tags) (becomes.others other apart);
          root = becomes.root;
          parents = becomes.parents;
          room = becomes.room;
          rest = refl;
        };
        lie = f.sound.window.lie;
        stands = stands_still f new (λ s k r there tag low. filled_same s k r there tag (low_other k low));
        kept = λ s k r is. let at = chunk_in_map f s k r is in filled_same s k r at.0 at.1 (low_other k at.2);
        uses = omega (arith, filled_count, ap (λ (x : Account). x.caps_used) filled_account);
        count = omega (arith, filled_count, ap len filled_stays.blocks, ap len filled_lent);
      }

      pub filled_furnished : KeepsSoundHeaps sliced heap sliced store new regions regions
      filled_furnished = contents_stay_furnished f filled_changes

      pub filled_buffer : FillsBuffer lent place bytes (stock heap sliced store regions) (stock heap sliced new regions) (holding_of sliced new regions) store new
      filled_buffer = record {
        stock = nodes_stay_in f filled_changes _ _ filled_account (filled_stays.blocks ∙ sym (contents_held (share_at (payer_of sliced) store regions)));
        stands = record { possible = session_share sliced new regions filled_furnished.furnished.session; pages = stands.pages; region = filled_lent ∙ stands.region };
        filled = (paid_after becomes (poked_there (part (payer_of sliced) store) lent.space.0 place bytes _ lent_had room)).bytes_are;
      }
