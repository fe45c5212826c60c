-- Dataspaces stay laid out while one comes, goes or is written, and the others keep their bytes.
use Rattle.std.proofs.lemmas.Bool.Decides.{nat_tests}
use Rattle.std.proofs.Common.{◌≡◌, ◌≢◌, ℕ, ◌+◌, ◌-◌, ◌*◌, ◌<◌, ◌≤◌, cond, true, List, length, get_or, Option, Some, None, refl, sym, ap, subst, ◌∙◌, inl, inr, ◌⊎◌, arith, true≢false, rules}
use Rattle.std.specs.Option.{option_map}
use Rattle.std.specs.FinMap.{insert, remove}
use Rattle.std.proofs.lemmas.Bool.{cases_lt, cases_eq, le-leb}
use Rattle.std.proofs.lemmas.Option.{none-some, same_Some}
use Rattle.trade_base.specs.Bytes.{with_bytes}
use Rattle.page_pool.specs.Pages.{is_taken, page_bytes}
use Rattle.page_pool.specs.declared.pool.PageNo.{PageNo}
use Rattle.page_pool.proofs.PageLaws.{length-zero_page}
use Rattle.slab.specs.Slab.{Slab, Updates}
use Rattle.slab.specs.Slab as slab
use Rattle.own_model.specs.OwnState.{zeros}
use Rattle.own_model.proofs.NatMapLemmas.{same, get-insert_same, get-insert_other, get-remove_same, get-remove_other}
use Rattle.quota_core.specs.SlabMap.{map_of}
use Rattle.quota_core.proofs.SlabMap.{get-map_of}
use Rattle.dataspace_core.specs.Layout.{page_in, run_bytes, IsOutside, IsRun, IsNewRun, IsGiven, IsClosed, IsWritten, IsLaidOut, HasMovedDown, NoneLiesAfter, moved_down, space_of}
use Rattle.dataspace_core.specs.declared.dataspace.Dataspace.{Dataspace}
use Rattle.dataspace_core.specs.declared.page_runs.PageRun.{PageRun}
use Rattle.dataspace_core.proofs.RunLemmas.{is_taken-held, page_bytes_same, joined_same, joined-zero_page, length-run_bytes}
use Rattle.dataspace_core.proofs.GapLemmas.{starts_behind, before_gap-moved, moved_within}

-- ---- a slab after a change

-- what stands in a slab after an insertion is the new value, or stood there before
after_insert : (old new : Slab Dataspace) (key : ℕ) (d : Dataspace) → Updates old new key (Some d) → (q : ℕ) (x : Dataspace) → slab.get new q ≡ Some x → ((q ≡ key) × (x ≡ d)) ⊎ ((q ≢ key) × (slab.get old q ≡ Some x))
after_insert old new key d updates q x there = search (rules, cases_eq, same_Some)

-- what stands in a slab after a removal stood there before, elsewhere
pub after_remove : (old new : Slab Dataspace) (key : ℕ) → Updates old new key None → (q : ℕ) (x : Dataspace) → slab.get new q ≡ Some x → (q ≢ key) × (slab.get old q ≡ Some x)
after_remove old new key updates q x there = search (rules, cases_eq, none-some)

-- what every value was changed to comes from one
after_map : (g : Dataspace → Dataspace) (o : Option Dataspace) (y : Dataspace) → option_map g o ≡ Some y → (x : Dataspace) × (o ≡ Some x) × (g x ≡ y)
after_map g None y there = absurd (none-some y there)
after_map g (Some x) y there = (x, refl, same_Some (g x) y there)

-- ---- one dataspace of those that are laid out

module _ (pages : List (Option (List ℕ))) (table : List PageNo) (spaces : Slab Dataspace) (laid_out : IsLaidOut pages table spaces) (ds : ℕ) (d : Dataspace) (there : slab.get spaces ds ≡ Some d) where
  -- its pages are a run
  pub IsRun-laid_out : IsRun pages table d.run.start d.run.count
  IsRun-laid_out = search (rules)

  -- its size
  pub length-space_of : length (space_of pages table d).bytes ≡ d.run.count * 4096
  unfolding space_of
  length-space_of = length-run_bytes pages table d.run.start d.run.count (laid_out.held ds d there)

  -- another dataspace has none of its pages
  pub IsOutside-other : (other : ℕ) (x : Dataspace) → slab.get spaces other ≡ Some x → other ≢ ds → (i : ℕ) → i < x.run.count → IsOutside table d.run.start d.run.count (page_in table (x.run.start + i))
  IsOutside-other other x found apart i below = λ k within e. apart (laid_out.apart other ds x d found there i k below within e).0

  -- nor a place in its run
  no_place : (other : ℕ) (x : Dataspace) → slab.get spaces other ≡ Some x → other ≢ ds → (i k : ℕ) → i < x.run.count → k < d.run.count → x.run.start + i ≢ d.run.start + k
  no_place other x found apart i k below within e = IsOutside-other other x found apart i below k within (ap (page_in table) e)

  -- one that has a page and starts behind its start ends behind its end
  pub ends_behind : (other : ℕ) (x : Dataspace) → slab.get spaces other ≡ Some x → other ≢ ds → 0 < x.run.count → d.run.start < x.run.start → d.run.start + d.run.count < length table
  ends_behind other x found apart some behind =
      let past = starts_behind d.run.start d.run.count x.run.start x.run.count (no_place other x found apart) behind some in
      omega (arith, past, some, laid_out.within other x found)

  -- another one that has a page doesn't start within its run
  pub starts_outside : (other : ℕ) (x : Dataspace) → slab.get spaces other ≡ Some x → other ≢ ds → 0 < x.run.count → (x.run.start ≤ d.run.start) ⊎ (d.run.start + d.run.count ≤ x.run.start)
  starts_outside other x found apart some =
      elim (cases_lt d.run.start x.run.start) [
        | inl behind ↦ inr (starts_behind d.run.start d.run.count x.run.start x.run.count (no_place other x found apart) behind some)
        | inr front ↦ inl front
      ]

-- where no dataspace lies behind the gap none moves
module _ (gap : PageRun) (spaces : Slab Dataspace) (front : NoneLiesAfter gap spaces) where
  -- a slot stays
  slot_stays : (ds : ℕ) (o : Option Dataspace) → slab.get spaces ds ≡ o → o ≡ option_map (moved_down gap) o
  slot_stays ds None there = refl
  slot_stays ds (Some d) there =
      ap (λ b. Some (record d { run = record { start = cond b d.run.start (d.run.start - gap.count); count = d.run.count } })) (sym (le-leb d.run.start gap.start (front ds d there)))

  -- so do all
  pub HasMovedDown-none : HasMovedDown gap spaces spaces
  HasMovedDown-none = record { each = λ ds. slot_stays ds (slab.get spaces ds) refl }

-- ---- a dataspace that is kept

-- a dataspace has the same payer and the same pages as before, with the same bytes, wherever they stand in the table now
record IsKept (pages : List (Option (List ℕ))) (table : List PageNo) (new_pages : List (Option (List ℕ))) (new_table : List PageNo) (x y : Dataspace) : Type 0 where
  payer : y.payer ≡ x.payer
  count : y.run.count ≡ x.run.count
  page : (i : ℕ) → i < y.run.count → page_in new_table (y.run.start + i) ≡ page_in table (x.run.start + i)
  slot : (i : ℕ) → i < y.run.count → get_or new_pages (page_in table (x.run.start + i)) None ≡ get_or pages (page_in table (x.run.start + i)) None

module _ (pages : List (Option (List ℕ))) (table : List PageNo) (new_pages : List (Option (List ℕ))) (new_table : List PageNo) (x y : Dataspace) (kept : IsKept pages table new_pages new_table x y) where
  -- its pages have the bytes that they had
  bytes_kept : (i : ℕ) → i < y.run.count → page_bytes new_pages (page_in new_table (y.run.start + i)) ≡ page_bytes pages (page_in table (x.run.start + i))
  bytes_kept i below = ap (page_bytes new_pages) (kept.page i below) ∙ page_bytes_same pages new_pages _ (kept.slot i below)

  -- so contracts see what they saw
  space_kept : space_of new_pages new_table y ≡ space_of pages table x
  unfolding space_of run_bytes
  space_kept = grind (arith, nat_tests, joined_same, bytes_kept)

-- ---- a dataspace comes

module _ (pages : List (Option (List ℕ))) (table : List PageNo) (spaces : Slab Dataspace) (laid_out : IsLaidOut pages table spaces) (new_pages : List (Option (List ℕ))) (new_table : List PageNo) (d : Dataspace) (run : IsNewRun pages table new_pages new_table d.run.start d.run.count) where
  -- a page of an old dataspace was taken
  taken : (a : ℕ) (x : Dataspace) → slab.get spaces a ≡ Some x → (i : ℕ) → i < x.run.count → is_taken pages (page_in table (x.run.start + i)) ≡ true
  taken a x there i below = is_taken-held pages (page_in table (x.run.start + i)) (laid_out.held a x there i below)

  -- an old dataspace is kept
  old_kept : (a : ℕ) (x : Dataspace) → slab.get spaces a ≡ Some x → IsKept pages table new_pages new_table x x
  old_kept a x there = grind (arith, nat_tests, taken)

  -- the new dataspace is all zeros
  new_space : space_of new_pages new_table d ≡ record { payer = d.payer.0; bytes = zeros (d.run.count * 4096) }
  unfolding space_of run_bytes
  new_space = ap (λ bytes. record { payer = d.payer.0; bytes = bytes }) (joined-zero_page _ d.run.count run.cleared)

  -- a page of the new run is no page of an old one
  apart_from_old : (a : ℕ) (x : Dataspace) → slab.get spaces a ≡ Some x → (i j : ℕ) → i < x.run.count → j < d.run.count → page_in new_table (x.run.start + i) ≢ page_in new_table (d.run.start + j)
  apart_from_old a x there i j below within e =
      true≢false (sym (taken a x there i below) ∙ ap (is_taken pages) (sym ((old_kept a x there).page i below) ∙ e) ∙ run.was_free j within)

  module _ (key : ℕ) (new_spaces : Slab Dataspace) (updates : Updates spaces new_spaces key (Some d)) where
    -- a dataspace is the new one, or an old one
    abbrev NewOrOld : ℕ → Dataspace → Type 0
    NewOrOld q x = ((q ≡ key) × (x ≡ d)) ⊎ ((q ≢ key) × (slab.get spaces q ≡ Some x))

    -- each lies in the table
    within_each : (a : ℕ) (x : Dataspace) → NewOrOld a x → x.run.start + x.run.count ≤ length new_table
    within_each a x (inl new) = subst (λ (y : Dataspace). y.run.start + y.run.count ≤ length new_table) (sym new.1) (omega (arith, run.at_end, run.longer))
    within_each a x (inr old) = omega (arith, laid_out.within a x old.1, run.longer)

    -- each page of either has all its bytes
    held_each : (a : ℕ) (x : Dataspace) → NewOrOld a x → (i : ℕ) → i < x.run.count → length (page_bytes new_pages (page_in new_table (x.run.start + i))) ≡ 4096
    held_each a x (inl new) i below =
        ap length (ap (λ (y : Dataspace). page_bytes new_pages (page_in new_table (y.run.start + i))) new.1 ∙ run.cleared i (subst (λ (y : Dataspace). i < y.run.count) new.1 below))
        ∙ length-zero_page
    held_each a x (inr old) i below = ap length (bytes_kept pages table new_pages new_table x x (old_kept a x old.1) i below) ∙ laid_out.held a x old.1 i below

    -- each page is in one place of one of them
    apart_each : (a b : ℕ) (x y : Dataspace) → NewOrOld a x → NewOrOld b y → (i j : ℕ) → i < x.run.count → j < y.run.count → page_in new_table (x.run.start + i) ≡ page_in new_table (y.run.start + j) → (a ≡ b) × (i ≡ j)
    apart_each a b x y (inl p) (inl q) i j m n e = (
      p.0 ∙ sym q.0,
      run.apart i j (subst (λ (z : Dataspace). i < z.run.count) p.1 m) (subst (λ (z : Dataspace). j < z.run.count) q.1 n)
          (ap (λ (z : Dataspace). page_in new_table (z.run.start + i)) (sym p.1) ∙ e ∙ ap (λ (z : Dataspace). page_in new_table (z.run.start + j)) q.1),
    )
    apart_each a b x y (inl p) (inr q) i j m n e =
        absurd (apart_from_old b y q.1 j i n (subst (λ (z : Dataspace). i < z.run.count) p.1 m) (sym e ∙ ap (λ (z : Dataspace). page_in new_table (z.run.start + i)) p.1))
    apart_each a b x y (inr p) (inl q) i j m n e =
        absurd (apart_from_old a x p.1 i j m (subst (λ (z : Dataspace). j < z.run.count) q.1 n) (e ∙ ap (λ (z : Dataspace). page_in new_table (z.run.start + j)) q.1))
    apart_each a b x y (inr p) (inr q) i j m n e =
        laid_out.apart a b x y p.1 q.1 i j m n (sym ((old_kept a x p.1).page i m) ∙ e ∙ (old_kept b y q.1).page j n)

    -- the dataspaces with the new one are laid out
    pub IsLaidOut-insert : IsLaidOut new_pages new_table new_spaces
    IsLaidOut-insert = search (rules, within_each, after_insert, held_each, apart_each)

    -- an old slot is read as it was
    read_old : (q : ℕ) (o : Option Dataspace) → slab.get spaces q ≡ o → option_map (space_of new_pages new_table) o ≡ option_map (space_of pages table) o
    read_old q None found = refl
    read_old q (Some x) found = ap Some (space_kept pages table new_pages new_table x x (old_kept q x found))

    -- they are the old ones and the new one, all zero
    pub map_of-insert_space : map_of (space_of new_pages new_table) new_spaces ≡ insert (map_of (space_of pages table) spaces) key (record { payer = d.payer.0; bytes = zeros (d.run.count * 4096) })
    map_of-insert_space = search (rules, same, cases_eq, get-map_of, new_space, get-insert_same, read_old, get-insert_other)

-- ---- a dataspace goes

module _ (pages : List (Option (List ℕ))) (table : List PageNo) (spaces : Slab Dataspace) (laid_out : IsLaidOut pages table spaces) (ds : ℕ) (d : Dataspace) (there : slab.get spaces ds ≡ Some d) (new_pages : List (Option (List ℕ))) (new_table : List PageNo) (given : IsGiven pages new_pages table d.run.start d.run.count) (closed : IsClosed table new_table d.run.start d.run.count) (left new_spaces : Slab Dataspace) (updates : Updates spaces left ds None) (moved : HasMovedDown d.run left new_spaces) where
  -- a dataspace that is left was there, under the same key, and lies as far down as it moved
  record WasThere (q : ℕ) (y : Dataspace) : Type 0 where
    old : Dataspace
    found : slab.get spaces q ≡ Some old
    apart : q ≢ ds
    is : moved_down d.run old ≡ y

  was_there : (q : ℕ) (y : Dataspace) → slab.get new_spaces q ≡ Some y → WasThere q y
  was_there q y found = grind (arith, nat_tests, after_map, after_remove)

  -- another dataspace is kept where it moves
  moved_kept : (q : ℕ) (x : Dataspace) → slab.get spaces q ≡ Some x → q ≢ ds → IsKept pages table new_pages new_table x (moved_down d.run x)
  moved_kept q x found apart =
      let places = no_place pages table spaces laid_out ds d there q x found apart in
      let within = moved_within d.run.start d.run.count x.run.start x.run.count places (length table) (length new_table) (laid_out.within q x found) (laid_out.within ds d there) closed.shorter in
      record {
        payer = refl;
        count = refl;
        page = λ i below.
            closed.entries _ (omega (arith, within, below))
            ∙ ap (page_in table) (before_gap-moved d.run.start d.run.count x.run.start x.run.count places i below);
        slot = λ i below. given.others _ (IsOutside-other pages table spaces laid_out ds d there q x found apart i below);
      }

  -- so is each that is left
  kept_left : (q : ℕ) (y : Dataspace) (was : WasThere q y) → IsKept pages table new_pages new_table was.old y
  kept_left q y was = subst (IsKept pages table new_pages new_table was.old) was.is (moved_kept q was.old was.found was.apart)

  -- the dataspaces without this one are laid out
  pub IsLaidOut-remove : IsLaidOut new_pages new_table new_spaces
  IsLaidOut-remove = record {
    within = λ a y found.
        let was = was_there a y found in
        subst (λ (z : Dataspace). z.run.start + z.run.count ≤ length new_table) was.is
        (moved_within d.run.start d.run.count was.old.run.start was.old.run.count (no_place pages table spaces laid_out ds d there a was.old was.found was.apart) (length table) (length new_table) (laid_out.within a was.old was.found) (laid_out.within ds d there) closed.shorter);
    held = λ a y found i below.
        let was = was_there a y found in
        let kept = kept_left a y was in
        ap length (bytes_kept pages table new_pages new_table was.old y kept i below) ∙ laid_out.held a was.old was.found i (omega (arith, below, kept.count));
    apart = λ a b x y p q i j m n e.
        let first = was_there a x p in
        let second = was_there b y q in
        let kept = kept_left a x first in
        let keeps = kept_left b y second in
        laid_out.apart a b first.old second.old first.found second.found i j (omega (arith, m, kept.count)) (omega (arith, n, keeps.count)) (sym (kept.page i m) ∙ e ∙ keeps.page j n);
  }

  -- another slot is read as it was
  read_left : (q : ℕ) → q ≢ ds → (o : Option Dataspace) → slab.get spaces q ≡ o → option_map (space_of new_pages new_table) (option_map (moved_down d.run) o) ≡ option_map (space_of pages table) o
  read_left q apart None found = refl
  read_left q apart (Some x) found = ap Some (space_kept pages table new_pages new_table x (moved_down d.run x) (moved_kept q x found apart))

  -- they are the old ones without this one
  pub map_of-remove_space : map_of (space_of new_pages new_table) new_spaces ≡ remove (map_of (space_of pages table) spaces) ds
  map_of-remove_space = grind (arith, nat_tests, same, get-map_of, cases_eq, get-remove_same, read_left, get-remove_other)

-- ---- a dataspace is written

module _ (pages : List (Option (List ℕ))) (table : List PageNo) (spaces : Slab Dataspace) (laid_out : IsLaidOut pages table spaces) (ds : ℕ) (d : Dataspace) (there : slab.get spaces ds ≡ Some d) (new_pages : List (Option (List ℕ))) (offset : ℕ) (bytes : List ℕ) (written : IsWritten pages new_pages table d.run.start d.run.count offset bytes) where
  -- another dataspace is kept
  other_kept : (a : ℕ) (x : Dataspace) → slab.get spaces a ≡ Some x → a ≢ ds → IsKept pages table new_pages table x x
  other_kept a x found apart = grind (arith, nat_tests, IsOutside-other)

  -- each page still has all its bytes
  still_held : (a : ℕ) (x : Dataspace) → slab.get spaces a ≡ Some x → (a ≡ ds) ⊎ (a ≢ ds) → (i : ℕ) → i < x.run.count → length (page_bytes new_pages (page_in table (x.run.start + i))) ≡ 4096
  still_held a x found (inl here) i below =
      let e : x ≡ d = same_Some x d (sym found ∙ ap (slab.get spaces) here ∙ there) in
      ap (λ (y : Dataspace). length (page_bytes new_pages (page_in table (y.run.start + i)))) e ∙ written.held i (subst (λ (y : Dataspace). i < y.run.count) e below)
  still_held a x found (inr apart) i below = ap length (bytes_kept pages table new_pages table x x (other_kept a x found apart) i below) ∙ laid_out.held a x found i below

  -- the dataspaces stay laid out
  pub IsLaidOut-written : IsLaidOut new_pages table spaces
  IsLaidOut-written = grind (arith, nat_tests, still_held, cases_eq)

  -- the dataspace that is written has the part in its bytes
  space_written : space_of new_pages table d ≡ record { payer = (space_of pages table d).payer; bytes = with_bytes (space_of pages table d).bytes offset bytes }
  unfolding space_of
  space_written = ap (λ all. record { payer = d.payer.0; bytes = all }) written.bytes

  -- a slot of another key is read as it was
  read_written : (q : ℕ) (o : Option Dataspace) → slab.get spaces q ≡ o → q ≢ ds → option_map (space_of new_pages table) o ≡ option_map (space_of pages table) o
  read_written q None found apart = refl
  read_written q (Some x) found apart = ap Some (space_kept pages table new_pages table x x (other_kept q x found apart))

  -- and this one has the new bytes
  pub map_of-written : map_of (space_of new_pages table) spaces ≡ insert (map_of (space_of pages table) spaces) ds (record { payer = (space_of pages table d).payer; bytes = with_bytes (space_of pages table d).bytes offset bytes })
  map_of-written = grind (arith, nat_tests, same, cases_eq, get-map_of, space_written, get-insert_same, read_written, get-insert_other)
