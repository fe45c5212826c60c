-- How the pages of dataspaces lie in one table. No public clause cites this module.
use Rattle.std.specs.Prelude.{◌≡◌, ◌⊎◌, ◌≢◌, ℕ, zero, suc, ◌+◌, ◌-◌, ◌*◌, ◌%◌, ◌<◌, ◌≤◌, nat_lt, nat_le, false, true, List, [], ◌++◌, length, Option, Some, None, slice_index_or, if◌then◌else◌}
use Rattle.std.specs.Option.{option_map}
use Rattle.trade_base.specs.Bytes.{with_bytes}
use Rattle.page_pool.specs.Pages.{free_count, is_taken, page_bytes, zero_page}
use Rattle.page_pool.specs.declared.pool.PageNo.{PageNo}
use Rattle.slab.specs.Slab.{Slab, get}
use Rattle.quota_core.specs.Books.{Books}
use Rattle.quota_core.specs.SlabMap.{map_of}
use Rattle.dataspace_core.specs.Store.{Space, Store}
use Rattle.dataspace_core.specs.declared.dataspace.Dataspace.{Dataspace}
use Rattle.dataspace_core.specs.declared.page_runs.PageRun.{PageRun}

-- the page at an index of the table
unfoldable pub page_in : List PageNo → ℕ → ℕ
page_in table index = (slice_index_or table index (record { 0 = 0 })).0

-- so many lists by their index, one after another
unfoldable pub joined : (ℕ → List ℕ) → ℕ → List ℕ
joined at zero = []
joined at (suc count) = joined at count ++ at count

-- the bytes of a run of pages
unfoldable pub run_bytes : List (Option (List ℕ)) → List PageNo → ℕ → ℕ → List ℕ
run_bytes pages table start count = joined (λ index. page_bytes pages (page_in table (start + index))) count

-- a page is none of a run
abbrev pub IsOutside : List PageNo → ℕ → ℕ → ℕ → Type 0
IsOutside table start count page = (index : ℕ) → index < count → page ≢ page_in table (start + index)

-- a run lies in the table, and each of its pages has all its bytes and comes once
pub record IsRun (pages : List (Option (List ℕ))) (table : List PageNo) (start count : ℕ) : Type 0 where
  pub within : start + count ≤ length table
  pub held : (i : ℕ) → i < count → length (page_bytes pages (page_in table (start + i))) ≡ 4096
  pub apart : (i j : ℕ) → i < count → j < count → page_in table (start + i) ≡ page_in table (start + j) → i ≡ j

-- no page is in both of two runs
abbrev pub AreApart : List PageNo → ℕ → ℕ → ℕ → ℕ → Type 0
AreApart table start count other more = (i j : ℕ) → i < count → j < more → page_in table (start + i) ≢ page_in table (other + j)

-- so many free pages were taken and are at the end of the table, from this start on, and what was taken before stays
pub record IsNewRun (pages : List (Option (List ℕ))) (table : List PageNo) (new_pages : List (Option (List ℕ))) (new_table : List PageNo) (start count : ℕ) : Type 0 where
  pub at_end : start ≡ length table
  pub size : length new_pages ≡ length pages
  pub longer : length new_table ≡ length table + count
  pub taken : free_count new_pages + count ≡ free_count pages
  pub was_free : (i : ℕ) → i < count → is_taken pages (page_in new_table (start + i)) ≡ false
  pub cleared : (i : ℕ) → i < count → page_bytes new_pages (page_in new_table (start + i)) ≡ zero_page
  pub apart : (i j : ℕ) → i < count → j < count → page_in new_table (start + i) ≡ page_in new_table (start + j) → i ≡ j
  pub kept : (page : ℕ) → is_taken pages page ≡ true → slice_index_or new_pages page None ≡ slice_index_or pages page None
  pub entries : (index : ℕ) → index < length table → page_in new_table index ≡ page_in table index

-- the pages outside a run stay
abbrev pub OtherPagesStay : List PageNo → ℕ → ℕ → List (Option (List ℕ)) → List (Option (List ℕ)) → Type 0
OtherPagesStay table start count pages new_pages = (page : ℕ) → IsOutside table start count page → slice_index_or new_pages page None ≡ slice_index_or pages page None

-- the pages of a run were given back, and no other
pub record IsGiven (pages new_pages : List (Option (List ℕ))) (table : List PageNo) (start count : ℕ) : Type 0 where
  pub size : length new_pages ≡ length pages
  pub given : free_count new_pages ≡ free_count pages + count
  pub others : OtherPagesStay table start count pages new_pages

-- where an entry was before a run was removed from the table
abbrev pub before_gap : ℕ → ℕ → ℕ → ℕ
before_gap start count index = if nat_lt index start then index else index + count

-- a run was removed from the table, and later entries moved down
pub record IsClosed (table new_table : List PageNo) (start count : ℕ) : Type 0 where
  pub shorter : length new_table + count ≡ length table
  pub entries : (index : ℕ) → index < length new_table → page_in new_table index ≡ page_in table (before_gap start count index)

-- a dataspace once a run was removed from the table: if it lies after the run, it starts by so much earlier
abbrev pub moved_down : PageRun → Dataspace → Dataspace
moved_down gap d = record d {
  run = record { start = if nat_le d.run.start gap.start then d.run.start else d.run.start - gap.count; count = d.run.count };
}

-- every dataspace has moved down
pub record HasMovedDown (gap : PageRun) (spaces new_spaces : Slab Dataspace) : Type 0 where
  pub each : (ds : ℕ) → get new_spaces ds ≡ option_map (moved_down gap) (get spaces ds)

-- no dataspace lies after the gap
abbrev pub NoneLiesAfter : PageRun → Slab Dataspace → Type 0
NoneLiesAfter gap spaces = (ds : ℕ) (d : Dataspace) → get spaces ds ≡ Some d → d.run.start ≤ gap.start

-- no dataspace starts within the gap
abbrev pub NoneLiesIn : PageRun → Slab Dataspace → Type 0
NoneLiesIn gap spaces = (ds : ℕ) (d : Dataspace) → get spaces ds ≡ Some d → (d.run.start ≤ gap.start) ⊎ (gap.start + gap.count ≤ d.run.start)

-- so many bytes, one at least, are at an offset of so many pages, in one of them
pub record IsPieceIn (count offset bytes : ℕ) : Type 0 where
  pub some : 0 < bytes
  pub fits : offset % 4096 + bytes ≤ 4096
  pub within : offset + bytes ≤ count * 4096

-- a word is at an offset of so many pages
pub record IsWordIn (count offset : ℕ) : Type 0 where
  pub aligned : offset % 8 ≡ 0
  pub within : offset + 8 ≤ count * 4096

-- a part was put into the bytes of a run, and no other page changed
pub record IsWritten (pages new_pages : List (Option (List ℕ))) (table : List PageNo) (start count offset : ℕ) (part : List ℕ) : Type 0 where
  pub size : length new_pages ≡ length pages
  pub taken : free_count new_pages ≡ free_count pages
  pub held : (i : ℕ) → i < count → length (page_bytes new_pages (page_in table (start + i))) ≡ 4096
  pub bytes : run_bytes new_pages table start count ≡ with_bytes (run_bytes pages table start count) offset part
  pub others : OtherPagesStay table start count pages new_pages

-- each dataspace's run lies in the table, and each of its pages has all its bytes and is in one place of one dataspace
pub record IsLaidOut (pages : List (Option (List ℕ))) (table : List PageNo) (spaces : Slab Dataspace) : Type 0 where
  pub within : (ds : ℕ) (d : Dataspace) → get spaces ds ≡ Some d → d.run.start + d.run.count ≤ length table
  pub held : (ds : ℕ) (d : Dataspace) → get spaces ds ≡ Some d → (i : ℕ) → i < d.run.count → length (page_bytes pages (page_in table (d.run.start + i))) ≡ 4096
  pub apart : (a b : ℕ) (x y : Dataspace) → get spaces a ≡ Some x → get spaces b ≡ Some y → (i j : ℕ) → i < x.run.count → j < y.run.count → page_in table (x.run.start + i) ≡ page_in table (y.run.start + j) → (a ≡ b) × (i ≡ j)

-- a dataspace as contracts see it
unfoldable pub space_of : List (Option (List ℕ)) → List PageNo → Dataspace → Space
space_of pages table d = record { payer = d.payer.0; bytes = run_bytes pages table d.run.start d.run.count }

-- the memory as contracts see it
abbrev pub store_of : Books → List (Option (List ℕ)) → List PageNo → Slab Dataspace → Store
store_of books pages table spaces =
    record { books = books; spaces = map_of (space_of pages table) spaces; places = spaces.capacity }
