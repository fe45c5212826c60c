-- Runs of pages, while pages are taken and given back, and while the table closes a gap.
use Rattle.std.proofs.Common.{◌≡◌, ◌≢◌, ◌⊎◌, ℕ, zero, suc, ◌+◌, ◌-◌, ◌*◌, ◌<◌, ◌≤◌, true, false, List, [], ◌∷◌, ◌++◌, length, get_or, set, Option, Some, None, is_some, unwrap_or, refl, sym, ap, ◌∙◌, arith, true≢false}
use Rattle.std.specs.Prelude.{slice_get, replicate}
use Rattle.std.proofs.Math.Seq.{get_or-append_seam}
use Rattle.std.specs.List.{CopiedTo, SameBelow, ShiftedDown}
use Rattle.std.proofs.lemmas.Bool.{cases_eq, cases_lt}
use Rattle.std.proofs.lemmas.Bool.Decides.{nat_tests}
use Rattle.std.proofs.lemmas.List.{get_or-set_same, get_or-set_other, get_or_append_left, get_or_read, length-set, length-append, replicate-append-replicate}
use Rattle.std.proofs.lemmas.Option.{slice_get_within}
use Rattle.page_pool.specs.Pages.{free_count, is_taken, page_bytes, zero_page}
use Rattle.page_pool.proofs.PageLaws.{is_taken-lt-length, is_taken-free_page, length-zero_page}
use Rattle.own_model.specs.OwnState.{zeros}
use Rattle.page_pool.specs.declared.pool.PageNo.{PageNo}
use Rattle.dataspace_core.specs.Layout.{page_in, joined, run_bytes, IsOutside, IsRun, IsNewRun, IsGiven, IsClosed}

-- ---- a page

-- a page that has all its bytes is taken
pub is_taken-held : (pages : List (Option (List ℕ))) (page : ℕ) → length (page_bytes pages page) ≡ 4096 → is_taken pages page ≡ true
unfolding is_taken page_bytes
is_taken-held pages page held = grind (arith, nat_tests)

-- it is there
pub held-lt-length : (pages : List (Option (List ℕ))) (page : ℕ) → length (page_bytes pages page) ≡ 4096 → page < length pages
held-lt-length pages page held = is_taken-lt-length pages page (is_taken-held pages page held)

-- a page has the bytes that were put there, and the others have theirs
pub page_bytes-set_here : (pages : List (Option (List ℕ))) (page : ℕ) (bytes : List ℕ) → page < length pages → page_bytes (set pages page (Some bytes)) page ≡ bytes
unfolding page_bytes
page_bytes-set_here pages page bytes here = ap (λ (o : Option (List ℕ)). unwrap_or o []) (get_or-set_same pages page (Some bytes) None here)

-- the others have theirs
pub page_bytes-set_other : (pages : List (Option (List ℕ))) (page other : ℕ) (value : Option (List ℕ)) → other ≢ page → page_bytes (set pages page value) other ≡ page_bytes pages other
unfolding page_bytes
page_bytes-set_other pages page other value apart = ap (λ (o : Option (List ℕ)). unwrap_or o []) (get_or-set_other pages page other value None apart)

-- pages with the same slot have the same bytes, and are taken alike
pub page_bytes_same : (old new : List (Option (List ℕ))) (page : ℕ) → get_or new page None ≡ get_or old page None → page_bytes new page ≡ page_bytes old page
unfolding page_bytes
page_bytes_same old new page same = ap (λ (o : Option (List ℕ)). unwrap_or o []) same

-- pages with the same slot are taken alike
pub is_taken_same : (old new : List (Option (List ℕ))) (page : ℕ) → get_or new page None ≡ get_or old page None → is_taken new page ≡ is_taken old page
unfolding is_taken
is_taken_same old new page same = ap is_some same

-- ---- lists by their index

-- lists that are equal at each index are equal when joined
pub joined_same : (old new : ℕ → List ℕ) (count : ℕ) → ((i : ℕ) → i < count → new i ≡ old i) → joined new count ≡ joined old count
unfolding joined
joined_same old new zero same = refl
joined_same old new (suc count) same =
    let rest = joined_same old new count (λ i below. same i (omega arith)) in
    let last = same count (omega arith) in
    ap (λ bytes. bytes ++ new count) rest ∙ ap (λ bytes. joined old count ++ bytes) last

-- full pages make so many bytes
pub length-joined : (at : ℕ → List ℕ) (count : ℕ) → ((i : ℕ) → i < count → length (at i) ≡ 4096) → length (joined at count) ≡ count * 4096
unfolding joined
length-joined at zero full = refl
length-joined at (suc count) full =
    let rest = length-joined at count (λ i below. full i (omega arith)) in
    let last = full count (omega arith) in
    omega (arith, length-append (joined at count) (at count))

-- pages that are all zero make zeros
pub joined-zero_page : (at : ℕ → List ℕ) (count : ℕ) → ((i : ℕ) → i < count → at i ≡ zero_page) → joined at count ≡ zeros (count * 4096)
unfolding joined zero_page zeros
joined-zero_page at zero cleared = refl
joined-zero_page at (suc count) cleared =
    let rest = joined-zero_page at count (λ i below. cleared i (omega arith)) in
    let last = cleared count (omega arith) in
    let more : count * 4096 + 4096 ≡ suc count * 4096 = omega arith in
    ap (λ bytes. bytes ++ at count) rest
    ∙ ap (λ bytes. replicate (count * 4096) 0 ++ bytes) last
    ∙ replicate-append-replicate (count * 4096) 4096 0
    ∙ ap (λ n. replicate n 0) more

-- a run has all bytes of its pages
pub length-run_bytes : (pages : List (Option (List ℕ))) (table : List PageNo) (start count : ℕ) → ((i : ℕ) → i < count → length (page_bytes pages (page_in table (start + i))) ≡ 4096) → length (run_bytes pages table start count) ≡ count * 4096
unfolding run_bytes
length-run_bytes pages table start count held = length-joined _ count held

-- ---- the table

-- an entry of the first of two tables
pub page_in-left : (table more : List PageNo) (index : ℕ) → index < length table → page_in (table ++ more) index ≡ page_in table index
unfolding page_in
page_in-left table more index within = ap (λ (p : PageNo). p.0) (get_or_append_left table more (record { 0 = 0 }) index within)

-- the entry after a table's last
pub page_in-last : (table : List PageNo) (page : PageNo) (index : ℕ) → index ≡ length table → page_in (table ++ page ∷ []) index ≡ page.0
unfolding page_in
page_in-last table page index here =
    ap (λ i. (get_or (table ++ page ∷ []) i (record { 0 = 0 })).0) here
    ∙ ap (λ (p : PageNo). p.0) (get_or-append_seam table page [] (record { 0 = 0 }))

-- what the code reads of a run is its entry
pub page_in_read : (table : List PageNo) (start count i : ℕ) (page : PageNo) → start + count ≤ length table → i < count → page ≡ get_or table (start + i) page → page.0 ≡ page_in table (start + i)
unfolding page_in
page_in_read table start count i page within below reads =
    ap (λ (p : PageNo). p.0) (get_or_read table (start + i) page (omega (arith, within, below)) reads (record { 0 = 0 }))

-- ---- pages are taken

-- before the first page is taken
pub IsNewRun-none : (pages : List (Option (List ℕ))) (table : List PageNo) (start : ℕ) → start ≡ length table → IsNewRun pages table pages table start 0
IsNewRun-none pages table start at_end = grind (arith, nat_tests)

-- another free page comes to the end
module _ (old_pages pages : List (Option (List ℕ))) (old_table table : List PageNo) (start count : ℕ) (page : PageNo) (so_far : IsNewRun old_pages old_table pages table start count) (free : slice_get pages page.0 ≡ Some None) where
  -- the page is one of the pool
  here : page.0 < length pages
  here = slice_get_within pages page.0 None free

  -- it is free now
  not_taken : is_taken pages page.0 ≡ false
  not_taken = is_taken-free_page pages page.0 free

  -- and was so before
  was_not_taken : is_taken old_pages page.0 ≡ false
  was_not_taken = grind (arith, nat_tests, is_taken_same, not_taken)

  -- what was taken before is another page
  is_other : (q : ℕ) → is_taken old_pages q ≡ true → q ≢ page.0
  is_other q taken e = true≢false (sym taken ∙ ap (is_taken old_pages) e ∙ was_not_taken)

  -- the table with it
  abbrev longer : List PageNo
  longer = table ++ page ∷ []

  -- an entry of the run so far, or the new one
  entry_at : (i : ℕ) → i < count + 1 → ((i ≡ count) × (page_in longer (start + i) ≡ page.0)) ⊎ ((i < count) × (page_in longer (start + i) ≡ page_in table (start + i)))
  entry_at i below = grind (arith, nat_tests, cases_eq, page_in-last, page_in-left)

  -- none of the pages that were taken is it
  none_of_these : (k : ℕ) → k < count → page_in table (start + k) ≢ page.0
  none_of_these k below e =
      let full : length (page_bytes pages (page_in table (start + k))) ≡ 4096 = ap length (so_far.cleared k below) ∙ length-zero_page in
      true≢false (sym (is_taken-held pages _ full) ∙ ap (is_taken pages) e ∙ not_taken)

  -- the run with this page
  pub IsNewRun-more : free_count (set pages page.0 (Some zero_page)) + 1 ≡ free_count pages → IsNewRun old_pages old_table (set pages page.0 (Some zero_page)) longer start (count + 1)
  IsNewRun-more one_less = grind (arith, nat_tests, length-set, length-append, entry_at, was_not_taken, page_bytes-set_here, here, page_bytes-set_other, none_of_these, get_or-set_other, is_other, page_in-left)

-- ---- pages are given back

-- before the first page is given back
pub IsGiven-none : (pages : List (Option (List ℕ))) (table : List PageNo) (start : ℕ) → IsGiven pages pages table start 0
IsGiven-none pages table start = grind (arith, nat_tests)

module _ (old_pages pages : List (Option (List ℕ))) (table : List PageNo) (start count i : ℕ) (run : IsRun old_pages table start count) (so_far : IsGiven old_pages pages table start i) (below : i < count) where
  -- the next page is still taken
  pub is_taken-next : is_taken pages (page_in table (start + i)) ≡ true
  is_taken-next =
      let outside : IsOutside table start i (page_in table (start + i)) = λ k before e. absurd (omega (arith, before, run.apart i k below (omega arith) e)) in
      is_taken_same old_pages pages (page_in table (start + i)) (so_far.others _ outside) ∙ is_taken-held old_pages _ (run.held i below)

  -- the page is given back too
  pub IsGiven-more : free_count (set pages (page_in table (start + i)) None) ≡ free_count pages + 1 → IsGiven old_pages (set pages (page_in table (start + i)) None) table start (i + 1)
  IsGiven-more one_more = grind (arith, nat_tests, length-set, get_or-set_other)

-- ---- the table closes a gap

-- one entry was removed
pub IsClosed-one : (table new : List PageNo) (start count : ℕ) → count ≡ 1 → start < length table → length new + 1 ≡ length table → SameBelow table new start → ShiftedDown table new start → IsClosed table new start count
unfolding page_in
IsClosed-one table new start count one within shorter below down = grind (arith, nat_tests, cases_lt)

-- what lies behind a run was moved to its start, and the end was cut off
pub IsClosed-cut : (table moved new : List PageNo) (start count : ℕ) → start + count ≤ length table → (rest : ℕ) → rest ≡ length table - (start + count) → CopiedTo table moved (start + count) start rest → SameBelow table moved start → (left : ℕ) → left ≡ length table - count → SameBelow moved new left → length new + count ≡ length table → IsClosed table new start count
unfolding page_in
IsClosed-cut table moved new start count within rest all copied below left is cut shorter = grind (arith, nat_tests, cases_lt, here, nat_tests)
