-- A run of pages while a part is put into its bytes.
use Rattle.std.proofs.Common.{◌≡◌, ◌≢◌, ℕ, ◌+◌, ◌*◌, ◌-◌, ◌/◌, ◌%◌, ◌<◌, ◌≤◌, List, [], ◌++◌, length, set, take, drop, Some, ap, sym, subst, ◌∙◌, ◌⊎◌, inl, inr, arith, rules}
use Rattle.std.specs.Prelude.{Option}
use Rattle.std.proofs.Math.Seq.{take-add}
use Rattle.std.proofs.lemmas.Bool.{cases_eq}
use Rattle.std.proofs.lemmas.List.{get_or-set_other, length-append, length-set, length-take-le}
use Rattle.trade_base.specs.Bytes.{with_bytes}
use Rattle.trade_base.proofs.BytesLemmas.{length-with_bytes, with_bytes-nothing, with_bytes-more}
use Rattle.trade_base.specs.Word.{word_bytes}
use Rattle.trade_base.proofs.WordLemmas.{length-word_bytes}
use Rattle.page_pool.specs.declared.pool.PageNo.{PageNo}
use Rattle.page_pool.specs.Pages.{free_count, page_bytes}
use Rattle.dataspace_core.specs.Layout.{page_in, run_bytes, IsRun, IsWritten}
use Rattle.dataspace_core.proofs.RunLemmas.{held-lt-length, page_bytes-set_here, page_bytes-set_other, length-run_bytes}
use Rattle.dataspace_core.proofs.WalkLemmas.{IsInPage, length-lent}
use Rattle.dataspace_core.proofs.ByteLemmas.{joined_put, joined_piece}

-- a piece of a page is that piece of the run's bytes
pub run_piece : (pages : List (Option (List ℕ))) (table : List PageNo) (start count i from n : ℕ) → IsRun pages table start count → i < count → from + n ≤ 4096 → take n (drop (i * 4096 + from) (run_bytes pages table start count)) ≡ take n (drop from (page_bytes pages (page_in table (start + i))))
unfolding run_bytes
run_piece pages table start count i from n run below within = joined_piece _ count i from n run.held below within

-- two words
pub two_long : (first second : ℕ) → length (word_bytes first ++ word_bytes second) ≡ 16
two_long first second = length-append (word_bytes first) (word_bytes second) ∙ omega (arith, length-word_bytes first, length-word_bytes second)

-- before the first page is written
pub IsWritten-nothing : (pages : List (Option (List ℕ))) (table : List PageNo) (start count offset : ℕ) → IsRun pages table start count → IsWritten pages pages table start count offset []
IsWritten-nothing pages table start count offset run = search (rules, with_bytes-nothing)

-- a page is written next
module _ (old_pages pages : List (Option (List ℕ))) (table : List PageNo) (start count offset i from : ℕ) (part more : List ℕ) (run : IsRun old_pages table start count) (so_far : IsWritten old_pages pages table start count offset part) (below : i < count) (place : offset + length part ≡ i * 4096 + from) (fits : from + length more ≤ 4096) where
  -- the page that is written
  abbrev page : ℕ
  page = page_in table (start + i)

  -- the pages after the write
  abbrev written : List (Option (List ℕ))
  written = set pages page (Some (with_bytes (page_bytes pages page) from more))

  -- it has the new bytes
  new_bytes : page_bytes written page ≡ with_bytes (page_bytes pages page) from more
  new_bytes = page_bytes-set_here pages page _ (held-lt-length pages page (so_far.held i below))

  -- and the others have theirs
  old_bytes : (j : ℕ) → j < count → j ≢ i → page_bytes written (page_in table (start + j)) ≡ page_bytes pages (page_in table (start + j))
  old_bytes j before apart = page_bytes-set_other pages page (page_in table (start + j)) _ (λ e. apart (run.apart j i before below e))

  -- each page still has all its bytes
  still_held : (j : ℕ) → j < count → (j ≡ i) ⊎ (j ≢ i) → length (page_bytes written (page_in table (start + j))) ≡ 4096
  still_held j before (inl here) =
      ap (λ k. length (page_bytes written (page_in table (start + k)))) here ∙ ap length new_bytes
      ∙ length-with_bytes (page_bytes pages page) from more (omega (arith, so_far.held i below)) ∙ so_far.held i below
  still_held j before (inr apart) = ap length (old_bytes j before apart) ∙ so_far.held j before

  -- the bytes of the run after the write
  bytes_after : run_bytes written table start count ≡ with_bytes (run_bytes pages table start count) (i * 4096 + from) more
  unfolding run_bytes
  bytes_after = joined_put (λ j. page_bytes pages (page_in table (start + j))) (λ j. page_bytes written (page_in table (start + j))) count i from more so_far.held below fits new_bytes old_bytes

  -- more of the part is written
  pub IsWritten-more : free_count written ≡ free_count pages → IsWritten old_pages written table start count offset (part ++ more)
  IsWritten-more free = search (rules, length-set, still_held, cases_eq, bytes_after, with_bytes-more, length-run_bytes, get_or-set_other)

-- a step of the walk writes the part of what is written that lies on its page
pub IsWritten-step : (old_pages pages : List (Option (List ℕ))) (table : List PageNo) (start count offset done n : ℕ) (part : List ℕ) → IsRun old_pages table start count → IsInPage count (offset + done) n → done + n ≤ length part → IsWritten old_pages pages table start count offset (take done part) →
    let page = page_in table (start + (offset + done) / 4096) in
    let new_pages = set pages page (Some (with_bytes (page_bytes pages page) ((offset + done) % 4096) (take (done + n - done) (drop done part)))) in
    free_count new_pages ≡ free_count pages → IsWritten old_pages new_pages table start count offset (take (done + n) part)
IsWritten-step old_pages pages table start count offset done n part run here within so_far free = search (rules, length-lent, take-add, IsWritten-more, length-take-le)

-- a part is written into one page
pub IsWritten-part : (pages : List (Option (List ℕ))) (table : List PageNo) (start count offset : ℕ) (part : List ℕ) → IsRun pages table start count → IsInPage count offset (length part) →
    let page = page_in table (start + offset / 4096) in
    let new_pages = set pages page (Some (with_bytes (page_bytes pages page) (offset % 4096) part)) in
    free_count new_pages ≡ free_count pages → IsWritten pages new_pages table start count offset part
IsWritten-part pages table start count offset part run here free =
    IsWritten-more pages pages table start count offset (offset / 4096) (offset % 4096) [] part run (IsWritten-nothing pages table start count offset run) here.below
    (omega (arith, here.place)) here.fits free

-- a word is written into one page
pub IsWritten-word : (pages : List (Option (List ℕ))) (table : List PageNo) (start count offset word : ℕ) → IsRun pages table start count → IsInPage count offset 8 →
    let page = page_in table (start + offset / 4096) in
    let new_pages = set pages page (Some (with_bytes (page_bytes pages page) (offset % 4096) (word_bytes word))) in
    free_count new_pages ≡ free_count pages → IsWritten pages new_pages table start count offset (word_bytes word)
IsWritten-word pages table start count offset word run here free =
    IsWritten-part pages table start count offset (word_bytes word) run (rw (length-word_bytes word) here) free

-- a word more is written after a part of one page
pub IsWritten-word_more : (old_pages pages new_pages : List (Option (List ℕ))) (table : List PageNo) (start count offset : ℕ) (part : List ℕ) (word page at : ℕ) → IsRun old_pages table start count → IsWritten old_pages pages table start count offset part →
    IsInPage count offset (length part + 8) → page ≡ page_in table (start + offset / 4096) → at ≡ offset % 4096 + length part →
    new_pages ≡ set pages page (Some (with_bytes (page_bytes pages page) at (word_bytes word))) → free_count new_pages ≡ free_count pages →
    IsWritten old_pages new_pages table start count offset (part ++ word_bytes word)
IsWritten-word_more old_pages pages new_pages table start count offset part word page at run so_far here page_is at_is is free =
    let put : ℕ → ℕ → List (Option (List ℕ)) = λ p k. set pages p (Some (with_bytes (page_bytes pages p) k (word_bytes word))) in
    let there : new_pages ≡ put (page_in table (start + offset / 4096)) (offset % 4096 + length part) = is ∙ ap (λ p. put p at) page_is ∙ ap (put (page_in table (start + offset / 4096))) at_is in
    subst (λ p. IsWritten old_pages p table start count offset (part ++ word_bytes word)) (sym there)
    (IsWritten-more old_pages pages table start count offset (offset / 4096) (offset % 4096 + length part) part (word_bytes word) run so_far here.below
    (omega (arith, here.place)) (omega (arith, here.fits, length-word_bytes word)) (subst (λ p. free_count p ≡ free_count pages) there free))
