-- How many pages are free, after one page has changed.
use Rattle.std.proofs.Common.{◌≡◌, ℕ, ◌+◌, ◌<◌, ◌≤◌, true, List, [], ◌∷◌, length, map, get_or, Option, Some, None, refl, arith}
use Rattle.std.specs.Prelude.{slice_set}
use Rattle.std.specs.Option.{is_none}
use Rattle.std.proofs.lemmas.List.Sums.{sum_by-set, sum_by-cons, count_by-le-length}
use Rattle.page_pool.specs.Pages.{free_count, is_taken}
use Rattle.page_pool.specs.Layout.{page_at}
use Rattle.std.proofs.lemmas.Bool.Decides.{nat_tests}

-- a free page is taken
pub free_count-take : (pages : List (Option (List ℕ))) (page : ℕ) (bytes : List ℕ) → page < length pages → get_or pages page None ≡ None → free_count (slice_set pages page (Some bytes)) + 1 ≡ free_count pages
unfolding free_count
free_count-take pages page bytes here free = grind (arith, nat_tests, sum_by-set)

-- a page given back is one free page more
pub free_count-give : (pages : List (Option (List ℕ))) (page : ℕ) → page < length pages → is_taken pages page ≡ true → free_count (slice_set pages page None) ≡ free_count pages + 1
unfolding free_count is_taken
free_count-give pages page here taken = grind (arith, nat_tests, sum_by-set)

-- a write to a taken page leaves as many free
pub free_count-write : (pages : List (Option (List ℕ))) (page : ℕ) (bytes : List ℕ) → page < length pages → is_taken pages page ≡ true → free_count (slice_set pages page (Some bytes)) ≡ free_count pages
unfolding free_count is_taken
free_count-write pages page bytes here taken = grind (arith, nat_tests, sum_by-set)

-- no more pages are free than there are
pub free_count-le-length : (pages : List (Option (List ℕ))) → free_count pages ≤ length pages
unfolding free_count
free_count-le-length pages = count_by-le-length is_none pages

-- where no page is listed none is free
pub free_count-unlisted : (bytes numbers : List ℕ) → free_count (map (page_at [] bytes) numbers) ≡ 0
unfolding free_count
free_count-unlisted bytes [] = refl
free_count-unlisted bytes (page ∷ rest) = grind (arith, nat_tests, sum_by-cons, free_count-unlisted bytes rest)
