-- Laws for callers: the pages of a pool after a change.
use Rattle.std.proofs.Common.{◌≡◌, ℕ, ◌<◌, true, false, cond, eqb, ◌||◌, ◌&&◌, not, List, [], length, get_or, Option, Some, None, ap, arith}
use Rattle.std.specs.Prelude.{slice_get, slice_set, is_some}
use Rattle.std.proofs.lemmas.List.{get_or-set_same, get_or-set_other, get_or-replicate, get_or_past, length-replicate, set_past}
use Rattle.std.proofs.lemmas.Option.{slice_get_within, get_or_from_slice_get}
use Rattle.std.proofs.lemmas.Bool.{cases_lt, cases_eq}
use Rattle.std.proofs.lemmas.Bool.Decides.{nat_tests}
use Rattle.trade_base.proofs.BytesLemmas.{length-with_bytes}
use Rattle.page_pool.specs.Pages.{fresh_pages, is_taken, page_bytes, zero_page}

-- what stands at a place after a change
get_or-set_there : (pages : List (Option (List ℕ))) (page other : ℕ) (value : Option (List ℕ)) → page < length pages → get_or (slice_set pages page value) other None ≡ cond (eqb other page) value (get_or pages other None)
get_or-set_there pages page other value here = grind (arith, nat_tests, get_or-set_same, get_or-set_other, cases_eq)

get_or-set_none : (pages : List (Option (List ℕ))) (page other : ℕ) → get_or (slice_set pages page None) other None ≡ cond (eqb other page) None (get_or pages other None)
get_or-set_none pages page other = grind (arith, nat_tests, get_or-set_there, set_past, get_or_past, cases_eq, cases_lt)

-- a taken page is there
pub is_taken-lt-length : (pages : List (Option (List ℕ))) (page : ℕ) → is_taken pages page ≡ true → page < length pages
unfolding is_taken
is_taken-lt-length pages page taken = grind (arith, get_or_past)

-- a free page is there, and isn't taken
pub free_page-lt-length : (pages : List (Option (List ℕ))) (page : ℕ) → slice_get pages page ≡ Some None → page < length pages
free_page-lt-length pages page free = slice_get_within pages page None free

pub is_taken-free_page : (pages : List (Option (List ℕ))) (page : ℕ) → slice_get pages page ≡ Some None → is_taken pages page ≡ false
unfolding is_taken
is_taken-free_page pages page free = ap is_some (get_or_from_slice_get pages page None None free)

-- once a free page is taken, those are taken that were, and it
pub is_taken-set_free : (pages : List (Option (List ℕ))) (page other : ℕ) (bytes : List ℕ) → slice_get pages page ≡ Some None → is_taken (slice_set pages page (Some bytes)) other ≡ (eqb other page || is_taken pages other)
unfolding is_taken
is_taken-set_free pages page other bytes free = let e = get_or-set_there pages page other (Some bytes) (free_page-lt-length pages page free) in grind (arith, nat_tests, e)

-- a write leaves taken what is taken
pub is_taken-set_taken : (pages : List (Option (List ℕ))) (page other : ℕ) (bytes : List ℕ) → is_taken pages page ≡ true → is_taken (slice_set pages page (Some bytes)) other ≡ is_taken pages other
unfolding is_taken
is_taken-set_taken pages page other bytes taken = grind (arith, nat_tests, get_or-set_same, is_taken-lt-length, get_or-set_other, cases_eq)

-- once a page is given back, the others are taken that were
pub is_taken-set_none : (pages : List (Option (List ℕ))) (page other : ℕ) → is_taken (slice_set pages page None) other ≡ (not (eqb other page) && is_taken pages other)
unfolding is_taken
is_taken-set_none pages page other = let e = get_or-set_none pages page other in grind (arith, nat_tests, e)

-- the bytes of a page that was taken, of one that was written, and of the others
pub page_bytes-set_free : (pages : List (Option (List ℕ))) (page other : ℕ) (bytes : List ℕ) → slice_get pages page ≡ Some None → page_bytes (slice_set pages page (Some bytes)) other ≡ cond (eqb other page) bytes (page_bytes pages other)
unfolding page_bytes
page_bytes-set_free pages page other bytes free = let e = get_or-set_there pages page other (Some bytes) (free_page-lt-length pages page free) in grind (arith, nat_tests, e)

pub page_bytes-set_taken : (pages : List (Option (List ℕ))) (page other : ℕ) (bytes : List ℕ) → is_taken pages page ≡ true → page_bytes (slice_set pages page (Some bytes)) other ≡ cond (eqb other page) bytes (page_bytes pages other)
unfolding page_bytes
page_bytes-set_taken pages page other bytes taken = let e = get_or-set_there pages page other (Some bytes) (is_taken-lt-length pages page taken) in grind (arith, nat_tests, e)

pub page_bytes-set_none : (pages : List (Option (List ℕ))) (page other : ℕ) → page_bytes (slice_set pages page None) other ≡ cond (eqb other page) [] (page_bytes pages other)
unfolding page_bytes
page_bytes-set_none pages page other = let e = get_or-set_none pages page other in grind (arith, nat_tests, e)

-- no page of a new pool is taken
pub is_taken-fresh_pages : (count page : ℕ) → is_taken (fresh_pages count) page ≡ false
unfolding is_taken
is_taken-fresh_pages count page = grind (arith, get_or-replicate, get_or_past, length-replicate, cases_lt page count)

pub length-zero_page : length zero_page ≡ 4096
unfolding zero_page
length-zero_page = length-replicate {A = ℕ} 4096 0

-- all of them, for `grind`
pub ruleset page_laws = (nat_tests, is_taken-free_page, is_taken-set_free, is_taken-set_taken, is_taken-set_none, page_bytes-set_free, page_bytes-set_taken, page_bytes-set_none, is_taken-fresh_pages, length-zero_page, length-with_bytes)
