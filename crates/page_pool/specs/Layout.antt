-- How the pages lie in the pool: page after page, and in the free pages the links of their list.
use Rattle.std.specs.Prelude.{◌≡◌, ℕ, zero, suc, ◌+◌, ◌*◌, ◌/◌, ◌<◌, ◌≤◌, ◌==◌, Bool, true, false, ◌||◌, ◌&&◌, not, if◌then◌else◌, List, [], ◌∷◌, ◌++◌, length, map, Option, Some, None, slice_range}
use Rattle.std.specs.List.{range_with_len}
use Rattle.trade_base.specs.Word.{word_of}
use Rattle.page_pool.specs.Pages.{fresh_pages, free_count}

-- whether a number is in the list
abbrev pub is_listed : List ℕ → ℕ → Bool
is_listed [] page = false
is_listed (first ∷ rest) page = page == first || is_listed rest page

-- whether no number stands twice in the list
abbrev pub has_no_repeat : List ℕ → Bool
has_no_repeat [] = true
has_no_repeat (first ∷ rest) = not (is_listed rest first) && has_no_repeat rest

-- the word at a place
unfoldable pub word_at : List ℕ → ℕ → ℕ
word_at bytes start = word_of (slice_range bytes start (start + 8))

-- the free pages in the bytes, of which there are so many: the head is the last of the list, and each begins with
-- the number of the one before it
abbrev pub linked : List ℕ → ℕ → ℕ → List ℕ
linked bytes zero head = []
linked bytes (suc count) head = linked bytes count (word_at bytes (head * 4096)) ++ head ∷ []

-- how many pages the bytes are
abbrev pub page_count : List ℕ → ℕ
page_count bytes = length bytes / 4096

-- the bytes of a page in the bytes of all
abbrev pub bytes_at : List ℕ → ℕ → List ℕ
bytes_at bytes page = slice_range bytes (page * 4096) (page * 4096 + 4096)

-- a page, where the free ones are listed
abbrev pub page_at : List ℕ → List ℕ → ℕ → Option (List ℕ)
page_at free bytes page = if is_listed free page then None else Some (bytes_at bytes page)

-- every page that has been handed out once
unfoldable pub pages_of : List ℕ → List ℕ → List (Option (List ℕ))
pages_of free bytes = map (page_at free bytes) (range_with_len 0 (page_count bytes))

-- what is true of the pages that have been handed out once
pub record IsLaidOut (free bytes : List ℕ) : Type 0 where
  -- the bytes are those of whole pages, at most 4096 of them
  pub whole : length bytes ≡ page_count bytes * 4096
  pub few : page_count bytes ≤ 4096
  -- each free page is there, and listed once
  pub in_range : (page : ℕ) → is_listed free page ≡ true → page < page_count bytes
  pub once : has_no_repeat free ≡ true
  -- as many are listed as are free
  pub counted : free_count (pages_of free bytes) ≡ length free

-- every page: after those of the bytes come so many that have never been handed out
abbrev pub pool_of : List ℕ → List ℕ → ℕ → List (Option (List ℕ))
pool_of free bytes fresh = pages_of free bytes ++ fresh_pages fresh

-- what is true of a pool between calls, which has room for so many bytes
pub record IsPool (free bytes : List ℕ) (fresh size : ℕ) : Type 0 where
  pub laid : IsLaidOut free bytes
  -- there is room for the pages that have never been handed out
  pub room : length bytes + fresh * 4096 ≤ size
  pub few : page_count bytes + fresh ≤ 4096
