-- The pages of a pool as its callers see them: for each page by its number None if it is free, its bytes where
-- it is taken.
use Rattle.std.specs.Prelude.{ℕ, Bool, List, [], Option, None, is_some, unwrap_or, replicate, slice_index_or, count_by}
use Rattle.std.specs.Option.{is_none}

-- pages that are all free
abbrev pub fresh_pages : ℕ → List (Option (List ℕ))
fresh_pages count = replicate count None

-- how many pages are free
unfoldable pub free_count : List (Option (List ℕ)) → ℕ
free_count pages = count_by is_none pages

-- whether a page is there and taken
unfoldable pub is_taken : List (Option (List ℕ)) → ℕ → Bool
is_taken pages page = is_some (slice_index_or pages page None)

-- the bytes of a taken page
unfoldable pub page_bytes : List (Option (List ℕ)) → ℕ → List ℕ
page_bytes pages page = unwrap_or (slice_index_or pages page None) []

-- a page that is all zero
unfoldable pub zero_page : List ℕ
zero_page = replicate 4096 0
