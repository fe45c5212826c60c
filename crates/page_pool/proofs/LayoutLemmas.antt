-- The pages, and where each lies in the bytes.
use Rattle.std.proofs.Common.{◌≡◌, ◌≢◌, ℕ, ◌+◌, ◌*◌, ◌<◌, ◌≤◌, true, false, List, [], ◌∷◌, ◌++◌, length, get_or, Option, None, ⊎_elim, ◌/◌, sym, ap, arith, ◌∙◌}
use Rattle.std.specs.Prelude.{slice_set}
use Rattle.std.proofs.lemmas.List.{same_lists, get_or-set_same, get_or-set_other, get_or_past, length-set}
use Rattle.std.proofs.lemmas.List.FromFn.{get_or-map-range_with_len, length-map-range_with_len}
use Rattle.std.proofs.lemmas.Bool.{cases_eq, cases_lt}
use Rattle.std.proofs.lemmas.Bool.Decides.{nat_tests}
use Rattle.trade_base.specs.Bytes.{with_bytes}
use Rattle.trade_base.proofs.BytesLemmas.{length-slice_range}
use Rattle.page_pool.specs.Pages.{is_taken, page_bytes}
use Rattle.page_pool.specs.Layout.{is_listed, page_count, bytes_at, page_at, pages_of, IsLaidOut}
use Rattle.page_pool.proofs.NumberLemmas.{is_listed-push}
use Rattle.page_pool.proofs.ByteLemmas.{range_before_part, range_after_part}

-- there are as many pages as the bytes are
pub length-pages_of : (free bytes : List ℕ) → length (pages_of free bytes) ≡ page_count bytes
unfolding pages_of
length-pages_of free bytes = length-map-range_with_len (page_at free bytes) 0 (page_count bytes)

-- at its number each page is found
pub get_or-pages_of : (free bytes : List ℕ) (page : ℕ) (d : Option (List ℕ)) → page < page_count bytes → get_or (pages_of free bytes) page d ≡ page_at free bytes page
unfolding pages_of
get_or-pages_of free bytes page d here = get_or-map-range_with_len (page_at free bytes) 0 (page_count bytes) page page d here (omega arith)

-- one page is another, and the others are as they were
pub pages_of-set : (free free' bytes bytes' : List ℕ) (page : ℕ) (value : Option (List ℕ)) → length bytes' ≡ length bytes → page < page_count bytes → page_at free' bytes' page ≡ value → ((other : ℕ) → other < page_count bytes → other ≢ page → page_at free' bytes' other ≡ page_at free bytes other) → pages_of free' bytes' ≡ slice_set (pages_of free bytes) page value
pages_of-set free free' bytes bytes' page value same here there others =
    let long : length (pages_of free' bytes') ≡ length (slice_set (pages_of free bytes) page value) =
    length-pages_of free' bytes' ∙ ap (λ n. n / 4096) same ∙ sym (length-pages_of free bytes) ∙ sym (length-set (pages_of free bytes) page value) in
    same_lists _ _ long (λ k d h.
    let inside : k < page_count bytes = rw (length-pages_of free' bytes', same) at h in
    let inside' : k < page_count bytes' = rw same inside in
    let before = get_or-pages_of free bytes k d inside in
    let after = get_or-pages_of free' bytes' k d inside' in
    let count = length-pages_of free bytes in
    ⊎_elim
    (λ (e : k ≡ page). after ∙ rw e (there ∙ sym (get_or-set_same (pages_of free bytes) page value d (rw count here))))
    (λ (ne : k ≢ page). after ∙ others k inside ne ∙ sym before ∙ sym (get_or-set_other (pages_of free bytes) page k value d ne))
    (cases_eq k page))

-- a taken page is one of the pool's, and isn't listed
pub record IsHeld (free bytes : List ℕ) (page : ℕ) : Type 0 where
  -- the page is one of the pool's
  pub here : page < page_count bytes
  -- and isn't listed as free
  pub unlisted : is_listed free page ≡ false

-- a page that is taken is held
pub IsHeld-from_taken : (free bytes : List ℕ) (page : ℕ) → is_taken (pages_of free bytes) page ≡ true → IsHeld free bytes page
unfolding is_taken
IsHeld-from_taken free bytes page taken =
    let count = length-pages_of free bytes in
    let here : page < page_count bytes = grind (arith, get_or_past, count) in
    let e = get_or-pages_of free bytes page None here in
    record { here = here; unlisted = grind (arith, e) }

-- the bytes of a held page, which are all there
pub page_bytes-pages_of : (free bytes : List ℕ) (page : ℕ) → IsHeld free bytes page → page_bytes (pages_of free bytes) page ≡ bytes_at bytes page
unfolding page_bytes
page_bytes-pages_of free bytes page held =
    let at = get_or-pages_of free bytes page None held.here in
    let u = held.unlisted in
    grind (arith, at, u)

-- each page has 4096 bytes
pub length-bytes_at : (bytes : List ℕ) (page : ℕ) → length bytes ≡ page_count bytes * 4096 → page < page_count bytes → length (bytes_at bytes page) ≡ 4096
length-bytes_at bytes page whole here = length-slice_range bytes (page * 4096) 4096 (omega arith)

-- bytes put into one page leave the others
pub bytes_at_other : (bytes part : List ℕ) (page other offset : ℕ) → length bytes ≡ page_count bytes * 4096 → page < page_count bytes → offset + length part ≤ 4096 → other ≢ page → bytes_at (with_bytes bytes (page * 4096 + offset) part) other ≡ bytes_at bytes other
bytes_at_other bytes part page other offset whole here fits apart = grind (arith, nat_tests, range_before_part, range_after_part, cases_lt)

-- where a page lies in the bytes
pub record LiesIn (bytes : List ℕ) (page : ℕ) : Type 0 where
  -- the page ends within the bytes
  pub inside : page * 4096 + 4096 ≤ length bytes
  -- the bytes are those of 4096 pages at most
  pub small : length bytes ≤ 4096 * 4096

-- the page that is listed last lies in the bytes
pub LiesIn-from_listed : (free rest bytes : List ℕ) (page : ℕ) → IsLaidOut free bytes → free ≡ rest ++ page ∷ [] → LiesIn bytes page
LiesIn-from_listed free rest bytes page laid last =
    let whole = laid.whole in
    let few = laid.few in
    let l = is_listed-push rest page page in
    let listed : is_listed free page ≡ true = rw last (grind (arith, nat_tests, l)) in
    let here = laid.in_range page listed in
    record { inside = omega arith; small = omega arith }

-- so does a page that is taken
pub LiesIn-from_taken : (free bytes : List ℕ) (pages : List (Option (List ℕ))) (page : ℕ) → IsLaidOut free bytes → pages_of free bytes ≡ pages → is_taken pages page ≡ true → LiesIn bytes page
LiesIn-from_taken free bytes pages page laid view taken =
    let whole = laid.whole in
    let few = laid.few in
    let held = IsHeld-from_taken free bytes page (rw view taken) in
    let here = held.here in
    record { inside = omega arith; small = omega arith }
