-- What each call makes of a pool, behind whose pages come some that have never been handed out.
use Rattle.std.proofs.Common.{◌≡◌, ◌≢◌, ℕ, suc, ◌+◌, ◌-◌, ◌*◌, ◌/◌, ◌<◌, ◌≤◌, ◌^◌, true, List, [], ◌∷◌, ◌++◌, length, get_or, Option, Some, None, ⊎_elim, refl, sym, ap, arith, rules, ◌∙◌}
use Rattle.std.specs.Prelude.{slice_set, slice_get, slice_range, replicate}
use Rattle.std.proofs.lemmas.List.{same_lists, places, length-replicate, length-append, get_or-replicate, get_or-append_right, get_or_append_left, get_or_past, set-append_left, append_assoc}
use Rattle.std.proofs.Math.Seq.{set-append_seam, get_or-append_seam}
use Rattle.std.proofs.lemmas.List.Sums.{sum_by-append}
use Rattle.std.proofs.lemmas.List.Folds.{sum_by-replicate}
use Rattle.std.proofs.lemmas.Option.{slice_get-get_or, get_or_from_slice_get, slice_get_within}
use Rattle.std.proofs.lemmas.Bool.{cases_lt}
use Rattle.std.proofs.lemmas.Bool.Decides.{nat_tests}
use Rattle.trade_base.specs.Bytes.{with_bytes}
use Rattle.trade_base.specs.Word.{word_bytes}
use Rattle.trade_base.proofs.BytesLemmas.{length-with_bytes, length-slice_range}
use Rattle.trade_base.proofs.WordLemmas.{length-word_bytes}
use Rattle.page_pool.specs.Pages.{fresh_pages, free_count, is_taken, page_bytes, zero_page}
use Rattle.page_pool.specs.Layout.{word_at, linked, page_count, bytes_at, pages_of, pool_of, IsLaidOut, IsPool}
use Rattle.page_pool.proofs.PageLaws.{length-zero_page, is_taken-lt-length}
use Rattle.page_pool.proofs.CountLemmas.{free_count-le-length}
use Rattle.page_pool.proofs.LinkLemmas.{length-linked}
use Rattle.page_pool.proofs.LayoutLemmas.{LiesIn, LiesIn-from_taken, length-pages_of, get_or-pages_of}
use Rattle.page_pool.proofs.CallLemmas.{Reads, LiesIn-from_head, take_page, give_page, read_part, write_page, taken_pages}

-- behind the pages come so many that have never been handed out
module _ (used : List (Option (List ℕ))) (fresh : ℕ) where
  -- they are free
  pub free_count-behind : free_count (used ++ fresh_pages fresh) ≡ free_count used + fresh
  unfolding free_count
  free_count-behind = grind (arith, nat_tests, sum_by-append, sum_by-replicate)

  -- none of them is taken
  pub is_taken-front : (page : ℕ) → is_taken (used ++ fresh_pages fresh) page ≡ is_taken used page
  unfolding is_taken
  is_taken-front page = grind (arith, nat_tests, cases_lt, get_or_append_left, get_or-append_right, get_or-replicate, get_or_past, length-replicate)

  -- and none has bytes
  pub page_bytes-front : (page : ℕ) → page_bytes (used ++ fresh_pages fresh) page ≡ page_bytes used page
  unfolding page_bytes
  page_bytes-front page = grind (arith, nat_tests, cases_lt, get_or_append_left, get_or-append_right, get_or-replicate, get_or_past, length-replicate)

-- a part put into a page leaves as many bytes
same_length : (bytes bytes' part : List ℕ) (at : ℕ) → at + length part ≤ length bytes → bytes' ≡ with_bytes bytes at part → length bytes' ≡ length bytes
same_length bytes bytes' part at fits change = ap length change ∙ length-with_bytes bytes at part fits

-- as many bytes are still those of a pool
still_pool : (free free' bytes bytes' : List ℕ) (fresh room room' : ℕ) → IsPool free bytes fresh room → IsLaidOut free' bytes' → length bytes' ≡ length bytes → room ≤ room' → IsPool free' bytes' fresh room'
still_pool free free' bytes bytes' fresh room room' pool laid same more =
    let few = pool.few in let fits = pool.room in record { laid = laid; room = omega (arith, same); few = rw same few }

-- no more pages are linked than there are
pub linked_are_few : (bytes : List ℕ) (count head fresh room : ℕ) → IsPool (linked bytes count head) bytes fresh room → count ≤ 4096
linked_are_few bytes count head fresh room pool =
    let counted = pool.laid.counted in let few = pool.laid.few in
    let most = free_count-le-length (pages_of (linked bytes count head) bytes) in
    let there = length-pages_of (linked bytes count head) bytes in
    let listed = length-linked bytes count head in
    omega (arith, counted, few, most, there, listed)

-- as many are free as are linked, and have never been handed out
pub free_in_pool : (bytes : List ℕ) (count head fresh room : ℕ) → IsPool (linked bytes count head) bytes fresh room → free_count (pool_of (linked bytes count head) bytes fresh) ≡ count + fresh
free_in_pool bytes count head fresh room pool =
    free_count-behind (pages_of (linked bytes count head) bytes) fresh ∙ ap (λ n. n + fresh) (pool.laid.counted ∙ length-linked bytes count head)

-- with room for them, pages of which none has been handed out are a pool
pub fresh_pool : (bytes : List ℕ) (fresh room : ℕ) → bytes ≡ [] → fresh ≤ 4096 → fresh * 4096 ≡ room → IsPool [] bytes fresh room
fresh_pool bytes fresh room none few fits =
    let empty : length bytes ≡ 0 * 4096 = rw none refl in
    let counted : page_count bytes ≡ 0 = omega (arith, empty) in
    record { laid = (taken_pages bytes 0 (omega arith) empty).layout; room = omega (arith, fits, empty); few = omega (arith, counted, few) }

pub fresh_view : (bytes : List ℕ) (fresh : ℕ) → bytes ≡ [] → pool_of [] bytes fresh ≡ fresh_pages fresh
unfolding pages_of
fresh_view bytes fresh none = rw none refl

pub fresh_count : (fresh : ℕ) → free_count (fresh_pages fresh) ≡ fresh
unfolding pages_of
fresh_count fresh = let all = free_count-behind [] fresh in let none : free_count [] ≡ 0 = (taken_pages [] 0 (omega arith) refl).count in grind (arith, all, none)

-- a taken page lies in the bytes
pub LiesIn-in_pool : (free bytes : List ℕ) (fresh room : ℕ) (pages : List (Option (List ℕ))) (page : ℕ) → IsPool free bytes fresh room → pool_of free bytes fresh ≡ pages → is_taken pages page ≡ true → LiesIn bytes page
LiesIn-in_pool free bytes fresh room pages page pool view taken =
    LiesIn-from_taken free bytes (pages_of free bytes) page pool.laid refl (sym (is_taken-front (pages_of free bytes) fresh page) ∙ rw view taken)

-- what a page handed out makes of a pool
pub record PoolTook (free' bytes' : List ℕ) (fresh' room : ℕ) (pages : List (Option (List ℕ))) (page : ℕ) : Type 0 where
  -- it is still one
  pub pool : IsPool free' bytes' fresh' room
  -- the page was free
  pub was_free : slice_get pages page ≡ Some None
  -- it is all zeros now, and the others stay
  pub cleared : pool_of free' bytes' fresh' ≡ slice_set pages page (Some zero_page)
  -- one page less is free
  pub count : free_count (pool_of free' bytes' fresh') + 1 ≡ free_count pages

-- the head is handed out once it is cleared
pub take_head : (bytes bytes' : List ℕ) (count page fresh room room' : ℕ) (pages : List (Option (List ℕ))) → IsPool (linked bytes count page) bytes fresh room → pool_of (linked bytes count page) bytes fresh ≡ pages → count ≢ 0 → bytes' ≡ with_bytes bytes (page * 4096) zero_page → room ≤ room' →
    PoolTook (linked bytes' (count - 1) (word_at bytes (page * 4096))) bytes' fresh room' pages page
take_head bytes bytes' count page fresh room room' pages pool view some change more =
    let free = linked bytes count page in
    let used = pages_of free bytes in
    let took = take_page bytes bytes' count page used pool.laid refl some change in
    let lies = LiesIn-from_head bytes count page pool.laid some in
    let inside = lies.inside in
    let here : page < length used = slice_get_within used page None took.was_free in
    let front : get_or used page None ≡ None = get_or_from_slice_get used page None None took.was_free in
    let long = length-append used (fresh_pages fresh) in
    record {
      pool = still_pool free _ bytes bytes' fresh room room' pool took.layout (same_length bytes bytes' zero_page (page * 4096) (omega (arith, length-zero_page)) change) more;
      was_free = rw (← view) (slice_get-get_or (used ++ fresh_pages fresh) page None (omega (arith, long)) ∙ ap Some (get_or_append_left used (fresh_pages fresh) None page here ∙ front));
      cleared = rw (← view) (ap (λ u. u ++ fresh_pages fresh) took.cleared ∙ sym (set-append_left used (fresh_pages fresh) page (Some zero_page) here));
      count = rw (← view) (let a = free_count-behind used fresh in let b = free_count-behind (pages_of (linked bytes' (count - 1) (word_at bytes (page * 4096))) bytes') fresh in let c = took.count in omega (arith, a, b, c));
    }

-- a page of zeros behind the bytes leaves the pages before it, and is one
bytes_at-front : (bytes : List ℕ) (page : ℕ) → page * 4096 + 4096 ≤ length bytes → bytes_at (bytes ++ zero_page) page ≡ bytes_at bytes page
bytes_at-front bytes page inside = same_lists _ _ (search (rules, places)) (λ k d h. grind (arith, places))

bytes_at-last : (bytes : List ℕ) (page : ℕ) → page * 4096 ≡ length bytes → bytes_at (bytes ++ zero_page) page ≡ zero_page
bytes_at-last bytes page end = let long = length-zero_page in same_lists _ _ (search (rules, places)) (λ k d h. grind (arith, places))

pages_of-push : (bytes : List ℕ) → length bytes ≡ page_count bytes * 4096 → pages_of [] (bytes ++ zero_page) ≡ pages_of [] bytes ++ Some zero_page ∷ []
pages_of-push bytes whole =
    let used = pages_of [] bytes in
    let there : length used ≡ page_count bytes = length-pages_of [] bytes in
    let more : page_count (bytes ++ zero_page) ≡ page_count bytes + 1 = let long = length-append bytes zero_page in let page = length-zero_page in omega (arith, long, page, whole) in
    let now : length (pages_of [] (bytes ++ zero_page)) ≡ page_count bytes + 1 = length-pages_of [] (bytes ++ zero_page) ∙ more in
    let long = length-append used (Some zero_page ∷ []) in
    same_lists _ _ (omega (arith, now, long, there)) (λ k d h.
    let below : k < page_count bytes + 1 = omega (arith, h, now) in
    let at = get_or-pages_of [] (bytes ++ zero_page) k d (omega (arith, below, more)) in
    ⊎_elim
    (λ (front : k < page_count bytes). at ∙ ap Some (bytes_at-front bytes k (omega (arith, front, whole))) ∙ sym (get_or-pages_of [] bytes k d front) ∙ sym (get_or_append_left used (Some zero_page ∷ []) d k (omega (arith, front, there))))
    (λ (back : page_count bytes ≤ k). let last : k ≡ page_count bytes = omega (arith, back, below) in
    at ∙ ap Some (bytes_at-last bytes k (omega (arith, last, whole))) ∙ sym (rw (last ∙ sym there) (get_or-append_seam used (Some zero_page) [] d)))
    (cases_lt k (page_count bytes)))

-- the first of those that have never been handed out is one of them
set-next : (used : List (Option (List ℕ))) (page fresh : ℕ) (value : Option (List ℕ)) → page ≡ length used → fresh ≢ 0 → slice_set (used ++ fresh_pages fresh) page value ≡ (used ++ value ∷ []) ++ fresh_pages (fresh - 1)
set-next used page fresh value at some =
    let one : fresh ≡ suc (fresh - 1) = omega (arith, some) in
    ap (λ n. slice_set (used ++ fresh_pages n) page value) one ∙ ap (λ n. slice_set (used ++ None ∷ fresh_pages (fresh - 1)) n value) at
    ∙ set-append_seam used None (fresh_pages (fresh - 1)) value ∙ sym (append_assoc used (value ∷ []) (fresh_pages (fresh - 1)))

get-next : (used : List (Option (List ℕ))) (page fresh : ℕ) → page ≡ length used → fresh ≢ 0 → slice_get (used ++ fresh_pages fresh) page ≡ Some None
get-next used page fresh at some =
    let long = length-append used (fresh_pages fresh) in
    let many = length-replicate {A = Option (List ℕ)} fresh None in
    slice_get-get_or (used ++ fresh_pages fresh) page None (omega (arith, long, many, at, some))
    ∙ ap Some (get_or-append_right used (fresh_pages fresh) (length used) page None refl (omega (arith, at)) ∙ get_or-replicate fresh (page - length used) None None (omega (arith, at, some)))

-- so many zeros are a page of them
pub zero_page_behind : (bytes : List ℕ) → bytes ++ replicate 4096 0 ≡ bytes ++ zero_page
unfolding zero_page
zero_page_behind bytes = refl

-- a page is handed out that has never been
pub take_next : (bytes bytes' : List ℕ) (count head page fresh room room' : ℕ) (pages : List (Option (List ℕ))) → IsPool (linked bytes count head) bytes fresh room → pool_of (linked bytes count head) bytes fresh ≡ pages → count ≡ 0 → fresh ≢ 0 → page ≡ length bytes / 4096 → bytes' ≡ bytes ++ zero_page → room ≤ room' →
    PoolTook (linked bytes' count head) bytes' (fresh - 1) room' pages page
take_next bytes bytes' count head page fresh room room' pages pool view none some at more wider =
    let nothing : (bs : List ℕ) → linked bs count head ≡ [] = λ bs. rw none refl in
    let few = pool.few in
    let fits = pool.room in
    let whole = pool.laid.whole in
    let used = pages_of [] bytes in
    let view' : used ++ fresh_pages fresh ≡ pages = rw (nothing bytes) at view in
    let here : page ≡ length used = at ∙ sym (length-pages_of [] bytes) in
    let pushed : pages_of [] bytes' ≡ used ++ Some zero_page ∷ [] = rw more (pages_of-push bytes whole) in
    let long : length bytes' ≡ (page_count bytes + 1) * 4096 = let l = length-append bytes zero_page in let z = length-zero_page in rw more (omega (arith, l, z, whole)) in
    let counted : page_count bytes' ≡ page_count bytes + 1 = omega (arith, long) in
    let all = taken_pages bytes' (page_count bytes + 1) (omega (arith, few, some)) long in
    let e : pool_of [] bytes' (fresh - 1) ≡ slice_set (used ++ fresh_pages fresh) page (Some zero_page) = rw pushed (sym (set-next used page fresh (Some zero_page) here some)) in
    let before = free_count-behind used fresh in
    let after = free_count-behind (pages_of [] bytes') (fresh - 1) in
    let old : free_count used ≡ 0 = (taken_pages bytes (page_count bytes) (omega (arith, few)) whole).count in
    let new = all.count in
    rw (nothing bytes', ← view') (record {
      pool = record { laid = all.layout; room = omega (arith, long, fits, whole, some, wider); few = omega (arith, counted, few, some) };
      was_free = get-next used page fresh here some;
      cleared = e;
      count = omega (arith, before, after, old, new, some);
    })

-- what a page given back makes of a pool
pub record PoolGave (free' bytes' : List ℕ) (fresh room : ℕ) (pages : List (Option (List ℕ))) (page : ℕ) : Type 0 where
  -- it is still one
  pub pool : IsPool free' bytes' fresh room
  -- the page is free now, and the others stay
  pub freed : pool_of free' bytes' fresh ≡ slice_set pages page None
  -- one page more is free
  pub count : free_count (pool_of free' bytes' fresh) ≡ free_count pages + 1

-- a taken page is given back once the head is written into it and it is the new head
pub give_taken : (bytes bytes' : List ℕ) (count head page fresh room room' : ℕ) (pages : List (Option (List ℕ))) → IsPool (linked bytes count head) bytes fresh room → pool_of (linked bytes count head) bytes fresh ≡ pages → is_taken pages page ≡ true → head < 2 ^ 64 → bytes' ≡ with_bytes bytes (page * 4096) (word_bytes head) → room ≤ room' →
    PoolGave (linked bytes' (count + 1) page) bytes' fresh room' pages page
give_taken bytes bytes' count head page fresh room room' pages pool view taken small change more =
    let free = linked bytes count head in
    let used = pages_of free bytes in
    let mine : is_taken used page ≡ true = sym (is_taken-front used fresh page) ∙ rw view taken in
    let gave = give_page bytes bytes' count head page used pool.laid refl mine small change in
    let lies = LiesIn-from_taken free bytes used page pool.laid refl mine in
    let inside = lies.inside in
    let here : page < length used = is_taken-lt-length used page mine in
    record {
      pool = still_pool free _ bytes bytes' fresh room room' pool gave.layout (same_length bytes bytes' (word_bytes head) (page * 4096) (omega (arith, length-word_bytes head)) change) more;
      freed = rw (← view) (ap (λ u. u ++ fresh_pages fresh) gave.freed ∙ sym (set-append_left used (fresh_pages fresh) page None here));
      count = rw (← view) (let a = free_count-behind used fresh in let b = free_count-behind (pages_of (linked bytes' (count + 1) page) bytes') fresh in let c = gave.count in omega (arith, a, b, c));
    }

-- any part of a taken page can be read at its place in the bytes
pub read_taken : (free bytes : List ℕ) (fresh room : ℕ) (pages : List (Option (List ℕ))) (page offset count : ℕ) → IsPool free bytes fresh room → pool_of free bytes fresh ≡ pages → is_taken pages page ≡ true → offset + count ≤ 4096 → Reads bytes pages page offset count
read_taken free bytes fresh room pages page offset count pool view taken fits =
    let used = pages_of free bytes in
    let reads = read_part free bytes used page offset count pool.laid refl (sym (is_taken-front used fresh page) ∙ rw view taken) fits in
    let same : page_bytes pages page ≡ page_bytes used page = rw (← view) (page_bytes-front used fresh page) in
    record { part = rw same reads.part; size = rw same reads.size }

-- what a write makes of a pool
pub record PoolWrote (free' bytes' : List ℕ) (fresh room : ℕ) (pages : List (Option (List ℕ))) (page offset : ℕ) (part : List ℕ) : Type 0 where
  -- it is still one
  pub pool : IsPool free' bytes' fresh room
  -- the page has the part in it, and the others stay
  pub written : pool_of free' bytes' fresh ≡ slice_set pages page (Some (with_bytes (page_bytes pages page) offset part))
  -- the page had all its bytes
  pub size : length (page_bytes pages page) ≡ 4096
  -- as many pages are free as before
  pub count : free_count (pool_of free' bytes' fresh) ≡ free_count pages

-- a part put at a taken page's place in the bytes is written to that page alone
pub write_taken : (bytes bytes' : List ℕ) (count head fresh room room' : ℕ) (pages : List (Option (List ℕ))) (page offset : ℕ) (part : List ℕ) → IsPool (linked bytes count head) bytes fresh room → pool_of (linked bytes count head) bytes fresh ≡ pages → is_taken pages page ≡ true → offset + length part ≤ 4096 → bytes' ≡ with_bytes bytes (page * 4096 + offset) part → room ≤ room' →
    PoolWrote (linked bytes' count head) bytes' fresh room' pages page offset part
write_taken bytes bytes' count head fresh room room' pages page offset part pool view taken fits change more =
    let free = linked bytes count head in
    let used = pages_of free bytes in
    let mine : is_taken used page ≡ true = sym (is_taken-front used fresh page) ∙ rw view taken in
    let wrote = write_page bytes bytes' count head used page offset part pool.laid refl mine fits change in
    let lies = LiesIn-from_taken free bytes used page pool.laid refl mine in
    let inside = lies.inside in
    let here : page < length used = is_taken-lt-length used page mine in
    let same : page_bytes pages page ≡ page_bytes used page = rw (← view) (page_bytes-front used fresh page) in
    record {
      pool = still_pool free _ bytes bytes' fresh room room' pool wrote.layout (same_length bytes bytes' part (page * 4096 + offset) (omega arith) change) more;
      written = rw (same, ← view) (ap (λ u. u ++ fresh_pages fresh) wrote.written ∙ sym (set-append_left used (fresh_pages fresh) page _ here));
      size = rw same wrote.size;
      count = rw (← view) (let a = free_count-behind used fresh in let b = free_count-behind (pages_of (linked bytes' count head) bytes') fresh in let c = wrote.count in omega (arith, a, b, c));
    }

-- ranges of two pages are apart
pub ranges_apart : (from to from_offset to_offset count : ℕ) → from ≢ to → from_offset + count ≤ 4096 → to_offset + count ≤ 4096 → to * 4096 + to_offset < from * 4096 + from_offset + count → to * 4096 + to_offset + count ≤ from * 4096 + from_offset
ranges_apart from to from_offset to_offset count apart there room below = omega (arith, apart)

-- a part of a taken page put at a taken page's place is written to that page alone
pub copied_taken : (bytes lent after : List ℕ) (count head fresh room : ℕ) (pages : List (Option (List ℕ))) (from from_offset to to_offset size : ℕ) → IsPool (linked bytes count head) bytes fresh room → pool_of (linked bytes count head) bytes fresh ≡ pages → is_taken pages from ≡ true → is_taken pages to ≡ true → from_offset + size ≤ 4096 → to_offset + size ≤ 4096 → lent ≡ bytes →
    after ≡ with_bytes lent (to * 4096 + to_offset) (slice_range lent (from * 4096 + from_offset) (from * 4096 + from_offset + size)) →
    PoolWrote (linked after count head) after fresh room pages to to_offset (slice_range (page_bytes pages from) from_offset (from_offset + size))
copied_taken bytes lent after count head fresh room pages from from_offset to to_offset size pool view source target there fits is change =
    let free = linked bytes count head in
    let part = slice_range (page_bytes pages from) from_offset (from_offset + size) in
    let reads = read_taken free bytes fresh room pages from from_offset size pool view source there in
    let long : length part ≡ size = length-slice_range (page_bytes pages from) from_offset size (omega (arith, reads.size)) in
    let same : slice_range lent (from * 4096 + from_offset) (from * 4096 + from_offset + size) ≡ part = rw is reads.part in
    let put : after ≡ with_bytes bytes (to * 4096 + to_offset) part = change ∙ ap (with_bytes lent (to * 4096 + to_offset)) same ∙ ap (λ bs. with_bytes bs (to * 4096 + to_offset) part) is in
    write_taken bytes after count head fresh room room pages to to_offset part pool view target (omega (arith, long, fits)) put (omega arith)
