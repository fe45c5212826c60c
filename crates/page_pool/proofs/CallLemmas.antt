-- What each call makes of the pool's fields.
use Rattle.std.proofs.Common.{◌≡◌, ◌≢◌, ℕ, ◌+◌, ◌-◌, ◌*◌, ◌<◌, ◌≤◌, ◌^◌, true, false, List, [], ◌∷◌, ◌++◌, length, get_or, Option, Some, None, cond, eqb, ◌||◌, ◌&&◌, not, add-zero, refl, sym, ap, arith, ◌∙◌}
use Rattle.std.specs.Prelude.{slice_range, slice_set, slice_get}
use Rattle.std.specs.List.{range_with_len}
use Rattle.std.proofs.lemmas.List.{length_push}
use Rattle.std.proofs.lemmas.Option.{slice_get-get_or}
use Rattle.std.proofs.lemmas.Bool.Decides.{nat_tests}
use Rattle.trade_base.specs.Bytes.{with_bytes}
use Rattle.trade_base.specs.Word.{word_bytes}
use Rattle.trade_base.proofs.BytesLemmas.{length-with_bytes, with_bytes-whole}
use Rattle.trade_base.proofs.WordLemmas.{length-word_bytes}
use Rattle.page_pool.specs.Pages.{free_count, is_taken, page_bytes, zero_page}
use Rattle.page_pool.proofs.PageLaws.{length-zero_page}
use Rattle.page_pool.specs.Layout.{word_at, linked, is_listed, has_no_repeat, page_count, bytes_at, pages_of, IsLaidOut}
use Rattle.page_pool.proofs.NumberLemmas.{is_listed-push, has_no_repeat-push}
use Rattle.page_pool.proofs.ByteLemmas.{range_with_part, range_of_range}
use Rattle.page_pool.proofs.CountLemmas.{free_count-take, free_count-give, free_count-write, free_count-unlisted}
use Rattle.page_pool.proofs.LayoutLemmas.{LiesIn, LiesIn-from_listed, length-pages_of, get_or-pages_of, pages_of-set, IsHeld-from_taken, page_bytes-pages_of, length-bytes_at, bytes_at_other}
use Rattle.page_pool.proofs.LinkLemmas.{linked-last, linked-kept, word_at-written}

-- what bytes are in which no page is listed
pub record AllTaken (bytes : List ℕ) : Type 0 where
  -- they are laid out
  pub layout : IsLaidOut [] bytes
  -- none is free
  pub count : free_count (pages_of [] bytes) ≡ 0

-- the bytes of so many pages
pub taken_pages : (bytes : List ℕ) (size : ℕ) → size ≤ 4096 → length bytes ≡ size * 4096 → AllTaken bytes
taken_pages bytes size few long =
    let counted : page_count bytes ≡ size = omega (arith, long) in
    let none : free_count (pages_of [] bytes) ≡ 0 = unfold pages_of in free_count-unlisted bytes (range_with_len 0 (page_count bytes)) in
    record {
      layout = record { whole = rw counted long; few = rw counted few; in_range = λ page is. grind (arith, is); once = refl; counted = none };
      count = none;
    }

-- what a page handed out makes of the pool
pub record Took (rest bytes' : List ℕ) (pages : List (Option (List ℕ))) (page : ℕ) : Type 0 where
  -- the pool is still laid out
  pub layout : IsLaidOut rest bytes'
  -- the page was free
  pub was_free : slice_get pages page ≡ Some None
  -- it is all zeros now, and the others stay
  pub cleared : pages_of rest bytes' ≡ slice_set pages page (Some zero_page)
  -- one page less is free
  pub count : free_count (pages_of rest bytes') + 1 ≡ free_count pages

-- where there is a head it lies in the bytes
pub LiesIn-from_head : (bytes : List ℕ) (count head : ℕ) → IsLaidOut (linked bytes count head) bytes → count ≢ 0 → LiesIn bytes head
LiesIn-from_head bytes count head laid some = grind (arith, nat_tests, LiesIn-from_listed, linked-last)

-- the page that is listed last is handed out once it is cleared
take_listed : (free rest bytes bytes' : List ℕ) (pages : List (Option (List ℕ))) (page : ℕ) → IsLaidOut free bytes → pages_of free bytes ≡ pages → free ≡ rest ++ page ∷ [] → bytes' ≡ with_bytes bytes (page * 4096 + 0) zero_page → Took rest bytes' pages page
take_listed free rest bytes bytes' pages page laid view last change =
    let listed : (other : ℕ) → is_listed free other ≡ (is_listed rest other || eqb other page) = λ other. rw last (is_listed-push rest page other) in
    let was : is_listed free page ≡ true = let l = listed page in grind (arith, nat_tests, l) in
    let here = laid.in_range page was in
    let whole = laid.whole in
    let once : (has_no_repeat rest && not (is_listed rest page)) ≡ true = sym (has_no_repeat-push rest page) ∙ rw (← last) laid.once in
    let same : (other : ℕ) → other ≢ page → is_listed rest other ≡ is_listed free other = λ other apart. let l = listed other in grind (arith, nat_tests, l) in
    let unlisted : is_listed rest page ≡ false = grind (arith, once) in
    let fits : 0 + length zero_page ≤ 4096 = omega (arith, length-zero_page) in
    let long : length bytes' ≡ length bytes = rw change (length-with_bytes bytes (page * 4096 + 0) zero_page (omega (arith, length-zero_page))) in
    let size = length-bytes_at bytes page whole here in
    let zero_now : bytes_at bytes' page ≡ zero_page =
    rw change (range_with_part bytes zero_page (page * 4096) 0 4096 fits (omega arith)) ∙ with_bytes-whole (bytes_at bytes page) zero_page (omega (arith, size, length-zero_page)) in
    let e : pages_of rest bytes' ≡ slice_set (pages_of free bytes) page (Some zero_page) =
    pages_of-set free rest bytes bytes' page _ long here
    (rw unlisted (ap Some zero_now))
    (λ other there apart. rw (same other apart) (ap (λ (b : List ℕ). cond (is_listed free other) None (Some b)) (rw change (bytes_at_other bytes zero_page page other 0 whole here fits apart)))) in
    let there : page < length (pages_of free bytes) = rw (length-pages_of free bytes) here in
    let at : get_or (pages_of free bytes) page None ≡ None = get_or-pages_of free bytes page None here ∙ rw was in
    let less : free_count (pages_of rest bytes') + 1 ≡ free_count (pages_of free bytes) = rw e (free_count-take (pages_of free bytes) page _ there at) in
    let counted = laid.counted in
    let push : length free ≡ length rest + 1 = rw last (length_push rest page) in
    record {
      layout = record {
        whole = rw long laid.whole;
        few = rw long laid.few;
        in_range = λ other is. rw long (laid.in_range other (let l = listed other in grind (arith, l, is)));
        once = grind (arith, once);
        counted = omega (arith, less, counted, push);
      };
      was_free = rw (← view) (slice_get-get_or (pages_of free bytes) page None there ∙ ap Some at);
      cleared = rw (← view) e;
      count = rw (← view) less;
    }

-- the head is handed out once it is cleared, and its link is the new head
pub take_page : (bytes bytes' : List ℕ) (count page : ℕ) (pages : List (Option (List ℕ))) → IsLaidOut (linked bytes count page) bytes → pages_of (linked bytes count page) bytes ≡ pages → count ≢ 0 → bytes' ≡ with_bytes bytes (page * 4096) zero_page → Took (linked bytes' (count - 1) (word_at bytes (page * 4096))) bytes' pages page
take_page bytes bytes' count page pages laid view some change =
    let next = word_at bytes (page * 4096) in
    let free = linked bytes count page in
    let rest = linked bytes (count - 1) next in
    let last : free ≡ rest ++ page ∷ [] = linked-last bytes (count - 1) count page (omega (arith, some)) in
    let moved : bytes' ≡ with_bytes bytes (page * 4096 + 0) zero_page = rw add-zero change in
    let l = is_listed-push rest page page in
    let was : is_listed free page ≡ true = rw last (grind (arith, nat_tests, l)) in
    let once : (has_no_repeat rest && not (is_listed rest page)) ≡ true = sym (has_no_repeat-push rest page) ∙ rw (← last) laid.once in
    let kept : linked bytes' (count - 1) next ≡ rest =
    rw moved (linked-kept bytes zero_page page 0 (count - 1) next laid.whole (laid.in_range page was) (omega (arith, length-zero_page)) (grind (arith, once))) in
    rw kept (take_listed free rest bytes bytes' pages page laid view last moved)

-- what a page given back makes of the pool
pub record Gave (free' bytes' : List ℕ) (pages : List (Option (List ℕ))) (page : ℕ) : Type 0 where
  -- the pool is still laid out
  pub layout : IsLaidOut free' bytes'
  -- the page is free now, and the others stay
  pub freed : pages_of free' bytes' ≡ slice_set pages page None
  -- one page more is free
  pub count : free_count (pages_of free' bytes') ≡ free_count pages + 1

-- a taken page is given back once it is listed, whatever is put into it
give_listed : (free free' bytes bytes' part : List ℕ) (pages : List (Option (List ℕ))) (page : ℕ) → IsLaidOut free bytes → pages_of free bytes ≡ pages → is_taken pages page ≡ true → free' ≡ free ++ page ∷ [] → 0 + length part ≤ 4096 → bytes' ≡ with_bytes bytes (page * 4096 + 0) part → Gave free' bytes' pages page
give_listed free free' bytes bytes' part pages page laid view taken more fits change =
    let held = IsHeld-from_taken free bytes page (rw view taken) in
    let here = held.here in
    let whole = laid.whole in
    let unlisted = held.unlisted in
    let once = laid.once in
    let long : length bytes' ≡ length bytes = rw change (length-with_bytes bytes (page * 4096 + 0) part (omega arith)) in
    let listed : (other : ℕ) → is_listed free' other ≡ (is_listed free other || eqb other page) = λ other. rw more (is_listed-push free page other) in
    let same : (other : ℕ) → other ≢ page → is_listed free' other ≡ is_listed free other = λ other apart. let l = listed other in grind (arith, nat_tests, l) in
    let now : is_listed free' page ≡ true = let l = listed page in grind (arith, nat_tests, l) in
    let r = has_no_repeat-push free page in
    let e : pages_of free' bytes' ≡ slice_set (pages_of free bytes) page None =
    pages_of-set free free' bytes bytes' page None long here (rw now)
    (λ other there apart. rw (same other apart) (ap (λ (b : List ℕ). cond (is_listed free other) None (Some b)) (rw change (bytes_at_other bytes part page other 0 whole here fits apart)))) in
    let there : page < length (pages_of free bytes) = rw (length-pages_of free bytes) here in
    let count : free_count (pages_of free' bytes') ≡ free_count (pages_of free bytes) + 1 = rw e (free_count-give (pages_of free bytes) page there (rw view taken)) in
    let counted = laid.counted in
    let push : length free' ≡ length free + 1 = rw more (length_push free page) in
    record {
      layout = record {
        whole = rw long laid.whole;
        few = rw long laid.few;
        in_range = λ other is. rw long (let l = listed other in let b = laid.in_range other in grind (arith, nat_tests, l, b, is));
        once = rw more (grind (arith, r, once, unlisted));
        counted = omega (arith, count, counted, push);
      };
      freed = rw (← view) e;
      count = rw (← view) count;
    }

-- a taken page is given back once the head is written into it and it is the new head
pub give_page : (bytes bytes' : List ℕ) (count head page : ℕ) (pages : List (Option (List ℕ))) → IsLaidOut (linked bytes count head) bytes → pages_of (linked bytes count head) bytes ≡ pages → is_taken pages page ≡ true → head < 2 ^ 64 → bytes' ≡ with_bytes bytes (page * 4096) (word_bytes head) → Gave (linked bytes' (count + 1) page) bytes' pages page
give_page bytes bytes' count head page pages laid view taken small change =
    let free = linked bytes count head in
    let held = IsHeld-from_taken free bytes page (rw view taken) in
    let here = held.here in
    let whole = laid.whole in
    let moved : bytes' ≡ with_bytes bytes (page * 4096 + 0) (word_bytes head) = rw add-zero change in
    let fits : 0 + length (word_bytes head) ≤ 4096 = omega (arith, length-word_bytes head) in
    let link : word_at bytes' (page * 4096) ≡ head = rw change (word_at-written bytes (page * 4096) head (omega arith) small) in
    let kept : linked bytes' count head ≡ free = rw moved (linked-kept bytes (word_bytes head) page 0 count head whole here fits held.unlisted) in
    let more : linked bytes' (count + 1) page ≡ free ++ page ∷ [] = linked-last bytes' count (count + 1) page refl ∙ ap (λ n. linked bytes' count n ++ page ∷ []) link ∙ ap (λ l. l ++ page ∷ []) kept in
    give_listed free (linked bytes' (count + 1) page) bytes bytes' (word_bytes head) pages page laid view taken more fits moved

-- what a read tells
pub record Reads (bytes : List ℕ) (pages : List (Option (List ℕ))) (page offset count : ℕ) : Type 0 where
  -- what is read is that part of the page
  pub part : slice_range bytes (page * 4096 + offset) (page * 4096 + offset + count) ≡ slice_range (page_bytes pages page) offset (offset + count)
  -- the page has all its bytes
  pub size : length (page_bytes pages page) ≡ 4096

-- any part of a taken page can be read at its place in the bytes
pub read_part : (free bytes : List ℕ) (pages : List (Option (List ℕ))) (page offset count : ℕ) → IsLaidOut free bytes → pages_of free bytes ≡ pages → is_taken pages page ≡ true → offset + count ≤ 4096 → Reads bytes pages page offset count
read_part free bytes pages page offset count laid view taken fits =
    let held = IsHeld-from_taken free bytes page (rw view taken) in
    let here = held.here in
    let whole = laid.whole in
    record {
      part = rw (← view, page_bytes-pages_of free bytes page held) (sym (range_of_range bytes (page * 4096) 4096 offset count fits (omega arith)));
      size = rw (← view, page_bytes-pages_of free bytes page held) (length-bytes_at bytes page whole here);
    }

-- what a write makes of the pool
pub record Wrote (free bytes' : List ℕ) (pages : List (Option (List ℕ))) (page offset : ℕ) (part : List ℕ) : Type 0 where
  -- the pool is still laid out
  pub layout : IsLaidOut free bytes'
  -- the page has the part in it, and the others stay
  pub written : pages_of free bytes' ≡ slice_set pages page (Some (with_bytes (page_bytes pages page) offset part))
  -- the page had all its bytes
  pub size : length (page_bytes pages page) ≡ 4096
  -- as many pages are free as before
  pub count : free_count (pages_of free bytes') ≡ free_count pages

-- a part put at a taken page's place in the bytes is written to that page alone
pub write_part : (free bytes bytes' : List ℕ) (pages : List (Option (List ℕ))) (page offset : ℕ) (part : List ℕ) → IsLaidOut free bytes → pages_of free bytes ≡ pages → is_taken pages page ≡ true → offset + length part ≤ 4096 → bytes' ≡ with_bytes bytes (page * 4096 + offset) part → Wrote free bytes' pages page offset part
write_part free bytes bytes' pages page offset part laid view taken fits change =
    let held = IsHeld-from_taken free bytes page (rw view taken) in
    let here = held.here in
    let whole = laid.whole in
    let long : length bytes' ≡ length bytes = rw change (length-with_bytes bytes (page * 4096 + offset) part (omega arith)) in
    let e : pages_of free bytes' ≡ slice_set (pages_of free bytes) page (Some (with_bytes (page_bytes (pages_of free bytes) page) offset part)) =
    pages_of-set free free bytes bytes' page _ long here
    (rw (held.unlisted, page_bytes-pages_of free bytes page held, change) (ap Some (range_with_part bytes part (page * 4096) offset 4096 fits (omega arith))))
    (λ other there apart. ap (λ (b : List ℕ). cond (is_listed free other) None (Some b)) (rw change (bytes_at_other bytes part page other offset whole here fits apart))) in
    let there : page < length (pages_of free bytes) = rw (length-pages_of free bytes) here in
    let kept : free_count (pages_of free bytes') ≡ free_count (pages_of free bytes) = rw e (free_count-write (pages_of free bytes) page _ there (rw view taken)) in
    record {
      layout = record { whole = rw long laid.whole; few = rw long laid.few; in_range = rw long laid.in_range; once = laid.once; counted = kept ∙ laid.counted };
      written = rw (← view) e;
      size = rw (← view, page_bytes-pages_of free bytes page held) (length-bytes_at bytes page whole here);
      count = rw (← view) kept;
    }

-- the list is as before: its links are in other pages
pub write_page : (bytes bytes' : List ℕ) (count head : ℕ) (pages : List (Option (List ℕ))) (page offset : ℕ) (part : List ℕ) → IsLaidOut (linked bytes count head) bytes → pages_of (linked bytes count head) bytes ≡ pages → is_taken pages page ≡ true → offset + length part ≤ 4096 → bytes' ≡ with_bytes bytes (page * 4096 + offset) part → Wrote (linked bytes' count head) bytes' pages page offset part
write_page bytes bytes' count head pages page offset part laid view taken fits change =
    let held = IsHeld-from_taken (linked bytes count head) bytes page (rw view taken) in
    let kept : linked bytes' count head ≡ linked bytes count head = rw change (linked-kept bytes part page offset count head laid.whole held.here fits held.unlisted) in
    rw kept (write_part (linked bytes count head) bytes bytes' pages page offset part laid view taken fits change)
