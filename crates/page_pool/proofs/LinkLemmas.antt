-- The links of the free list, which stand in its pages.
use Rattle.std.proofs.Common.{◌≡◌, ◌≢◌, ℕ, zero, suc, ◌+◌, ◌*◌, ◌<◌, ◌≤◌, ◌^◌, false, List, [], ◌∷◌, ◌++◌, length, refl, ap, ◌∙◌, arith}
use Rattle.std.proofs.lemmas.List.{length_push}
use Rattle.std.proofs.lemmas.Bool.{cases_lt}
use Rattle.std.proofs.lemmas.Bool.Decides.{nat_tests}
use Rattle.trade_base.specs.Bytes.{with_bytes}
use Rattle.trade_base.specs.Word.{word_of, word_bytes}
use Rattle.trade_base.proofs.BytesLemmas.{slice_range-with_bytes}
use Rattle.trade_base.proofs.WordLemmas.{length-word_bytes, word_of-word_bytes}
use Rattle.page_pool.specs.Layout.{word_at, linked, is_listed, page_count}
use Rattle.page_pool.proofs.NumberLemmas.{is_listed-push}
use Rattle.page_pool.proofs.ByteLemmas.{range_before_part, range_after_part}

-- so many pages are linked
pub length-linked : (bytes : List ℕ) (count head : ℕ) → length (linked bytes count head) ≡ count
length-linked bytes zero head = refl
length-linked bytes (suc count) head = grind (arith, nat_tests, length_push, length-linked bytes count (word_at bytes (head * 4096)))

-- the head is the last of them, and before it come those from its link on
pub linked-last : (bytes : List ℕ) (count more head : ℕ) → more ≡ count + 1 → linked bytes more head ≡ linked bytes count (word_at bytes (head * 4096)) ++ head ∷ []
linked-last bytes count more head one = let e : more ≡ suc count = omega (arith, one) in rw e

-- a word that was written is there
pub word_at-written : (bytes : List ℕ) (start word : ℕ) → start + 8 ≤ length bytes → word < 2 ^ 64 → word_at (with_bytes bytes start (word_bytes word)) start ≡ word
unfolding word_at
word_at-written bytes start word inside small =
    let long = length-word_bytes word in
    let e = slice_range-with_bytes bytes start (word_bytes word) (omega (arith, long)) in
    ap word_of (rw long at e) ∙ word_of-word_bytes word small

-- a change of one page leaves the links in the others
word_at_other : (bytes part : List ℕ) (page other offset : ℕ) → length bytes ≡ page_count bytes * 4096 → page < page_count bytes → offset + length part ≤ 4096 → other ≢ page → word_at (with_bytes bytes (page * 4096 + offset) part) (other * 4096) ≡ word_at bytes (other * 4096)
unfolding word_at
word_at_other bytes part page other offset whole here fits apart = grind (arith, nat_tests, range_before_part, range_after_part, cases_lt)

-- a page that isn't listed is neither the last nor one before it
record IsUnlisted (rest : List ℕ) (last page : ℕ) : Type 0 where
  pub before : is_listed rest page ≡ false
  pub apart : last ≢ page

IsUnlisted-push : (rest : List ℕ) (last page : ℕ) → is_listed (rest ++ last ∷ []) page ≡ false → IsUnlisted rest last page
IsUnlisted-push rest last page unlisted =
    let e = is_listed-push rest last page in
    record { before = grind (arith, nat_tests, e, unlisted); apart = λ same. grind (arith, nat_tests, e, unlisted, same) }

-- a change of a page that isn't listed leaves the list
pub linked-kept : (bytes part : List ℕ) (page offset count head : ℕ) → length bytes ≡ page_count bytes * 4096 → page < page_count bytes → offset + length part ≤ 4096 → is_listed (linked bytes count head) page ≡ false → linked (with_bytes bytes (page * 4096 + offset) part) count head ≡ linked bytes count head
linked-kept bytes part page offset zero head whole here fits unlisted = refl
linked-kept bytes part page offset (suc count) head whole here fits unlisted =
    let next = word_at bytes (head * 4096) in
    let u = IsUnlisted-push (linked bytes count next) head page unlisted in
    ap (λ n. linked (with_bytes bytes (page * 4096 + offset) part) count n ++ head ∷ []) (word_at_other bytes part page head offset whole here fits u.apart)
    ∙ ap (λ l. l ++ head ∷ []) (linked-kept bytes part page offset count next whole here fits u.before)
