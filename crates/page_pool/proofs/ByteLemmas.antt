-- A part put into bytes, seen by ranges of them.
use Rattle.std.proofs.Common.{◌≡◌, ℕ, ◌+◌, ◌-◌, ◌≤◌, List, ◌++◌, length, take, drop, sym, ap, ◌∙◌, arith, rules}
use Rattle.std.specs.Prelude.{slice_range, replicate}
use Rattle.std.proofs.lemmas.List.{same_lists, places, drop-drop, append_assoc}
use borrow.Rule.Slice.PartMut.{put_mid}
use Rattle.trade_base.specs.Bytes.{with_bytes}
use Rattle.trade_base.proofs.BytesLemmas.{length-slice_range}
use Rattle.page_pool.specs.Pages.{zero_page}

-- a range that has the part in it
pub range_with_part : (bytes part : List ℕ) (from offset size : ℕ) → offset + length part ≤ size → from + size ≤ length bytes → slice_range (with_bytes bytes (from + offset) part) from (from + size) ≡ with_bytes (slice_range bytes from (from + size)) offset part
unfolding with_bytes
range_with_part bytes part from offset size fits inside = same_lists _ _ (search (rules, places)) (λ k d h. grind (arith, places))

-- a range before the part
pub range_before_part : (bytes part : List ℕ) (at from size : ℕ) → from + size ≤ at → at + length part ≤ length bytes → slice_range (with_bytes bytes at part) from (from + size) ≡ slice_range bytes from (from + size)
unfolding with_bytes
range_before_part bytes part at from size before fits = same_lists _ _ (search (rules, places)) (λ k d h. grind (arith, places))

-- a range after the part
pub range_after_part : (bytes part : List ℕ) (at from size : ℕ) → at + length part ≤ from → at + length part ≤ length bytes → slice_range (with_bytes bytes at part) from (from + size) ≡ slice_range bytes from (from + size)
unfolding with_bytes
range_after_part bytes part at from size after fits = same_lists _ _ (search (rules, places)) (λ k d h. grind (arith, places))

-- what is written through a range of them is put over the bytes
pub put_part : (bytes now part : List ℕ) (start size : ℕ) → now ≡ bytes → size ≡ length part → put_mid start size now part ≡ with_bytes bytes start part
unfolding with_bytes
put_part bytes now part start size same sized = rw (same, sized, drop-drop) (sym (append_assoc (take start bytes) part (drop (start + length part) bytes)))

-- a page's worth of zeros is a page of zeros
pub zeros_of_page : (bytes : List ℕ) (size : ℕ) → bytes ≡ replicate size 0 → size ≡ 4096 → bytes ≡ zero_page
unfolding zero_page
zeros_of_page bytes size zeros whole = rw whole at zeros

-- a range of a range
pub range_of_range : (bytes : List ℕ) (from size offset count : ℕ) → offset + count ≤ size → from + size ≤ length bytes → slice_range (slice_range bytes from (from + size)) offset (offset + count) ≡ slice_range bytes (from + offset) (from + offset + count)
range_of_range bytes from size offset count fits inside = same_lists _ _ (search (rules, places)) (λ k d h. grind (arith, places))

-- a range of the first so many bytes is that range of them all
range_of_front : (bytes : List ℕ) (end from count : ℕ) → from + count ≤ end → end ≤ length bytes → slice_range (take end bytes) from (from + count) ≡ slice_range bytes from (from + count)
range_of_front bytes end from count fits inside = same_lists _ _ (search (rules, places)) (λ k d h. grind (arith, places))

-- a part put over the first so many bytes is put over them all
put_in_front : (bytes part : List ℕ) (end at : ℕ) → at + length part ≤ end → end ≤ length bytes → with_bytes (take end bytes) at part ++ drop end bytes ≡ with_bytes bytes at part
unfolding with_bytes
put_in_front bytes part end at fits inside = same_lists _ _ (search (rules, places)) (λ k d h. grind (arith, places))

-- a part put at the front of those that follow is put there
put_behind : (bytes part : List ℕ) (at count : ℕ) → length part ≡ count → take at bytes ++ (part ++ drop count (drop at bytes)) ≡ with_bytes bytes at part
unfolding with_bytes
put_behind bytes part at count long = rw (← long, drop-drop) (sym (append_assoc (take at bytes) part (drop (at + length part) bytes)))

-- a range that is copied to bytes behind it
pub copied_behind : (bytes front back part : List ℕ) (from to count : ℕ) → front ≡ take to bytes → back ≡ drop to bytes → part ≡ slice_range front from (from + count) → from + count ≤ to → to + count ≤ length bytes → front ++ (part ++ drop count back) ≡ with_bytes bytes to (slice_range bytes from (from + count))
copied_behind bytes front back part from to count f b p before there =
    let same : part ≡ slice_range bytes from (from + count) = p ∙ ap (λ l. slice_range l from (from + count)) f ∙ range_of_front bytes to from count before (omega arith) in
    let long : length part ≡ count = ap length same ∙ length-slice_range bytes from count (omega arith) in
    rw (f, b) (put_behind bytes part to count long) ∙ ap (with_bytes bytes to) same

-- and to bytes before it
pub copied_before : (bytes front back part : List ℕ) (from to count size : ℕ) → front ≡ take from bytes → back ≡ drop from bytes → part ≡ take count back → size ≡ count → to + count ≤ from → from + count ≤ length bytes → put_mid to size front part ++ back ≡ with_bytes bytes to (slice_range bytes from (from + count))
copied_before bytes front back part from to count sized f b p s before there =
    let size : from + count - from ≡ count = omega arith in
    let same : part ≡ slice_range bytes from (from + count) = p ∙ ap (take count) b ∙ ap (λ n. take n (drop from bytes)) (sym size) in
    let long : length part ≡ count = ap length same ∙ length-slice_range bytes from count there in
    ap (λ l. l ++ back) (put_part (take from bytes) front part to sized f (omega (arith, long, s)))
    ∙ ap (λ l. with_bytes (take from bytes) to part ++ l) b
    ∙ put_in_front bytes part from to (omega (arith, long)) (omega arith)
    ∙ ap (with_bytes bytes to) same
