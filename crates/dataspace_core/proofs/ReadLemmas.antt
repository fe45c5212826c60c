-- A buffer while it is filled with the bytes of a run, a page or a part of one at a time.
use Rattle.std.proofs.Common.{◌≡◌, ℕ, ◌+◌, ◌-◌, ◌*◌, ◌/◌, ◌%◌, ◌<◌, ◌≤◌, List, ◌++◌, length, take, drop, refl, sym, ap, ◌∙◌, arith, rules}
use Rattle.std.specs.Prelude.{Option, slice_range}
use Rattle.std.proofs.lemmas.List.{take_all}
use Rattle.std.proofs.lemmas.Slice.{take-put_mid}
use borrow.Rule.Slice.PartMut.{put_mid, same_len_mid}
use Rattle.page_pool.specs.declared.pool.PageNo.{PageNo}
use Rattle.page_pool.specs.Pages.{page_bytes}
use Rattle.dataspace_core.specs.Layout.{page_in, run_bytes, IsRun}
use Rattle.dataspace_core.proofs.ByteLemmas.{pieces_join}
use Rattle.dataspace_core.proofs.WriteLemmas.{run_piece}
use Rattle.dataspace_core.proofs.WalkLemmas.{IsInPage, length-lent}

-- a piece that starts where the walk stands
range_piece : (xs : List ℕ) (from m n : ℕ) → m ≡ n → slice_range xs from (from + m) ≡ take n (drop from xs)
range_piece xs from m n e = ap (λ k. take k (drop from xs)) (omega arith)

-- a buffer keeps its length
pub length-filled : (buffer piece : List ℕ) (done n : ℕ) → length piece ≡ length (take (done + n - done) (drop done buffer)) → length (put_mid done (done + n - done) buffer piece) ≡ length buffer
length-filled buffer piece done n fills = same_len_mid done (done + n - done) buffer piece fills

-- with the piece of a step the buffer is filled up to where the step ends
pub filled_more : (pages : List (Option (List ℕ))) (table : List PageNo) (start count offset done n : ℕ) (buffer piece : List ℕ) → IsRun pages table start count → IsInPage count (offset + done) n → done + n ≤ length buffer → length piece ≡ length (take (done + n - done) (drop done buffer)) → piece ≡ slice_range (page_bytes pages (page_in table (start + (offset + done) / 4096))) ((offset + done) % 4096) ((offset + done) % 4096 + length (take (done + n - done) (drop done buffer))) → take done buffer ≡ take done (drop offset (run_bytes pages table start count)) → take (done + n) (put_mid done (done + n - done) buffer piece) ≡ take (done + n) (drop offset (run_bytes pages table start count))
filled_more pages table start count offset done n buffer piece run here within fills is so_far =
    let lent = length-lent buffer done n within in
    let bytes = run_bytes pages table start count in
    let page = page_in table (start + (offset + done) / 4096) in
    take-put_mid done (done + n - done) buffer piece (done + n) (omega arith) (omega (arith, within))
    ∙ ap (λ l. l ++ piece) so_far
    ∙ ap (λ l. take done (drop offset bytes) ++ l)
    (is ∙ range_piece (page_bytes pages page) ((offset + done) % 4096) _ n lent
    ∙ sym (run_piece pages table start count ((offset + done) / 4096) ((offset + done) % 4096) n run here.below here.fits)
    ∙ ap (λ k. take n (drop k bytes)) (sym here.place))
    ∙ pieces_join bytes offset done n

-- a range of a page is that range of the run
pub run_range : (pages : List (Option (List ℕ))) (table : List PageNo) (start count offset n : ℕ) → IsRun pages table start count → IsInPage count offset n → slice_range (page_bytes pages (page_in table (start + offset / 4096))) (offset % 4096) (offset % 4096 + n) ≡ slice_range (run_bytes pages table start count) offset (offset + n)
run_range pages table start count offset n run here = search (rules, range_piece, run_piece)

-- a buffer that is filled to its end
pub filled_all : (buffer bytes : List ℕ) (offset done len : ℕ) → length buffer ≡ len → done ≤ length buffer → length buffer ≤ done → take done buffer ≡ take done (drop offset bytes) → buffer ≡ slice_range bytes offset (offset + len)
filled_all buffer bytes offset done len size within all so_far =
    sym (take_all done buffer all) ∙ so_far ∙ sym (range_piece bytes offset len done (omega arith))

-- a whole page is that range of the run
pub run_page : (pages : List (Option (List ℕ))) (table : List PageNo) (start count i : ℕ) → IsRun pages table start count → i < count → slice_range (page_bytes pages (page_in table (start + i))) 0 4096 ≡ slice_range (run_bytes pages table start count) (i * 4096) (i * 4096 + 4096)
run_page pages table start count i run below =
    sym (run_piece pages table start count i 0 4096 run below (omega arith))
    ∙ ap (λ k. take 4096 (drop k (run_bytes pages table start count))) (omega arith)
    ∙ sym (range_piece (run_bytes pages table start count) (i * 4096) 4096 4096 refl)
