-- The page is written through a range of the bytes.
use Rattle.std.proofs.Common.{◌≡◌, ℕ, ◌+◌, ◌-◌, List, length, refl, arith}
use Rattle.page_pool.specs.Pages.{zero_page}
use Rattle.page_pool.proofs.PageLaws.{length-zero_page}
use Rattle.trade_base.proofs.BytesLemmas.{length-slice_range}
use Rattle.page_pool.proofs.ByteLemmas.{put_part, zeros_of_page}
use Rattle.page_pool.proofs.bytes.clear_page.Goals as goal

pub returns : goal.returns
returns c =
    let bytes : List ℕ = c.args.bytes.now in
    let sized = length-slice_range bytes c.args.start 4096 (omega (arith, c.requires)) in
    let zeros = zeros_of_page c.fill.new.self _ (c.fill.ensures.after (λ y h. h)) sized in
    let count : c.args.start + 4096 - c.args.start ≡ length zero_page = omega (arith, length-zero_page) in
    rw zeros (put_part bytes bytes zero_page c.args.start (c.args.start + 4096 - c.args.start) refl count)
