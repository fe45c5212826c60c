-- Where a position of a run lies, and how far a walk over the run goes in one step: to the end of the page, or of the walk.
use Rattle.std.proofs.lemmas.Bool.Decides.{nat_tests}
use Rattle.std.proofs.Common.{◌≡◌, ℕ, ◌+◌, ◌*◌, ◌-◌, ◌/◌, ◌%◌, ◌<◌, ◌≤◌, min, length, List, arith, ◌∙◌, take, drop, length-drop}
use Rattle.std.proofs.lemmas.List.{length-take-le}
use Rattle.dataspace_core.specs.Layout.{IsPieceIn}

-- so many bytes at a position lie in one page of a run
pub record IsInPage (count at n : ℕ) : Type 0 where
  -- the page is one of the run
  pub below : at / 4096 < count
  -- so many whole pages on, and some bytes into that one
  pub place : at ≡ at / 4096 * 4096 + at % 4096
  -- they end within the page
  pub fits : at % 4096 + n ≤ 4096

-- a position is in its page, and that many whole pages on
place_in : (at : ℕ) → at ≡ at / 4096 * 4096 + at % 4096
place_in at = omega arith

-- a position within so many pages is in one of them
pub page_below : (at count : ℕ) → at < count * 4096 → at / 4096 < count
page_below at count below = omega arith

-- the step ends with the page
short_enough : (at left n : ℕ) → n ≡ min (4096 - at % 4096) left → at % 4096 + n ≤ 4096
short_enough at left n is = omega arith

-- a step of a walk is in one page
pub step_in_page : (count offset len done n : ℕ) → offset + len ≤ count * 4096 → done < len → n ≡ min (4096 - (offset + done) % 4096) (len - done) → IsInPage count (offset + done) n
step_in_page count offset len done n range more is = grind (arith, nat_tests, page_below, place_in, short_enough)

-- and within the walk
pub step_within : (left done len n : ℕ) → done < len → n ≡ min left (len - done) → done + n ≤ len
step_within left done len n more is = omega arith

-- a word that is aligned ends within its page
word_fits : (offset : ℕ) → offset % 8 ≡ 0 → offset % 4096 + 8 ≤ 4096
word_fits offset aligned = omega arith

-- so it is in one page
pub word_in_page : (count offset : ℕ) → offset % 8 ≡ 0 → offset + 8 ≤ count * 4096 → IsInPage count offset 8
word_in_page count offset aligned range = grind (arith, nat_tests, page_below, place_in, word_fits)

-- a piece that lies in one page does
pub piece_in_page : (count offset n : ℕ) → IsPieceIn count offset n → IsInPage count offset n
piece_in_page count offset n piece =
    let some = piece.some in let fits = piece.fits in let within = piece.within in
    record { below = page_below offset count (omega arith); place = place_in offset; fits = fits }

-- the part that a step takes of what is walked over
pub length-lent : (whole : List ℕ) (done n : ℕ) → done + n ≤ length whole → length (take (done + n - done) (drop done whole)) ≡ n
length-lent whole done n within =
    length-take-le (done + n - done) (drop done whole) (omega (arith, length-drop done whole)) ∙ omega arith
