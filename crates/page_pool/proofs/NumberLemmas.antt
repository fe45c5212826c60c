-- Lists of page numbers, as numbers are put at their end.
use Rattle.std.proofs.Common.{◌≡◌, ℕ, ◌||◌, ◌&&◌, not, eqb, List, [], ◌∷◌, ◌++◌, arith}
use Rattle.std.proofs.lemmas.Bool.Decides.{nat_tests}
use Rattle.page_pool.specs.Layout.{is_listed, has_no_repeat}

-- with one more number, that one is listed and those before
pub is_listed-push : (numbers : List ℕ) (last page : ℕ) → is_listed (numbers ++ last ∷ []) page ≡ (is_listed numbers page || eqb page last)
is_listed-push [] last page = grind (arith, nat_tests)
is_listed-push (first ∷ rest) last page = let e = is_listed-push rest last page in grind (arith, nat_tests, e)

-- with one more number none repeats where none did and that one is new
pub has_no_repeat-push : (numbers : List ℕ) (last : ℕ) → has_no_repeat (numbers ++ last ∷ []) ≡ (has_no_repeat numbers && not (is_listed numbers last))
has_no_repeat-push [] last = grind (arith, nat_tests)
has_no_repeat-push (first ∷ rest) last = let e = has_no_repeat-push rest last in let l = is_listed-push rest last first in grind (arith, nat_tests, e, l)
