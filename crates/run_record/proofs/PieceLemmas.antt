-- Where a text is cut at its first newline.
use Rattle.std.specs.Prelude.{nat_eq}
use Rattle.std.proofs.Common.{◌≡◌, ℕ, ◌+◌, List, [], ◌∷◌, take, drop, position, Some, None, arith}
use Rattle.std.proofs.lemmas.Bool.Decides.{nat_tests}
use Rattle.std.proofs.lemmas.List.Splits.{slice_split_first}
use Rattle.line_friendly.proofs.WordLemmas.{split_nowhere}
use Rattle.run_record.specs.Recorded.{pieces_of}

pub cut_at : (text : List ℕ) (n : ℕ) → position (λ b. nat_eq b 10) text ≡ Some n
    → pieces_of text ≡ take n text ∷ pieces_of (drop (n + 1) text)
cut_at text n is = grind (arith, nat_tests, slice_split_first)

pub cut_nowhere : (text : List ℕ) → position (λ b. nat_eq b 10) text ≡ None → pieces_of text ≡ text ∷ []
cut_nowhere text none = split_nowhere (λ b. nat_eq b 10) text none

pub ruleset cuts = (cut_at, cut_nowhere)
