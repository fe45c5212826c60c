-- The first word of a text, by the place of its first space.
use Rattle.std.proofs.Common.{◌≡◌, ℕ, suc, ◌+◌, Bool, true, false, cond, nat_lt, List, [], ◌∷◌, length, take, drop, Option, Some, None, refl, arith, ap}
use Rattle.std.specs.Prelude.{nat_eq, not}
use Rattle.std.specs.List.{position_or_len}
use Rattle.std.proofs.lemmas.Bool.Decides.{nat_tests}
use Rattle.std.proofs.lemmas.List.{take_all, take_rest}
use Rattle.own_model.specs.Text.{first_word, FirstWord}

-- what stands after place n, if that is a place of the text
abbrev pub after : ℕ → List ℕ → Option (List ℕ)
after n text = cond (nat_lt n (length text)) (Some (drop (n + 1) text)) None

-- with one more byte in front the place is one further, and the same stands after it
pub after-next : (n b : ℕ) (bs : List ℕ) → after n bs ≡ after (1 + n) (b ∷ bs)
after-next n b bs = grind (arith, nat_tests)

-- a text that is parted at place n
abbrev pub parted_at : ℕ → List ℕ → FirstWord
parted_at n text = record { word = take n text; rest = after n text }

-- a byte in front, which is a space or isn't
pub parted-next : (space : Bool) (n b : ℕ) (bs : List ℕ) (next : FirstWord) → next ≡ parted_at n bs →
    cond {A = FirstWord} space (record { word = []; rest = Some bs }) (record { word = b ∷ next.word; rest = next.rest })
    ≡ parted_at (cond (not space) (1 + n) 0) (b ∷ bs)
parted-next true n b bs next e = grind (arith, nat_tests)
parted-next false n b bs next e = rw e (grind (arith, nat_tests))

-- the first space parts the first word from the rest
pub parted : (text : List ℕ) → first_word text ≡ parted_at (position_or_len (λ b. nat_eq b 32) text) text
parted [] = refl
parted (b ∷ bs) = parted-next (nat_eq b 32) (position_or_len (λ b. nat_eq b 32) bs) b bs (first_word bs) (parted bs)

-- what parts it, with the whole text where no space does
pub ruleset first_words = (parted, take_all, take_rest)
