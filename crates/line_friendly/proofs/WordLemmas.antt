-- Where a text is cut into words.
use Rattle.std.proofs.Common.{◌≡◌, ℕ, suc, ◌+◌, ◌<◌, ◌≤◌, Bool, true, false, cond, List, [], ◌∷◌, ◌++◌, length, take, drop, position, Option, Some, None, refl, sym, ap, ◌∙◌, arith, subst}
use Rattle.std.specs.Prelude.{not}
use Rattle.std.specs.List.{position_or_len, slice_split}
use Rattle.std.proofs.lemmas.Bool.Decides.{nat_tests}
use Rattle.std.proofs.lemmas.List.Splits.{slice_split_none}
use Rattle.std.proofs.lemmas.List.Sums.{fails_before_first, prefix_len-le-length}
use Rattle.line_friendly.specs.Words.{Word, is_blank, next_word, skip_blanks, spaced, up_to_blank, words_spaced}

-- the first place that passes, or the end
pub place_found : (p : ℕ → Bool) (xs : List ℕ) (n : ℕ) → position p xs ≡ Some n → position_or_len p xs ≡ n
place_found p xs n is = grind (arith, nat_tests)

pub place_none : (p : ℕ → Bool) (xs : List ℕ) → position p xs ≡ None → position_or_len p xs ≡ length xs
place_none p xs none =
    let most : position_or_len p xs ≤ length xs = prefix_len-le-length (λ x. not (p x)) xs in
    grind (arith, nat_tests)

pub ruleset places = (place_found, place_none)

-- a text is one piece if no place passes
pub split_nowhere : (p : ℕ → Bool) (text : List ℕ) → position p text ≡ None → slice_split p text ≡ text ∷ []
split_nowhere p text none =
    slice_split_none p text (λ k d within. fails_before_first p text k d (omega (arith, within, place_none p text none)))

-- one byte more
one_more : (n : ℕ) → suc n ≡ 1 + n
one_more n = omega arith

-- the blanks at the front are passed
pub skipped : (text : List ℕ) → skip_blanks text ≡ drop (position_or_len (λ b. not (is_blank b)) text) text
skipped [] = refl
skipped (b ∷ bs) =
    elim (is_blank b) as (λ t. cond t (skip_blanks bs) (b ∷ bs) ≡ drop (cond (not (not t)) (1 + position_or_len (λ b. not (is_blank b)) bs) 0) (b ∷ bs)) [
      | true ↦ skipped bs ∙ ap (λ k. drop k (b ∷ bs)) (one_more (position_or_len (λ b. not (is_blank b)) bs))
      | false ↦ refl
    ]

-- a text that is parted at a place
abbrev parted_at : ℕ → List ℕ → Word
parted_at n text = record { word = take n text; rest = drop n text }

-- the first blank parts the first word from the rest
pub parted : (text : List ℕ) → up_to_blank text ≡ parted_at (position_or_len is_blank text) text
parted [] = refl
parted (b ∷ bs) =
    elim (is_blank b) as (λ t. cond {A = Word} t (record { word = []; rest = b ∷ bs }) (record { word = b ∷ (up_to_blank bs).word; rest = (up_to_blank bs).rest })
    ≡ parted_at (cond (not t) (1 + position_or_len is_blank bs) 0) (b ∷ bs)) [
      | true ↦ refl
      | false ↦
          ap (λ (w : Word). record { word = b ∷ w.word; rest = w.rest }) (parted bs)
          ∙ ap (λ k. parted_at k (b ∷ bs)) (one_more (position_or_len is_blank bs))
    ]

-- from within a word on, it is told and then the words behind it
words_within : (text : List ℕ) → words_spaced true text ≡ (up_to_blank text).word ++ words_spaced false (up_to_blank text).rest
words_within [] = refl
words_within (b ∷ bs) =
    elim (is_blank b) as (λ t. is_blank b ≡ t → cond t (words_spaced false bs) (b ∷ words_spaced true bs)
    ≡ (cond {A = Word} t (record { word = []; rest = b ∷ bs }) (record { word = b ∷ (up_to_blank bs).word; rest = (up_to_blank bs).rest })).word
    ++ words_spaced false (cond {A = Word} t (record { word = []; rest = b ∷ bs }) (record { word = b ∷ (up_to_blank bs).word; rest = (up_to_blank bs).rest })).rest) [
      | true ↦ λ blank. ap (λ t. cond t (words_spaced false bs) (32 ∷ b ∷ words_spaced true bs)) (sym blank)
      | false ↦ λ other. ap (λ l. b ∷ l) (words_within bs)
    ] refl

-- the word at the front, where no blank stands there
words_front : (b : ℕ) (bs : List ℕ) → is_blank b ≡ false →
    32 ∷ b ∷ words_spaced true bs ≡ spaced (up_to_blank (b ∷ bs)).word ++ words_spaced false (up_to_blank (b ∷ bs)).rest
words_front b bs other =
    ap (λ l. 32 ∷ b ∷ l) (words_within bs)
    ∙ ap (λ (w : Word). spaced w.word ++ words_spaced false w.rest)
    (ap (λ t. cond {A = Word} t (record { word = []; rest = b ∷ bs }) (record { word = b ∷ (up_to_blank bs).word; rest = (up_to_blank bs).rest })) (sym other))

-- words are the first, and those behind it
pub words_next : (text : List ℕ) → words_spaced false text ≡ spaced (next_word text).word ++ words_spaced false (next_word text).rest
words_next [] = refl
words_next (b ∷ bs) =
    elim (is_blank b) as (λ t. is_blank b ≡ t → cond t (words_spaced false bs) (32 ∷ b ∷ words_spaced true bs)
    ≡ spaced (up_to_blank (cond t (skip_blanks bs) (b ∷ bs))).word ++ words_spaced false (up_to_blank (cond t (skip_blanks bs) (b ∷ bs))).rest) [
      | true ↦ λ blank. words_next bs
      | false ↦ λ other. words_front b bs other
    ] refl

-- a text is its first word, and what follows
word_length_is : (text : List ℕ) → length (up_to_blank text).word + length (up_to_blank text).rest ≡ length text
word_length_is [] = refl
word_length_is (b ∷ bs) =
    elim (is_blank b) as (λ t. length (cond {A = Word} t (record { word = []; rest = b ∷ bs }) (record { word = b ∷ (up_to_blank bs).word; rest = (up_to_blank bs).rest })).word
    + length (cond {A = Word} t (record { word = []; rest = b ∷ bs }) (record { word = b ∷ (up_to_blank bs).word; rest = (up_to_blank bs).rest })).rest ≡ length (b ∷ bs)) [
      | true ↦ omega arith
      | false ↦ omega (arith, word_length_is bs)
    ]

skipped_length : (text : List ℕ) → length (skip_blanks text) ≤ length text
skipped_length [] = omega arith
skipped_length (b ∷ bs) =
    elim (is_blank b) as (λ t. length (cond t (skip_blanks bs) (b ∷ bs)) ≤ length (b ∷ bs)) [ true ↦ omega (arith, skipped_length bs) | false ↦ omega arith ]

-- where a word comes less is left, and where none comes nothing is
less_front : (b : ℕ) (bs : List ℕ) → is_blank b ≡ false → length (up_to_blank (b ∷ bs)).rest < length (b ∷ bs)
less_front b bs other =
    subst (λ t. length (cond {A = Word} t (record { word = []; rest = b ∷ bs }) (record { word = b ∷ (up_to_blank bs).word; rest = (up_to_blank bs).rest })).rest < length (b ∷ bs))
    (sym other) (omega (arith, word_length_is bs))

pub less_is_left : (text : List ℕ) → 0 < length (next_word text).rest → length (next_word text).rest < length text
less_is_left [] some = absurd (omega (arith, some))
less_is_left (b ∷ bs) some =
    elim (is_blank b) as (λ t. is_blank b ≡ t → 0 < length (up_to_blank (cond t (skip_blanks bs) (b ∷ bs))).rest → length (up_to_blank (cond t (skip_blanks bs) (b ∷ bs))).rest < length (b ∷ bs)) [
      | true ↦ λ blank here. omega (arith, less_is_left bs here)
      | false ↦ λ other here. less_front b bs other
    ] refl some

-- what follows a word is no longer than the text
pub rest_length : (text : List ℕ) → length (up_to_blank text).rest ≤ length text
rest_length text = omega (arith, word_length_is text)

pub ruleset parts = (parted, rest_length)
