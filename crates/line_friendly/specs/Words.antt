-- Tokens, separated by blanks.
use Rattle.std.specs.Prelude.{ℕ, ◌==◌, ◌||◌, Bool, true, false, List, [], ◌∷◌, if◌then◌else◌}

-- a space or a tab
abbrev pub is_blank : ℕ → Bool
is_blank b = b == 32 || b == 9

-- a text without the blanks at its front
abbrev pub skip_blanks : List ℕ → List ℕ
skip_blanks [] = []
skip_blanks (b ∷ bs) = if is_blank b then skip_blanks bs else b ∷ bs

-- a token, and the text after it
pub record Word : Type 0 where
  pub word : List ℕ
  pub rest : List ℕ

-- a text up to its first blank
abbrev pub up_to_blank : List ℕ → Word
up_to_blank [] = record { word = []; rest = [] }
up_to_blank (b ∷ bs) =
    if is_blank b then record { word = []; rest = b ∷ bs }
    else record { word = b ∷ (up_to_blank bs).word; rest = (up_to_blank bs).rest }

-- the first token of a text, after any blanks
abbrev pub next_word : List ℕ → Word
next_word text = up_to_blank (skip_blanks text)

-- a token with a space before it, and nothing if there is none
abbrev pub spaced : List ℕ → List ℕ
spaced [] = []
spaced (b ∷ bs) = 32 ∷ b ∷ bs

-- each token of a text with a space before it; the text begins within a token, or not
abbrev pub words_spaced : Bool → List ℕ → List ℕ
words_spaced within [] = []
words_spaced within (b ∷ bs) =
    if is_blank b then words_spaced false bs
    else (if within then b ∷ words_spaced true bs else 32 ∷ b ∷ words_spaced true bs)
