-- The first piece of a text, and the pieces after it.
use Rattle.std.specs.Prelude.{ℕ, ◌+◌, ◌==◌, ◌&&◌, ◌||◌, not, Bool, false, List, [], ◌∷◌, if◌then◌else◌, Option, Some, None}
use Rattle.own_model.specs.SessionArgs.{is_quote, pieces_of}

-- a comma or a quote
abbrev pub is_cut : ℕ → Bool
is_cut b = b == 44 || b == 34

-- how long the first piece is
abbrev pub first_len : Bool → List ℕ → ℕ
first_len quoted [] = 0
first_len quoted (b ∷ bs) =
    if b == 44 && not quoted then 0
    else 1 + first_len (if is_quote b then not quoted else quoted) bs

-- the pieces of what stands after a comma, if there is a comma
abbrev pub pieces_after : Option (List ℕ) → List (List ℕ)
pieces_after None = []
pieces_after (Some text) = pieces_of false text

-- a comma and what is after it, if it is there
abbrev pub after_comma : Option (List ℕ) → List ℕ
after_comma None = []
after_comma (Some text) = 44 ∷ text
