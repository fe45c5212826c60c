-- Words by the byte with which they begin.
use Rattle.std.specs.Prelude.{ℕ, Bool, false, List, [], ◌∷◌, ◌==◌}
use Rattle.std.specs.List.{filter}

-- whether a word begins with a byte
abbrev pub begins_with : ℕ → List ℕ → Bool
begins_with first [] = false
begins_with first (byte ∷ _) = byte == first

-- those whose word begins with a byte
abbrev pub with_first : {X : Type 0} → (X → List ℕ) → ℕ → List X → List X
with_first word_of first = filter (λ x. begins_with first (word_of x))
