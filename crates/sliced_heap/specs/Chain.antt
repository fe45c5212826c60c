-- A chain of blocks that is linked both ways. A link is the block's key and one more, or 0 if there is no block.
use Rattle.std.specs.Prelude.{◌≡◌, ℕ, ◌+◌, ◌==◌, Bool, false, true, ◌||◌, ◌&&◌, not, List, [], ◌∷◌}

-- the link to a block
abbrev pub link_to : ℕ → ℕ
link_to block = block + 1

-- whether a block is one of the list
abbrev pub is_listed : List ℕ → ℕ → Bool
is_listed [] block = false
is_listed (first ∷ rest) block = block == first || is_listed rest block

-- whether no block is twice in the list
abbrev pub has_no_repeat : List ℕ → Bool
has_no_repeat [] = true
has_no_repeat (first ∷ rest) = not (is_listed rest first) && has_no_repeat rest

-- a link leads along these blocks, each linked back to the one before it
abbrev pub Linked : (ℕ → ℕ) → (ℕ → ℕ) → ℕ → ℕ → List ℕ → Type 0
Linked next previous before link [] = link ≡ 0
Linked next previous before link (block ∷ rest) =
    (link ≡ link_to block) × ((previous block ≡ before) × Linked next previous (link_to block) (next block) rest)

-- the first link leads along these blocks, of which none comes twice
pub record IsChain (next previous : ℕ → ℕ) (first : ℕ) (blocks : List ℕ) : Type 0 where
  pub linked : Linked next previous 0 first blocks
  pub once : has_no_repeat blocks ≡ true
