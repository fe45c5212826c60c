-- Holes as nodes of a tree: words and places.
use Rattle.std.specs.Prelude.{ℕ, ◌+◌, ◌*◌, ◌^◌, ◌≤◌}
use Rattle.avl_tree.specs.Tree.{Tree, tally}
use Rattle.avl_tree.specs.View.{View, Plan}
use Rattle.avl_tree.specs.declared.node.Links.{Links}
use Rattle.avl_alloc.specs.declared.free_blocks.FreeBlockKey.{FreeBlockKey}
use Rattle.avl_alloc.specs.Words.{Words, with_word, within}

-- holes come by size, and those of one size by place: the order as one number
abbrev pub key : ℕ → ℕ → ℕ
key place size = size * 2 ^ 64 + place

-- the rank of a key
abbrev pub rank_of : FreeBlockKey → ℕ
rank_of it = key it.place it.size

-- the links and the height of the hole at a place: three words after its header
abbrev pub links_at : Words → ℕ → Links
links_at words a = record { left = words (a + 16); right = words (a + 24); high = words (a + 32) }

-- the words with other links at a place
abbrev pub with_links : Words → ℕ → Links → Words
with_links words a links =
    with_word (with_word (with_word words (a + 16) links.left) (a + 24) links.right) (a + 32) links.high

-- the words as a tree's functions see them: a hole's size is in its header, its links and its height after it
abbrev pub view_of : Words → View ℕ
view_of words = record {
  links = links_at words;
  rank = λ a. key a (words a);
  rest = words;
}

-- a weight by place and size, as one by place and rank
abbrev pub by_key : (ℕ → ℕ → ℕ) → ℕ → ℕ → ℕ
by_key f place size = f place (key place size)

-- how many headers of holes have a place
abbrev pub heads : ℕ → ℕ → ℕ → ℕ
heads q place size = within place (place + 16) q

-- how many of their links and heights
abbrev pub links : ℕ → ℕ → ℕ → ℕ
links q place size = within (place + 16) (place + 48) q

-- what a hole takes of a place for its node, and what of it its links are
abbrev pub hole_plan : Plan
hole_plan = record { cover = λ q a. heads q a 0 + links q a 0; feet = λ q a. links q a 0 }

-- how many nodes of a tree have a place
abbrev pub cover : ℕ → Tree → ℕ
cover q t = tally (heads q) t + tally (links q) t

-- the chunks have the bytes
abbrev pub Fits : (ℕ → ℕ) → (ℕ → ℕ) → Type 0
Fits bytes real = (chunk : ℕ) → bytes chunk ≤ real chunk
