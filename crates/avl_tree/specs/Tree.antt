-- Search trees over nodes by their ranks, balanced by height, and what the operations make of them.
use Rattle.std.specs.Prelude.{◌≡◌, ℕ, ◌+◌, ◌≤◌, ◌==◌, ◌&&◌, nat_lt, nat_le, if◌then◌else◌, max}

-- a tree: the left tree, the node's number, its rank, the height, the right tree
pub data Tree : Type 0 where
  Leaf : Tree
  Node : Tree → ℕ → ℕ → ℕ → Tree → Tree

-- the number of the root, 0 if there is none
abbrev pub root_of : Tree → ℕ
root_of Leaf = 0
root_of (Node l a s h r) = a

-- the height
abbrev pub high : Tree → ℕ
high Leaf = 0
high (Node l a s h r) = h

-- the sum of a weight over the nodes, by number and rank
abbrev pub tally : (ℕ → ℕ → ℕ) → Tree → ℕ
tally f Leaf = 0
tally f (Node l a s h r) = tally f l + f a s + tally f r

-- ---- balance

-- a node between two trees
abbrev pub forked : Tree → ℕ → ℕ → Tree → Tree
forked l a s r = Node l a s (1 + max (high l) (high r)) r

-- a node between two trees, with the left tree's root on top
abbrev pub raised_left : Tree → ℕ → ℕ → Tree → ℕ → ℕ → Tree → Tree
raised_left ll b t lr a s r = forked ll b t (forked lr a s r)

-- the same with the root of the left tree's right one on top
abbrev pub raised_inner_left : Tree → ℕ → ℕ → Tree → ℕ → ℕ → Tree → Tree
raised_inner_left ll b t Leaf a s r = raised_left ll b t Leaf a s r
raised_inner_left ll b t (Node m c u h n) a s r = forked (forked ll b t m) c u (forked n a s r)

-- a node between two trees of which the left one is too high
unfoldable pub rotated_right : Tree → ℕ → ℕ → Tree → Tree
rotated_right Leaf a s r = forked Leaf a s r
rotated_right (Node ll b t h lr) a s r =
    if nat_le (high lr) (high ll) then raised_left ll b t lr a s r else raised_inner_left ll b t lr a s r

-- the mirror images
abbrev pub raised_right : Tree → ℕ → ℕ → Tree → ℕ → ℕ → Tree → Tree
raised_right l a s rl b t rr = forked (forked l a s rl) b t rr

abbrev pub raised_inner_right : Tree → ℕ → ℕ → Tree → ℕ → ℕ → Tree → Tree
raised_inner_right l a s Leaf b t rr = raised_right l a s Leaf b t rr
raised_inner_right l a s (Node m c u h n) b t rr = forked (forked l a s m) c u (forked n b t rr)

unfoldable pub rotated_left : Tree → ℕ → ℕ → Tree → Tree
rotated_left l a s Leaf = forked l a s Leaf
rotated_left l a s (Node rl b t h rr) =
    if nat_le (high rl) (high rr) then raised_right l a s rl b t rr else raised_inner_right l a s rl b t rr

-- a node between two trees whose heights differ by two at most
unfoldable pub balanced : Tree → ℕ → ℕ → Tree → Tree
balanced l a s r =
    if nat_lt (high r + 1) (high l) then rotated_right l a s r
    else (if nat_lt (high l + 1) (high r) then rotated_left l a s r else forked l a s r)

-- ---- operations

-- a node more, of a rank that none has
unfoldable pub inserted : ℕ → ℕ → Tree → Tree
inserted a s Leaf = forked Leaf a s Leaf
inserted a s (Node l b t h r) =
    if nat_lt s t then balanced (inserted a s l) b t r else balanced l b t (inserted a s r)

-- the first node, and its rank
unfoldable pub first_of : Tree → ℕ × ℕ
first_of Leaf = (0, 0)
first_of (Node Leaf a s h r) = (a, s)
first_of (Node (Node ll b t i lr) a s h r) = first_of (Node ll b t i lr)

-- the tree without its first node
unfoldable pub rest_of : Tree → Tree
rest_of Leaf = Leaf
rest_of (Node Leaf a s h r) = r
rest_of (Node (Node ll b t i lr) a s h r) = balanced (rest_of (Node ll b t i lr)) a s r

-- one tree of two
unfoldable pub joined : Tree → Tree → Tree
joined Leaf r = r
joined (Node ll b t h lr) Leaf = Node ll b t h lr
joined (Node ll b t h lr) (Node rl c u i rr) =
    balanced (Node ll b t h lr) (first_of (Node rl c u i rr)).0 (first_of (Node rl c u i rr)).1 (rest_of (Node rl c u i rr))

-- the tree without the node of a rank
unfoldable pub removed : ℕ → Tree → Tree
removed s Leaf = Leaf
removed s (Node l b t h r) =
    if nat_lt s t then balanced (removed s l) b t r
    else (if nat_lt t s then balanced l b t (removed s r) else joined l r)

-- a node, or another one if it is 0
abbrev pub or_else : ℕ → ℕ → ℕ
or_else node other = if node == 0 then other else node

-- the first node of at least a rank, 0 if there is none
unfoldable pub found : ℕ → Tree → ℕ
found s Leaf = 0
found s (Node l b t h r) =
    if nat_lt s t then or_else (found s l) b
    else (if nat_lt t s then found s r else b)

-- ---- what is kept

-- a height over those of two trees that differ by one at most
pub record IsLevel (h i j : ℕ) : Type 0 where
  pub high : h ≡ 1 + max i j
  pub left : i ≤ j + 1
  pub right : j ≤ i + 1

-- heights are right, and differ by one at most everywhere
abbrev pub IsBalanced : Tree → Type 0
IsBalanced Leaf = Unit {0}
IsBalanced (Node l a s h r) = IsLevel h (high l) (high r) × IsBalanced l × IsBalanced r

-- the ranks rise, from low up to and without high
abbrev pub IsOrdered : ℕ → Tree → ℕ → Type 0
IsOrdered low Leaf high = low ≤ high
IsOrdered low (Node l a s h r) high = IsOrdered low l s × IsOrdered (s + 1) r high

-- ---- one node

-- 1 for this node with this rank, else 0
abbrev pub same : ℕ → ℕ → ℕ → ℕ → ℕ
same a s b t = if a == b && s == t then 1 else 0

-- 1 for a node of this rank, else 0
abbrev pub ranked : ℕ → ℕ → ℕ → ℕ
ranked s b t = if s == t then 1 else 0

-- 1 for this node, else 0
abbrev pub is_at : ℕ → ℕ → ℕ → ℕ
is_at a b t = if a == b then 1 else 0

-- 1 for a node of at least this rank, else 0
abbrev pub at_least : ℕ → ℕ → ℕ → ℕ
at_least k b t = if nat_le k t then 1 else 0

-- 1 for a node of at least one rank and below another one, else 0
abbrev pub between : ℕ → ℕ → ℕ → ℕ → ℕ
between k n b t = if nat_le k t && nat_lt t n then 1 else 0

-- the first node of at least a rank, or 0 if there is none
pub data IsFirst (k : ℕ) (t : Tree) : ℕ → Type 0 where
  nowhere : tally (at_least k) t ≡ 0 → IsFirst k t 0
  somewhere : (a s : ℕ) → k ≤ s → 1 ≤ tally (same a s) t → tally (between k s) t ≡ 0 → IsFirst k t a
