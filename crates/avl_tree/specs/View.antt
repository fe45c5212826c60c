-- What the functions see of a memory with nodes, and a tree in it.
use Rattle.std.specs.Prelude.{◌≡◌, ℕ, ◌+◌, ◌^◌, ◌<◌, ◌≤◌, ◌==◌, if◌then◌else◌}
use Rattle.avl_tree.specs.declared.node.Links.{Links}
use Rattle.avl_tree.specs.declared.node.SearchStep.{SearchStep}
use Rattle.avl_tree.specs.declared.node.SearchStep.TheVariants.{Left, Here, Right}
use Rattle.avl_tree.specs.Tree.{Tree, Leaf, Node, root_of, high, tally, is_at, ranked, IsBalanced}

-- what each node's number has, and what is at each place in addition to links and ranks
pub record View (Rest : Type 0) : Type 0 where
  pub links : ℕ → Links
  pub rank : ℕ → ℕ
  pub rest : ℕ → Rest

-- how much of a place a node takes, and how much of it its links may change
pub record Plan : Type 0 where
  pub cover : ℕ → ℕ → ℕ
  pub feet : ℕ → ℕ → ℕ

-- where a search for a rank continues from a node
abbrev pub IsStep : {Rest : Type 0} → View Rest → ℕ → ℕ → SearchStep → Type 0
IsStep view s node (Left child) = (s < view.rank node) × ((view.links node).left ≡ child)
IsStep view s node Here = view.rank node ≡ s
IsStep view s node (Right child) = (view.rank node < s) × ((view.links node).right ≡ child)

-- how much of a place the nodes of a tree take
abbrev pub covered : Plan → ℕ → Tree → ℕ
covered plan q t = tally (λ a s. plan.cover q a) t

-- how much of it their links may change
abbrev pub trodden : Plan → ℕ → Tree → ℕ
trodden plan q t = tally (λ a s. plan.feet q a) t

-- a node has got these links, and nothing else has changed
pub record IsRelinked {Rest : Type 0} (plan : Plan) (old new : View Rest) (node : ℕ) (given : Links) : Type 0 where
  pub links : new.links node ≡ given
  pub rank : new.rank node ≡ old.rank node
  pub other_links : (b : ℕ) → ((q : ℕ) → plan.cover q b + plan.cover q node ≤ 1) → new.links b ≡ old.links b
  pub other_ranks : (b : ℕ) → ((q : ℕ) → plan.cover q b + plan.cover q node ≤ 1) → new.rank b ≡ old.rank b
  pub rest : (q : ℕ) → plan.feet q node ≡ 0 → new.rest q ≡ old.rest q

-- a node of a tree. No node is number 0
pub record IsHere {Rest : Type 0} (view : View Rest) (a s h l r : ℕ) : Type 0 where
  pub some : 0 < a
  pub rank : view.rank a ≡ s
  pub links : view.links a ≡ record { left = l; right = r; high = h }

-- a tree is in the memory
abbrev pub Holds : {Rest : Type 0} → View Rest → Tree → Type 0
Holds view Leaf = Unit {0}
Holds view (Node l a s h r) = IsHere view a s h (root_of l) (root_of r) × Holds view l × Holds view r

-- all nodes of a tree are nodes
abbrev pub AreNodes : (ℕ → Type 0) → Tree → Type 0
AreNodes IsNode t = (a : ℕ) → 1 ≤ tally (is_at a) t → IsNode a

-- a balanced tree in the memory, by its root; no two nodes share a place
pub record Stands {Rest : Type 0} (plan : Plan) (view : View Rest) (t : Tree) (root : ℕ) : Type 0 where
  pub at : root_of t ≡ root
  pub holds : Holds view t
  pub balanced : IsBalanced t
  pub low : high t < 2 ^ 16
  pub apart : (q : ℕ) → covered plan q t ≤ 1

-- a node that is none of a tree's yet; none of these has its rank
pub record IsNew {Rest : Type 0} (plan : Plan) (view : View Rest) (t : Tree) (a s : ℕ) : Type 0 where
  pub some : 0 < a
  pub rank : view.rank a ≡ s
  pub fresh : tally (ranked s) t ≡ 0
  pub apart : (q : ℕ) → plan.cover q a + covered plan q t ≤ 1

-- a tree is at a root
abbrev pub HasTree : {Rest : Type 0} → (ℕ → Type 0) → Plan → View Rest → ℕ → Type 0
HasTree IsNode plan view root = (t : Tree) × Stands plan view t root × AreNodes IsNode t

-- a tree is at the root that has neither this node nor its rank
abbrev pub LacksNode : {Rest : Type 0} → (ℕ → Type 0) → Plan → View Rest → ℕ → ℕ → ℕ → Type 0
LacksNode IsNode plan view root a s =
    (t : Tree) × Stands plan view t root × IsNew plan view t a s × AreNodes IsNode t × IsNode a

-- nothing has changed but the links of a tree's nodes
pub record ChangesLinks {Rest : Type 0} (plan : Plan) (old new : View Rest) (t : Tree) : Type 0 where
  pub links : (b : ℕ) → ((q : ℕ) → plan.cover q b + covered plan q t ≤ 1) → new.links b ≡ old.links b
  pub rank : (b : ℕ) → ((q : ℕ) → plan.cover q b + covered plan q t ≤ 1) → new.rank b ≡ old.rank b
  pub rest : (q : ℕ) → trodden plan q t ≡ 0 → new.rest q ≡ old.rest q

-- a tree is now in the memory
pub record Becomes {Rest : Type 0} (plan : Plan) (old new : View Rest) (t : Tree) (root : ℕ) : Type 0 where
  pub at : root_of t ≡ root
  pub holds : Holds new t
  pub balanced : IsBalanced t
  pub changes : ChangesLinks plan old new t

-- the height that is in a tree's root
abbrev pub height_at : {Rest : Type 0} → View Rest → ℕ → ℕ
height_at view root = if root == 0 then 0 else (view.links root).high
