-- What the steps of the functions require and produce.
use Rattle.std.specs.Prelude.{◌≡◌, ℕ, ◌+◌, ◌^◌, ◌<◌, ◌≤◌, Option, Some, None}
use Rattle.avl_tree.specs.declared.node.Subtree.{Subtree}
use Rattle.avl_tree.specs.declared.node.Subtrees.{Subtrees}
use Rattle.avl_tree.specs.Tree.{Tree, Node, root_of, high, IsLevel, IsBalanced}
use Rattle.avl_tree.specs.View.{View, Plan, covered, IsHere, Holds, AreNodes, ChangesLinks}

-- a tree's root and height
pub record IsSubtree (t : Tree) (limb : Subtree) : Type 0 where
  pub root : root_of t ≡ limb.root
  pub high : high t ≡ limb.high

-- those of the two trees below a node
pub record AreSubtrees (l r : Tree) (arms : Subtrees) : Type 0 where
  pub left : IsSubtree l arms.left
  pub right : IsSubtree r arms.right

-- a balanced tree is at a root that is a node
pub record ReadsSubtrees {Rest : Type 0} (IsNode : ℕ → Type 0) (view : View Rest) (node : ℕ) : Type 0 where
  pub l : Tree
  pub s : ℕ
  pub h : ℕ
  pub r : Tree
  pub holds : Holds view (Node l node s h r)
  pub nodes : AreNodes IsNode (Node l node s h r)
  pub balanced : IsBalanced (Node l node s h r)
  pub low : h < 2 ^ 18

-- those of a tree that has come in the place of another one; none if they are the same
abbrev pub IsTold : Tree → Tree → Option Subtree → Type 0
IsTold old new None = (root_of new ≡ root_of old) × (high new ≡ high old)
IsTold old new (Some limb) = IsSubtree new limb

-- a node between two trees, all in the memory, and no two nodes share a place
pub record IsPlot {Rest : Type 0} (plan : Plan) (view : View Rest) (l : Tree) (a s : ℕ) (r : Tree) : Type 0 where
  pub left : Holds view l
  pub right : Holds view r
  pub some : 0 < a
  pub rank : view.rank a ≡ s
  pub apart : (q : ℕ) → covered plan q l + plan.cover q a + covered plan q r ≤ 1

-- two balanced trees and a node between them; the heights differ by two at most
pub record IsSlope {Rest : Type 0} (plan : Plan) (view : View Rest) (l : Tree) (a s : ℕ) (r : Tree) (under other : Subtree) : Type 0 where
  pub plot : IsPlot plan view l a s r
  pub left : IsSubtree l under
  pub right : IsSubtree r other
  pub left_balanced : IsBalanced l
  pub right_balanced : IsBalanced r
  pub left_near : high l ≤ high r + 2
  pub right_near : high r ≤ high l + 2
  pub low : high l < 2 ^ 17

-- a tree has been made of nodes that are in the memory
pub record Forms {Rest : Type 0} (plan : Plan) (old new : View Rest) (t : Tree) (limb : Subtree) : Type 0 where
  pub is : IsSubtree t limb
  pub holds : Holds new t
  pub changes : ChangesLinks plan old new t

-- a tree has been made of another one
pub record Reforms {Rest : Type 0} (plan : Plan) (old new : View Rest) (t t' : Tree) (limb : Option Subtree) : Type 0 where
  pub told : IsTold t t' limb
  pub holds : Holds new t'
  pub changes : ChangesLinks plan old new t'

-- a tree is in the place of a node's left tree, as high or one higher or lower; the node doesn't know of it yet
pub record IsLeftNew {Rest : Type 0} (plan : Plan) (view : View Rest) (l l' : Tree) (a s h : ℕ) (r : Tree) (change : Option Subtree) : Type 0 where
  pub told : IsTold l l' change
  pub here : IsHere view a s h (root_of l) (root_of r)
  pub holds : Holds view l'
  pub right : Holds view r
  pub apart : (q : ℕ) → covered plan q l' + plan.cover q a + covered plan q r ≤ 1
  pub level : IsLevel h (high l) (high r)
  pub balanced : IsBalanced l'
  pub right_balanced : IsBalanced r
  pub least : high l ≤ high l' + 1
  pub most : high l' ≤ high l + 1
  pub low : h < 2 ^ 16

-- the same on the right
pub record IsRightNew {Rest : Type 0} (plan : Plan) (view : View Rest) (l : Tree) (a s h : ℕ) (r r' : Tree) (change : Option Subtree) : Type 0 where
  pub told : IsTold r r' change
  pub here : IsHere view a s h (root_of l) (root_of r)
  pub left : Holds view l
  pub holds : Holds view r'
  pub apart : (q : ℕ) → covered plan q l + plan.cover q a + covered plan q r' ≤ 1
  pub level : IsLevel h (high l) (high r)
  pub left_balanced : IsBalanced l
  pub balanced : IsBalanced r'
  pub least : high r ≤ high r' + 1
  pub most : high r' ≤ high r + 1
  pub low : h < 2 ^ 16

-- a tree, or none if it has this root and height
abbrev pub IsSame : Subtree → ℕ → ℕ → Option Subtree → Type 0
IsSame limb root high None = (limb.root ≡ root) × (limb.high ≡ high)
IsSame limb root high (Some other) = other ≡ limb

-- the root of a tree that has come in the place of the one with this root
abbrev pub root_after : ℕ → Option Subtree → ℕ
root_after root None = root
root_after root (Some limb) = limb.root
