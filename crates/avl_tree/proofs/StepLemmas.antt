-- The operations on trees in a memory, a step of their recursions at a time.
use Rattle.std.proofs.Common.{◌≡◌, ◌≢◌, ℕ, ◌+◌, ◌*◌, ◌<◌, ◌≤◌, true, false, Option, Some, None, refl, sym, ◌∙◌, subst, arith}
use Rattle.std.specs.Prelude.{nat_lt, if◌then◌else◌, ◌==◌}
use Rattle.std.proofs.lemmas.Bool.Decides.{nat_tests}
use Rattle.avl_tree.specs.declared.node.Subtree.{Subtree}
use Rattle.avl_tree.specs.declared.node.SearchStep.TheVariants.{Left, Here, Right}
use Rattle.avl_tree.specs.Tree.{Tree, Leaf, Node, root_of, high, tally, is_at, balanced, removed, joined, found, or_else, IsBalanced}
use Rattle.avl_tree.specs.View.{View, Plan, IsStep, AreNodes, Stands, HasTree, Becomes, height_at}
use Rattle.avl_tree.specs.Made.{IsLeftNew, IsRightNew, Forms, Reforms, root_after}
use Rattle.avl_tree.proofs.TreeLemmas.{tally-removed_le, removed-shrinks}
use Rattle.avl_tree.proofs.TurnLemmas.{ltb-true, ltb-false}
use Rattle.avl_tree.proofs.ViewLemmas.{root_node, nodes_in, height_is, leaf_is, changes_none}
use Rattle.avl_tree.proofs.NewLemmas.{opened, left_stands, right_stands, left_new, left_made, right_new, right_made}

-- so many loads at one level more
pub level_more : (c m n : ℕ) → m + 1 ≤ n → c * m + c ≤ c * n
level_more c m n le = grind (arith)

-- what a tree's other left tree asks, and its other right tree
abbrev pub LeftAsks : {Rest : Type 0} → (ℕ → Type 0) → Plan → View Rest → ℕ → Option Subtree → Type 0
LeftAsks IsNode plan w root change = (l l' : Tree) × (s h : ℕ) × (r : Tree) × IsLeftNew plan w l l' root s h r change × AreNodes IsNode (Node l' root s h r)

abbrev pub RightAsks : {Rest : Type 0} → (ℕ → Type 0) → Plan → View Rest → ℕ → Option Subtree → Type 0
RightAsks IsNode plan w root change = (l : Tree) × (s h : ℕ) × (r r' : Tree) × IsRightNew plan w l root s h r r' change × AreNodes IsNode (Node l root s h r')

-- and what they make
abbrev pub LeftMakes : {Rest : Type 0} → Plan → View Rest → View Rest → ℕ → Option Subtree → Option Subtree → Type 0
LeftMakes plan v u root change result = (l l' : Tree) (s h : ℕ) (r : Tree) → IsLeftNew plan v l l' root s h r change → Reforms plan v u (Node l root s h r) (balanced l' root s r) result

abbrev pub RightMakes : {Rest : Type 0} → Plan → View Rest → View Rest → ℕ → Option Subtree → Option Subtree → Type 0
RightMakes plan v u root change result = (l : Tree) (s h : ℕ) (r r' : Tree) → IsRightNew plan v l root s h r r' change → Reforms plan v u (Node l root s h r) (balanced l root s r') result

module _ {Rest : Type 0} (plan : Plan) (w : View Rest) where
  -- a step leads to the root of a subtree
  module _ (k : ℕ) (l : Tree) (root s h : ℕ) (r : Tree) (stands : Stands plan w (Node l root s h r) root) where
    pub step_left : (child : ℕ) → IsStep w k root (Left child) → (nat_lt k s ≡ true) × (root_of l ≡ child)
    step_left child is = (ltb-true (omega (arith, is.0, stands.holds.0.rank)), (λ i. (sym stands.holds.0.links i).left) ∙ is.1)

    pub step_right : (child : ℕ) → IsStep w k root (Right child) → (nat_lt k s ≡ false) × (nat_lt s k ≡ true) × (root_of r ≡ child)
    step_right child is = (ltb-false (omega (arith, is.0, stands.holds.0.rank)), ltb-true (omega (arith, is.0, stands.holds.0.rank)), (λ i. (sym stands.holds.0.links i).right) ∙ is.1)

    pub step_here : IsStep w k root Here → s ≡ k
    step_here is = sym stands.holds.0.rank ∙ is

    -- the subtrees are lower
    lower_left : (child : ℕ) → root_of l ≡ child → height_at w child < height_at w root
    lower_left child at =
        let level = stands.balanced.0 in
        omega (arith, height_is w (Node l root s h r) root stands.holds refl, height_is w l child stands.holds.1 at)

    lower_right : (child : ℕ) → root_of r ≡ child → height_at w child < height_at w root
    lower_right child at =
        let level = stands.balanced.0 in
        omega (arith, height_is w (Node l root s h r) root stands.holds refl, height_is w r child stands.holds.2 at)

  module _ (k root : ℕ) (some : root ≢ 0) where
    pub lower_to_left : (child : ℕ) → IsStep w k root (Left child) → (t : Tree) → Stands plan w t root → height_at w child < height_at w root
    lower_to_left child is = opened plan w root (λ t. height_at w child < height_at w root) some
        (λ l s h r stands. lower_left k l root s h r stands child (step_left k l root s h r stands child is).1)

    pub lower_to_right : (child : ℕ) → IsStep w k root (Right child) → (t : Tree) → Stands plan w t root → height_at w child < height_at w root
    lower_to_right child is = opened plan w root (λ t. height_at w child < height_at w root) some
        (λ l s h r stands. lower_right k l root s h r stands child (step_right k l root s h r stands child is).2)

    module _ (IsNode : ℕ → Type 0) where
      -- ---- a node less

      pub prune-left_asks : (child : ℕ) → IsStep w k root (Left child) → (t : Tree) → Stands plan w t root → AreNodes IsNode t → HasTree IsNode plan w child
      prune-left_asks child is = opened plan w root (λ t. AreNodes IsNode t → HasTree IsNode plan w child) some
          (λ l s h r stands nodes. (l, left_stands plan w l root s h r stands child (step_left k l root s h r stands child is).1, nodes_in IsNode l (Node l root s h r) (λ a. omega arith) nodes))

      pub prune-right_asks : (child : ℕ) → IsStep w k root (Right child) → (t : Tree) → Stands plan w t root → AreNodes IsNode t → HasTree IsNode plan w child
      prune-right_asks child is = opened plan w root (λ t. AreNodes IsNode t → HasTree IsNode plan w child) some
          (λ l s h r stands nodes. (r, right_stands plan w l root s h r stands child (step_right k l root s h r stands child is).2, nodes_in IsNode r (Node l root s h r) (λ a. omega arith) nodes))

      -- ---- the node itself

      pub prune-here_asks : (t : Tree) → Stands plan w t root → AreNodes IsNode t →
          (l : Tree) × (s h : ℕ) × (r : Tree) × Stands plan w (Node l root s h r) root × AreNodes IsNode (Node l root s h r)
      prune-here_asks = opened plan w root (λ t. AreNodes IsNode t → (l : Tree) × (s h : ℕ) × (r : Tree) × Stands plan w (Node l root s h r) root × AreNodes IsNode (Node l root s h r)) some
          (λ l s h r stands nodes. (l, s, h, r, stands, nodes))

    -- what a removal makes
    abbrev pub Prunes : View Rest → ℕ → Option Subtree → Type 0
    Prunes v at change = (t : Tree) → Stands plan w t at → Reforms plan w v t (removed k t) change

    module _ (child : ℕ) (v : View Rest) (change : Option Subtree) (prunes : Prunes v child change) where
      prune-left_new : (is : IsStep w k root (Left child)) (l : Tree) (s h : ℕ) (r : Tree) (stands : Stands plan w (Node l root s h r) root) →
          IsLeftNew plan v l (removed k l) root s h r change
      prune-left_new is l s h r stands =
          let at = (step_left k l root s h r stands child is).1 in
          let shrinks = removed-shrinks k l stands.balanced.1 in
          left_new plan w l root s h r stands v (removed k l) change (prunes l (left_stands plan w l root s h r stands child at)) shrinks.balanced shrinks.least (omega (arith, shrinks.most))
          (λ q. omega (arith, stands.apart q, tally-removed_le (λ a t. plan.cover q a) k l))

      prune-right_new : (is : IsStep w k root (Right child)) (l : Tree) (s h : ℕ) (r : Tree) (stands : Stands plan w (Node l root s h r) root) →
          IsRightNew plan v l root s h r (removed k r) change
      prune-right_new is l s h r stands =
          let at = (step_right k l root s h r stands child is).2 in
          let shrinks = removed-shrinks k r stands.balanced.2 in
          right_new plan w l root s h r stands v (removed k r) change (prunes r (right_stands plan w l root s h r stands child at)) shrinks.balanced shrinks.least (omega (arith, shrinks.most))
          (λ q. omega (arith, stands.apart q, tally-removed_le (λ a t. plan.cover q a) k r))

      pub prune-left_new_asks : (IsNode : ℕ → Type 0) → IsStep w k root (Left child) → (t : Tree) → Stands plan w t root → AreNodes IsNode t → LeftAsks IsNode plan v root change
      prune-left_new_asks IsNode is = opened plan w root (λ t. AreNodes IsNode t → LeftAsks IsNode plan v root change) some
          (λ l s h r stands nodes. (l, removed k l, s, h, r, prune-left_new is l s h r stands, nodes_in IsNode (Node (removed k l) root s h r) (Node l root s h r) (λ a. omega (arith, tally-removed_le (is_at a) k l)) nodes))

      pub prune-right_new_asks : (IsNode : ℕ → Type 0) → IsStep w k root (Right child) → (t : Tree) → Stands plan w t root → AreNodes IsNode t → RightAsks IsNode plan v root change
      prune-right_new_asks IsNode is = opened plan w root (λ t. AreNodes IsNode t → RightAsks IsNode plan v root change) some
          (λ l s h r stands nodes. (l, s, h, r, removed k r, prune-right_new is l s h r stands, nodes_in IsNode (Node l root s h (removed k r)) (Node l root s h r) (λ a. omega (arith, tally-removed_le (is_at a) k r)) nodes))

      pub prune-left_made : (u : View Rest) (result : Option Subtree) → IsStep w k root (Left child) → LeftMakes plan v u root change result → (t : Tree) → Stands plan w t root → Reforms plan w u t (removed k t) result
      unfolding removed
      prune-left_made u result is makes = opened plan w root (λ t. Reforms plan w u t (removed k t) result) some
          (λ l s h r stands.
          let step = step_left k l root s h r stands child is in
          let new = prune-left_new is l s h r stands in
          let shrinks = removed-shrinks k l stands.balanced.1 in
          rw step.0 (left_made plan w l root s h r stands v (removed k l) change (prunes l (left_stands plan w l root s h r stands child step.1)) shrinks.balanced shrinks.least (omega (arith, shrinks.most)) new.apart u result
          (makes l (removed k l) s h r new)))

      pub prune-right_made : (u : View Rest) (result : Option Subtree) → IsStep w k root (Right child) → RightMakes plan v u root change result → (t : Tree) → Stands plan w t root → Reforms plan w u t (removed k t) result
      unfolding removed
      prune-right_made u result is makes = opened plan w root (λ t. Reforms plan w u t (removed k t) result) some
          (λ l s h r stands.
          let step = step_right k l root s h r stands child is in
          let new = prune-right_new is l s h r stands in
          let shrinks = removed-shrinks k r stands.balanced.2 in
          rw (step.0, step.1) (right_made plan w l root s h r stands v (removed k r) change (prunes r (right_stands plan w l root s h r stands child step.2)) shrinks.balanced shrinks.least (omega (arith, shrinks.most)) new.apart u result
          (makes l s h r (removed k r) new)))

    -- its trees are joined
    pub join_asks : (IsNode : ℕ → Type 0) → (t : Tree) → Stands plan w t root → AreNodes IsNode t →
        (l : Tree) × (s h : ℕ) × (r : Tree) × Stands plan w (Node l root s h r) root × AreNodes IsNode (Node l root s h r)
    join_asks IsNode = opened plan w root (λ t. AreNodes IsNode t → (l : Tree) × (s h : ℕ) × (r : Tree) × Stands plan w (Node l root s h r) root × AreNodes IsNode (Node l root s h r)) some
        (λ l s h r stands nodes. (l, s, h, r, stands, nodes))

    pub prune-here_made : (u : View Rest) (limb : Subtree) → IsStep w k root Here → ((l : Tree) (s h : ℕ) (r : Tree) → Stands plan w (Node l root s h r) root → Forms plan w u (joined l r) limb) →
        (t : Tree) → Stands plan w t root → Reforms plan w u t (removed k t) (Some limb)
    unfolding removed
    prune-here_made u limb is joins = opened plan w root (λ t. Reforms plan w u t (removed k t) (Some limb)) some
        (λ l s h r stands.
        let same = step_here k l root s h r stands is in
        let made = joins l s h r stands in
        rw (ltb-false {m = k} {n = s} (omega (arith, same)), ltb-false {m = s} {n = k} (omega (arith, same))) (record { told = made.is; holds = made.holds; changes = made.changes }))

    -- loads below the root and at it
    pub left_loads : (c m n o : ℕ) (child : ℕ) → IsStep w k root (Left child) → n ≤ m + 8 * c → ((t : Tree) → Stands plan w t child → m ≤ o + c + 10 * (c * high t)) → (t : Tree) → Stands plan w t root → n ≤ o + 10 * (c * high t)
    left_loads c m n o child is last below = opened plan w root (λ t. n ≤ o + 10 * (c * high t)) some
        (λ l s h r stands.
        let level = stands.balanced.0 in
        omega (arith, last, below l (left_stands plan w l root s h r stands child (step_left k l root s h r stands child is).1), level_more c (high l) h (omega (arith, level.high))))

    pub right_loads : (c m n o : ℕ) (child : ℕ) → IsStep w k root (Right child) → n ≤ m + 8 * c → ((t : Tree) → Stands plan w t child → m ≤ o + c + 10 * (c * high t)) → (t : Tree) → Stands plan w t root → n ≤ o + 10 * (c * high t)
    right_loads c m n o child is last below = opened plan w root (λ t. n ≤ o + 10 * (c * high t)) some
        (λ l s h r stands.
        let level = stands.balanced.0 in
        omega (arith, last, below r (right_stands plan w l root s h r stands child (step_right k l root s h r stands child is).2), level_more c (high r) h (omega (arith, level.high))))

    pub here_loads : (c n o : ℕ) → ((l : Tree) (s h : ℕ) (r : Tree) → Stands plan w (Node l root s h r) root → n ≤ o + 10 * (c * high r) + 10 * c) → (t : Tree) → Stands plan w t root → n ≤ o + 10 * (c * high t)
    here_loads c n o joins = opened plan w root (λ t. n ≤ o + 10 * (c * high t)) some
        (λ l s h r stands.
        let level = stands.balanced.0 in
        omega (arith, joins l s h r stands, level_more c (high r) h (omega (arith, level.high))))

  -- the tree without a node
  pub prune-leaf_made : (k root : ℕ) → root ≡ 0 → (t : Tree) → Stands plan w t root → Reforms plan w w t (removed k t) None
  unfolding removed
  prune-leaf_made k root none t stands =
      subst (λ z. Reforms plan w w z (removed k z) None) (sym (leaf_is w t root stands.holds stands.at none))
      (record { told = (refl, refl); holds = tt; changes = changes_none plan w Leaf })

  -- ---- the search

  -- what is left to look through, with the best node so far, has the answer of the whole tree
  abbrev pub Finding : ℕ → ℕ → ℕ → ℕ → ℕ → ℕ → ℕ → Type 0
  Finding k root node best c n o =
      (t : Tree) → Stands plan w t root → (u : Tree) × Stands plan w u node × (or_else (found k u) best ≡ found k t) × (n + c * high u ≤ o + c * high t)
      × ((x : ℕ) → tally (is_at x) u ≤ tally (is_at x) t)

  or_else-some : (x y z : ℕ) → y ≢ 0 → or_else (or_else x y) z ≡ or_else x y
  or_else-some x y z some = grind (arith, nat_tests)

  module _ (k root node best c n o : ℕ) (some : node ≢ 0) (finding : Finding k root node best c n o) where
    pub find-left : (m child : ℕ) → m ≤ n + c → IsStep w k node (Left child) → Finding k root child node c m o
    unfolding found
    find-left m child few is t stands =
        opened plan w node (λ u. or_else (found k u) best ≡ found k t → n + c * high u ≤ o + c * high t → ((x : ℕ) → tally (is_at x) u ≤ tally (is_at x) t) →
        (v : Tree) × Stands plan w v child × (or_else (found k v) node ≡ found k t) × (m + c * high v ≤ o + c * high t) × ((x : ℕ) → tally (is_at x) v ≤ tally (is_at x) t)) some
        (λ l s h r under same loads inside.
        let step = step_left k l node s h r under child is in
        let level = under.balanced.0 in (
          l,
          left_stands plan w l node s h r under child step.1,
          sym (or_else-some (found k l) node best some) ∙ subst (λ v. or_else (if v then or_else (found k l) node else (if nat_lt s k then found k r else node)) best ≡ found k t) step.0 same,
          omega (arith, loads, few, level_more c (high l) h (omega (arith, level.high))),
          λ x. omega (arith, inside x),
        ))
        (finding t stands).0 (finding t stands).1 (finding t stands).2 (finding t stands).3 (finding t stands).4

    pub find-right : (m child : ℕ) → m ≤ n + c → IsStep w k node (Right child) → Finding k root child best c m o
    unfolding found
    find-right m child few is t stands =
        opened plan w node (λ u. or_else (found k u) best ≡ found k t → n + c * high u ≤ o + c * high t → ((x : ℕ) → tally (is_at x) u ≤ tally (is_at x) t) →
        (v : Tree) × Stands plan w v child × (or_else (found k v) best ≡ found k t) × (m + c * high v ≤ o + c * high t) × ((x : ℕ) → tally (is_at x) v ≤ tally (is_at x) t)) some
        (λ l s h r under same loads inside.
        let step = step_right k l node s h r under child is in
        let level = under.balanced.0 in (
          r,
          right_stands plan w l node s h r under child step.2,
          subst (λ v. or_else (if v then found k r else node) best ≡ found k t) step.1 (subst (λ v. or_else (if v then or_else (found k l) node else (if nat_lt s k then found k r else node)) best ≡ found k t) step.0 same),
          omega (arith, loads, few, level_more c (high r) h (omega (arith, level.high))),
          λ x. omega (arith, inside x),
        ))
        (finding t stands).0 (finding t stands).1 (finding t stands).2 (finding t stands).3 (finding t stands).4

    pub find-here : (m : ℕ) → m ≤ n + c → IsStep w k node Here → (t : Tree) → Stands plan w t root → (node ≡ found k t) × (m ≤ o + c * high t)
    unfolding found
    find-here m few is t stands =
        opened plan w node (λ u. or_else (found k u) best ≡ found k t → n + c * high u ≤ o + c * high t → (node ≡ found k t) × (m ≤ o + c * high t)) some
        (λ l s h r under same loads.
        let at = step_here k l node s h r under is in
        let level = under.balanced.0 in
        let is_some : (node == 0) ≡ false = grind (arith, nat_tests) in (
          subst (λ v. (if v then best else node) ≡ found k t) is_some
              (subst (λ v. or_else (if v then found k r else node) best ≡ found k t) (ltb-false {m = s} {n = k} (omega (arith, at))) (subst (λ v. or_else (if v then or_else (found k l) node else (if nat_lt s k then found k r else node)) best ≡ found k t) (ltb-false {m = k} {n = s} (omega (arith, at))) same)),
          omega (arith, loads, few, level_more c 0 h (omega (arith, level.high))),
        ))
        (finding t stands).0 (finding t stands).1 (finding t stands).2 (finding t stands).3

    -- there is a tree yet
    pub find-lower_left : (child : ℕ) → IsStep w k node (Left child) → (t : Tree) → Stands plan w t root → height_at w child < height_at w node
    find-lower_left child is t stands = lower_to_left k node some child is (finding t stands).0 (finding t stands).1

    pub find-lower_right : (child : ℕ) → IsStep w k node (Right child) → (t : Tree) → Stands plan w t root → height_at w child < height_at w node
    find-lower_right child is t stands = lower_to_right k node some child is (finding t stands).0 (finding t stands).1

    pub find-node : (IsNode : ℕ → Type 0) → (t : Tree) → Stands plan w t root → AreNodes IsNode t → IsNode node
    find-node IsNode t stands nodes =
        let f = finding t stands in
        root_node IsNode f.0 node (nodes_in IsNode f.0 t f.4 nodes) f.1.at some

  pub find-start : (k root c n : ℕ) → Finding k root root 0 c n n
  find-start k root c n t stands = (t, stands, or_else-zero (found k t), omega arith, λ x. omega arith)
    where
      or_else-zero : (x : ℕ) → or_else x 0 ≡ x
      or_else-zero x = grind (arith, nat_tests)

  pub find-end : (k root best c n o : ℕ) → Finding k root 0 best c n o → (t : Tree) → Stands plan w t root → (best ≡ found k t) × (n ≤ o + c * high t)
  unfolding found
  find-end k root best c n o finding t stands =
      let f = finding t stands in
      let leaf = leaf_is w f.0 0 f.1.holds f.1.at refl in
      (subst (λ z. or_else (found k z) best ≡ found k t) leaf f.2, omega (arith, f.3))

  -- what has been told of a tree, by its root
  pub becomes_told : (v : View Rest) (t t' : Tree) (root : ℕ) (change : Option Subtree) (at : ℕ) → Stands plan w t root → IsBalanced t' → Reforms plan w v t t' change → at ≡ root_after root change → Becomes plan w v t' at
  becomes_told v t t' root None at stands even made is =
      record { at = made.told.0 ∙ stands.at ∙ sym is; holds = made.holds; balanced = even; changes = made.changes }
  becomes_told v t t' root (Some limb) at stands even made is =
      record { at = made.told.root ∙ sym is; holds = made.holds; balanced = even; changes = made.changes }
