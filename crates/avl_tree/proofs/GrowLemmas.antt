-- A node more in a tree in a memory, a step of the recursion at a time.
use Rattle.std.proofs.Common.{◌≡◌, ◌≢◌, ℕ, ◌+◌, ◌*◌, ◌≤◌, true, false, Option, Some, refl, sym, subst, arith}
use Rattle.std.specs.Prelude.{◌==◌}
use Rattle.std.proofs.lemmas.Bool.Decides.{nat_tests}
use Rattle.avl_tree.specs.declared.node.Subtree.{Subtree}
use Rattle.avl_tree.specs.declared.node.SearchStep.TheVariants.{Left, Here, Right}
use Rattle.avl_tree.specs.Tree.{Tree, Leaf, Node, high, tally, is_at, ranked, forked, inserted}
use Rattle.avl_tree.specs.View.{View, Plan, IsStep, AreNodes, Stands, IsNew, LacksNode}
use Rattle.avl_tree.specs.Made.{IsLeftNew, IsRightNew, Forms, Reforms}
use Rattle.avl_tree.proofs.TreeLemmas.{tally-inserted, inserted-grows}
use Rattle.avl_tree.proofs.ViewLemmas.{nodes_in, leaf_is}
use Rattle.avl_tree.proofs.NewLemmas.{opened, left_stands, right_stands, left_new, left_made, right_new, right_made}
use Rattle.avl_tree.proofs.StepLemmas.{LeftAsks, RightAsks, LeftMakes, RightMakes, step_left, step_right, step_here, level_more}

-- nodes with one more are nodes
pub nodes_with : (IsNode : ℕ → Type 0) (a k : ℕ) (t u : Tree) → AreNodes IsNode t → IsNode a → ((x : ℕ) → tally (is_at x) u ≡ is_at x a k + tally (is_at x) t) → AreNodes IsNode u
nodes_with IsNode a k t u nodes one sum x there =
    elim (x == a) as (λ v. (x == a) ≡ v → IsNode x) [
      | true ↦ λ is. let at : a ≡ x = grind (arith, nat_tests) in subst IsNode at one
      | false ↦ λ no. let none : is_at x a k ≡ 0 = grind (arith, nat_tests) in nodes x (omega (arith, there, sum x, none))
    ] refl

module _ {Rest : Type 0} (plan : Plan) (w : View Rest) (a k : ℕ) where
  -- it is none of a subtree's
  left_of_new : (l : Tree) (root s h : ℕ) (r : Tree) → IsNew plan w (Node l root s h r) a k → IsNew plan w l a k
  left_of_new l root s h r new = record { some = new.some; rank = new.rank; fresh = omega (arith, new.fresh); apart = λ q. omega (arith, new.apart q) }

  right_of_new : (l : Tree) (root s h : ℕ) (r : Tree) → IsNew plan w (Node l root s h r) a k → IsNew plan w r a k
  right_of_new l root s h r new = record { some = new.some; rank = new.rank; fresh = omega (arith, new.fresh); apart = λ q. omega (arith, new.apart q) }

  -- the tree without a node
  pub grow-leaf_made : (u : View Rest) (limb : Subtree) (root : ℕ) → root ≡ 0 → (IsNew plan w Leaf a k → Forms plan w u (forked Leaf a k Leaf) limb) →
      (t : Tree) → Stands plan w t root → IsNew plan w t a k → Reforms plan w u t (inserted a k t) (Some limb)
  unfolding inserted
  grow-leaf_made u limb root none forms t stands new =
      let leaf = leaf_is w t root stands.holds stands.at none in
      let made = forms (subst (λ z. IsNew plan w z a k) leaf new) in
      subst (λ z. Reforms plan w u z (inserted a k z) (Some limb)) (sym leaf) (record { told = made.is; holds = made.holds; changes = made.changes })

  module _ (root : ℕ) (some : root ≢ 0) (child : ℕ) where
    module _ (IsNode : ℕ → Type 0) where
      pub grow-left_asks : IsStep w k root (Left child) → (t : Tree) → Stands plan w t root → IsNew plan w t a k → AreNodes IsNode t → IsNode a → LacksNode IsNode plan w child a k
      grow-left_asks is = opened plan w root (λ t. IsNew plan w t a k → AreNodes IsNode t → IsNode a → LacksNode IsNode plan w child a k) some
          (λ l s h r stands new nodes one. (l, left_stands plan w l root s h r stands child (step_left plan w k l root s h r stands child is).1, left_of_new l root s h r new, nodes_in IsNode l (Node l root s h r) (λ x. omega arith) nodes, one))

      pub grow-right_asks : IsStep w k root (Right child) → (t : Tree) → Stands plan w t root → IsNew plan w t a k → AreNodes IsNode t → IsNode a → LacksNode IsNode plan w child a k
      grow-right_asks is = opened plan w root (λ t. IsNew plan w t a k → AreNodes IsNode t → IsNode a → LacksNode IsNode plan w child a k) some
          (λ l s h r stands new nodes one. (r, right_stands plan w l root s h r stands child (step_right plan w k l root s h r stands child is).2, right_of_new l root s h r new, nodes_in IsNode r (Node l root s h r) (λ x. omega arith) nodes, one))

    -- what an insertion makes
    abbrev pub Grows : View Rest → ℕ → Option Subtree → Type 0
    Grows v at change = (t : Tree) → Stands plan w t at → IsNew plan w t a k → Reforms plan w v t (inserted a k t) change

    module _ (v : View Rest) (change : Option Subtree) (grows : Grows v child change) where
      grow-left_new : (is : IsStep w k root (Left child)) (l : Tree) (s h : ℕ) (r : Tree) (stands : Stands plan w (Node l root s h r) root) → IsNew plan w (Node l root s h r) a k →
          IsLeftNew plan v l (inserted a k l) root s h r change
      grow-left_new is l s h r stands new =
          let at = (step_left plan w k l root s h r stands child is).1 in
          let up = inserted-grows a k l stands.balanced.1 in
          left_new plan w l root s h r stands v (inserted a k l) change (grows l (left_stands plan w l root s h r stands child at) (left_of_new l root s h r new)) up.balanced (omega (arith, up.least)) up.most
          (λ q. omega (arith, new.apart q, tally-inserted (λ a t. plan.cover q a) a k l))

      grow-right_new : (is : IsStep w k root (Right child)) (l : Tree) (s h : ℕ) (r : Tree) (stands : Stands plan w (Node l root s h r) root) → IsNew plan w (Node l root s h r) a k →
          IsRightNew plan v l root s h r (inserted a k r) change
      grow-right_new is l s h r stands new =
          let at = (step_right plan w k l root s h r stands child is).2 in
          let up = inserted-grows a k r stands.balanced.2 in
          right_new plan w l root s h r stands v (inserted a k r) change (grows r (right_stands plan w l root s h r stands child at) (right_of_new l root s h r new)) up.balanced (omega (arith, up.least)) up.most
          (λ q. omega (arith, new.apart q, tally-inserted (λ a t. plan.cover q a) a k r))

      pub grow-left_new_asks : (IsNode : ℕ → Type 0) → IsStep w k root (Left child) → (t : Tree) → Stands plan w t root → IsNew plan w t a k → AreNodes IsNode t → IsNode a → LeftAsks IsNode plan v root change
      grow-left_new_asks IsNode is = opened plan w root (λ t. IsNew plan w t a k → AreNodes IsNode t → IsNode a → LeftAsks IsNode plan v root change) some
          (λ l s h r stands new nodes one. (
            l,
            inserted a k l,
            s,
            h,
            r,
            grow-left_new is l s h r stands new,
            nodes_with IsNode a k (Node l root s h r) (Node (inserted a k l) root s h r) nodes one (λ x. omega (arith, tally-inserted (is_at x) a k l)),
          ))

      pub grow-right_new_asks : (IsNode : ℕ → Type 0) → IsStep w k root (Right child) → (t : Tree) → Stands plan w t root → IsNew plan w t a k → AreNodes IsNode t → IsNode a → RightAsks IsNode plan v root change
      grow-right_new_asks IsNode is = opened plan w root (λ t. IsNew plan w t a k → AreNodes IsNode t → IsNode a → RightAsks IsNode plan v root change) some
          (λ l s h r stands new nodes one. (
            l,
            s,
            h,
            r,
            inserted a k r,
            grow-right_new is l s h r stands new,
            nodes_with IsNode a k (Node l root s h r) (Node l root s h (inserted a k r)) nodes one (λ x. omega (arith, tally-inserted (is_at x) a k r)),
          ))

      pub grow-left_made : (u : View Rest) (result : Option Subtree) → IsStep w k root (Left child) → LeftMakes plan v u root change result →
          (t : Tree) → Stands plan w t root → IsNew plan w t a k → Reforms plan w u t (inserted a k t) result
      unfolding inserted
      grow-left_made u result is makes = opened plan w root (λ t. IsNew plan w t a k → Reforms plan w u t (inserted a k t) result) some
          (λ l s h r stands new.
          let step = step_left plan w k l root s h r stands child is in
          let made = grow-left_new is l s h r stands new in
          let up = inserted-grows a k l stands.balanced.1 in
          rw step.0 (left_made plan w l root s h r stands v (inserted a k l) change (grows l (left_stands plan w l root s h r stands child step.1) (left_of_new l root s h r new)) up.balanced (omega (arith, up.least)) up.most made.apart u result
          (makes l (inserted a k l) s h r made)))

      pub grow-right_made : (u : View Rest) (result : Option Subtree) → IsStep w k root (Right child) → RightMakes plan v u root change result →
          (t : Tree) → Stands plan w t root → IsNew plan w t a k → Reforms plan w u t (inserted a k t) result
      unfolding inserted
      grow-right_made u result is makes = opened plan w root (λ t. IsNew plan w t a k → Reforms plan w u t (inserted a k t) result) some
          (λ l s h r stands new.
          let step = step_right plan w k l root s h r stands child is in
          let made = grow-right_new is l s h r stands new in
          let up = inserted-grows a k r stands.balanced.2 in
          rw step.0 (right_made plan w l root s h r stands v (inserted a k r) change (grows r (right_stands plan w l root s h r stands child step.2) (right_of_new l root s h r new)) up.balanced (omega (arith, up.least)) up.most made.apart u result
          (makes l s h r (inserted a k r) made)))

    -- loads below the root and at it
    pub grow-left_loads : (c m n o : ℕ) → IsStep w k root (Left child) → n ≤ m + 8 * c → ((t : Tree) → Stands plan w t child → IsNew plan w t a k → m ≤ o + c + 10 * (c * high t)) →
        (t : Tree) → Stands plan w t root → IsNew plan w t a k → n ≤ o + 10 * (c * high t)
    grow-left_loads c m n o is last below = opened plan w root (λ t. IsNew plan w t a k → n ≤ o + 10 * (c * high t)) some
        (λ l s h r stands new.
        let level = stands.balanced.0 in
        omega (arith, last, below l (left_stands plan w l root s h r stands child (step_left plan w k l root s h r stands child is).1) (left_of_new l root s h r new), level_more c (high l) h (omega (arith, level.high))))

    pub grow-right_loads : (c m n o : ℕ) → IsStep w k root (Right child) → n ≤ m + 8 * c → ((t : Tree) → Stands plan w t child → IsNew plan w t a k → m ≤ o + c + 10 * (c * high t)) →
        (t : Tree) → Stands plan w t root → IsNew plan w t a k → n ≤ o + 10 * (c * high t)
    grow-right_loads c m n o is last below = opened plan w root (λ t. IsNew plan w t a k → n ≤ o + 10 * (c * high t)) some
        (λ l s h r stands new.
        let level = stands.balanced.0 in
        omega (arith, last, below r (right_stands plan w l root s h r stands child (step_right plan w k l root s h r stands child is).2) (right_of_new l root s h r new), level_more c (high r) h (omega (arith, level.high))))

  -- no node of the tree has its rank
  pub grow-here_none : (root : ℕ) → root ≢ 0 → IsStep w k root Here → (t : Tree) → Stands plan w t root → IsNew plan w t a k → ⊥
  grow-here_none root some is = opened plan w root (λ t. IsNew plan w t a k → ⊥) some
      (λ l s h r stands new.
      let at = step_here plan w k l root s h r stands is in
      let one : ranked k root s ≡ 1 = grind (arith, nat_tests) in
      omega (arith, new.fresh, one))
