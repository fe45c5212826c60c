-- Taking the first node out of a tree in a memory, and joining two trees.
use Rattle.std.proofs.Common.{◌≡◌, ◌≢◌, ℕ, ◌+◌, ◌*◌, ◌<◌, ◌≤◌, Option, Some, refl, sym, ◌∙◌, subst, arith}
use Rattle.avl_tree.specs.declared.node.Subtree.{Subtree}
use Rattle.avl_tree.specs.declared.node.Links.{Links}
use Rattle.avl_tree.specs.Tree.{Tree, Leaf, Node, root_of, high, is_at, balanced, joined, first_of, rest_of}
use Rattle.avl_tree.specs.View.{View, Plan, Holds, AreNodes, Stands, height_at}
use Rattle.avl_tree.specs.Made.{IsSubtree, IsTold, IsLeftNew, IsSlope, Forms, Reforms}
use Rattle.avl_tree.proofs.TreeLemmas.{tally-balanced, tally-rest_of, rest_of-shrinks}
use Rattle.avl_tree.proofs.ViewLemmas.{holds_apart, changes_none, changes_then, nodes_in, height_is}
use Rattle.avl_tree.proofs.NewLemmas.{opened, left_stands, right_stands, left_new, left_made}
use Rattle.avl_tree.proofs.StepLemmas.{LeftAsks, LeftMakes, level_more}

-- a tree that has a root has a node
leaf_none : {Rest : Type 0} (w : View Rest) (t : Tree) → Holds w t → root_of t ≡ 0 → t ≡ Leaf
leaf_none w Leaf held at = refl
leaf_none w (Node l a s h r) held at = absurd (omega (arith, held.0.some))

-- the first node is a node with its rank
first_holds : {Rest : Type 0} (w : View Rest) (l : Tree) (a s h : ℕ) (r : Tree) → Holds w (Node l a s h r) →
    (0 < (first_of (Node l a s h r)).0) × (w.rank (first_of (Node l a s h r)).0 ≡ (first_of (Node l a s h r)).1)
unfolding first_of
first_holds w Leaf a s h r held = (held.0.some, held.0.rank)
first_holds w (Node ll b t i lr) a s h r held = first_holds w ll b t i lr held.1

module _ {Rest : Type 0} (plan : Plan) (w : View Rest) where
  abbrev pub Parts : View Rest → ℕ → Option Subtree → Type 0
  Parts v at change = (t : Tree) → Stands plan w t at → Reforms plan w v t (rest_of t) change

  module _ (root : ℕ) (read : Links) (some : root ≢ 0) (is : read ≡ w.links root) where
    left_is : (l : Tree) (s h : ℕ) (r : Tree) → Stands plan w (Node l root s h r) root → root_of l ≡ read.left
    left_is l s h r stands = λ i. (sym (is ∙ stands.holds.0.links) i).left

    right_is : (l : Tree) (s h : ℕ) (r : Tree) → Stands plan w (Node l root s h r) root → root_of r ≡ read.right
    right_is l s h r stands = λ i. (sym (is ∙ stands.holds.0.links) i).right

    -- a root without a left tree is the first node
    pub part-here_first : read.left ≡ 0 → (t : Tree) → Stands plan w t root → root ≡ (first_of t).0
    unfolding first_of
    part-here_first none = opened plan w root (λ t. root ≡ (first_of t).0) some
        (λ l s h r stands.
        let leaf = leaf_none w l stands.holds.1 (left_is l s h r stands ∙ none) in
        subst (λ z. root ≡ (first_of (Node z root s h r)).0) (sym leaf) refl)

    pub part-here_made : (limb : Subtree) → read.left ≡ 0 → ((r : Tree) → Holds w r → root_of r ≡ read.right → IsSubtree r limb) → (t : Tree) → Stands plan w t root → Reforms plan w w t (rest_of t) (Some limb)
    unfolding rest_of
    part-here_made limb none limbs = opened plan w root (λ t. Reforms plan w w t (rest_of t) (Some limb)) some
        (λ l s h r stands.
        let leaf = leaf_none w l stands.holds.1 (left_is l s h r stands ∙ none) in
        subst (λ z. Reforms plan w w (Node z root s h r) (rest_of (Node z root s h r)) (Some limb)) (sym leaf)
        (record { told = limbs r stands.holds.2 (right_is l s h r stands); holds = stands.holds.2; changes = changes_none plan w r }))

    -- else the first node of the left tree is
    pub part_lower : (t : Tree) → Stands plan w t root → height_at w read.left < height_at w root
    part_lower = opened plan w root (λ t. height_at w read.left < height_at w root) some
        (λ l s h r stands.
        let level = stands.balanced.0 in
        omega (arith, level.high, height_is w (Node l root s h r) root stands.holds refl, height_is w l read.left stands.holds.1 (left_is l s h r stands)))

    pub part-left_asks : (IsNode : ℕ → Type 0) → read.left ≢ 0 → (t : Tree) → Stands plan w t root → AreNodes IsNode t → (u : Tree) × Stands plan w u read.left × AreNodes IsNode u × (read.left ≢ 0)
    part-left_asks IsNode left = opened plan w root (λ t. AreNodes IsNode t → (u : Tree) × Stands plan w u read.left × AreNodes IsNode u × (read.left ≢ 0)) some
        (λ l s h r stands nodes. (l, left_stands plan w l root s h r stands read.left (left_is l s h r stands), nodes_in IsNode l (Node l root s h r) (λ a. omega arith) nodes, left))

    pub part-left_first : (first : ℕ) → read.left ≢ 0 → ((t : Tree) → Stands plan w t read.left → first ≡ (first_of t).0) → (t : Tree) → Stands plan w t root → first ≡ (first_of t).0
    unfolding first_of
    part-left_first first left under = opened plan w root (λ t. first ≡ (first_of t).0) some go
      where
        go : (l : Tree) (s h : ℕ) (r : Tree) → Stands plan w (Node l root s h r) root → first ≡ (first_of (Node l root s h r)).0
        go Leaf s h r stands = absurd (left (sym (left_is Leaf s h r stands)))
        go (Node ll b t i lr) s h r stands = under (Node ll b t i lr) (left_stands plan w (Node ll b t i lr) root s h r stands read.left (left_is (Node ll b t i lr) s h r stands))

    module _ (v : View Rest) (change : Option Subtree) (left : read.left ≢ 0) (parts : Parts v read.left change) where
      part_new : (ll : Tree) (b t i : ℕ) (lr : Tree) (s h : ℕ) (r : Tree) → Stands plan w (Node (Node ll b t i lr) root s h r) root →
          IsLeftNew plan v (Node ll b t i lr) (rest_of (Node ll b t i lr)) root s h r change
      part_new ll b t i lr s h r stands =
          let l = Node ll b t i lr in
          let shrinks = rest_of-shrinks ll b t i lr stands.balanced.1 in
          left_new plan w (Node ll b t i lr) root s h r stands v (rest_of (Node ll b t i lr)) change
          (parts (Node ll b t i lr) (left_stands plan w (Node ll b t i lr) root s h r stands read.left (left_is (Node ll b t i lr) s h r stands))) shrinks.balanced shrinks.least (omega (arith, shrinks.most))
          (λ q. omega (arith, stands.apart q, tally-rest_of (λ a t. plan.cover q a) ll b t i lr))

      pub part-left_new_asks : (IsNode : ℕ → Type 0) → (t : Tree) → Stands plan w t root → AreNodes IsNode t → LeftAsks IsNode plan v root change
      part-left_new_asks IsNode = opened plan w root (λ t. AreNodes IsNode t → LeftAsks IsNode plan v root change) some go
        where
          go : (l : Tree) (s h : ℕ) (r : Tree) → Stands plan w (Node l root s h r) root → AreNodes IsNode (Node l root s h r) → LeftAsks IsNode plan v root change
          go Leaf s h r stands nodes = absurd (left (sym (left_is Leaf s h r stands)))
          go (Node ll b t i lr) s h r stands nodes = (
            Node ll b t i lr,
            rest_of (Node ll b t i lr),
            s,
            h,
            r,
            part_new ll b t i lr s h r stands,
            nodes_in IsNode (Node (rest_of (Node ll b t i lr)) root s h r) (Node (Node ll b t i lr) root s h r) (λ a. omega (arith, tally-rest_of (is_at a) ll b t i lr)) nodes,
          )

      pub part-left_made : (u : View Rest) (result : Option Subtree) → LeftMakes plan v u root change result → (t : Tree) → Stands plan w t root → Reforms plan w u t (rest_of t) result
      unfolding rest_of
      part-left_made u result makes = opened plan w root (λ t. Reforms plan w u t (rest_of t) result) some go
        where
          go : (l : Tree) (s h : ℕ) (r : Tree) → Stands plan w (Node l root s h r) root → Reforms plan w u (Node l root s h r) (rest_of (Node l root s h r)) result
          go Leaf s h r stands = absurd (left (sym (left_is Leaf s h r stands)))
          go (Node ll b t i lr) s h r stands =
              let new = part_new ll b t i lr s h r stands in
              let shrinks = rest_of-shrinks ll b t i lr stands.balanced.1 in
              left_made plan w (Node ll b t i lr) root s h r stands v (rest_of (Node ll b t i lr)) change
              (parts (Node ll b t i lr) (left_stands plan w (Node ll b t i lr) root s h r stands read.left (left_is (Node ll b t i lr) s h r stands))) shrinks.balanced shrinks.least (omega (arith, shrinks.most))
              new.apart u result (makes (Node ll b t i lr) (rest_of (Node ll b t i lr)) s h r new)

    pub part-here_loads : (c n o : ℕ) → n ≤ o + 9 * c → (t : Tree) → Stands plan w t root → n ≤ o + 10 * (c * high t)
    part-here_loads c n o few = opened plan w root (λ t. n ≤ o + 10 * (c * high t)) some
        (λ l s h r stands. let level = stands.balanced.0 in omega (arith, few, level_more c 0 h (omega (arith, level.high))))

    pub part-left_loads : (c m n o : ℕ) → n ≤ m + 8 * c → ((t : Tree) → Stands plan w t read.left → m ≤ o + c + 10 * (c * high t)) → (t : Tree) → Stands plan w t root → n ≤ o + 10 * (c * high t)
    part-left_loads c m n o last below = opened plan w root (λ t. n ≤ o + 10 * (c * high t)) some
        (λ l s h r stands.
        let level = stands.balanced.0 in
        omega (arith, last, below l (left_stands plan w l root s h r stands read.left (left_is l s h r stands)), level_more c (high l) h (omega (arith, level.high))))

  -- ---- two trees

  module _ (l : Tree) (a s h : ℕ) (r : Tree) (read : Links) (stands : Stands plan w (Node l a s h r) a) (is : read ≡ w.links a) where
    pub join_left : root_of l ≡ read.left
    join_left = λ i. (sym (is ∙ stands.holds.0.links) i).left

    pub join_right : root_of r ≡ read.right
    join_right = λ i. (sym (is ∙ stands.holds.0.links) i).right

    pub join_right_stands : Stands plan w r read.right
    join_right_stands = right_stands plan w l a s h r stands read.right join_right

    pub join-left_none : (limb : Subtree) → read.left ≡ 0 → IsSubtree r limb → Forms plan w w (joined l r) limb
    unfolding joined
    join-left_none limb none is_limb =
        subst (λ z. Forms plan w w (joined z r) limb) (sym (leaf_none w l stands.holds.1 (join_left ∙ none)))
        (record { is = is_limb; holds = stands.holds.2; changes = changes_none plan w r })

    pub join-right_none : (limb : Subtree) → read.left ≢ 0 → read.right ≡ 0 → IsSubtree l limb → Forms plan w w (joined l r) limb
    unfolding joined
    join-right_none limb some none is_limb =
        subst (λ z. Forms plan w w (joined l z) limb) (sym (leaf_none w r stands.holds.2 (join_right ∙ none)))
        (elim l as (λ z. root_of z ≡ read.left → IsSubtree z limb → Holds w z → Forms plan w w (joined z Leaf) limb) [
          | Leaf ↦ λ at e held. absurd (some (sym at))
          | Node ll b t i lr ↦ λ at e held. record { is = e; holds = held; changes = changes_none plan w (Node ll b t i lr) }
        ] join_left is_limb stands.holds.1)

  module _ (l rl : Tree) (a s h c u i : ℕ) (rr : Tree) (stands : Stands plan w (Node l a s h (Node rl c u i rr)) a) (v : View Rest) (first : ℕ) (left right : Subtree) (change : Option Subtree)
      (at : first ≡ (first_of (Node rl c u i rr)).0) (made : Reforms plan w v (Node rl c u i rr) (rest_of (Node rl c u i rr)) change) (is_left : IsSubtree l left) (is_right : IsSubtree (rest_of (Node rl c u i rr)) right) where
    pub join_slope : IsSlope plan v l first (first_of (Node rl c u i rr)).1 (rest_of (Node rl c u i rr)) left right
    join_slope =
        let node = first_holds w rl c u i rr stands.holds.2 in
        let shrinks = rest_of-shrinks rl c u i rr stands.balanced.2 in
        let level = stands.balanced.0 in
        subst (λ x. IsSlope plan v l x (first_of (Node rl c u i rr)).1 (rest_of (Node rl c u i rr)) left right) (sym at) (record {
          plot = record {
            left = holds_apart plan w v l (rest_of (Node rl c u i rr)) (λ q. omega (arith, stands.apart q, tally-rest_of (λ a t. plan.cover q a) rl c u i rr)) made.changes stands.holds.1;
            right = made.holds;
            some = node.0;
            rank = made.changes.rank _ (λ q. omega (arith, stands.apart q, tally-rest_of (λ a t. plan.cover q a) rl c u i rr)) ∙ node.1;
            apart = λ q. omega (arith, stands.apart q, tally-rest_of (λ a t. plan.cover q a) rl c u i rr);
          };
          left = is_left;
          right = is_right;
          left_balanced = stands.balanced.1;
          right_balanced = shrinks.balanced;
          left_near = omega (arith, shrinks.least, level.left);
          right_near = omega (arith, shrinks.most, level.right);
          low = omega (arith, stands.low, level.high);
        })

  -- so the two trees are joined
  module _ (a : ℕ) (read : Links) (is : read ≡ w.links a) (some : read.right ≢ 0) where
    pub join_rest_asks : (IsNode : ℕ → Type 0) (v : View Rest) (first : ℕ) (left right : Subtree) (change : Option Subtree) → ((t : Tree) → Stands plan w t read.right → first ≡ (first_of t).0) → Parts v read.right change →
        ((t : Tree) → Holds v t → root_of t ≡ read.left → IsSubtree t left) → ((old new : Tree) → IsTold old new change → Holds v new → root_of old ≡ read.right → IsSubtree new right) →
        (l : Tree) (s h : ℕ) (r : Tree) → Stands plan w (Node l a s h r) a → AreNodes IsNode (Node l a s h r) →
        (x : Tree) × (y : ℕ) × (z : Tree) × IsSlope plan v x first y z left right × AreNodes IsNode (Node x first y 0 z)
    join_rest_asks IsNode v first left right change firsts parts lefts rights l s h Leaf stands nodes = absurd (some (sym (join_right l a s h Leaf read stands is)))
    join_rest_asks IsNode v first left right change firsts parts lefts rights l s h (Node rl c u i rr) stands nodes =
        let under = join_right_stands l a s h (Node rl c u i rr) read stands is in
        let made = parts (Node rl c u i rr) under in
        let at = firsts (Node rl c u i rr) under in
        let kept = holds_apart plan w v l (rest_of (Node rl c u i rr)) (λ q. omega (arith, stands.apart q, tally-rest_of (λ a t. plan.cover q a) rl c u i rr)) made.changes stands.holds.1 in
        let slope = join_slope l rl a s h c u i rr stands v first left right change at made (lefts l kept (join_left l a s h (Node rl c u i rr) read stands is)) (rights (Node rl c u i rr) _ made.told made.holds (join_right l a s h (Node rl c u i rr) read stands is)) in (
          l,
          (first_of (Node rl c u i rr)).1,
          rest_of (Node rl c u i rr),
          slope,
          subst (λ x. AreNodes IsNode (Node l x (first_of (Node rl c u i rr)).1 0 (rest_of (Node rl c u i rr)))) (sym at)
              (nodes_in IsNode (Node l (first_of (Node rl c u i rr)).0 (first_of (Node rl c u i rr)).1 0 (rest_of (Node rl c u i rr))) (Node l a s h (Node rl c u i rr)) (λ x. omega (arith, tally-rest_of (is_at x) rl c u i rr)) nodes),
        )

    pub join_rest_made : (v u : View Rest) (first : ℕ) (left right limb : Subtree) (change : Option Subtree) → read.left ≢ 0 → ((t : Tree) → Stands plan w t read.right → first ≡ (first_of t).0) → Parts v read.right change →
        ((t : Tree) → Holds v t → root_of t ≡ read.left → IsSubtree t left) → ((old new : Tree) → IsTold old new change → Holds v new → root_of old ≡ read.right → IsSubtree new right) →
        ((x : Tree) (y : ℕ) (z : Tree) → IsSlope plan v x first y z left right → Forms plan v u (balanced x first y z) limb) →
        (l : Tree) (s h : ℕ) (r : Tree) → Stands plan w (Node l a s h r) a → Forms plan w u (joined l r) limb
    unfolding joined
    join_rest_made v u first left right limb change left_some firsts parts lefts rights forms Leaf s h r stands = absurd (left_some (sym (join_left Leaf a s h r read stands is)))
    join_rest_made v u first left right limb change left_some firsts parts lefts rights forms (Node ll b t j lr) s h Leaf stands = absurd (some (sym (join_right (Node ll b t j lr) a s h Leaf read stands is)))
    join_rest_made v u first left right limb change left_some firsts parts lefts rights forms (Node ll b t j lr) s h (Node rl c e i rr) stands =
        let under = join_right_stands (Node ll b t j lr) a s h (Node rl c e i rr) read stands is in
        let made = parts (Node rl c e i rr) under in
        let at = firsts (Node rl c e i rr) under in
        let kept = holds_apart plan w v (Node ll b t j lr) (rest_of (Node rl c e i rr)) (λ q. omega (arith, stands.apart q, tally-rest_of (λ a t. plan.cover q a) rl c e i rr)) made.changes stands.holds.1 in
        let slope = join_slope (Node ll b t j lr) rl a s h c e i rr stands v first left right change at made (lefts (Node ll b t j lr) kept (join_left (Node ll b t j lr) a s h (Node rl c e i rr) read stands is)) (rights (Node rl c e i rr) _ made.told made.holds (join_right (Node ll b t j lr) a s h (Node rl c e i rr) read stands is)) in
        let last = forms (Node ll b t j lr) _ (rest_of (Node rl c e i rr)) slope in
        subst (λ x. Forms plan w u (balanced (Node ll b t j lr) x (first_of (Node rl c e i rr)).1 (rest_of (Node rl c e i rr))) limb) at
        (record {
          is = last.is;
          holds = last.holds;
          changes = changes_then plan w v u (rest_of (Node rl c e i rr)) (balanced (Node ll b t j lr) first (first_of (Node rl c e i rr)).1 (rest_of (Node rl c e i rr))) (balanced (Node ll b t j lr) first (first_of (Node rl c e i rr)).1 (rest_of (Node rl c e i rr)))
              (λ f. omega (arith, tally-balanced f (Node ll b t j lr) first (first_of (Node rl c e i rr)).1 (rest_of (Node rl c e i rr)))) (λ f. omega arith) made.changes last.changes;
        })
