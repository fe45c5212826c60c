-- Trees in a memory: what stays of them when links change, and what a node makes that is put over two.
use Rattle.std.proofs.Common.{◌≡◌, ◌≢◌, ℕ, ◌+◌, ◌≤◌, true, false, refl, sym, ap, ◌∙◌, subst, arith}
use Rattle.std.specs.Prelude.{max, ◌==◌, if◌then◌else◌}
use Rattle.std.proofs.lemmas.Bool.Decides.{nat_tests}
use Rattle.avl_tree.specs.declared.node.Links.{Links}
use Rattle.avl_tree.specs.declared.node.Subtree.{Subtree}
use Rattle.avl_tree.specs.Tree.{Tree, Leaf, Node, root_of, high, tally, is_at, ranked, same, forked}
use Rattle.avl_tree.specs.View.{View, Plan, covered, trodden, IsRelinked, Holds, AreNodes, Stands, ChangesLinks, height_at}
use Rattle.avl_tree.specs.Made.{IsSubtree, IsPlot, Forms}

module _ {Rest : Type 0} (plan : Plan) where
  -- a tree that stands apart from one whose links change is still there
  pub holds_apart : (w v : View Rest) (t u : Tree) → ((q : ℕ) → covered plan q t + covered plan q u ≤ 1) → ChangesLinks plan w v u → Holds w t → Holds v t
  holds_apart w v Leaf u apart changes held = tt
  holds_apart w v (Node l a s h r) u apart changes held =
      let here = held.0 in (
        record {
          some = here.some;
          rank = changes.rank a (λ q. omega (arith, apart q)) ∙ here.rank;
          links = changes.links a (λ q. omega (arith, apart q)) ∙ here.links;
        },
        holds_apart w v l u (λ q. omega (arith, apart q)) changes held.1,
        holds_apart w v r u (λ q. omega (arith, apart q)) changes held.2,
      )

  -- a change of nothing
  pub changes_none : (w : View Rest) (t : Tree) → ChangesLinks plan w w t
  changes_none w t = record { links = λ b apart. refl; rank = λ b apart. refl; rest = λ q none. refl }

  -- one change after another, of trees that a third one has
  pub changes_then : (w u v : View Rest) (s t all : Tree) → ((f : ℕ → ℕ → ℕ) → tally f s ≤ tally f all) → ((f : ℕ → ℕ → ℕ) → tally f t ≤ tally f all) →
      ChangesLinks plan w u s → ChangesLinks plan u v t → ChangesLinks plan w v all
  changes_then w u v s t all in_s in_t first second = record {
    links = λ b apart. second.links b (λ q. omega (arith, apart q, in_t (λ a s. plan.cover q a))) ∙ first.links b (λ q. omega (arith, apart q, in_s (λ a s. plan.cover q a)));
    rank = λ b apart. second.rank b (λ q. omega (arith, apart q, in_t (λ a s. plan.cover q a))) ∙ first.rank b (λ q. omega (arith, apart q, in_s (λ a s. plan.cover q a)));
    rest = λ q none. second.rest q (omega (arith, none, in_t (λ a s. plan.feet q a))) ∙ first.rest q (omega (arith, none, in_s (λ a s. plan.feet q a)));
  }

  -- a node's links are those of a tree that has it
  pub relinked_changes : (w v : View Rest) (a : ℕ) (given : Links) (t : Tree) → ((q : ℕ) → plan.cover q a ≤ covered plan q t) → ((q : ℕ) → plan.feet q a ≤ trodden plan q t) →
      IsRelinked plan w v a given → ChangesLinks plan w v t
  relinked_changes w v a given t cover feet is = record {
    links = λ b apart. is.other_links b (λ q. omega (arith, apart q, cover q));
    rank = λ b apart. is.other_ranks b (λ q. omega (arith, apart q, cover q));
    rest = λ q none. is.rest q (omega (arith, none, feet q));
  }

  -- a node put over two trees makes one tree of them
  pub fork_forms : (w v : View Rest) (l : Tree) (a s : ℕ) (r : Tree) (left right limb : Subtree) → IsPlot plan w l a s r → IsSubtree l left → IsSubtree r right →
      limb ≡ record { root = a; high = 1 + max left.high right.high } →
      IsRelinked plan w v a (record { left = left.root; right = right.root; high = 1 + max left.high right.high }) → Forms plan w v (forked l a s r) limb
  fork_forms w v l a s r left right limb plot is_left is_right limb_is is =
      let alone : ChangesLinks plan w v (Node Leaf a s 0 Leaf) = relinked_changes w v a _ (Node Leaf a s 0 Leaf) (λ q. omega arith) (λ q. omega arith) is in
      let tall : 1 + max (high l) (high r) ≡ 1 + max left.high right.high = omega (arith, is_left.high, is_right.high) in
      subst (Forms plan w v (forked l a s r)) (sym limb_is) (record {
        is = record { root = refl; high = tall };
        holds = (
          record {
            some = plot.some;
            rank = is.rank ∙ plot.rank;
            links = is.links ∙ (λ i. record { left = sym is_left.root i; right = sym is_right.root i; high = sym tall i });
          },
          holds_apart w v l (Node Leaf a s 0 Leaf) (λ q. omega (arith, plot.apart q)) alone plot.left,
          holds_apart w v r (Node Leaf a s 0 Leaf) (λ q. omega (arith, plot.apart q)) alone plot.right,
        );
        changes = relinked_changes w v a _ (forked l a s r) (λ q. omega arith) (λ q. omega arith) is;
      })

-- a root of 0 is the tree without a node
pub leaf_is : {Rest : Type 0} (w : View Rest) (t : Tree) (root : ℕ) → Holds w t → root_of t ≡ root → root ≡ 0 → t ≡ Leaf
leaf_is w Leaf root held at none = refl
leaf_is w (Node l a s h r) root held at none = let some = held.0.some in absurd (omega arith)

-- the root of a tree is a node of it
pub root_node : (IsNode : ℕ → Type 0) (t : Tree) (root : ℕ) → AreNodes IsNode t → root_of t ≡ root → root ≢ 0 → IsNode root
root_node IsNode Leaf root nodes at some = absurd (some (sym at))
root_node IsNode (Node l a s h r) root nodes at some =
    let one : is_at a a s ≡ 1 = grind (arith, nat_tests) in
    subst IsNode at (nodes a (omega (arith, one)))

-- the nodes of a tree are those of one that has it
pub nodes_in : (IsNode : ℕ → Type 0) (t u : Tree) → ((a : ℕ) → tally (is_at a) t ≤ tally (is_at a) u) → AreNodes IsNode u → AreNodes IsNode t
nodes_in IsNode t u in_u nodes a there = nodes a (omega (arith, there, in_u a))

-- a tree with a height has a root
pub limb_some : {Rest : Type 0} (w : View Rest) (t : Tree) (limb : Subtree) → Holds w t → IsSubtree t limb → 1 ≤ limb.high → limb.root ≢ 0
limb_some w Leaf limb held is some = absurd (omega (arith, is.high))
limb_some w (Node l a s h r) limb held is some = λ none. omega (arith, held.0.some, is.root)

-- the height that stands in the root is the tree's
pub limb_read : {Rest : Type 0} (w : View Rest) (t : Tree) (root : ℕ) → Holds w t → root_of t ≡ root → root ≢ 0 → high t ≡ (w.links root).high
limb_read w Leaf root held at some = absurd (some (sym at))
limb_read w (Node l a s h r) root held at some =
    subst (λ x. h ≡ (w.links x).high) at (λ i. (sym held.0.links i).high)

-- it is 0 where there is no root
pub height_is : {Rest : Type 0} (w : View Rest) (t : Tree) (root : ℕ) → Holds w t → root_of t ≡ root → height_at w root ≡ high t
height_is w Leaf root held at = subst (λ x. height_at w x ≡ 0) at refl
height_is w (Node l a s h r) root held at =
    let some = held.0.some in
    let tall : (w.links a).high ≡ h = λ i. (held.0.links i).high in
    subst (λ x. height_at w x ≡ h) at (some_height a (omega arith) (w.links a).high h tall)
  where
    some_height : (x : ℕ) → x ≢ 0 → (k n : ℕ) → k ≡ n → (if x == 0 then 0 else k) ≡ n
    some_height x some k n is = grind (arith, nat_tests)

-- ---- a tree and the ranks of its nodes

module _ {Rest : Type 0} (w : View Rest) where
  -- a node stands in it with the rank that it has
  pub ranked_there : (a : ℕ) (t : Tree) → Holds w t → tally (is_at a) t ≤ tally (same a (w.rank a)) t
  ranked_there a Leaf held = omega arith
  ranked_there a (Node l b s h r) held =
      omega (arith, ranked_there a l held.1, ranked_there a r held.2, here s held.0.rank)
    where
      here : (k : ℕ) → w.rank b ≡ k → is_at a b k ≤ same a (w.rank a) b k
      here k is =
          elim (a == b) as (λ v. (a == b) ≡ v → is_at a b k ≤ same a (w.rank a) b k) [
            | true ↦ λ at. let e : a ≡ b = grind (arith, nat_tests) in let rank : w.rank a ≡ k = ap w.rank e ∙ is in grind (arith, nat_tests)
            | false ↦ λ no. grind (arith, nat_tests)
          ] refl

  -- a rank that none of its nodes has isn't in it
  pub unranked : (k : ℕ) (t : Tree) → Holds w t → ((a : ℕ) → 1 ≤ tally (is_at a) t → w.rank a ≢ k) → tally (ranked k) t ≡ 0
  unranked k Leaf held none = refl
  unranked k (Node l b s h r) held none =
      let one : is_at b b s ≡ 1 = grind (arith, nat_tests) in
      let other : s ≢ k = λ e. none b (omega (arith, one)) (held.0.rank ∙ e) in
      let here : ranked k b s ≡ 0 = grind (arith, nat_tests) in
      omega (arith, here, unranked k l held.1 (λ a there. none a (omega (arith, there))), unranked k r held.2 (λ a there. none a (omega (arith, there))))

-- a tree whose nodes keep their links and ranks is still there, also in a memory that is seen otherwise
pub holds_same : {A B : Type 0} (w : View A) (v : View B) (t : Tree) → ((a : ℕ) → 1 ≤ tally (is_at a) t → (v.links a ≡ w.links a) × (v.rank a ≡ w.rank a)) → Holds w t → Holds v t
holds_same w v Leaf kept held = tt
holds_same w v (Node l a s h r) kept held =
    let one : is_at a a s ≡ 1 = grind (arith, nat_tests) in
    let here = kept a (omega (arith, one)) in (
      record { some = held.0.some; rank = here.1 ∙ held.0.rank; links = here.0 ∙ held.0.links },
      holds_same w v l (λ b there. kept b (omega (arith, there))) held.1,
      holds_same w v r (λ b there. kept b (omega (arith, there))) held.2,
    )

pub stands_same : {A B : Type 0} (plan : Plan) (w : View A) (v : View B) (t : Tree) (root : ℕ) → ((a : ℕ) → 1 ≤ tally (is_at a) t → (v.links a ≡ w.links a) × (v.rank a ≡ w.rank a)) →
    Stands plan w t root → Stands plan v t root
stands_same plan w v t root kept stands =
    record { at = stands.at; holds = holds_same w v t kept stands.holds; balanced = stands.balanced; low = stands.low; apart = stands.apart }
