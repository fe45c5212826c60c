-- Turns of trees in a memory, a written node at a time.
use Rattle.std.proofs.Common.{◌≡◌, ℕ, ◌+◌, ◌^◌, ◌<◌, ◌≤◌, true, false, sym, ◌∙◌, subst, arith}
use Rattle.std.specs.Prelude.{nat_lt, nat_le, max, if◌then◌else◌}
use Rattle.std.proofs.lemmas.Bool.Decides.{nat_tests}
use Rattle.avl_tree.specs.declared.node.Subtree.{Subtree}
use Rattle.avl_tree.specs.declared.node.Subtrees.{Subtrees}
use Rattle.avl_tree.specs.declared.node.Links.{Links}
use Rattle.avl_tree.specs.Tree.{Tree, Leaf, Node, root_of, high, forked, raised_left, raised_inner_left, raised_right, raised_inner_right, rotated_right, rotated_left, balanced, IsBalanced}
use Rattle.avl_tree.specs.View.{View, Plan, IsRelinked, Holds, AreNodes}
use Rattle.avl_tree.specs.Made.{IsSubtree, AreSubtrees, ReadsSubtrees, IsPlot, IsSlope, Forms}
use Rattle.avl_tree.proofs.ViewLemmas.{holds_apart, changes_then, fork_forms, nodes_in}

-- a test that holds, and one that doesn't
leb-true : {m n : ℕ} → m ≤ n → nat_le m n ≡ true
leb-true {m} {n} le = grind (arith, nat_tests)

leb-false : {m n : ℕ} → n < m → nat_le m n ≡ false
leb-false {m} {n} lt = grind (arith, nat_tests)

pub ltb-true : {m n : ℕ} → m < n → nat_lt m n ≡ true
ltb-true {m} {n} lt = grind (arith, nat_tests)

pub ltb-false : {m n : ℕ} → n ≤ m → nat_lt m n ≡ false
ltb-false {m} {n} le = grind (arith, nat_tests)

pub balanced-is_fork : (l : Tree) (a s : ℕ) (r : Tree) → high l ≤ high r + 1 → high r ≤ high l + 1 → balanced l a s r ≡ forked l a s r
unfolding balanced
balanced-is_fork l a s r left right = simp (ltb-false left, ltb-false right)

-- ---- a node whose links are read

-- what reading them tells
abbrev pub TellsArms : {Rest : Type 0} → View Rest → ℕ → Subtrees → Type 0
TellsArms w node arms = (l : Tree) (s h : ℕ) (r : Tree) → Holds w (Node l node s h r) → AreSubtrees l r arms

-- a tree's root can be read
pub reads : {Rest : Type 0} (IsNode : ℕ → Type 0) (w : View Rest) (t : Tree) (node : ℕ) → Holds w t → AreNodes IsNode t → IsBalanced t → root_of t ≡ node → 1 ≤ high t → high t < 2 ^ 18 → ReadsSubtrees IsNode w node
reads IsNode w Leaf node held nodes even at some low = absurd (omega arith)
reads IsNode w (Node l b s h r) node held nodes even at some low =
    subst (ReadsSubtrees IsNode w) at (record { l = l; s = s; h = h; r = r; holds = held; nodes = nodes; balanced = even; low = low })

-- and so can those below it
pub reads_inner : {Rest : Type 0} (IsNode : ℕ → Type 0) (w : View Rest) (node : ℕ) (arms : Subtrees) → ReadsSubtrees IsNode w node → TellsArms w node arms →
    (1 ≤ arms.left.high → ReadsSubtrees IsNode w arms.left.root) × (1 ≤ arms.right.high → ReadsSubtrees IsNode w arms.right.root)
reads_inner IsNode w node arms is tells =
    let are = tells is.l is.s is.h is.r is.holds in
    let level = is.balanced.0 in
    let low = is.low in (
      λ some. reads IsNode w is.l arms.left.root is.holds.1 (nodes_in IsNode is.l (Node is.l node is.s is.h is.r) (λ a. omega arith) is.nodes) is.balanced.1 are.left.root (omega (arith, some, are.left.high)) (omega (arith, low)),
      λ some. reads IsNode w is.r arms.right.root is.holds.2 (nodes_in IsNode is.r (Node is.l node is.s is.h is.r) (λ a. omega arith) is.nodes) is.balanced.2 are.right.root (omega (arith, some, are.right.high)) (omega (arith, low)),
    )

module _ {Rest : Type 0} (plan : Plan) where
  -- ---- the left tree is too high

  module _ (w : View Rest) (ll : Tree) (b t h : ℕ) (lr : Tree) (a s : ℕ) (r : Tree) (right : Subtree) (under : Subtrees)
      (plot : IsPlot plan w (Node ll b t h lr) a s r) (is_right : IsSubtree r right) (arms : AreSubtrees ll lr under) where
    -- its root comes to the top
    right-single : (w1 w2 : View Rest) (low top : Subtree) → high lr ≤ high ll →
        low ≡ record { root = a; high = 1 + max under.right.high right.high } → IsRelinked plan w w1 a (record { left = under.right.root; right = right.root; high = 1 + max under.right.high right.high }) →
        top ≡ record { root = b; high = 1 + max under.left.high low.high } → IsRelinked plan w1 w2 b (record { left = under.left.root; right = low.root; high = 1 + max under.left.high low.high }) →
        Forms plan w w2 (rotated_right (Node ll b t h lr) a s r) top
    unfolding rotated_right
    right-single w1 w2 low_limb top_limb le is_low first is_top second =
        let low = fork_forms plan w w1 lr a s r under.right right low_limb (record { left = plot.left.2; right = plot.right; some = plot.some; rank = plot.rank; apart = λ q. omega (arith, plot.apart q) }) arms.right is_right is_low first in
        let top = fork_forms plan w1 w2 ll b t (forked lr a s r) under.left low_limb top_limb
        (record {
          left = holds_apart plan w w1 ll (forked lr a s r) (λ q. omega (arith, plot.apart q)) low.changes plot.left.1;
          right = low.holds;
          some = plot.left.0.some;
          rank = low.changes.rank b (λ q. omega (arith, plot.apart q)) ∙ plot.left.0.rank;
          apart = λ q. omega (arith, plot.apart q);
        }) arms.left low.is is_top second in
        subst (λ v. Forms plan w w2 (if v then raised_left ll b t lr a s r else raised_inner_left ll b t lr a s r) top_limb) (sym (leb-true le))
        (record {
          is = top.is;
          holds = top.holds;
          changes = changes_then plan w w1 w2 (forked lr a s r) (raised_left ll b t lr a s r) (raised_left ll b t lr a s r) (λ f. omega arith) (λ f. omega arith) low.changes top.changes;
        })

  module _ (w : View Rest) (ll : Tree) (b t h : ℕ) (m : Tree) (c u i : ℕ) (n : Tree) (a s : ℕ) (r : Tree) (right : Subtree) (under inner : Subtrees)
      (plot : IsPlot plan w (Node ll b t h (Node m c u i n)) a s r) (is_right : IsSubtree r right) (arms : AreSubtrees ll (Node m c u i n) under) (arms' : AreSubtrees m n inner) where
    -- the root of its right tree does
    right-double : (w1 w2 w3 : View Rest) (low other top : Subtree) → high ll < i →
        low ≡ record { root = b; high = 1 + max under.left.high inner.left.high } → IsRelinked plan w w1 b (record { left = under.left.root; right = inner.left.root; high = 1 + max under.left.high inner.left.high }) →
        other ≡ record { root = a; high = 1 + max inner.right.high right.high } → IsRelinked plan w1 w2 a (record { left = inner.right.root; right = right.root; high = 1 + max inner.right.high right.high }) →
        top ≡ record { root = c; high = 1 + max low.high other.high } → IsRelinked plan w2 w3 c (record { left = low.root; right = other.root; high = 1 + max low.high other.high }) →
        Forms plan w w3 (rotated_right (Node ll b t h (Node m c u i n)) a s r) top
    unfolding rotated_right
    right-double w1 w2 w3 low_limb other_limb top_limb lt is_low first is_other second is_top third =
        let low = fork_forms plan w w1 ll b t m under.left inner.left low_limb
        (record { left = plot.left.1; right = plot.left.2.1; some = plot.left.0.some; rank = plot.left.0.rank; apart = λ q. omega (arith, plot.apart q) }) arms.left arms'.left is_low first in
        let other = fork_forms plan w1 w2 n a s r inner.right right other_limb
        (record {
          left = holds_apart plan w w1 n (forked ll b t m) (λ q. omega (arith, plot.apart q)) low.changes plot.left.2.2;
          right = holds_apart plan w w1 r (forked ll b t m) (λ q. omega (arith, plot.apart q)) low.changes plot.right;
          some = plot.some;
          rank = low.changes.rank a (λ q. omega (arith, plot.apart q)) ∙ plot.rank;
          apart = λ q. omega (arith, plot.apart q);
        }) arms'.right is_right is_other second in
        let top = fork_forms plan w2 w3 (forked ll b t m) c u (forked n a s r) low_limb other_limb top_limb
        (record {
          left = holds_apart plan w1 w2 (forked ll b t m) (forked n a s r) (λ q. omega (arith, plot.apart q)) other.changes low.holds;
          right = other.holds;
          some = plot.left.2.0.some;
          rank = other.changes.rank c (λ q. omega (arith, plot.apart q)) ∙ low.changes.rank c (λ q. omega (arith, plot.apart q)) ∙ plot.left.2.0.rank;
          apart = λ q. omega (arith, plot.apart q);
        }) low.is other.is is_top third in
        subst (λ v. Forms plan w w3 (if v then raised_left ll b t (Node m c u i n) a s r else raised_inner_left ll b t (Node m c u i n) a s r) top_limb) (sym (leb-false lt))
        (record {
          is = top.is;
          holds = top.holds;
          changes = changes_then plan w w2 w3 (forked (forked ll b t m) c u (forked n a s r)) (forked (forked ll b t m) c u (forked n a s r)) (forked (forked ll b t m) c u (forked n a s r)) (λ f. omega arith) (λ f. omega arith)
              (changes_then plan w w1 w2 (forked ll b t m) (forked n a s r) (forked (forked ll b t m) c u (forked n a s r)) (λ f. omega arith) (λ f. omega arith) low.changes other.changes) top.changes;
        })

  -- ---- the mirror images

  module _ (w : View Rest) (l : Tree) (a s : ℕ) (rl : Tree) (b t h : ℕ) (rr : Tree) (left : Subtree) (under : Subtrees)
      (plot : IsPlot plan w l a s (Node rl b t h rr)) (is_left : IsSubtree l left) (arms : AreSubtrees rl rr under) where
    left-single : (w1 w2 : View Rest) (low top : Subtree) → high rl ≤ high rr →
        low ≡ record { root = a; high = 1 + max left.high under.left.high } → IsRelinked plan w w1 a (record { left = left.root; right = under.left.root; high = 1 + max left.high under.left.high }) →
        top ≡ record { root = b; high = 1 + max low.high under.right.high } → IsRelinked plan w1 w2 b (record { left = low.root; right = under.right.root; high = 1 + max low.high under.right.high }) →
        Forms plan w w2 (rotated_left l a s (Node rl b t h rr)) top
    unfolding rotated_left
    left-single w1 w2 low_limb top_limb le is_low first is_top second =
        let low = fork_forms plan w w1 l a s rl left under.left low_limb (record { left = plot.left; right = plot.right.1; some = plot.some; rank = plot.rank; apart = λ q. omega (arith, plot.apart q) }) is_left arms.left is_low first in
        let top = fork_forms plan w1 w2 (forked l a s rl) b t rr low_limb under.right top_limb
        (record {
          left = low.holds;
          right = holds_apart plan w w1 rr (forked l a s rl) (λ q. omega (arith, plot.apart q)) low.changes plot.right.2;
          some = plot.right.0.some;
          rank = low.changes.rank b (λ q. omega (arith, plot.apart q)) ∙ plot.right.0.rank;
          apart = λ q. omega (arith, plot.apart q);
        }) low.is arms.right is_top second in
        subst (λ v. Forms plan w w2 (if v then raised_right l a s rl b t rr else raised_inner_right l a s rl b t rr) top_limb) (sym (leb-true le))
        (record {
          is = top.is;
          holds = top.holds;
          changes = changes_then plan w w1 w2 (forked l a s rl) (raised_right l a s rl b t rr) (raised_right l a s rl b t rr) (λ f. omega arith) (λ f. omega arith) low.changes top.changes;
        })

  module _ (w : View Rest) (l : Tree) (a s : ℕ) (m : Tree) (c u i : ℕ) (n : Tree) (b t h : ℕ) (rr : Tree) (left : Subtree) (under inner : Subtrees)
      (plot : IsPlot plan w l a s (Node (Node m c u i n) b t h rr)) (is_left : IsSubtree l left) (arms : AreSubtrees (Node m c u i n) rr under) (arms' : AreSubtrees m n inner) where
    left-double : (w1 w2 w3 : View Rest) (low other top : Subtree) → high rr < i →
        low ≡ record { root = b; high = 1 + max inner.right.high under.right.high } → IsRelinked plan w w1 b (record { left = inner.right.root; right = under.right.root; high = 1 + max inner.right.high under.right.high }) →
        other ≡ record { root = a; high = 1 + max left.high inner.left.high } → IsRelinked plan w1 w2 a (record { left = left.root; right = inner.left.root; high = 1 + max left.high inner.left.high }) →
        top ≡ record { root = c; high = 1 + max other.high low.high } → IsRelinked plan w2 w3 c (record { left = other.root; right = low.root; high = 1 + max other.high low.high }) →
        Forms plan w w3 (rotated_left l a s (Node (Node m c u i n) b t h rr)) top
    unfolding rotated_left
    left-double w1 w2 w3 low_limb other_limb top_limb lt is_low first is_other second is_top third =
        let low = fork_forms plan w w1 n b t rr inner.right under.right low_limb
        (record { left = plot.right.1.2; right = plot.right.2; some = plot.right.0.some; rank = plot.right.0.rank; apart = λ q. omega (arith, plot.apart q) }) arms'.right arms.right is_low first in
        let other = fork_forms plan w1 w2 l a s m left inner.left other_limb
        (record {
          left = holds_apart plan w w1 l (forked n b t rr) (λ q. omega (arith, plot.apart q)) low.changes plot.left;
          right = holds_apart plan w w1 m (forked n b t rr) (λ q. omega (arith, plot.apart q)) low.changes plot.right.1.1;
          some = plot.some;
          rank = low.changes.rank a (λ q. omega (arith, plot.apart q)) ∙ plot.rank;
          apart = λ q. omega (arith, plot.apart q);
        }) is_left arms'.left is_other second in
        let top = fork_forms plan w2 w3 (forked l a s m) c u (forked n b t rr) other_limb low_limb top_limb
        (record {
          left = other.holds;
          right = holds_apart plan w1 w2 (forked n b t rr) (forked l a s m) (λ q. omega (arith, plot.apart q)) other.changes low.holds;
          some = plot.right.1.0.some;
          rank = other.changes.rank c (λ q. omega (arith, plot.apart q)) ∙ low.changes.rank c (λ q. omega (arith, plot.apart q)) ∙ plot.right.1.0.rank;
          apart = λ q. omega (arith, plot.apart q);
        }) other.is low.is is_top third in
        subst (λ v. Forms plan w w3 (if v then raised_right l a s (Node m c u i n) b t rr else raised_inner_right l a s (Node m c u i n) b t rr) top_limb) (sym (leb-false lt))
        (record {
          is = top.is;
          holds = top.holds;
          changes = changes_then plan w w2 w3 (forked (forked l a s m) c u (forked n b t rr)) (forked (forked l a s m) c u (forked n b t rr)) (forked (forked l a s m) c u (forked n b t rr)) (λ f. omega arith) (λ f. omega arith)
              (changes_then plan w w1 w2 (forked n b t rr) (forked l a s m) (forked (forked l a s m) c u (forked n b t rr)) (λ f. omega arith) (λ f. omega arith) low.changes other.changes) top.changes;
        })

  -- ---- the trees named by their roots

  relinked_from : (w0 w v : View Rest) (a : ℕ) (given : Links) → w0 ≡ w → IsRelinked plan w0 v a given → IsRelinked plan w v a given
  relinked_from w0 w v a given kept is = subst (λ x. IsRelinked plan x v a given) kept is

  relinked_at : (w v : View Rest) (a b : ℕ) (given : Links) → a ≡ b → IsRelinked plan w v b given → IsRelinked plan w v a given
  relinked_at w v a b given at is = subst (λ x. IsRelinked plan w v x given) (sym at) is

  pub turn_right-single : (w w0 w1 w2 : View Rest) (l : Tree) (a s : ℕ) (r : Tree) (left right low top : Subtree) (under : Subtrees) → w0 ≡ w →
      IsSlope plan w l a s r left right → high l ≡ high r + 2 → TellsArms w left.root under → under.right.high ≤ under.left.high →
      low ≡ record { root = a; high = 1 + max under.right.high right.high } → IsRelinked plan w0 w1 a (record { left = under.right.root; right = right.root; high = 1 + max under.right.high right.high }) →
      top ≡ record { root = left.root; high = 1 + max under.left.high low.high } → IsRelinked plan w1 w2 left.root (record { left = under.left.root; right = low.root; high = 1 + max under.left.high low.high }) →
      Forms plan w w2 (rotated_right l a s r) top
  turn_right-single w w0 w1 w2 Leaf a s r left right low top under kept slope far tells le is_low first is_top second = absurd (omega arith)
  turn_right-single w w0 w1 w2 (Node ll b t h lr) a s r left right low top under kept slope far tells le is_low first is_top second =
      let at = slope.left.root in
      let arms = tells ll t h lr (subst (λ x. Holds w (Node ll x t h lr)) at slope.plot.left) in
      right-single w ll b t h lr a s r right under slope.plot slope.right arms w1 w2 low top (omega (arith, le, arms.left.high, arms.right.high)) is_low
      (relinked_from w0 w w1 a _ kept first)
      (subst (λ x. top ≡ record { root = x; high = 1 + max under.left.high low.high }) (sym at) is_top)
      (relinked_at w1 w2 b _ _ at second)

  pub turn_right-double : (w w0 w1 w2 w3 : View Rest) (l : Tree) (a s : ℕ) (r : Tree) (left right low other top : Subtree) (under inner : Subtrees) → w0 ≡ w →
      IsSlope plan w l a s r left right → high l ≡ high r + 2 → TellsArms w left.root under → TellsArms w under.right.root inner → under.left.high < under.right.high →
      low ≡ record { root = left.root; high = 1 + max under.left.high inner.left.high } → IsRelinked plan w0 w1 left.root (record { left = under.left.root; right = inner.left.root; high = 1 + max under.left.high inner.left.high }) →
      other ≡ record { root = a; high = 1 + max inner.right.high right.high } → IsRelinked plan w1 w2 a (record { left = inner.right.root; right = right.root; high = 1 + max inner.right.high right.high }) →
      top ≡ record { root = under.right.root; high = 1 + max low.high other.high } → IsRelinked plan w2 w3 under.right.root (record { left = low.root; right = other.root; high = 1 + max low.high other.high }) →
      Forms plan w w3 (rotated_right l a s r) top
  turn_right-double w w0 w1 w2 w3 Leaf a s r left right low other top under inner kept slope far tells tells' lt is_low first is_other second is_top third = absurd (omega arith)
  turn_right-double w w0 w1 w2 w3 (Node ll b t h Leaf) a s r left right low other top under inner kept slope far tells tells' lt is_low first is_other second is_top third =
      let arms = tells ll t h Leaf (subst (λ x. Holds w (Node ll x t h Leaf)) slope.left.root slope.plot.left) in
      absurd (omega (arith, lt, arms.right.high))
  turn_right-double w w0 w1 w2 w3 (Node ll b t h (Node m c u i n)) a s r left right low other top under inner kept slope far tells tells' lt is_low first is_other second is_top third =
      let at = slope.left.root in
      let arms = tells ll t h (Node m c u i n) (subst (λ x. Holds w (Node ll x t h (Node m c u i n))) at slope.plot.left) in
      let at' : c ≡ under.right.root = arms.right.root in
      let arms' = tells' m u i n (subst (λ x. Holds w (Node m x u i n)) at' slope.plot.left.2) in
      right-double w ll b t h m c u i n a s r right under inner slope.plot slope.right arms arms' w1 w2 w3 low other top (omega (arith, lt, arms.left.high, arms.right.high))
      (subst (λ x. low ≡ record { root = x; high = 1 + max under.left.high inner.left.high }) (sym at) is_low)
      (relinked_at w w1 b _ _ at (relinked_from w0 w w1 left.root _ kept first))
      is_other second
      (subst (λ x. top ≡ record { root = x; high = 1 + max low.high other.high }) (sym at') is_top)
      (relinked_at w2 w3 c _ _ at' third)

  pub turn_left-single : (w w0 w1 w2 : View Rest) (l : Tree) (a s : ℕ) (r : Tree) (left right low top : Subtree) (under : Subtrees) → w0 ≡ w →
      IsSlope plan w l a s r left right → high r ≡ high l + 2 → TellsArms w right.root under → under.left.high ≤ under.right.high →
      low ≡ record { root = a; high = 1 + max left.high under.left.high } → IsRelinked plan w0 w1 a (record { left = left.root; right = under.left.root; high = 1 + max left.high under.left.high }) →
      top ≡ record { root = right.root; high = 1 + max low.high under.right.high } → IsRelinked plan w1 w2 right.root (record { left = low.root; right = under.right.root; high = 1 + max low.high under.right.high }) →
      Forms plan w w2 (rotated_left l a s r) top
  turn_left-single w w0 w1 w2 l a s Leaf left right low top under kept slope far tells le is_low first is_top second = absurd (omega arith)
  turn_left-single w w0 w1 w2 l a s (Node rl b t h rr) left right low top under kept slope far tells le is_low first is_top second =
      let at = slope.right.root in
      let arms = tells rl t h rr (subst (λ x. Holds w (Node rl x t h rr)) at slope.plot.right) in
      left-single w l a s rl b t h rr left under slope.plot slope.left arms w1 w2 low top (omega (arith, le, arms.left.high, arms.right.high)) is_low
      (relinked_from w0 w w1 a _ kept first)
      (subst (λ x. top ≡ record { root = x; high = 1 + max low.high under.right.high }) (sym at) is_top)
      (relinked_at w1 w2 b _ _ at second)

  pub turn_left-double : (w w0 w1 w2 w3 : View Rest) (l : Tree) (a s : ℕ) (r : Tree) (left right low other top : Subtree) (under inner : Subtrees) → w0 ≡ w →
      IsSlope plan w l a s r left right → high r ≡ high l + 2 → TellsArms w right.root under → TellsArms w under.left.root inner → under.right.high < under.left.high →
      low ≡ record { root = right.root; high = 1 + max inner.right.high under.right.high } → IsRelinked plan w0 w1 right.root (record { left = inner.right.root; right = under.right.root; high = 1 + max inner.right.high under.right.high }) →
      other ≡ record { root = a; high = 1 + max left.high inner.left.high } → IsRelinked plan w1 w2 a (record { left = left.root; right = inner.left.root; high = 1 + max left.high inner.left.high }) →
      top ≡ record { root = under.left.root; high = 1 + max other.high low.high } → IsRelinked plan w2 w3 under.left.root (record { left = other.root; right = low.root; high = 1 + max other.high low.high }) →
      Forms plan w w3 (rotated_left l a s r) top
  turn_left-double w w0 w1 w2 w3 l a s Leaf left right low other top under inner kept slope far tells tells' lt is_low first is_other second is_top third = absurd (omega arith)
  turn_left-double w w0 w1 w2 w3 l a s (Node Leaf b t h rr) left right low other top under inner kept slope far tells tells' lt is_low first is_other second is_top third =
      let arms = tells Leaf t h rr (subst (λ x. Holds w (Node Leaf x t h rr)) slope.right.root slope.plot.right) in
      absurd (omega (arith, lt, arms.left.high))
  turn_left-double w w0 w1 w2 w3 l a s (Node (Node m c u i n) b t h rr) left right low other top under inner kept slope far tells tells' lt is_low first is_other second is_top third =
      let at = slope.right.root in
      let arms = tells (Node m c u i n) t h rr (subst (λ x. Holds w (Node (Node m c u i n) x t h rr)) at slope.plot.right) in
      let at' : c ≡ under.left.root = arms.left.root in
      let arms' = tells' m u i n (subst (λ x. Holds w (Node m x u i n)) at' slope.plot.right.1) in
      left-double w l a s m c u i n b t h rr left under inner slope.plot slope.left arms arms' w1 w2 w3 low other top (omega (arith, lt, arms.left.high, arms.right.high))
      (subst (λ x. low ≡ record { root = x; high = 1 + max inner.right.high under.right.high }) (sym at) is_low)
      (relinked_at w w1 b _ _ at (relinked_from w0 w w1 right.root _ kept first))
      is_other second
      (subst (λ x. top ≡ record { root = x; high = 1 + max other.high low.high }) (sym at') is_top)
      (relinked_at w2 w3 c _ _ at' third)

  -- ---- which tree a balanced one is

  pub balance-right : (w v : View Rest) (l : Tree) (a s : ℕ) (r : Tree) (limb : Subtree) → high r + 1 < high l → Forms plan w v (rotated_right l a s r) limb → Forms plan w v (balanced l a s r) limb
  unfolding balanced
  balance-right w v l a s r limb far forms = rw (ltb-true far) forms

  pub balance-left : (w v : View Rest) (l : Tree) (a s : ℕ) (r : Tree) (limb : Subtree) → high l + 1 < high r → Forms plan w v (rotated_left l a s r) limb → Forms plan w v (balanced l a s r) limb
  unfolding balanced
  balance-left w v l a s r limb far forms =
      let near : nat_lt (high r + 1) (high l) ≡ false = ltb-false (omega arith) in
      rw (near, ltb-true far) forms

  pub balance-fork : (w v : View Rest) (l : Tree) (a s : ℕ) (r : Tree) (limb : Subtree) → high l ≤ high r + 1 → high r ≤ high l + 1 → Forms plan w v (forked l a s r) limb → Forms plan w v (balanced l a s r) limb
  balance-fork w v l a s r limb left right forms = subst (λ t. Forms plan w v t limb) (sym (balanced-is_fork l a s r left right)) forms
