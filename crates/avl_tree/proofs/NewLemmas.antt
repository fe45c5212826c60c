-- A node one of whose trees has become another one.
use Rattle.std.proofs.Common.{◌≡◌, ◌≢◌, ℕ, ◌+◌, ◌≤◌, Option, Some, None, refl, sym, ◌∙◌, subst, arith}
use Rattle.std.specs.Prelude.{max}
use Rattle.avl_tree.specs.declared.node.Subtree.{Subtree}
use Rattle.avl_tree.specs.Tree.{Tree, Leaf, Node, root_of, high, forked, balanced, IsBalanced}
use Rattle.avl_tree.specs.View.{View, Plan, covered, Stands}
use Rattle.avl_tree.specs.Made.{IsSubtree, IsTold, IsSame, IsSlope, IsLeftNew, IsRightNew, Forms, Reforms}
use Rattle.avl_tree.proofs.TreeLemmas.{tally-balanced}
use Rattle.avl_tree.proofs.TurnLemmas.{balanced-is_fork}
use Rattle.avl_tree.proofs.ViewLemmas.{holds_apart, changes_none, changes_then}

-- a balanced tree that is told, or is as it was
same_told : (t t' : Tree) (limb : Subtree) (root height : ℕ) (result : Option Subtree) → IsSubtree t' limb → root_of t ≡ root → high t ≡ height → IsSame limb root height result → IsTold t t' result
same_told t t' limb root height None is at tall same = (is.root ∙ same.0 ∙ sym at, is.high ∙ same.1 ∙ sym tall)
same_told t t' limb root height (Some other) is at tall same = subst (IsSubtree t') (sym same) is

module _ {Rest : Type 0} (plan : Plan) (w : View Rest) where
  -- ---- the left one

  module _ (l l' : Tree) (a s h : ℕ) (r : Tree) where
    -- it has the same root and height
    pub left-same : IsLeftNew plan w l l' a s h r None → Reforms plan w w (Node l a s h r) (balanced l' a s r) None
    left-same new =
        let level = new.level in
        let is : balanced l' a s r ≡ forked l' a s r = balanced-is_fork l' a s r (omega (arith, new.told.1)) (omega (arith, new.told.1)) in
        let tall : h ≡ 1 + max (high l') (high r) = omega (arith, level.high, new.told.1) in
        subst (λ t. Reforms plan w w (Node l a s h r) t None) (sym is) (record {
          told = (refl, sym tall);
          holds = (
            record {
              some = new.here.some;
              rank = new.here.rank;
              links = new.here.links ∙ (λ i. record { left = sym new.told.0 i; right = root_of r; high = tall i });
            },
            new.holds,
            new.right,
          );
          changes = changes_none plan w (forked l' a s r);
        })

    pub left-slope : (left right : Subtree) → IsLeftNew plan w l l' a s h r (Some left) → IsSubtree r right → IsSlope plan w l' a s r left right
    left-slope left right new is_right =
        let level = new.level in
        record {
          plot = record { left = new.holds; right = new.right; some = new.here.some; rank = new.here.rank; apart = new.apart };
          left = new.told;
          right = is_right;
          left_balanced = new.balanced;
          right_balanced = new.right_balanced;
          left_near = omega (arith, new.least, new.most);
          right_near = omega (arith, new.least, new.most);
          low = omega (arith, new.most, new.low, level.high);
        }

    pub left-formed : (v : View Rest) (left tree : Subtree) (height : ℕ) (result : Option Subtree) → IsLeftNew plan w l l' a s h r (Some left) → (w.links a).high ≡ height →
        Forms plan w v (balanced l' a s r) tree → IsSame tree a height result → Reforms plan w v (Node l a s h r) (balanced l' a s r) result
    left-formed v left tree height result new at forms same = record {
      told = same_told (Node l a s h r) (balanced l' a s r) tree a height result forms.is refl ((λ i. (sym new.here.links i).high) ∙ at) same;
      holds = forms.holds;
      changes = forms.changes;
    }

  -- ---- the right one

  module _ (l : Tree) (a s h : ℕ) (r r' : Tree) where
    pub right-same : IsRightNew plan w l a s h r r' None → Reforms plan w w (Node l a s h r) (balanced l a s r') None
    right-same new =
        let level = new.level in
        let is : balanced l a s r' ≡ forked l a s r' = balanced-is_fork l a s r' (omega (arith, new.told.1)) (omega (arith, new.told.1)) in
        let tall : h ≡ 1 + max (high l) (high r') = omega (arith, level.high, new.told.1) in
        subst (λ t. Reforms plan w w (Node l a s h r) t None) (sym is) (record {
          told = (refl, sym tall);
          holds = (
            record {
              some = new.here.some;
              rank = new.here.rank;
              links = new.here.links ∙ (λ i. record { left = root_of l; right = sym new.told.0 i; high = tall i });
            },
            new.left,
            new.holds,
          );
          changes = changes_none plan w (forked l a s r');
        })

    pub right-slope : (left right : Subtree) → IsRightNew plan w l a s h r r' (Some right) → IsSubtree l left → IsSlope plan w l a s r' left right
    right-slope left right new is_left =
        let level = new.level in
        record {
          plot = record { left = new.left; right = new.holds; some = new.here.some; rank = new.here.rank; apart = new.apart };
          left = is_left;
          right = new.told;
          left_balanced = new.left_balanced;
          right_balanced = new.balanced;
          left_near = omega (arith, new.least, new.most);
          right_near = omega (arith, new.least, new.most);
          low = omega (arith, new.low, level.high);
        }

    pub right-formed : (v : View Rest) (right tree : Subtree) (height : ℕ) (result : Option Subtree) → IsRightNew plan w l a s h r r' (Some right) → (w.links a).high ≡ height →
        Forms plan w v (balanced l a s r') tree → IsSame tree a height result → Reforms plan w v (Node l a s h r) (balanced l a s r') result
    right-formed v right tree height result new at forms same = record {
      told = same_told (Node l a s h r) (balanced l a s r') tree a height result forms.is refl ((λ i. (sym new.here.links i).high) ∙ at) same;
      holds = forms.holds;
      changes = forms.changes;
    }

  -- ---- a tree below a root that stands

  module _ (l : Tree) (a s h : ℕ) (r : Tree) (stands : Stands plan w (Node l a s h r) a) where
    pub left_stands : (left : ℕ) → root_of l ≡ left → Stands plan w l left
    left_stands left at =
        let level = stands.balanced.0 in
        record { at = at; holds = stands.holds.1; balanced = stands.balanced.1; low = omega (arith, stands.low); apart = λ q. omega (arith, stands.apart q) }

    pub right_stands : (right : ℕ) → root_of r ≡ right → Stands plan w r right
    right_stands right at =
        let level = stands.balanced.0 in
        record { at = at; holds = stands.holds.2; balanced = stands.balanced.2; low = omega (arith, stands.low); apart = λ q. omega (arith, stands.apart q) }

    -- the left one becomes another one
    module _ (v : View Rest) (l' : Tree) (change : Option Subtree) (made : Reforms plan w v l l' change) (even : IsBalanced l') (least : high l ≤ high l' + 1) (most : high l' ≤ high l + 1)
        (apart : (q : ℕ) → covered plan q l' + plan.cover q a + covered plan q r ≤ 1) where
      pub left_new : IsLeftNew plan v l l' a s h r change
      left_new = record {
        told = made.told;
        here = record {
          some = stands.holds.0.some;
          rank = made.changes.rank a (λ q. omega (arith, apart q)) ∙ stands.holds.0.rank;
          links = made.changes.links a (λ q. omega (arith, apart q)) ∙ stands.holds.0.links;
        };
        holds = made.holds;
        right = holds_apart plan w v r l' (λ q. omega (arith, apart q)) made.changes stands.holds.2;
        apart = apart;
        level = stands.balanced.0;
        balanced = even;
        right_balanced = stands.balanced.2;
        least = least;
        most = most;
        low = stands.low;
      }

      pub left_made : (u : View Rest) (result : Option Subtree) → Reforms plan v u (Node l a s h r) (balanced l' a s r) result → Reforms plan w u (Node l a s h r) (balanced l' a s r) result
      left_made u result last = record {
        told = last.told;
        holds = last.holds;
        changes = changes_then plan w v u l' (balanced l' a s r) (balanced l' a s r) (λ f. omega (arith, tally-balanced f l' a s r)) (λ f. omega arith) made.changes last.changes;
      }

    -- the right one does
    module _ (v : View Rest) (r' : Tree) (change : Option Subtree) (made : Reforms plan w v r r' change) (even : IsBalanced r') (least : high r ≤ high r' + 1) (most : high r' ≤ high r + 1)
        (apart : (q : ℕ) → covered plan q l + plan.cover q a + covered plan q r' ≤ 1) where
      pub right_new : IsRightNew plan v l a s h r r' change
      right_new = record {
        told = made.told;
        here = record {
          some = stands.holds.0.some;
          rank = made.changes.rank a (λ q. omega (arith, apart q)) ∙ stands.holds.0.rank;
          links = made.changes.links a (λ q. omega (arith, apart q)) ∙ stands.holds.0.links;
        };
        left = holds_apart plan w v l r' (λ q. omega (arith, apart q)) made.changes stands.holds.1;
        holds = made.holds;
        apart = apart;
        level = stands.balanced.0;
        left_balanced = stands.balanced.1;
        balanced = even;
        least = least;
        most = most;
        low = stands.low;
      }

      pub right_made : (u : View Rest) (result : Option Subtree) → Reforms plan v u (Node l a s h r) (balanced l a s r') result → Reforms plan w u (Node l a s h r) (balanced l a s r') result
      right_made u result last = record {
        told = last.told;
        holds = last.holds;
        changes = changes_then plan w v u r' (balanced l a s r') (balanced l a s r') (λ f. omega (arith, tally-balanced f l a s r')) (λ f. omega arith) made.changes last.changes;
      }

  -- a tree whose root isn't 0 is a node over two trees
  pub opened : (root : ℕ) (P : Tree → Type 0) → root ≢ 0 → ((l : Tree) (s h : ℕ) (r : Tree) → Stands plan w (Node l root s h r) root → P (Node l root s h r)) →
      (t : Tree) → Stands plan w t root → P t
  opened root P some f Leaf stands = absurd (some (sym stands.at))
  opened root P some f (Node l b s h r) stands = subst (λ x. Stands plan w (Node l x s h r) root → P (Node l x s h r)) (sym stands.at) (f l s h r) stands
