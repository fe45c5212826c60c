-- What the operations keep of a tree: its nodes, their order, and its balance.
use Rattle.std.proofs.Common.{◌≡◌, pow-suc, ℕ, zero, suc, ◌+◌, ◌*◌, ◌^◌, ◌<◌, ◌≤◌, true, false, refl, inl, inr, arith}
use Rattle.std.specs.Prelude.{nat_lt, nat_le, max, if◌then◌else◌}
use Rattle.std.proofs.lemmas.Bool.{cases_lt}
use Rattle.std.proofs.lemmas.Bool.Decides.{nat_tests}
use Rattle.avl_tree.specs.Tree.{Tree, Leaf, Node, high, tally, forked, raised_left, raised_inner_left, raised_right, raised_inner_right, rotated_right, rotated_left, balanced, inserted, first_of, rest_of, joined, removed, IsLevel, IsBalanced}

-- ---- the nodes, by any weight

module _ (f : ℕ → ℕ → ℕ) where
  pub tally-raised_inner_left : (ll : Tree) (b t : ℕ) (lr : Tree) (a s : ℕ) (r : Tree) →
      tally f (raised_inner_left ll b t lr a s r) ≡ tally f ll + f b t + tally f lr + f a s + tally f r
  tally-raised_inner_left ll b t Leaf a s r = omega arith
  tally-raised_inner_left ll b t (Node m c u h n) a s r = omega arith

  pub tally-raised_inner_right : (l : Tree) (a s : ℕ) (rl : Tree) (b t : ℕ) (rr : Tree) →
      tally f (raised_inner_right l a s rl b t rr) ≡ tally f l + f a s + tally f rl + f b t + tally f rr
  tally-raised_inner_right l a s Leaf b t rr = omega arith
  tally-raised_inner_right l a s (Node m c u h n) b t rr = omega arith

  pub tally-rotated_right : (l : Tree) (a s : ℕ) (r : Tree) → tally f (rotated_right l a s r) ≡ tally f l + f a s + tally f r
  unfolding rotated_right
  tally-rotated_right Leaf a s r = refl
  tally-rotated_right (Node ll b t h lr) a s r =
      elim (nat_le (high lr) (high ll)) as (λ v. tally f (if v then raised_left ll b t lr a s r else raised_inner_left ll b t lr a s r) ≡ tally f ll + f b t + tally f lr + f a s + tally f r) [
        | true ↦ omega arith
        | false ↦ tally-raised_inner_left ll b t lr a s r
      ]

  pub tally-rotated_left : (l : Tree) (a s : ℕ) (r : Tree) → tally f (rotated_left l a s r) ≡ tally f l + f a s + tally f r
  unfolding rotated_left
  tally-rotated_left l a s Leaf = refl
  tally-rotated_left l a s (Node rl b t h rr) =
      elim (nat_le (high rl) (high rr)) as (λ v. tally f (if v then raised_right l a s rl b t rr else raised_inner_right l a s rl b t rr) ≡ tally f l + f a s + (tally f rl + f b t + tally f rr)) [
        | true ↦ omega arith
        | false ↦ omega (arith, tally-raised_inner_right l a s rl b t rr)
      ]

  pub tally-balanced : (l : Tree) (a s : ℕ) (r : Tree) → tally f (balanced l a s r) ≡ tally f l + f a s + tally f r
  unfolding balanced
  tally-balanced l a s r =
      elim (nat_lt (high r + 1) (high l)) as (λ v. tally f (if v then rotated_right l a s r else (if nat_lt (high l + 1) (high r) then rotated_left l a s r else forked l a s r)) ≡ tally f l + f a s + tally f r) [
        | true ↦ tally-rotated_right l a s r
        | false ↦ elim (nat_lt (high l + 1) (high r)) as (λ v. tally f (if v then rotated_left l a s r else forked l a s r) ≡ tally f l + f a s + tally f r) [
          | true ↦ tally-rotated_left l a s r
          | false ↦ refl
        ]
      ]

  pub tally-inserted : (a s : ℕ) (t : Tree) → tally f (inserted a s t) ≡ f a s + tally f t
  unfolding inserted
  tally-inserted a s Leaf = omega arith
  tally-inserted a s (Node l b u h r) =
      elim (nat_lt s u) as (λ v. tally f (if v then balanced (inserted a s l) b u r else balanced l b u (inserted a s r)) ≡ f a s + (tally f l + f b u + tally f r)) [
        | true ↦ omega (arith, tally-balanced (inserted a s l) b u r, tally-inserted a s l)
        | false ↦ omega (arith, tally-balanced l b u (inserted a s r), tally-inserted a s r)
      ]

  pub tally-rest_of : (l : Tree) (a s h : ℕ) (r : Tree) →
      tally f (rest_of (Node l a s h r)) + f (first_of (Node l a s h r)).0 (first_of (Node l a s h r)).1 ≡ tally f (Node l a s h r)
  unfolding rest_of first_of
  tally-rest_of Leaf a s h r = omega arith
  tally-rest_of (Node ll b t i lr) a s h r = omega (arith, tally-rest_of ll b t i lr, tally-balanced (rest_of (Node ll b t i lr)) a s r)

  pub tally-joined : (l r : Tree) → tally f (joined l r) ≡ tally f l + tally f r
  unfolding joined
  tally-joined Leaf r = omega arith
  tally-joined (Node ll b t h lr) Leaf = omega arith
  tally-joined (Node ll b t h lr) (Node rl c u i rr) =
      omega (arith, tally-rest_of rl c u i rr, tally-balanced (Node ll b t h lr) (first_of (Node rl c u i rr)).0 (first_of (Node rl c u i rr)).1 (rest_of (Node rl c u i rr)))

-- ---- balance

-- what a balanced tree of these two heights is
pub record Balances (t : Tree) (i j : ℕ) : Type 0 where
  pub balanced : IsBalanced t
  pub low : high t ≤ 1 + max i j
  pub least : max i j ≤ high t
  pub near : i ≤ j + 1 → j ≤ i + 1 → high t ≡ 1 + max i j

level : (i j : ℕ) → i ≤ j + 1 → j ≤ i + 1 → IsLevel (1 + max i j) i j
level i j left right = record { high = refl; left = left; right = right }

pub rotated_right-balances : (l : Tree) (a s : ℕ) (r : Tree) → IsBalanced l → IsBalanced r → high l ≡ high r + 2 → Balances (rotated_right l a s r) (high l) (high r)
unfolding rotated_right
rotated_right-balances Leaf a s r bl br far = absurd (omega arith)
rotated_right-balances (Node ll b t h lr) a s r bl br far =
    elim (nat_le (high lr) (high ll)) as (λ v. nat_le (high lr) (high ll) ≡ v → Balances (if v then raised_left ll b t lr a s r else raised_inner_left ll b t lr a s r) h (high r)) [
      | true ↦ λ is. single (grind (arith, nat_tests))
      | false ↦ λ is. double lr bl.0 bl.2 (grind (arith, nat_tests))
    ] refl
  where
    single : high lr ≤ high ll → Balances (raised_left ll b t lr a s r) h (high r)
    single le =
        let up = bl.0 in
        record {
          balanced = (level _ _ (omega arith) (omega arith), bl.1, (level _ _ (omega arith) (omega arith), bl.2, br));
          low = omega arith;
          least = omega arith;
          near = λ x y. absurd (omega arith);
        }

    double : (n : Tree) → IsLevel h (high ll) (high n) → IsBalanced n → high ll < high n → Balances (raised_inner_left ll b t n a s r) h (high r)
    double Leaf up bn lt = absurd (omega arith)
    double (Node m c u i n) up bn lt =
        let under = bn.0 in
        record {
          balanced = (level _ _ (omega arith) (omega arith), (level _ _ (omega arith) (omega arith), bl.1, bn.1), (level _ _ (omega arith) (omega arith), bn.2, br));
          low = omega arith;
          least = omega arith;
          near = λ x y. absurd (omega arith);
        }

pub rotated_left-balances : (l : Tree) (a s : ℕ) (r : Tree) → IsBalanced l → IsBalanced r → high r ≡ high l + 2 → Balances (rotated_left l a s r) (high l) (high r)
unfolding rotated_left
rotated_left-balances l a s Leaf bl br far = absurd (omega arith)
rotated_left-balances l a s (Node rl b t h rr) bl br far =
    elim (nat_le (high rl) (high rr)) as (λ v. nat_le (high rl) (high rr) ≡ v → Balances (if v then raised_right l a s rl b t rr else raised_inner_right l a s rl b t rr) (high l) h) [
      | true ↦ λ is. single (grind (arith, nat_tests))
      | false ↦ λ is. double rl br.0 br.1 (grind (arith, nat_tests))
    ] refl
  where
    single : high rl ≤ high rr → Balances (raised_right l a s rl b t rr) (high l) h
    single le =
        let up = br.0 in
        record {
          balanced = (level _ _ (omega arith) (omega arith), (level _ _ (omega arith) (omega arith), bl, br.1), br.2);
          low = omega arith;
          least = omega arith;
          near = λ x y. absurd (omega arith);
        }

    double : (n : Tree) → IsLevel h (high n) (high rr) → IsBalanced n → high rr < high n → Balances (raised_inner_right l a s n b t rr) (high l) h
    double Leaf up bn lt = absurd (omega arith)
    double (Node m c u i n) up bn lt =
        let under = bn.0 in
        record {
          balanced = (level _ _ (omega arith) (omega arith), (level _ _ (omega arith) (omega arith), bl, bn.1), (level _ _ (omega arith) (omega arith), bn.2, br.2));
          low = omega arith;
          least = omega arith;
          near = λ x y. absurd (omega arith);
        }

pub forked-balances : (l : Tree) (a s : ℕ) (r : Tree) → IsBalanced l → IsBalanced r → high l ≤ high r + 1 → high r ≤ high l + 1 → Balances (forked l a s r) (high l) (high r)
forked-balances l a s r bl br left right = record {
  balanced = (level _ _ left right, bl, br);
  low = omega arith;
  least = omega arith;
  near = λ x y. refl;
}

-- a node between two balanced trees whose heights differ by two at most makes a balanced tree
pub balanced-balances : (l : Tree) (a s : ℕ) (r : Tree) → IsBalanced l → IsBalanced r → high l ≤ high r + 2 → high r ≤ high l + 2 → Balances (balanced l a s r) (high l) (high r)
unfolding balanced
balanced-balances l a s r bl br left right =
    elim (nat_lt (high r + 1) (high l)) as (λ v. nat_lt (high r + 1) (high l) ≡ v → Balances (if v then rotated_right l a s r else (if nat_lt (high l + 1) (high r) then rotated_left l a s r else forked l a s r)) (high l) (high r)) [
      | true ↦ λ is. rotated_right-balances l a s r bl br (grind (arith, nat_tests))
      | false ↦ λ no. elim (nat_lt (high l + 1) (high r)) as (λ v. nat_lt (high l + 1) (high r) ≡ v → Balances (if v then rotated_left l a s r else forked l a s r) (high l) (high r)) [
        | true ↦ λ is. rotated_left-balances l a s r bl br (grind (arith, nat_tests))
        | false ↦ λ is. forked-balances l a s r bl br (grind (arith, nat_tests)) (grind (arith, nat_tests))
      ] refl
    ] refl

-- a tree that is balanced, and as high as another or higher by one
pub record Grows (t : Tree) (n : ℕ) : Type 0 where
  pub balanced : IsBalanced t
  pub least : n ≤ high t
  pub most : high t ≤ n + 1

-- a tree that is balanced, and as high as another or lower by one
pub record Shrinks (t : Tree) (n : ℕ) : Type 0 where
  pub balanced : IsBalanced t
  pub least : n ≤ high t + 1
  pub most : high t ≤ n

-- what becomes of a node's tree when its left or right tree grows or shrinks
module _ (l : Tree) (a s : ℕ) (r : Tree) (h : ℕ) (b : IsBalanced (Node l a s h r)) where
  pub grows_left : (l' : Tree) → Grows l' (high l) → Grows (balanced l' a s r) h
  grows_left l' g =
      let level = b.0 in
      let up = balanced-balances l' a s r g.balanced b.2 (omega arith) (omega arith) in
      record { balanced = up.balanced; least = grind (arith, up.near); most = grind (arith, up.near) }

  pub grows_right : (r' : Tree) → Grows r' (high r) → Grows (balanced l a s r') h
  grows_right r' g =
      let level = b.0 in
      let up = balanced-balances l a s r' b.1 g.balanced (omega arith) (omega arith) in
      record { balanced = up.balanced; least = grind (arith, up.near); most = grind (arith, up.near) }

  pub shrinks_left : (l' : Tree) → Shrinks l' (high l) → Shrinks (balanced l' a s r) h
  shrinks_left l' g =
      let level = b.0 in
      let up = balanced-balances l' a s r g.balanced b.2 (omega arith) (omega arith) in
      record { balanced = up.balanced; least = grind (arith, up.near); most = grind (arith, up.near) }

  pub shrinks_right : (r' : Tree) → Shrinks r' (high r) → Shrinks (balanced l a s r') h
  shrinks_right r' g =
      let level = b.0 in
      let up = balanced-balances l a s r' b.1 g.balanced (omega arith) (omega arith) in
      record { balanced = up.balanced; least = grind (arith, up.near); most = grind (arith, up.near) }

  -- another node in the node's place
  pub shrinks_other : (r' : Tree) (c t : ℕ) → Shrinks r' (high r) → Shrinks (balanced l c t r') h
  shrinks_other r' c t g =
      let level = b.0 in
      let up = balanced-balances l c t r' b.1 g.balanced (omega arith) (omega arith) in
      record { balanced = up.balanced; least = grind (arith, up.near); most = grind (arith, up.near) }

pub inserted-grows : (a s : ℕ) (t : Tree) → IsBalanced t → Grows (inserted a s t) (high t)
unfolding inserted
inserted-grows a s Leaf b = record { balanced = (level 0 0 (omega arith) (omega arith), tt, tt); least = omega arith; most = omega arith }
inserted-grows a s (Node l c u h r) b =
    elim (nat_lt s u) as (λ v. Grows (if v then balanced (inserted a s l) c u r else balanced l c u (inserted a s r)) h) [
      | true ↦ grows_left l c u r h b (inserted a s l) (inserted-grows a s l b.1)
      | false ↦ grows_right l c u r h b (inserted a s r) (inserted-grows a s r b.2)
    ]

pub rest_of-shrinks : (l : Tree) (a s h : ℕ) (r : Tree) → IsBalanced (Node l a s h r) → Shrinks (rest_of (Node l a s h r)) h
unfolding rest_of
rest_of-shrinks Leaf a s h r b = let level = b.0 in record { balanced = b.2; least = omega arith; most = omega arith }
rest_of-shrinks (Node ll c u i lr) a s h r b =
    shrinks_left (Node ll c u i lr) a s r h b (rest_of (Node ll c u i lr)) (rest_of-shrinks ll c u i lr b.1)

pub joined-shrinks : (l : Tree) (a s h : ℕ) (r : Tree) → IsBalanced (Node l a s h r) → Shrinks (joined l r) h
unfolding joined
joined-shrinks Leaf a s h r b = let level = b.0 in record { balanced = b.2; least = omega arith; most = omega arith }
joined-shrinks (Node ll c u i lr) a s h Leaf b = let level = b.0 in record { balanced = b.1; least = omega arith; most = omega arith }
joined-shrinks (Node ll c u i lr) a s h (Node rl d v j rr) b =
    shrinks_other (Node ll c u i lr) a s (Node rl d v j rr) h b (rest_of (Node rl d v j rr)) _ _ (rest_of-shrinks rl d v j rr b.2)

pub removed-shrinks : (s : ℕ) (t : Tree) → IsBalanced t → Shrinks (removed s t) (high t)
unfolding removed
removed-shrinks s Leaf b = record { balanced = tt; least = omega arith; most = omega arith }
removed-shrinks s (Node l c u h r) b =
    elim (nat_lt s u) as (λ v. Shrinks (if v then balanced (removed s l) c u r else (if nat_lt u s then balanced l c u (removed s r) else joined l r)) h) [
      | true ↦ shrinks_left l c u r h b (removed s l) (removed-shrinks s l b.1)
      | false ↦ elim (nat_lt u s) as (λ v. Shrinks (if v then balanced l c u (removed s r) else joined l r) h) [
        | true ↦ shrinks_right l c u r h b (removed s r) (removed-shrinks s r b.2)
        | false ↦ joined-shrinks l c u h r b
      ]
    ]

-- a weight of one for each node
abbrev pub one : ℕ → ℕ → ℕ
one a s = 1

-- a balanced tree of height 2 k has at least 2 ^ k - 1 nodes
pub least_count : (k : ℕ) (t : Tree) → IsBalanced t → 2 * k ≤ high t → 2 ^ k ≤ tally one t + 1
least_count zero t b h = omega arith
least_count (suc k) Leaf b h = absurd (omega arith)
least_count (suc k) (Node l a s h r) b far =
    let level = b.0 in
    let left = least_count k l b.1 (omega arith) in
    let right = least_count k r b.2 (omega arith) in
    rw pow-suc (omega arith)

-- so its height is at most twice the digits of their number, and one
pub high_bound : (t : Tree) → IsBalanced t → (b : ℕ) → tally one t < 2 ^ b → high t ≤ 2 * b + 1
high_bound t even b few =
    elim (cases_lt (high t) (2 * b + 2)) [
      | inl lt ↦ omega arith
      | inr ge ↦ absurd (let many = least_count (suc b) t even (omega arith) in let twice : 2 ^ suc b ≡ 2 ^ b * 2 = pow-suc 2 b in omega arith)
    ]

-- ---- sums

-- a weight that is less everywhere has the lesser sum
pub tally_le : (f g : ℕ → ℕ → ℕ) → ((a s : ℕ) → f a s ≤ g a s) → (t : Tree) → tally f t ≤ tally g t
tally_le f g le Leaf = omega arith
tally_le f g le (Node l a s h r) = omega (arith, le a s, tally_le f g le l, tally_le f g le r)

-- a removal adds nothing
pub tally-removed_le : (f : ℕ → ℕ → ℕ) (s : ℕ) (t : Tree) → tally f (removed s t) ≤ tally f t
unfolding removed
tally-removed_le f s Leaf = omega arith
tally-removed_le f s (Node l b t h r) =
    elim (nat_lt s t) as (λ v. tally f (if v then balanced (removed s l) b t r else (if nat_lt t s then balanced l b t (removed s r) else joined l r)) ≤ tally f l + f b t + tally f r) [
      | true ↦ omega (arith, tally-balanced f (removed s l) b t r, tally-removed_le f s l)
      | false ↦ elim (nat_lt t s) as (λ v. tally f (if v then balanced l b t (removed s r) else joined l r) ≤ tally f l + f b t + tally f r) [
        | true ↦ omega (arith, tally-balanced f l b t (removed s r), tally-removed_le f s r)
        | false ↦ omega (arith, tally-joined f l r)
      ]
    ]
