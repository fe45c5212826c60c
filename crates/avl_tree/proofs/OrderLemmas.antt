-- What the operations keep of a tree: the order of its ranks. And which node is found.
use Rattle.std.proofs.Common.{◌≡◌, ◌≢◌, ℕ, ◌+◌, ◌<◌, ◌≤◌, true, false, refl, ap, sym, subst, inl, inr, ◌∙◌, arith}
use Rattle.std.specs.Prelude.{nat_lt, nat_le, if◌then◌else◌, ◌==◌}
use Rattle.std.proofs.lemmas.Bool.{cases_lt}
use Rattle.std.proofs.lemmas.Bool.Decides.{nat_tests}
use Rattle.avl_tree.specs.Tree.{Tree, Leaf, Node, high, tally, forked, raised_left, raised_inner_left, raised_right, raised_inner_right, rotated_right, rotated_left, balanced, inserted, first_of, rest_of, joined, removed, or_else, found, IsOrdered, same, ranked, is_at, at_least, between, IsFirst, nowhere, somewhere}
use Rattle.avl_tree.proofs.TreeLemmas.{tally_le, tally-balanced, tally-joined}

-- where the ranks differ that is 0
differs-same : (a s b t : ℕ) → t ≢ s → same a s b t ≡ 0
differs-same a s b t differ = grind (arith, nat_tests)

pub same-same : (a s : ℕ) → same a s a s ≡ 1
same-same a s = grind (arith, nat_tests)

-- where that is 1 it is the node
same-node : (a s b t : ℕ) → 1 ≤ same a s b t → b ≡ a
same-node a s b t is = grind (arith, nat_tests)

-- where it hasn't the rank, the ranks differ
unranked-differs : (s b t : ℕ) → ranked s b t ≡ 0 → t ≢ s
unranked-differs s b t none = grind (arith, nat_tests)

-- the bounds of an ordered tree can be moved apart
pub widened : (low low' : ℕ) (t : Tree) (up up' : ℕ) → low' ≤ low → up ≤ up' → IsOrdered low t up → IsOrdered low' t up'
widened low low' Leaf up up' below above o = omega arith
widened low low' (Node l a s h r) up up' below above o =
    (widened low low' l s s below (omega arith) o.0, widened (s + 1) (s + 1) r up up' (omega arith) above o.1)

-- they are in order
pub bounds : (low : ℕ) (t : Tree) (up : ℕ) → IsOrdered low t up → low ≤ up
bounds low Leaf up o = o
bounds low (Node l a s h r) up o = omega (arith, bounds low l s o.0, bounds (s + 1) r up o.1)

pub balanced-ordered : (low : ℕ) (l : Tree) (a s : ℕ) (r : Tree) (up : ℕ) → IsOrdered low l s → IsOrdered (s + 1) r up → IsOrdered low (balanced l a s r) up
unfolding balanced rotated_right rotated_left
balanced-ordered low l a s r up left right =
    elim (nat_lt (high r + 1) (high l)) as (λ v. IsOrdered low (if v then rotated_right l a s r else (if nat_lt (high l + 1) (high r) then rotated_left l a s r else forked l a s r)) up) [
      | true ↦ turn l left
      | false ↦ elim (nat_lt (high l + 1) (high r)) as (λ v. IsOrdered low (if v then rotated_left l a s r else forked l a s r) up) [
        | true ↦ turn_back r right
        | false ↦ (left, right)
      ]
    ]
  where
    inner : (ll : Tree) (b t : ℕ) (n : Tree) → IsOrdered low ll t → IsOrdered (t + 1) n s → IsOrdered low (raised_inner_left ll b t n a s r) up
    inner ll b t Leaf o p = (o, (p, right))
    inner ll b t (Node m c u h n) o p = ((o, p.0), (p.1, right))

    turn : (l : Tree) → IsOrdered low l s → IsOrdered low (rotated_right l a s r) up
    turn Leaf o = (o, right)
    turn (Node ll b t h lr) o =
        elim (nat_le (high lr) (high ll)) as (λ v. IsOrdered low (if v then raised_left ll b t lr a s r else raised_inner_left ll b t lr a s r) up) [
          | true ↦ (o.0, (o.1, right))
          | false ↦ inner ll b t lr o.0 o.1
        ]

    inner_back : (n : Tree) (b t : ℕ) (rr : Tree) → IsOrdered (s + 1) n t → IsOrdered (t + 1) rr up → IsOrdered low (raised_inner_right l a s n b t rr) up
    inner_back Leaf b t rr o p = ((left, o), p)
    inner_back (Node m c u h n) b t rr o p = ((left, o.0), (o.1, p))

    turn_back : (r : Tree) → IsOrdered (s + 1) r up → IsOrdered low (rotated_left l a s r) up
    turn_back Leaf o = (left, o)
    turn_back (Node rl b t h rr) o =
        elim (nat_le (high rl) (high rr)) as (λ v. IsOrdered low (if v then raised_right l a s rl b t rr else raised_inner_right l a s rl b t rr) up) [
          | true ↦ ((left, o.0), o.1)
          | false ↦ inner_back rl b t rr o.0 o.1
        ]

-- the first node, and the rest of the tree behind it
pub record IsParted (low : ℕ) (first : ℕ × ℕ) (left : Tree) (up : ℕ) : Type 0 where
  pub from : low ≤ first.1
  pub rest : IsOrdered (first.1 + 1) left up

-- a node more, of a rank of its own
pub inserted-ordered : (low a s : ℕ) (t : Tree) (up : ℕ) → low ≤ s → s < up → tally (ranked s) t ≡ 0 → IsOrdered low t up → IsOrdered low (inserted a s t) up
unfolding inserted
inserted-ordered low a s Leaf up from to new o = (from, omega arith)
inserted-ordered low a s (Node l b t h r) up from to new o =
    elim (nat_lt s t) as (λ v. nat_lt s t ≡ v → IsOrdered low (if v then balanced (inserted a s l) b t r else balanced l b t (inserted a s r)) up) [
      | true ↦ λ is. balanced-ordered low (inserted a s l) b t r up (inserted-ordered low a s l t from (grind (arith, nat_tests)) (omega arith) o.0) o.1
      | false ↦ λ is.
          let le : t ≤ s = grind (arith, nat_tests) in
          let differs = unranked-differs s b t (omega arith) in
          balanced-ordered low l b t (inserted a s r) up o.0 (inserted-ordered (t + 1) a s r up (omega (arith, differs)) to (omega arith) o.1)
    ] refl

-- the first node comes before all others
pub parted-ordered : (low : ℕ) (l : Tree) (a s h : ℕ) (r : Tree) (up : ℕ) → IsOrdered low (Node l a s h r) up →
    IsParted low (first_of (Node l a s h r)) (rest_of (Node l a s h r)) up
unfolding first_of rest_of
parted-ordered low Leaf a s h r up o = record { from = o.0; rest = o.1 }
parted-ordered low (Node ll b t i lr) a s h r up o =
    let under = parted-ordered low ll b t i lr s o.0 in
    record { from = under.from; rest = balanced-ordered _ (rest_of (Node ll b t i lr)) a s r up under.rest o.1 }

pub joined-ordered : (low : ℕ) (l : Tree) (k : ℕ) (r : Tree) (up : ℕ) → IsOrdered low l k → IsOrdered (k + 1) r up → IsOrdered low (joined l r) up
unfolding joined
joined-ordered low Leaf k r up o p = widened (k + 1) low r up up (omega arith) (omega arith) p
joined-ordered low (Node ll b t h lr) k Leaf up o p = widened low low (Node ll b t h lr) k up (omega arith) (omega arith) o
joined-ordered low (Node ll b t h lr) k (Node rl c u i rr) up o p =
    let under = parted-ordered (k + 1) rl c u i rr up p in
    balanced-ordered low (Node ll b t h lr) _ _ (rest_of (Node rl c u i rr)) up
    (widened low low (Node ll b t h lr) k _ (omega arith) (omega (arith, under.from)) o) under.rest

pub removed-ordered : (low s : ℕ) (t : Tree) (up : ℕ) → IsOrdered low t up → IsOrdered low (removed s t) up
unfolding removed
removed-ordered low s Leaf up o = o
removed-ordered low s (Node l b t h r) up o =
    elim (nat_lt s t) as (λ v. IsOrdered low (if v then balanced (removed s l) b t r else (if nat_lt t s then balanced l b t (removed s r) else joined l r)) up) [
      | true ↦ balanced-ordered low (removed s l) b t r up (removed-ordered low s l t o.0) o.1
      | false ↦ elim (nat_lt t s) as (λ v. IsOrdered low (if v then balanced l b t (removed s r) else joined l r) up) [
        | true ↦ balanced-ordered low l b t (removed s r) up o.0 (removed-ordered (t + 1) s r up o.1)
        | false ↦ joined-ordered low l t r up o.0 o.1
      ]
    ]

-- outside the bounds there is no node
pub none_below : (low a s : ℕ) (t : Tree) (up : ℕ) → s < low → IsOrdered low t up → tally (same a s) t ≡ 0
none_below low a s Leaf up lt o = refl
none_below low a s (Node l b t h r) up lt o =
    let here : t ≢ s = omega (arith, bounds low l t o.0) in
    omega (arith, none_below low a s l t lt o.0, none_below (t + 1) a s r up (omega (arith, bounds low l t o.0)) o.1, differs-same a s b t here)

pub none_above : (low a s : ℕ) (t : Tree) (up : ℕ) → up ≤ s → IsOrdered low t up → tally (same a s) t ≡ 0
none_above low a s Leaf up ge o = refl
none_above low a s (Node l b t h r) up ge o =
    let after = bounds (t + 1) r up o.1 in
    let here : t ≢ s = omega arith in
    omega (arith, none_above low a s l t (omega arith) o.0, none_above (t + 1) a s r up ge o.1, differs-same a s b t here)

module _ (f : ℕ → ℕ → ℕ) where
  -- a node of the tree is removed, and no other
  pub tally-removed : (low a s : ℕ) (t : Tree) (up : ℕ) → IsOrdered low t up → 1 ≤ tally (same a s) t →
      tally f (removed s t) + f a s ≡ tally f t
  unfolding removed
  tally-removed low a s Leaf up o there = absurd (omega arith)
  tally-removed low a s (Node l b t h r) up o there =
      elim (nat_lt s t) as (λ v. nat_lt s t ≡ v → tally f (if v then balanced (removed s l) b t r else (if nat_lt t s then balanced l b t (removed s r) else joined l r)) + f a s ≡ tally f l + f b t + tally f r) [
        | true ↦ λ is.
            let lt : s < t = grind (arith, nat_tests) in
            let right = none_below (t + 1) a s r up (omega arith) o.1 in
            let here = differs-same a s b t (omega arith) in
            omega (arith, tally-balanced f (removed s l) b t r, tally-removed low a s l t o.0 (omega arith))
        | false ↦ λ no. elim (nat_lt t s) as (λ v. nat_lt t s ≡ v → tally f (if v then balanced l b t (removed s r) else joined l r) + f a s ≡ tally f l + f b t + tally f r) [
          | true ↦ λ is.
              let lt : t < s = grind (arith, nat_tests) in
              let left = none_above low a s l t (omega arith) o.0 in
              let here = differs-same a s b t (omega arith) in
              omega (arith, tally-balanced f l b t (removed s r), tally-removed (t + 1) a s r up o.1 (omega arith))
          | false ↦ λ is.
              let le : t ≤ s = grind (arith, nat_tests) in
              let ge : s ≤ t = grind (arith, nat_tests) in
              let ranks : t ≡ s = omega arith in
              let left = none_above low a s l t (omega arith) o.0 in
              let right = none_below (t + 1) a s r up (omega arith) o.1 in
              let nodes : b ≡ a = same-node a s b t (omega arith) in
              let here : f b t ≡ f a s = ap (λ x. f x t) nodes ∙ ap (f a) ranks in
              omega (arith, tally-joined f l r)
        ] refl
      ] refl

-- ---- the first node of at least a rank

not_least : (k b t : ℕ) → t < k → at_least k b t ≡ 0
not_least k b t lt = grind (arith, nat_tests)

not_between : (k n b t : ℕ) → n ≤ t → between k n b t ≡ 0
not_between k n b t ge = grind (arith, nat_tests)

not_between_low : (k n b t : ℕ) → t < k → between k n b t ≡ 0
not_between_low k n b t lt = grind (arith, nat_tests)

between_least : (k n : ℕ) (a s : ℕ) → between k n a s ≤ at_least k a s
between_least k n a s = grind (arith, nat_tests)

-- nodes behind a rank aren't below it, and nodes before one aren't of at least it
none_between : (k n low : ℕ) (t : Tree) (up : ℕ) → n ≤ low → IsOrdered low t up → tally (between k n) t ≡ 0
none_between k n low Leaf up le o = refl
none_between k n low (Node l a s h r) up le o =
    let from = bounds low l s o.0 in
    omega (arith, not_between k n a s (omega arith), none_between k n low l s le o.0, none_between k n (s + 1) r up (omega arith) o.1)

none_least : (k low : ℕ) (t : Tree) (up : ℕ) → up ≤ k → IsOrdered low t up → tally (at_least k) t ≡ 0
none_least k low Leaf up le o = refl
none_least k low (Node l a s h r) up le o =
    let to = bounds (s + 1) r up o.1 in
    omega (arith, not_least k a s (omega arith), none_least k low l s (omega arith) o.0, none_least k (s + 1) r up le o.1)

number_some : (a s : ℕ) → is_at 0 a s ≡ 0 → (a == 0) ≡ false
number_some a s none = grind (arith, nat_tests)

-- the number of a node that is there is none that isn't
same_at : (a s b t : ℕ) → same a s b t ≤ is_at a b t
same_at a s b t = grind (arith, nat_tests)

pub found-first : (k low : ℕ) (t : Tree) (up : ℕ) → IsOrdered low t up → tally (is_at 0) t ≡ 0 → IsFirst k t (found k t)
unfolding found
found-first k low Leaf up o some = nowhere refl
found-first k low (Node l b s h r) up o some =
    elim (nat_lt k s) as (λ v. nat_lt k s ≡ v → IsFirst k (Node l b s h r) (if v then or_else (found k l) b else (if nat_lt s k then found k r else b))) [
      | true ↦ λ is. left (grind (arith, nat_tests)) (found k l) (found-first k low l s o.0 (omega (arith, some)))
      | false ↦ λ no. elim (nat_lt s k) as (λ v. nat_lt s k ≡ v → IsFirst k (Node l b s h r) (if v then found k r else b)) [
        | true ↦ λ is. right (grind (arith, nat_tests)) (found k r) (found-first k (s + 1) r up o.1 (omega (arith, some)))
        | false ↦ λ is.
            let le : k ≤ s = grind (arith, nat_tests) in
            let ge : s ≤ k = grind (arith, nat_tests) in
            here le (omega (arith, tally_le (between k s) (at_least k) (between_least k s) l, none_least k low l s ge o.0))
      ] refl
    ] refl
  where
    here : k ≤ s → tally (between k s) l ≡ 0 → IsFirst k (Node l b s h r) b
    here le before =
        somewhere b s le (omega (arith, same-same b s)) (omega (arith, before, not_between k s b s (omega arith), none_between k s (s + 1) r up (omega arith) o.1))

    left : k < s → (place : ℕ) → IsFirst k l place → IsFirst k (Node l b s h r) (or_else place b)
    left lt place (nowhere none) = here (omega arith) (omega (arith, tally_le (between k s) (at_least k) (between_least k s) l, none))
    left lt place (somewhere a t fits there least) =
        let low_rank : t < s = below a t there in
        let is_some : (a == 0) ≡ false = elim (a == 0) as (λ v. (a == 0) ≡ v → v ≡ false) [
          | true ↦ λ is. absurd (let none : a ≡ 0 = grind (arith, nat_tests) in omega (arith, tally_le (same a t) (is_at a) (same_at a t) l, subst (λ x. tally (is_at x) l ≡ 0) (sym none) (omega (arith, some))))
          | false ↦ λ is. refl
        ] refl in
        subst (λ v. IsFirst k (Node l b s h r) (if v then b else a)) (sym is_some)
        (somewhere a t fits (omega (arith, there)) (omega (arith, least, not_between k t b s (omega arith), none_between k t (s + 1) r up (omega arith) o.1)))
      where
        below : (a t : ℕ) → 1 ≤ tally (same a t) l → t < s
        below a t there =
            elim (cases_lt t s) [
              | inl lt ↦ lt
              | inr ge ↦ absurd (omega (arith, there, none_above low a t l s ge o.0))
            ]

    right : s < k → (place : ℕ) → IsFirst k r place → IsFirst k (Node l b s h r) place
    right lt place (nowhere none) = nowhere (omega (arith, none, not_least k b s lt, none_least k low l s (omega arith) o.0))
    right lt place (somewhere a t fits there least) =
        somewhere a t fits (omega (arith, there))
        (omega (arith, least, not_between_low k t b s lt, tally_le (between k t) (at_least k) (between_least k t) l, none_least k low l s (omega arith) o.0))

-- the node of a rank is found
pub found-there : (k low : ℕ) (t : Tree) (up a : ℕ) → 0 < a → IsOrdered low t up → 1 ≤ tally (same a k) t → found k t ≡ a
unfolding found
found-there k low Leaf up a some o there = absurd (omega (arith, there))
found-there k low (Node l b s h r) up a some o there =
    elim (nat_lt k s) as (λ v. nat_lt k s ≡ v → (if v then or_else (found k l) b else (if nat_lt s k then found k r else b)) ≡ a) [
      | true ↦ λ less.
          let before : k < s = grind (arith, nat_tests) in
          let none = none_below (s + 1) a k r up (omega (arith, before)) o.1 in
          let other = differs-same a k b s (λ e. omega (arith, e, before)) in
          let at = found-there k low l s a some o.0 (omega (arith, there, none, other)) in
          or_else-some (found k l) b a at some
      | false ↦ λ no. elim (nat_lt s k) as (λ v. nat_lt s k ≡ v → (if v then found k r else b) ≡ a) [
        | true ↦ λ less.
            let behind : s < k = grind (arith, nat_tests) in
            let none = none_above low a k l s (omega (arith, behind)) o.0 in
            let other = differs-same a k b s (λ e. omega (arith, e, behind)) in
            found-there k (s + 1) r up a some o.1 (omega (arith, there, none, other))
        | false ↦ λ not.
            let at : s ≡ k = grind (arith, nat_tests) in
            let none = none_above low a k l s (omega (arith, at)) o.0 in
            let past = none_below (s + 1) a k r up (omega (arith, at)) o.1 in
            same-node a k b s (omega (arith, there, none, past))
      ] refl
    ] refl
  where
    or_else-some : (x b a : ℕ) → x ≡ a → 0 < a → or_else x b ≡ a
    or_else-some x b a is some = grind (arith, nat_tests)

-- what is found is a node of the tree
pub found-in : (k : ℕ) (t : Tree) → 0 < found k t → 1 ≤ tally (is_at (found k t)) t
unfolding found
found-in k Leaf some = absurd (omega (arith, some))
found-in k (Node l b s h r) some =
    elim (nat_lt k s) as (λ v. 0 < (if v then or_else (found k l) b else (if nat_lt s k then found k r else b)) →
    1 ≤ tally (is_at (if v then or_else (found k l) b else (if nat_lt s k then found k r else b))) (Node l b s h r)) [
      | true ↦ λ there. before (found k l) (found-in k l) there
      | false ↦ elim (nat_lt s k) as (λ v. 0 < (if v then found k r else b) → 1 ≤ tally (is_at (if v then found k r else b)) (Node l b s h r)) [
        | true ↦ λ there. omega (arith, found-in k r there)
        | false ↦ λ there. let one : is_at b b s ≡ 1 = grind (arith, nat_tests) in omega (arith, one)
      ]
    ] some
  where
    before : (x : ℕ) → (0 < x → 1 ≤ tally (is_at x) l) → 0 < or_else x b → 1 ≤ tally (is_at (or_else x b)) (Node l b s h r)
    before x in_l there = elim (x == 0) as (λ v. (x == 0) ≡ v → 1 ≤ tally (is_at (if v then b else x)) (Node l b s h r)) [
      | true ↦ λ none. let one : is_at b b s ≡ 1 = grind (arith, nat_tests) in omega (arith, one)
      | false ↦ λ other. let some : 0 < x = grind (arith, nat_tests) in omega (arith, in_l some)
    ] refl
