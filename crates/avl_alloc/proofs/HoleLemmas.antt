-- Places, and holes in words: what a store keeps of them.
use Rattle.std.proofs.Common.{◌≡◌, ◌≢◌, ℕ, ◌+◌, ◌-◌, ◌/◌, ◌%◌, ◌^◌, ◌<◌, ◌≤◌, true, false, refl, sym, ap, ◌∙◌, subst, arith}
use Rattle.std.specs.Prelude.{nat_lt, nat_le, ◌==◌, if◌then◌else◌}
use Rattle.std.proofs.lemmas.Bool.Decides.{nat_tests}
use Rattle.avl_tree.specs.Tree.{Tree, Leaf, Node, tally, is_at, ranked}
use Rattle.avl_tree.specs.View.{IsRelinked, Holds, AreNodes, covered}
use Rattle.avl_tree.proofs.ViewLemmas.{nodes_in}
use Rattle.avl_alloc.specs.Words.{Words, with_word, IsPlace, IsNode, within}
use Rattle.avl_alloc.specs.FreeBlocks.{key, view_of, heads, links, cover, hole_plan, Fits}

-- a test that holds, and one that doesn't
pub leb-true : {m n : ℕ} → m ≤ n → nat_le m n ≡ true
leb-true {m} {n} le = grind (arith, nat_tests)

pub leb-false : {m n : ℕ} → n < m → nat_le m n ≡ false
leb-false {m} {n} lt = grind (arith, nat_tests)

pub ltb-true : {m n : ℕ} → m < n → nat_lt m n ≡ true
ltb-true {m} {n} lt = grind (arith, nat_tests)

pub ltb-false : {m n : ℕ} → n ≤ m → nat_lt m n ≡ false
ltb-false {m} {n} le = grind (arith, nat_tests)

-- ---- places

pub within_in : (low high q : ℕ) → low ≤ q → q < high → within low high q ≡ 1
unfolding within
within_in low high q from to = grind (arith, nat_tests)

pub within_below : (low high q : ℕ) → q < low → within low high q ≡ 0
unfolding within
within_below low high q lt = grind (arith, nat_tests)

pub within_above : (low high q : ℕ) → high ≤ q → within low high q ≡ 0
unfolding within
within_above low high q le = grind (arith, nat_tests)

pub with_word_same : (w : Words) (p v : ℕ) → with_word w p v p ≡ v
unfolding with_word
with_word_same w p v = grind (arith, nat_tests)

pub with_word_other : (w : Words) (p v q : ℕ) → q ≢ p → with_word w p v q ≡ w q
unfolding with_word
with_word_other w p v q ne = grind (arith, nat_tests)

-- the header of a used block leaves all other words
pub header_leaves : (w x : Words) (place n : ℕ) → x ≡ with_word (with_word w place n) (place + 8) 1 → (q : ℕ) → q ≢ place → q ≢ place + 8
    → x q ≡ w q
header_leaves w x place n is q differ differ' =
    ap (λ z. z q) is ∙ with_word_other (with_word w place n) (place + 8) 1 q differ' ∙ with_word_other w place n q differ

-- the words of a node are words
pub node_place : (bytes : ℕ → ℕ) (a k : ℕ) → IsNode bytes a → k % 8 ≡ 0 → k + 8 ≤ 48 → IsPlace bytes (a + k)
node_place bytes a k node even small =
    let chunk : (a + k) / 2 ^ 32 ≡ a / 2 ^ 32 = omega arith in
    let offset : (a + k) % 2 ^ 32 ≡ a % 2 ^ 32 + k = omega arith in
    let room : (a + k) % 2 ^ 32 + 8 ≤ bytes (a / 2 ^ 32 - 1) = omega arith in
    record {
      some = omega arith;
      word = record {
        aligned = omega arith;
        within = subst (λ c. (a + k) % 2 ^ 32 + 8 ≤ bytes (c - 1)) (sym chunk) room;
        short = omega arith;
      };
    }

pub fits_node : (bytes real : ℕ → ℕ) (a : ℕ) → Fits bytes real → IsNode bytes a → IsNode real a
fits_node bytes real a fits node = record {
  some = node.some;
  low = node.low;
  aligned = node.aligned;
  short = node.short;
  within = omega (arith, node.within, fits (a / 2 ^ 32 - 1));
}

-- ---- trees in words

-- a tree whose words stay is still there
pub holds_kept : (w v : Words) (t : Tree) → ((q : ℕ) → 1 ≤ cover q t → v q ≡ w q) → Holds (view_of w) t → Holds (view_of v) t
holds_kept w v Leaf same held = tt
holds_kept w v (Node l a s h r) same held =
    let here = held.0 in
    let size : v a ≡ w a = same a (omega (arith, within_in a (a + 16) a (omega arith) (omega arith))) in
    let word : (k : ℕ) → 16 ≤ k → k < 48 → v (a + k) ≡ w (a + k) = λ k from to. same (a + k) (omega (arith, within_in (a + 16) (a + 48) (a + k) (omega arith) (omega arith))) in (
      record {
        some = here.some;
        rank = (λ i. key a (size i)) ∙ here.rank;
        links = (λ i. record { left = word 16 (omega arith) (omega arith) i; right = word 24 (omega arith) (omega arith) i; high = word 32 (omega arith) (omega arith) i }) ∙ here.links;
      },
      holds_kept w v l (λ q in_l. same q (omega arith)) held.1,
      holds_kept w v r (λ q in_r. same q (omega arith)) held.2,
    )

-- how many nodes have a place is the sum of headers and links
pub cover_is : (q : ℕ) (t : Tree) → covered hole_plan q t ≡ cover q t
cover_is q Leaf = refl
cover_is q (Node l a s h r) = omega (arith, cover_is q l, cover_is q r)

-- the places tell the holes of one size apart
pub key_place : (a n b m : ℕ) → a < 2 ^ 64 → b < 2 ^ 64 → key a n ≡ key b m → a ≡ b
key_place a n b m small small' same = omega arith

-- a rank that a tree has is that of a hole at the place
pub rank_there : (bytes : ℕ → ℕ) (w : Words) (a n : ℕ) → a < 2 ^ 64 → (t : Tree) → Holds (view_of w) t → AreNodes (IsNode bytes) t → tally (ranked (key a n)) t ≤ tally (heads a) t
rank_there bytes w a n small Leaf held nodes = omega arith
rank_there bytes w a n small (Node l b s h r) held nodes =
    let one : is_at b b s ≡ 1 = grind (arith, nat_tests) in
    let node = nodes b (omega (arith, one)) in
    omega (
      arith,
      rank_there bytes w a n small l held.1 (nodes_in (IsNode bytes) l (Node l b s h r) (λ x. omega arith) nodes),
      rank_there bytes w a n small r held.2 (nodes_in (IsNode bytes) r (Node l b s h r) (λ x. omega arith) nodes),
      here s held.0.rank (omega (arith, node.low)),
    )
  where
    here : (k : ℕ) → key b (w b) ≡ k → b < 2 ^ 64 → ranked (key a n) b k ≤ heads a b k
    here k is low =
        elim (key a n == k) as (λ v. (key a n == k) ≡ v → (if v then 1 else 0) ≤ heads a b k) [
          | true ↦ λ same.
              let at : a ≡ b = key_place a n b (w b) small low (let e : key a n ≡ k = grind (arith, nat_tests) in e ∙ sym is) in
              omega (arith, within_in b (b + 16) a (omega arith) (omega arith))
          | false ↦ λ no. omega arith
        ] refl

-- no hole's place is 0
pub none_at_zero : (bytes : ℕ → ℕ) (t : Tree) → AreNodes (IsNode bytes) t → tally (is_at 0) t ≡ 0
none_at_zero bytes t nodes =
    elim (nat_le 1 (tally (is_at 0) t)) as (λ v. nat_le 1 (tally (is_at 0) t) ≡ v → tally (is_at 0) t ≡ 0) [
      | true ↦ λ is. absurd (let node = nodes 0 (grind (arith, nat_tests)) in omega (arith, node.some))
      | false ↦ λ is. grind (arith, nat_tests)
    ] refl

-- ---- links written

-- a node's links written
pub relinked : (w v : Words) (a l r h : ℕ) → v ≡ with_word (with_word (with_word w (a + 16) l) (a + 24) r) (a + 32) h →
    IsRelinked hole_plan (view_of w) (view_of v) a (record { left = l; right = r; high = h })
relinked w v a l r h is =
    let x = with_word (with_word (with_word w (a + 16) l) (a + 24) r) (a + 32) h in
    let outside : (q : ℕ) → links q a 0 ≡ 0 → v q ≡ w q = λ q none.
    let differs : (k : ℕ) → 16 ≤ k → k < 48 → q ≢ a + k = λ k from to at. omega (arith, none, within_in (a + 16) (a + 48) q (omega arith) (omega arith)) in
    (λ i. is i q)
    ∙ with_word_other _ (a + 32) h q (differs 32 (omega arith) (omega arith))
    ∙ with_word_other _ (a + 24) r q (differs 24 (omega arith) (omega arith))
    ∙ with_word_other w (a + 16) l q (differs 16 (omega arith) (omega arith)) in
    let free : (b q : ℕ) → heads q b 0 + links q b 0 + (heads q a 0 + links q a 0) ≤ 1 → 1 ≤ heads q b 0 + links q b 0 → links q a 0 ≡ 0 = λ b q apart here. omega (arith, apart, here) in
    record {
      links = λ i. record {
        left = ((λ j. is j (a + 16)) ∙ with_word_other _ (a + 32) h (a + 16) (λ e. omega arith) ∙ with_word_other _ (a + 24) r (a + 16) (λ e. omega arith) ∙ with_word_same w (a + 16) l) i;
        right = ((λ j. is j (a + 24)) ∙ with_word_other _ (a + 32) h (a + 24) (λ e. omega arith) ∙ with_word_same _ (a + 24) r) i;
        high = ((λ j. is j (a + 32)) ∙ with_word_same _ (a + 32) h) i;
      };
      rank = λ i. key a (outside a (within_below (a + 16) (a + 48) a (omega arith)) i);
      other_links = λ b apart i. record {
        left = outside (b + 16) (free b (b + 16) (apart (b + 16)) (omega (arith, within_in (b + 16) (b + 48) (b + 16) (omega arith) (omega arith)))) i;
        right = outside (b + 24) (free b (b + 24) (apart (b + 24)) (omega (arith, within_in (b + 16) (b + 48) (b + 24) (omega arith) (omega arith)))) i;
        high = outside (b + 32) (free b (b + 32) (apart (b + 32)) (omega (arith, within_in (b + 16) (b + 48) (b + 32) (omega arith) (omega arith)))) i;
      };
      other_ranks = λ b apart i. key b (outside b (free b b (apart b) (omega (arith, within_in b (b + 16) b (omega arith) (omega arith)))) i);
      rest = λ q none. outside q none;
    }
