-- The tree by name: it stays where its nodes do, a name leads to its one node, and a node comes and goes.
use Rattle.std.proofs.Common.{◌≡◌, ◌≢◌, ℕ, zero, suc, ◌+◌, ◌*◌, ◌^◌, ◌<◌, ◌≤◌, true, false, List, [], ◌∷◌, ◌++◌, length, None, refl, sym, ap, subst, ◌∙◌, length-append, arith, inl, inr}
use Rattle.std.proofs.lemmas.Bool.{cases_eq}
use Rattle.std.proofs.lemmas.Bool.Decides.{nat_tests}
use Rattle.std.specs.Prelude.{IsSome, is_some, if◌then◌else◌}
use Rattle.std.specs.FinMap.{get, insert, len, empty, len-empty}
use Rattle.std.specs.Ordering.{nat_cmp}
use Rattle.avl_tree.specs.Tree.{Tree, tally, found, inserted, removed, high, is_at, same, IsOrdered}
use Rattle.avl_tree.specs.View.{AreNodes, Stands, IsNew, Becomes}
use Rattle.avl_tree.proofs.OrderLemmas.{found-there, inserted-ordered, removed-ordered, tally-removed, widened}
use Rattle.avl_tree.proofs.TreeLemmas.{Shrinks, removed-shrinks, tally-inserted, high_bound}
use Rattle.avl_tree.proofs.ViewLemmas.{ranked_there, unranked, stands_same}
use Rattle.own_model.specs.NatMap.{NatMap}
use Rattle.own_model.specs.OwnHeap.{OwnHeap}
use Rattle.own_model.proofs.NatMapLemmas.{get-empty, get-insert, get-insert_same}
use Rattle.own_model.proofs.Totals.{len-insert_new}
use Rattle.sliced_heap.specs.Chain.{is_listed, has_no_repeat}
use Rattle.session_nodes.specs.Order.{node_at}
use Rattle.session_nodes.specs.Index.{links_at, names_in, names_of, name_plan, IsPadded, IsNamed, CanEnter, KeepsPadding}
use Rattle.session_nodes.specs.Node.{rank_of}
use Rattle.session_nodes.proofs.KeptLemmas.{few_keys}
use Rattle.session_nodes.proofs.LinkLemmas.{listed_append, once_apart}

-- ---- how many blocks there can be

-- each number below another one
unfoldable upto : ℕ → NatMap ℕ
upto zero = empty
upto (suc n) = insert (upto n) n 0

upto_none : (n k : ℕ) → n ≤ k → get (upto n) k ≡ None
unfolding upto
upto_none zero k past = get-empty k
upto_none (suc n) k past = get-insert (upto n) n 0 k ∙ grind (arith, nat_tests, upto_none n k (omega (arith, past)))

upto_there : (n k : ℕ) → k < n → IsSome (get (upto n) k)
unfolding upto
upto_there zero k low = absurd (omega (arith, low))
upto_there (suc n) k low = elim (cases_eq k n) [
  | inl at ↦ ap is_some (get-insert_same (upto n) n 0 k at)
  | inr other ↦ ap is_some (get-insert (upto n) n 0 k) ∙ grind (arith, nat_tests, upto_there n k (omega (arith, low, other)))
]

upto_count : (n : ℕ) → len (upto n) ≡ n
unfolding upto
upto_count zero = len-empty nat_cmp ℕ
upto_count (suc n) = len-insert_new (upto n) n 0 (upto_none n n (omega arith)) ∙ omega (arith, upto_count n)

pub few_below : (n : ℕ) (xs : List ℕ) → has_no_repeat xs ≡ true → ((b : ℕ) → is_listed xs b ≡ true → b < n) → length xs ≤ n
few_below n xs once low = let most = few_keys xs (upto n) once (λ b t. upto_there n b (low b t)) in omega (arith, most, upto_count n)

-- ---- what the tree has

module _ {root : ℕ} {nodes : OwnHeap} {blocks : List ℕ} (n : IsNamed root nodes blocks) where
  -- a block of it is listed
  pub in_tree : (b : ℕ) → 1 ≤ tally (is_at b) n.tree → is_listed blocks b ≡ true
  in_tree b there = let all = n.all b in grind (arith, nat_tests)

  -- and a listed one is in it
  pub listed_in : (b : ℕ) → is_listed blocks b ≡ true → tally (is_at b) n.tree ≡ 1
  listed_in b t = n.all b ∙ rw t refl

  pub named_nodes : AreNodes (IsPadded nodes) n.tree
  named_nodes b there = n.padded b (in_tree b there)

  -- a name leads to its node
  pub name_found : (b rank : ℕ) → is_listed blocks b ≡ true → 0 < b → rank_of (node_at nodes b).name ≡ rank → found rank n.tree ≡ b
  name_found b rank t some is =
      let there = ranked_there (names_of nodes) b n.tree n.stands.holds in
      let one = listed_in b t in
      subst (λ k. found k n.tree ≡ b) is (found-there (rank_of (node_at nodes b).name) 0 n.tree n.most b some n.ordered (omega (arith, there, one)))

  -- the tree is low
  pub tree_low : (k : ℕ) → length blocks < 2 ^ k → high n.tree ≤ 2 * k + 1
  tree_low k few = high_bound n.tree n.stands.balanced k (omega (arith, few, n.count))

-- ---- nodes stay

-- what links of a tree's nodes leave
pub record KeepsNodes (nodes later : OwnHeap) (block : ℕ) : Type 0 where
  pub name : (node_at later block).name ≡ (node_at nodes block).name
  pub padded : KeepsPadding nodes later block

pub named_kept : (root : ℕ) (nodes later : OwnHeap) (blocks : List ℕ) → ((b : ℕ) → is_listed blocks b ≡ true → KeepsNodes nodes later b) →
    ((b : ℕ) → is_listed blocks b ≡ true → links_at later b ≡ links_at nodes b) → IsNamed root nodes blocks → IsNamed root later blocks
named_kept root nodes later blocks keeps links n = record {
  tree = n.tree;
  most = n.most;
  stands = stands_same name_plan (names_of nodes) (names_of later) n.tree root
      (λ b there. (links b (in_tree n b there), ap rank_of (keeps b (in_tree n b there)).name)) n.stands;
  ordered = n.ordered;
  count = n.count;
  all = n.all;
  padded = λ b t. (keeps b t).padded (n.padded b t);
  small = n.small;
}

-- ---- a node comes

module _ {Rest : Type 0} (root block rank at : ℕ) (nodes later : OwnHeap) (blocks : List ℕ) (old new : Rest) (c : CanEnter root blocks block rank nodes) where
  abbrev t : Tree
  t = c.named.tree

  pub enter_stands : Stands name_plan (names_in old nodes) c.named.tree root
  enter_stands = stands_same name_plan (names_of nodes) (names_in old nodes) t root (λ b there. (refl, refl)) c.named.stands

  not_in : tally (is_at block) t ≡ 0
  not_in = c.named.all block ∙ rw c.free refl

  pub enter_new : IsNew name_plan (names_in old nodes) c.named.tree block rank
  enter_new = record {
    some = c.some;
    rank = c.ranked;
    fresh = unranked (names_of nodes) rank t c.named.stands.holds (λ a there. c.fresh a (in_tree c.named a there));
    apart = λ q. elim (cases_eq q block) [
      | inl here ↦ let none : tally (is_at q) t ≡ 0 = ap (λ x. tally (is_at x) t) here ∙ not_in in grind (arith, nat_tests)
      | inr other ↦ let most = c.named.stands.apart q in let none : is_at q block 0 ≡ 0 = grind (arith, nat_tests) in omega (arith, most, none)
    ];
  }

  pub enter_count : length (blocks ++ block ∷ []) ≡ length blocks + 1
  enter_count = length-append blocks (block ∷ [])

  pub named_entered : Becomes name_plan (names_in old nodes) (names_in new later) (inserted block rank c.named.tree) at → ((b : ℕ) → IsPadded nodes b → KeepsNodes nodes later b) →
      IsNamed at later (blocks ++ block ∷ [])
  named_entered becomes keeps =
      let tree = inserted block rank t in
      let counts : (b : ℕ) → tally (is_at b) tree ≡ is_at b block rank + tally (is_at b) t = λ b. tally-inserted (is_at b) block rank t in
      let one : tally (λ a s. 1) tree ≡ 1 + tally (λ a s. 1) t = tally-inserted (λ a s. 1) block rank t in
      let most : IsOrdered 0 t (c.named.most + rank + 1) = widened 0 0 t c.named.most (c.named.most + rank + 1) (omega arith) (omega arith) c.named.ordered in
      let low = high_bound tree becomes.balanced 65 (omega (arith, one, c.named.count, c.few)) in
      record {
        tree = tree;
        most = c.named.most + rank + 1;
        stands = record {
          at = becomes.at;
          holds = (stands_same name_plan (names_in new later) (names_of later) tree at (λ b there. (refl, refl))
              (record { at = becomes.at; holds = becomes.holds; balanced = becomes.balanced; low = omega (arith, low); apart = apart })).holds;
          balanced = becomes.balanced;
          low = omega (arith, low);
          apart = apart;
        };
        ordered = inserted-ordered 0 block rank t (c.named.most + rank + 1) (omega arith) (omega arith) enter_new.fresh most;
        count = omega (arith, one, c.named.count, enter_count);
        all = λ b. counts b ∙ listed b;
        padded = λ b l. elim (cases_eq b block) [
          | inl here ↦ let p : IsPadded nodes b = subst (IsPadded nodes) (sym here) c.padded in (keeps b p).padded p
          | inr other ↦ let p = c.named.padded b (was_listed b l other) in (keeps b p).padded p
        ];
        small = λ b l. elim (cases_eq b block) [
          | inl here ↦ subst (λ x. x < 2 ^ 64) (sym here) c.small
          | inr other ↦ c.named.small b (was_listed b l other)
        ];
      }
    where
      was_listed : (b : ℕ) → is_listed (blocks ++ block ∷ []) b ≡ true → b ≢ block → is_listed blocks b ≡ true
      was_listed b l other = let all = listed_append blocks (block ∷ []) b in grind (arith, nat_tests)

      listed : (b : ℕ) → is_at b block rank + tally (is_at b) t ≡ (if is_listed (blocks ++ block ∷ []) b then 1 else 0)
      listed b =
          let all = listed_append blocks (block ∷ []) b in
          let was = c.named.all b in
          elim (cases_eq b block) [
            | inl here ↦
                let none : is_listed blocks b ≡ false = ap (is_listed blocks) here ∙ c.free in
                grind (arith, nat_tests)
            | inr other ↦ grind (arith, nat_tests)
          ]

      apart : (q : ℕ) → tally (λ a s. is_at q a 0) (inserted block rank t) ≤ 1
      apart q = let sum = tally-inserted (λ a s. is_at q a 0) block rank t in let most = enter_new.apart q in omega (arith, sum, most)

-- ---- a node goes

module _ {Rest : Type 0} (root block rank at : ℕ) (nodes later : OwnHeap) (before behind : List ℕ) (old new : Rest) (n : IsNamed root nodes (before ++ block ∷ behind))
    (once : has_no_repeat (before ++ block ∷ behind) ≡ true) (ranked_is : rank_of (node_at nodes block).name ≡ rank) where
  listed_block : is_listed (before ++ block ∷ behind) block ≡ true
  listed_block = let l = listed_append before (block ∷ behind) block in grind (arith, nat_tests)

  there : 1 ≤ tally (same block rank) n.tree
  there =
      let rank_there = ranked_there (names_of nodes) block n.tree n.stands.holds in
      let one = listed_in n block listed_block in
      subst (λ k. 1 ≤ tally (same block k) n.tree) ranked_is (omega (arith, rank_there, one))

  pub named_left : Becomes name_plan (names_in old nodes) (names_in new later) (removed rank n.tree) at → ((b : ℕ) → IsPadded nodes b → KeepsNodes nodes later b) → IsNamed at later (before ++ behind)
  named_left becomes keeps =
      let tree = removed rank n.tree in
      let less : (f : ℕ → ℕ → ℕ) → tally f tree + f block rank ≡ tally f n.tree = λ f. tally-removed f 0 block rank n.tree n.most n.ordered there in
      let one = less (λ a s. 1) in
      let size = length-append before (block ∷ behind) in
      let left = length-append before behind in
      let low : high tree < 2 ^ 16 = omega (arith, shrinks.most, n.stands.low) in
      record {
        tree = tree;
        most = n.most;
        stands = record {
          at = becomes.at;
          holds = (stands_same name_plan (names_in new later) (names_of later) tree at (λ b there. (refl, refl))
              (record { at = becomes.at; holds = becomes.holds; balanced = becomes.balanced; low = low; apart = apart less })).holds;
          balanced = becomes.balanced;
          low = low;
          apart = apart less;
        };
        ordered = removed-ordered 0 rank n.tree n.most n.ordered;
        count = omega (arith, one, n.count, size, left);
        all = λ b. listed b (less (is_at b));
        padded = λ b l. let p = n.padded b (was_listed b l) in (keeps b p).padded p;
        small = λ b l. n.small b (was_listed b l);
      }
    where
      shrinks : Shrinks (removed rank n.tree) (high n.tree)
      shrinks = removed-shrinks rank n.tree n.stands.balanced

      was_listed : (b : ℕ) → is_listed (before ++ behind) b ≡ true → is_listed (before ++ block ∷ behind) b ≡ true
      was_listed b l = let all = listed_append before (block ∷ behind) b in let some = listed_append before behind b in grind (arith, nat_tests)

      listed : (b : ℕ) → tally (is_at b) (removed rank n.tree) + is_at b block rank ≡ tally (is_at b) n.tree → tally (is_at b) (removed rank n.tree) ≡ (if is_listed (before ++ behind) b then 1 else 0)
      listed b less =
          let all = listed_append before (block ∷ behind) b in
          let some = listed_append before behind b in
          let was = n.all b in
          elim (cases_eq b block) [
            | inl here ↦
                let none : is_listed (before ++ behind) b ≡ false = ap (is_listed (before ++ behind)) here ∙ once_apart before behind block once in
                let whole : is_listed (before ++ block ∷ behind) b ≡ true = ap (is_listed (before ++ block ∷ behind)) here ∙ listed_block in
                grind (arith, nat_tests)
            | inr other ↦ grind (arith, nat_tests)
          ]

      apart : ((f : ℕ → ℕ → ℕ) → tally f (removed rank n.tree) + f block rank ≡ tally f n.tree) → (q : ℕ) → tally (λ a s. is_at q a 0) (removed rank n.tree) ≤ 1
      apart less q = let sum = less (λ a s. is_at q a 0) in let most = n.stands.apart q in omega (arith, sum, most)
