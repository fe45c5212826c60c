-- How blocks become others: a hole taken out of the tree, used blocks made a hole, a used block cut.
use Rattle.std.proofs.Common.{◌≡◌, ◌≢◌, ℕ, ◌+◌, ◌%◌, ◌<◌, ◌≤◌, refl, sym, ap, ◌∙◌, subst, arith, List, [], ◌∷◌, ◌++◌, length}
use Rattle.std.proofs.lemmas.List.{append_assoc}
use Rattle.own_model.specs.Heap.{Block, Used, Hole, bytes_in}
use Rattle.avl_alloc.specs.declared.best_fit.BestFit.{BestFit}
use Rattle.avl_alloc.specs.Words.{Words, place_at, with_word, within, IsNode}
use Rattle.avl_tree.specs.Tree.{Tree, root_of, tally, is_at, inserted, removed, same, ranked, IsBalanced, IsOrdered}
use Rattle.avl_tree.specs.View.{AreNodes, Holds, Becomes, Stands, IsNew}
use Rattle.avl_alloc.specs.FreeBlocks.{key, by_key, view_of, hole_plan, heads, links, cover}
use Rattle.avl_alloc.specs.Layout.{Laid, weigh, none, whole, sizes_of, bytes_of, weigh_holes, IsLaidOut}
use Rattle.avl_alloc.specs.Context.{Context, heap_with, start_of, around, Stand, Turn, AreUsed}
use Rattle.avl_tree.proofs.TreeLemmas.{one, tally-inserted, tally-removed_le, high_bound}
use Rattle.avl_tree.proofs.OrderLemmas.{same-same, tally-removed, inserted-ordered, removed-ordered, widened}
use Rattle.avl_tree.proofs.ViewLemmas.{nodes_in}
use Rattle.avl_tree.proofs.GrowLemmas.{nodes_with}
use Rattle.avl_alloc.proofs.HoleLemmas.{within_in, within_below, with_word_same, with_word_other, holds_kept, cover_is, rank_there}
use Rattle.avl_alloc.proofs.WeightLemmas.{weigh-append, weigh-parts, weigh-site, weigh-whole, around-parts, node_whole, tidy_in, laid_long, few_holes, within_mono}
use Rattle.avl_alloc.proofs.ContextLemmas.{IsOpen, site_open, site_node, IsClear, site_clear, site_turned, sizes_few, laid_even}
use Rattle.own_model.proofs.HeapBlockLemmas.{bytes-append}

-- used blocks have no holes
pub used_none : (f : ℕ → ℕ → ℕ) (p : ℕ) (xs : List Block) → AreUsed xs → weigh none f p xs ≡ 0
used_none f p [] used = refl
used_none f p (Used n ∷ xs) used = omega (arith, used_none f (p + n) xs used)
used_none f p (Hole n ∷ xs) used = absurd used

-- they are as many bytes as a block at least
pub used_least : (w : Words) (p : ℕ) (xs : List Block) → Laid w p xs → 0 < bytes_in xs → 48 ≤ bytes_in xs
used_least w p [] laid some = absurd (omega arith)
used_least w p (Used n ∷ xs) laid some = omega (arith, laid.0.sized.least)
used_least w p (Hole n ∷ xs) laid some = omega (arith, laid.0.sized.least)

-- a place outside a part is none of its own
pub outside : (p n q k : ℕ) → k < n → within p (p + n) q ≡ 0 → q ≢ p + k
outside p n q k lt none is = omega (arith, within_in p (p + n) q (omega arith) (omega arith))

-- ---- a part changed

-- a part of a heap that is laid out, so many bytes long
module _ (fit : BestFit) (w : Words) (at : Context) (xs : List Block) (n : ℕ) (t : Tree) (is : IsLaidOut fit w (heap_with at xs) t) (total : bytes_in xs ≡ n) where
  part-clear : (q : ℕ) → IsClear q at n
  part-clear q = site_clear w (sizes_of fit) at xs n total is.chunks q

  part-holes : (f : ℕ → ℕ → ℕ) → tally f t ≡ around none (by_key f) at n + weigh none (by_key f) (start_of at) xs
  part-holes f = omega (arith, is.same f, rw total at (weigh-site none (by_key f) at xs))

  -- other blocks are there, and a tree of the holes, while nothing but the part and the links of holes was written
  turned : (v : Words) (ys : List Block) (root : ℕ) (u : Tree) → bytes_in ys ≡ n → Laid v (start_of at) ys →
      ((q : ℕ) → within (start_of at) (start_of at + n) q ≡ 0 → around none (links q) at n ≡ 0 → v q ≡ w q) →
      root_of u ≡ root → Holds (view_of v) u → AreNodes (IsNode (bytes_of fit)) u → IsBalanced u → (up : ℕ) × IsOrdered 0 u up →
      ((f : ℕ → ℕ → ℕ) → tally f u ≡ around none (by_key f) at n + weigh none (by_key f) (start_of at) ys) →
      Turn fit (record fit { root = root }) w v at (start_of at) xs ys
  turned v ys root u total' laid words at_root holds nodes even ordered same =
      let all : (f : ℕ → ℕ → ℕ) → tally f u ≡ weigh_holes (by_key f) (heap_with at ys) = λ f. omega (arith, same f, rw total' at (weigh-site none (by_key f) at ys)) in
      let chunks = site_turned w v (sizes_of fit) at xs ys (total' ∙ sym total) laid
      (subst (λ z. (q : ℕ) → 1 ≤ around (heads q) (heads q) at z → v q ≡ w q) (sym total)
      (λ q head.
      let clear = part-clear q in
      let parts = around-parts (heads q) (heads q) at n in
      words q (omega (arith, clear.used, clear.holes, clear.apart)) (omega (arith, clear.used, clear.holes, clear.apart))))
      is.chunks in
      let apart : (q : ℕ) → cover q u ≤ 1 = λ q.
      let clear = part-clear q in
      let tidy = tidy_in q (start_of at) ys (laid_long v (start_of at) ys laid) in
      omega (arith, clear.holes, clear.apart, tidy.holes, same (heads q), same (links q), weigh-parts (whole q) (whole q) (start_of at) ys, rw total' at (weigh-whole q (start_of at) ys)) in
      let few = few_holes v 0 (sizes_of fit) (heap_with at ys) chunks in
      let most = sizes_few fit is.few is.sized in
      record {
        bytes = total' ∙ sym total;
        stand = record {
          start = refl;
          tree = u;
          laid = record {
            few = is.few;
            sized = is.sized;
            chunks = chunks;
            stands = record { at = at_root; holds = holds; balanced = even; low = omega (arith, high_bound u even 33 (omega (arith, all one))); apart = λ q. omega (arith, apart q, cover_is q u) };
            nodes = nodes;
            ordered = ordered;
            same = all;
          };
        };
        sizes = refl;
        kept = subst (λ z. (q : ℕ) → within (start_of at) (start_of at + z) q + around none (whole q) at z ≡ 0 → v q ≡ w q) (sym total)
            (λ q clear. words q (omega arith) (omega (arith, (part-clear q).holes)));
      }

-- ---- a hole taken out

module _ (fit : BestFit) (w u : Words) (at : Context) (n root : ℕ) (t : Tree) (is : IsLaidOut fit w (heap_with at (Hole n ∷ [])) t)
    (made : Becomes hole_plan (view_of w) (view_of u) (removed (key (start_of at) n) t) root) where
  taken-open : IsOpen fit w at (Hole n ∷ [])
  taken-open = site_open fit w at (Hole n ∷ []) t is

  taken-clear : (q : ℕ) → IsClear q at n
  taken-clear q = part-clear fit w at (Hole n ∷ []) n t is (omega arith) q

  taken-rest : (f : ℕ → ℕ → ℕ) → tally f (removed (key (start_of at) n) t) ≡ around none (by_key f) at n
  taken-rest f =
      let holes : (g : ℕ → ℕ → ℕ) → tally g t ≡ around none (by_key g) at n + (g (start_of at) (key (start_of at) n) + 0) = part-holes fit w at (Hole n ∷ []) n t is (omega arith) in
      let there : 1 ≤ tally (same (start_of at) (key (start_of at) n)) t = omega (arith, holes (same (start_of at) (key (start_of at) n)), same-same (start_of at) (key (start_of at) n)) in
      omega (arith, holes f, tally-removed f 0 (start_of at) (key (start_of at) n) t is.ordered.0 is.ordered.1 there)

  taken-laid : Laid (with_word u (start_of at + 8) 1) (start_of at) (Used n ∷ [])
  taken-laid =
      let a : ℕ = start_of at in
      let least = taken-open.laid.0.sized.least in
      let clear = taken-clear a in
      let inside = within_in a (a + n) a (omega arith) (omega arith) in (
        record {
          sized = taken-open.laid.0.sized;
          size = with_word_other u (a + 8) 1 a (λ e. omega arith) ∙ made.changes.rest a (omega (arith, taken-rest (links a), clear.holes, clear.apart)) ∙ taken-open.laid.0.size;
          state = with_word_same u (a + 8) 1;
        },
        tt,
      )

  -- the state is no word outside
  state-other : (q : ℕ) → within (start_of at) (start_of at + n) q ≡ 0 → with_word u (start_of at + 8) 1 q ≡ u q
  state-other q clear = with_word_other u (start_of at + 8) 1 q (outside (start_of at) n q 8 (omega (arith, taken-open.laid.0.sized.least)) clear)

  pub taken_out : Turn fit (record fit { root = root }) w (with_word u (start_of at + 8) 1) at (start_of at) (Hole n ∷ []) (Used n ∷ [])
  taken_out =
      turned fit w at (Hole n ∷ []) n t is (omega arith) (with_word u (start_of at + 8) 1) (Used n ∷ []) root (removed (key (start_of at) n) t) (omega arith) taken-laid
      (λ q clear free. state-other q clear ∙ made.changes.rest q (omega (arith, taken-rest (links q)))) made.at
      (holds_kept u (with_word u (start_of at + 8) 1) (removed (key (start_of at) n) t)
      (λ q in_tree. let clear = taken-clear q in state-other q (omega (arith, clear.holes, clear.apart, taken-rest (heads q), taken-rest (links q)))) made.holds)
      (nodes_in (IsNode (bytes_of fit)) (removed (key (start_of at) n) t) t (λ a. tally-removed_le (is_at a) (key (start_of at) n) t) is.nodes)
      made.balanced (is.ordered.0, removed-ordered 0 (key (start_of at) n) t is.ordered.0 is.ordered.1)
      (λ f. omega (arith, taken-rest f))

-- ---- used blocks made a hole

module _ (fit : BestFit) (w : Words) (at : Context) (xs : List Block) (n : ℕ) (t : Tree) (is : IsLaidOut fit w (heap_with at xs) t)
    (used : AreUsed xs) (total : bytes_in xs ≡ n) (some : 0 < n) where
  put-open : IsOpen fit w at xs
  put-open = site_open fit w at xs t is

  put-least : 48 ≤ n
  put-least = omega (arith, used_least w (start_of at) xs put-open.laid (omega arith))

  put-clear : (q : ℕ) → IsClear q at n
  put-clear q = part-clear fit w at xs n t is total q

  put-holes : (f : ℕ → ℕ → ℕ) → tally f t ≡ around none (by_key f) at n
  put-holes f = omega (arith, part-holes fit w at xs n t is total f, used_none (by_key f) (start_of at) xs used)

  pub put-node : IsNode (bytes_of fit) (start_of at)
  put-node = site_node fit w at xs 0 (start_of at) put-open (omega arith) (omega (arith, put-least)) (omega arith)

  -- the header of the hole
  abbrev headed : Words
  headed = with_word (with_word w (start_of at) n) (start_of at + 8) 0

  headed-words : (q : ℕ) → within (start_of at) (start_of at + n) q ≡ 0 → headed q ≡ w q
  headed-words q clear =
      let least = put-least in
      with_word_other (with_word w (start_of at) n) (start_of at + 8) 0 q (outside (start_of at) n q 8 (omega arith) clear)
      ∙ with_word_other w (start_of at) n q (λ e. outside (start_of at) n q 0 (omega arith) clear (omega arith))

  headed-size : headed (start_of at) ≡ n
  headed-size = with_word_other (with_word w (start_of at) n) (start_of at + 8) 0 (start_of at) (λ e. omega arith) ∙ with_word_same w (start_of at) n

  pub put-stands : Stands hole_plan (view_of headed) t fit.root
  put-stands = record {
    at = is.stands.at;
    holds = holds_kept w headed t
        (λ q in_tree. let clear = put-clear q in headed-words q (omega (arith, clear.holes, clear.apart, put-holes (heads q), put-holes (links q))))
        is.stands.holds;
    balanced = is.stands.balanced;
    low = is.stands.low;
    apart = is.stands.apart;
  }

  -- no hole has its rank
  put-fresh : tally (ranked (key (start_of at) n)) t ≡ 0
  put-fresh =
      let a : ℕ = start_of at in
      let clear = put-clear a in
      let least = put-least in
      let inside = within_in a (a + n) a (omega arith) (omega arith) in
      omega (arith, rank_there (bytes_of fit) w a n (omega (arith, put-node.low)) t is.stands.holds is.nodes, put-holes (heads a), clear.holes, clear.apart)

  pub put-new : IsNew hole_plan (view_of headed) t (start_of at) (key (start_of at) n)
  put-new = record {
    some = omega (arith, put-node.some);
    rank = λ i. key (start_of at) (headed-size i);
    fresh = put-fresh;
    apart = λ q. let clear = put-clear q in omega (arith, cover_is q t, clear.holes, clear.apart, put-holes (heads q), put-holes (links q), node_whole q (start_of at) n put-least);
  }

  module _ (v : Words) (root : ℕ) (made : Becomes hole_plan (view_of headed) (view_of v) (inserted (start_of at) (key (start_of at) n) t) root) where
    put-laid : Laid v (start_of at) (Hole n ∷ [])
    put-laid =
        let a : ℕ = start_of at in
        let least = put-least in
        let head : (k : ℕ) → k < 16 → v (a + k) ≡ headed (a + k) =
        λ k lt.
        let q : ℕ = a + k in
        let clear = put-clear q in
        let inside = within_in a (a + n) q (omega arith) (omega arith) in
        made.changes.rest q (omega (arith, tally-inserted (links q) a (key a n) t, put-holes (links q), clear.holes, clear.apart, within_below (a + 16) (a + 48) q (omega arith))) in
        let first : a + 0 ≡ a = omega arith in (
          record {
            sized = record { least = least; even = subst (λ z. z % 16 ≡ 0) total (laid_even w a xs put-open.laid) };
            size = subst (λ z. v z ≡ headed z) first (head 0 (omega arith)) ∙ headed-size;
            state = head 8 (omega arith) ∙ with_word_same (with_word w a n) (a + 8) 0;
          },
          tt,
        )

    put-ordered : (up : ℕ) × IsOrdered 0 (inserted (start_of at) (key (start_of at) n) t) up
    put-ordered =
        let a : ℕ = start_of at in
        let up : ℕ = is.ordered.0 + key a n + 1 in
        (up, inserted-ordered 0 a (key a n) t up (omega arith) (omega arith) put-fresh (widened 0 0 t is.ordered.0 up (omega arith) (omega arith) is.ordered.1))

    pub put_in : Turn fit (record fit { root = root }) w v at (start_of at) xs (Hole n ∷ [])
    put_in =
        turned fit w at xs n t is total v (Hole n ∷ []) root (inserted (start_of at) (key (start_of at) n) t) (omega arith) put-laid
        (λ q clear free. made.changes.rest q (omega (arith, tally-inserted (links q) (start_of at) (key (start_of at) n) t, put-holes (links q), node_whole q (start_of at) n put-least)) ∙ headed-words q clear)
        made.at made.holds
        (nodes_with (IsNode (bytes_of fit)) (start_of at) (key (start_of at) n) t (inserted (start_of at) (key (start_of at) n) t) is.nodes put-node (λ x. tally-inserted (is_at x) (start_of at) (key (start_of at) n) t))
        made.balanced put-ordered
        (λ f. omega (arith, tally-inserted f (start_of at) (key (start_of at) n) t, put-holes f))

-- ---- a used block cut

-- used blocks in the place of others, by their headers
pub rewritten : (fit : BestFit) (w v : Words) (at : Context) (xs ys : List Block) (n : ℕ) (t : Tree) → IsLaidOut fit w (heap_with at xs) t → AreUsed xs → AreUsed ys →
    bytes_in xs ≡ n → bytes_in ys ≡ n → Laid v (start_of at) ys → ((q : ℕ) → within (start_of at) (start_of at + n) q ≡ 0 → v q ≡ w q) →
    Turn fit fit w v at (start_of at) xs ys
rewritten fit w v at xs ys n t is used used' total total' laid same =
    let holes : (f : ℕ → ℕ → ℕ) → tally f t ≡ around none (by_key f) at n = λ f. omega (arith, part-holes fit w at xs n t is total f, used_none (by_key f) (start_of at) xs used) in
    turned fit w at xs n t is total v ys fit.root t total' laid (λ q clear free. same q clear) is.stands.at
    (holds_kept w v t (λ q in_tree. let clear = part-clear fit w at xs n t is total q in same q (omega (arith, clear.holes, clear.apart, holes (heads q), holes (links q)))) is.stands.holds)
    is.nodes is.stands.balanced is.ordered (λ f. omega (arith, holes f, used_none (by_key f) (start_of at) ys used'))

-- ---- put together

-- one change after another
pub turn_then : (a b c : BestFit) (w u v : Words) (at : Context) (p : ℕ) (xs ys zs : List Block) → Turn a b w u at p xs ys → Turn b c u v at p ys zs → Turn a c w v at p xs zs
turn_then a b c w u v at p xs ys zs first second = record {
  bytes = second.bytes ∙ first.bytes;
  stand = second.stand;
  sizes = second.sizes ∙ first.sizes;
  kept = λ q clear. second.kept q (subst (λ z. within p (p + z) q + around none (whole q) at z ≡ 0) (sym first.bytes) clear) ∙ first.kept q clear;
}

-- a part of a part: with so many blocks more on its left, and on its right
abbrev pub narrowed : Context → List Block → List Block → Context
narrowed at xs ys = record { older = at.older; left = at.left ++ xs; right = ys ++ at.right; newer = at.newer }

module _ (at : Context) (xs ys : List Block) where
  start_narrowed : start_of (narrowed at xs ys) ≡ start_of at + bytes_in xs
  start_narrowed = omega (arith, bytes-append at.left xs)

  pub heap_narrowed : (zs : List Block) → heap_with (narrowed at xs ys) zs ≡ heap_with at (xs ++ (zs ++ ys))
  heap_narrowed zs =
      let blocks : at.left ++ xs ++ (zs ++ (ys ++ at.right)) ≡ at.left ++ ((xs ++ (zs ++ ys)) ++ at.right) = simp append_assoc in
      ap (λ c. at.older ++ c ∷ at.newer) blocks

  around_narrowed : (u h : ℕ → ℕ → ℕ) (n : ℕ) → around u h (narrowed at xs ys) n ≡
      around u h at (bytes_in xs + n + bytes_in ys) + weigh u h (start_of at) xs + weigh u h (start_of at + bytes_in xs + n) ys
  around_narrowed u h n =
      let start = start_narrowed in
      let left : place_at (length at.older) 0 + bytes_in at.left ≡ start_of at = omega arith in
      let right : start_of at + bytes_in xs + n + bytes_in ys ≡ start_of at + (bytes_in xs + n + bytes_in ys) = omega arith in
      let lefts = rw left at (weigh-append u h (place_at (length at.older) 0) at.left xs) in
      let rights = rw right at (weigh-append u h (start_of at + bytes_in xs + n) ys at.right) in
      let behind : weigh u h (start_of (narrowed at xs ys) + n) (ys ++ at.right) ≡ weigh u h (start_of at + bytes_in xs + n) (ys ++ at.right) =
      ap (λ z. weigh u h (z + n) (ys ++ at.right)) start in
      omega arith

  -- a part stands where the whole does
  pub stand_narrowed : (fit : BestFit) (w : Words) (p place : ℕ) (all zs : List Block) → all ≡ xs ++ (zs ++ ys) → p + bytes_in xs ≡ place →
      Stand fit w at p all → Stand fit w (narrowed at xs ys) place zs
  stand_narrowed fit w p place all zs is there stand =
      let start = stand.start in
      record {
        start = omega (arith, start_narrowed);
        tree = stand.tree;
        laid = subst (λ h. IsLaidOut fit w h stand.tree) (ap (heap_with at) is ∙ sym (heap_narrowed zs)) stand.laid;
      }

  -- and its change is one of the whole
  pub turn_widened : (old new : BestFit) (w v : Words) (p place : ℕ) (all all' zs zs' : List Block) → all ≡ xs ++ (zs ++ ys) → all' ≡ xs ++ (zs' ++ ys) → start_of at ≡ p →
      Turn old new w v (narrowed at xs ys) place zs zs' → Turn old new w v at p all all'
  turn_widened old new w v p place all all' zs zs' is is' start turn =
      let bx : ℕ = bytes_in xs in
      let bz : ℕ = bytes_in zs in
      let bytes : bytes_in all ≡ bytes_in xs + bytes_in zs + bytes_in ys = ap bytes_in is ∙ omega (arith, bytes-append xs (zs ++ ys), bytes-append zs ys) in
      let bytes' : bytes_in all' ≡ bytes_in xs + bytes_in zs' + bytes_in ys = ap bytes_in is' ∙ omega (arith, bytes-append xs (zs' ++ ys), bytes-append zs' ys) in
      let there : start_of at + bytes_in xs ≡ place = sym start_narrowed ∙ turn.stand.start in
      record {
        bytes = omega (arith, turn.bytes);
        stand = record {
          start = start;
          tree = turn.stand.tree;
          laid = subst (λ h. IsLaidOut new v h turn.stand.tree) (heap_narrowed zs' ∙ sym (ap (heap_with at) is')) turn.stand.laid;
        };
        sizes = turn.sizes;
        kept = λ q clear.
            let clear' = rw (bytes, sym start) at clear in
            let end : start_of at + bx + bz + bytes_in ys ≡ start_of at + (bx + bz + bytes_in ys) = omega arith in
            turn.kept q (subst (λ z. within z (z + bz) q + around none (whole q) (narrowed at xs ys) bz ≡ 0) there
            (omega (
              arith,
              around_narrowed none (whole q) bz,
              weigh-parts (whole q) (whole q) (start_of at) xs,
              weigh-whole q (start_of at) xs,
              weigh-parts (whole q) (whole q) (start_of at + bx + bz) ys,
              weigh-whole q (start_of at + bx + bz) ys,
              within_mono (start_of at) (start_of at + bx) (start_of at) (start_of at + (bx + bz + bytes_in ys)) q (omega arith) (omega arith),
              within_mono (start_of at + bx) (start_of at + bx + bz) (start_of at) (start_of at + (bx + bz + bytes_in ys)) q (omega arith) (omega arith),
              within_mono (start_of at + bx + bz) (start_of at + bx + bz + bytes_in ys) (start_of at) (start_of at + (bx + bz + bytes_in ys)) q (omega arith) (omega arith),
            )));
      }
