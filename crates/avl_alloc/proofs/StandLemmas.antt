-- Blocks that stand at a place: what calls on them ask, and what the calls make of them.
use Rattle.std.proofs.Common.{◌≡◌, ◌≢◌, ℕ, zero, suc, ◌+◌, ◌*◌, ◌%◌, ◌^◌, ◌<◌, ◌≤◌, refl, sym, ap, ◌∙◌, subst, true, false, arith, List, [], ◌∷◌, ◌++◌}
use Rattle.std.specs.Prelude.{◌-◌, ◌==◌, nat_lt, if◌then◌else◌, slice_index}
use Rattle.std.proofs.lemmas.Bool.Decides.{nat_tests}
use Rattle.std.proofs.lemmas.List.{append_assoc, append-nil}
use Rattle.own_model.specs.Heap.{Block, Used, Hole, bytes_in, IsBlockSize}
use Rattle.own_model.specs.BestFit.{cut}
use Rattle.avl_alloc.specs.declared.best_fit.BestFit.{BestFit}
use Rattle.avl_alloc.specs.Words.{Words, with_word, within, IsNode, IsPlace}
use Rattle.avl_tree.specs.Tree.{Tree, high, inserted, removed}
use Rattle.avl_tree.specs.View.{Becomes, Stands, IsNew}
use Rattle.avl_alloc.specs.FreeBlocks.{key, view_of, hole_plan, Fits}
use Rattle.avl_alloc.specs.Layout.{Laid, weigh, none, bytes_of, hole_count}
use Rattle.avl_alloc.specs.Context.{Context, heap_with, start_of, Stand, Turn, AreUsed, StandUsed, gap, filled, first_hole}
use Rattle.avl_tree.proofs.TreeLemmas.{one, high_bound}
use Rattle.avl_alloc.proofs.HoleLemmas.{header_leaves, with_word_same, with_word_other, node_place, fits_node}
use Rattle.avl_alloc.proofs.FitLemmas.{holes_counted}
use Rattle.avl_alloc.proofs.WeightLemmas.{weigh-append, weigh-site}
use Rattle.avl_alloc.proofs.ContextLemmas.{laid_right, site_open, site_node}
use Rattle.avl_alloc.proofs.TurnLemmas.{used_none, used_least, outside, narrowed, heap_narrowed, stand_narrowed, turn_then, turn_widened, taken_out, put-node, put-stands, put-new, put_in, rewritten}
use Rattle.own_model.proofs.HeapBlockLemmas.{bytes-append}

-- there is room for a node at the place, and further on
pub stand_node : (fit : BestFit) (w : Words) (at : Context) (place : ℕ) (xs : List Block) (real : ℕ → ℕ) (k p : ℕ) → Stand fit w at place xs → Fits (bytes_of fit) real →
    k % 16 ≡ 0 → k + 48 ≤ bytes_in xs → place + k ≡ p → IsNode real p
stand_node fit w at place xs real k p stand fits step room there =
    let start = stand.start in
    fits_node (bytes_of fit) real p fits (site_node fit w at xs k p (site_open fit w at xs stand.tree stand.laid) step room (omega arith))

pub stand_laid : (fit : BestFit) (w : Words) (at : Context) (place : ℕ) (xs : List Block) → Stand fit w at place xs → Laid w place xs
stand_laid fit w at place xs stand = subst (λ p. Laid w p xs) stand.start (site_open fit w at xs stand.tree stand.laid).laid

pub first_place : (real : ℕ → ℕ) (place : ℕ) → IsNode real place → IsPlace real place
first_place real place node = subst (IsPlace real) (omega arith) (node_place real place 0 node (omega arith) (omega arith))

-- the tree of few holes is low
pub stand_low : (fit : BestFit) (w : Words) (at : Context) (place : ℕ) (xs : List Block) (b : ℕ) → (stand : Stand fit w at place xs) → hole_count (heap_with at xs) < 2 ^ b → high stand.tree ≤ 2 * b + 1
stand_low fit w at place xs b stand few =
    high_bound stand.tree stand.laid.stands.balanced b (omega (arith, holes_counted (heap_with at xs), stand.laid.same one))

-- ---- a hole taken out

pub take_out_turn : (fit : BestFit) (w u v : Words) (at : Context) (place n root : ℕ) → Stand fit w at place (Hole n ∷ []) →
    ((t : Tree) → Stands hole_plan (view_of w) t fit.root → Becomes hole_plan (view_of w) (view_of u) (removed (key place n) t) root) → v ≡ with_word u (place + 8) 1 →
    Turn fit (record fit { root = root }) w v at place (Hole n ∷ []) (Used n ∷ [])
take_out_turn fit w u v at place n root stand made is =
    let made' = rw (sym stand.start) at (made stand.tree stand.laid.stands) in
    let is' = rw (sym stand.start) at is in
    let turn = taken_out fit w u at n root stand.tree stand.laid made' in
    subst (λ p. Turn fit (record fit { root = root }) w v at p (Hole n ∷ []) (Used n ∷ [])) stand.start
    (subst (λ x. Turn fit (record fit { root = root }) w x at (start_of at) (Hole n ∷ []) (Used n ∷ [])) (sym is') turn)

-- ---- used blocks made a hole

module _ (fit : BestFit) (w x : Words) (at : Context) (place : ℕ) (xs : List Block) (n : ℕ) (stand : StandUsed fit w at place xs n)
    (is : x ≡ with_word (with_word w place n) (place + 8) 0) where
  headed_is : x ≡ with_word (with_word w (start_of at) n) (start_of at + 8) 0
  headed_is = rw (sym stand.stand.start) at is

  pub put_in_stands : Stands hole_plan (view_of x) stand.stand.tree fit.root
  put_in_stands = rw headed_is (put-stands fit w at xs n stand.stand.tree stand.stand.laid stand.used stand.total stand.some)

  pub put_in_new : IsNew hole_plan (view_of x) stand.stand.tree place (key place n)
  put_in_new =
      subst (λ p. IsNew hole_plan (view_of x) stand.stand.tree p (key p n)) stand.stand.start
      (rw headed_is (put-new fit w at xs n stand.stand.tree stand.stand.laid stand.used stand.total stand.some))

  pub put_in_turn : (v : Words) (root : ℕ) →
      ((t : Tree) → Stands hole_plan (view_of x) t fit.root → IsNew hole_plan (view_of x) t place (key place n) → Becomes hole_plan (view_of x) (view_of v) (inserted place (key place n) t) root) →
      Turn fit (record fit { root = root }) w v at place xs (Hole n ∷ [])
  put_in_turn v root made =
      let made' = rw (sym stand.stand.start, headed_is) at (made stand.stand.tree put_in_stands put_in_new) in
      subst (λ p. Turn fit (record fit { root = root }) w v at p xs (Hole n ∷ [])) stand.stand.start
      (put_in fit w at xs n stand.stand.tree stand.stand.laid stand.used stand.total stand.some v root made')

-- ---- a used block cut

pub split_turn : (fit : BestFit) (w x v : Words) (at : Context) (place n m : ℕ) → Stand fit w at place (Used (n + m) ∷ []) → IsBlockSize n → IsBlockSize m →
    x ≡ with_word (with_word w place n) (place + 8) 1 → v ≡ with_word (with_word x (place + n) m) (place + n + 8) 1 →
    Turn fit fit w v at place (Used (n + m) ∷ []) (Used n ∷ Used m ∷ [])
split_turn fit w x v at place n m stand size size' is is' =
    subst (λ p. Turn fit fit w v at p (Used (n + m) ∷ []) (Used n ∷ Used m ∷ [])) stand.start
    (rewritten fit w v at (Used (n + m) ∷ []) (Used n ∷ Used m ∷ []) (n + m) stand.tree stand.laid tt tt (omega arith) (omega arith)
    (subst (λ p. Laid v p (Used n ∷ Used m ∷ [])) (sym stand.start) laid) (subst (λ p. (q : ℕ) → within p (p + (n + m)) q ≡ 0 → v q ≡ w q) (sym stand.start) kept))
  where
    first : (q : ℕ) → q ≢ place + n → q ≢ place + n + 8 → v q ≡ x q
    first = header_leaves x v (place + n) m is'

    laid : Laid v place (Used n ∷ Used m ∷ [])
    laid =
        let least = size.least in (
          record {
            sized = size;
            size = first place (λ e. omega arith) (λ e. omega arith) ∙ ap (λ z. z place) is
                ∙ with_word_other (with_word w place n) (place + 8) 1 place (λ e. omega arith) ∙ with_word_same w place n;
            state = first (place + 8) (λ e. omega arith) (λ e. omega arith) ∙ ap (λ z. z (place + 8)) is ∙ with_word_same (with_word w place n) (place + 8) 1;
          },
          (
            record {
              sized = size';
              size = ap (λ z. z (place + n)) is' ∙ with_word_other (with_word x (place + n) m) (place + n + 8) 1 (place + n) (λ e. omega arith) ∙ with_word_same x (place + n) m;
              state = ap (λ z. z (place + n + 8)) is' ∙ with_word_same (with_word x (place + n) m) (place + n + 8) 1;
            },
            tt,
          ),
        )

    kept : (q : ℕ) → within place (place + (n + m)) q ≡ 0 → v q ≡ w q
    kept q clear =
        let least = size.least in
        let least' = size'.least in
        first q (outside place (n + m) q n (omega arith) clear) (λ e. outside place (n + m) q (n + 8) (omega arith) clear (omega arith))
        ∙ header_leaves w x place n is q (λ e. outside place (n + m) q 0 (omega arith) clear (omega arith)) (outside place (n + m) q 8 (omega arith) clear)

-- ---- by their headers

pub used_node : (fit : BestFit) (w : Words) (at : Context) (place : ℕ) (xs : List Block) (n : ℕ) (real : ℕ → ℕ) → StandUsed fit w at place xs n → Fits (bytes_of fit) real → IsNode real place
used_node fit w at place xs n real stand fits =
    subst (IsNode real) stand.stand.start
    (fits_node (bytes_of fit) real (start_of at) fits (put-node fit w at xs n stand.stand.tree stand.stand.laid stand.used stand.total stand.some))

module _ (fit : BestFit) (w : Words) (at : Context) (place : ℕ) where
  pub behind_node : (xs : List Block) (real : ℕ → ℕ) → Stand fit w at place xs → Fits (bytes_of fit) real → bytes_in xs ≢ 0 → IsNode real place
  behind_node xs real stand fits some =
      stand_node fit w at place xs real 0 place stand fits (omega arith) (omega (arith, used_least w place xs (stand_laid fit w at place xs stand) (omega arith))) (omega arith)

  -- at the end there is no hole
  pub behind_none : (xs : List Block) → Stand fit w at place xs → bytes_in xs ≡ 0 → 0 ≡ first_hole xs
  behind_none [] stand none = refl
  behind_none (Used n ∷ xs) stand none = refl
  behind_none (Hole n ∷ xs) stand none = let laid = stand_laid fit w at place (Hole n ∷ xs) stand in absurd (omega (arith, laid.0.sized.least))

  -- else the header tells it
  pub behind_hole : (xs : List Block) → Stand fit w at place xs → bytes_in xs ≢ 0 → (if w (place + 8) == 0 then w place else 0) ≡ first_hole xs
  behind_hole [] stand some = absurd (some refl)
  behind_hole (Used n ∷ xs) stand some =
      let laid = stand_laid fit w at place (Used n ∷ xs) stand in
      let state = laid.0.state in
      let test : (w (place + 8) == 0) ≡ false = grind (arith, nat_tests) in
      simp test
  behind_hole (Hole n ∷ xs) stand some =
      let laid = stand_laid fit w at place (Hole n ∷ xs) stand in
      let state = laid.0.state in
      let test : (w (place + 8) == 0) ≡ true = grind (arith, nat_tests) in
      simp test laid.0.size

-- a hole of some bytes, and one of none
pub gap_some : (n : ℕ) → 0 < n → gap n ≡ Hole n ∷ []
gap_some n some = let test : (n == 0) ≡ false = grind (arith, nat_tests) in simp test

pub filled_some : (n : ℕ) → 0 < n → filled n ≡ Used n ∷ []
filled_some n some = let test : (n == 0) ≡ false = grind (arith, nat_tests) in simp test

-- ---- counts

-- a change to fewer holes leaves fewer in the heap
pub holes_less : (at : Context) (xs ys : List Block) → bytes_in ys ≡ bytes_in xs → weigh none one (start_of at) ys ≤ weigh none one (start_of at) xs →
    hole_count (heap_with at ys) ≤ hole_count (heap_with at xs)
holes_less at xs ys bytes less =
    omega (arith, holes_counted (heap_with at ys), holes_counted (heap_with at xs), weigh-site none one at xs, rw bytes at (weigh-site none one at ys))

pub holes_narrowed : (at : Context) (xs ys all zs : List Block) → all ≡ xs ++ (zs ++ ys) → hole_count (heap_with (narrowed at xs ys) zs) ≡ hole_count (heap_with at all)
holes_narrowed at xs ys all zs is = ap hole_count (heap_narrowed at xs ys zs ∙ sym (ap (heap_with at) is))

-- blocks end within the places
pub stand_end : (fit : BestFit) (w : Words) (at : Context) (place : ℕ) (xs : List Block) → Stand fit w at place xs → place + bytes_in xs < 2 ^ 40
stand_end fit w at place xs stand =
    let there = site_open fit w at xs stand.tree stand.laid in
    let start = stand.start in
    omega (arith, there.low, there.total, there.short)

-- the memory has the chunks as before
pub turn_fits : (a b : BestFit) (w v : Words) (at : Context) (place : ℕ) (xs ys : List Block) (real : ℕ → ℕ) → Turn a b w v at place xs ys → Fits (bytes_of a) real → Fits (bytes_of b) real
turn_fits a b w v at place xs ys real turn fits = subst (λ sizes. (chunk : ℕ) → slice_index sizes chunk ≤ real chunk) (sym turn.sizes) fits

-- ---- a hole taken for a block

pub hole_size : (fit : BestFit) (w : Words) (at : Context) (place n whole : ℕ) → Stand fit w at place (Hole n ∷ []) → whole ≡ w place → n ≡ whole
hole_size fit w at place n whole stand read = let laid = stand_laid fit w at place (Hole n ∷ []) stand in sym (read ∙ laid.0.size)

pub take_turn : (a b : BestFit) (w x v : Words) (at : Context) (place n whole : ℕ) → Stand a w at place (Hole n ∷ []) → whole ≡ w place → x ≡ w →
    ((site : Context) → Stand a x site place (Hole whole ∷ []) → Turn a b x v site place (Hole whole ∷ []) (Used whole ∷ [])) →
    Turn a b w v at place (Hole n ∷ []) (Used n ∷ [])
take_turn a b w x v at place n whole stand read same turn =
    let size = hole_size a w at place n whole stand read in
    let turn' = rw (same, ← size) at (turn at) in
    turn' stand

module _ (a b : BestFit) (w u : Words) (at : Context) (place n size left : ℕ) (bytes : n ≡ size + left) (turn : Turn a b w u at place (Hole n ∷ []) (Used n ∷ [])) where
  -- all of it, where what is left is less than a block
  pub cut_whole : left < 48 → Turn a b w u at place (Hole n ∷ []) (cut size n)
  cut_whole less =
      let test : nat_lt (n - size) 48 ≡ true = grind (arith, nat_tests) in
      subst (λ z. Turn a b w u at place (Hole n ∷ []) (if z then Used n ∷ [] else Used size ∷ Hole (n - size) ∷ [])) (sym test) turn

  pub split_asks : Stand b u at place (Used (size + left) ∷ [])
  split_asks = subst (λ z. Stand b u at place (Used z ∷ [])) bytes turn.stand

  module _ (x : Words) (least : 48 ≤ left) (parts : Turn b b u x at place (Used (size + left) ∷ []) (Used size ∷ Used left ∷ [])) where
    pub left_asks : StandUsed b x (narrowed at (Used size ∷ []) []) (place + size) (Used left ∷ []) left
    left_asks = record {
      stand = stand_narrowed at (Used size ∷ []) [] b x place (place + size) (Used size ∷ Used left ∷ []) (Used left ∷ []) refl (omega arith) parts.stand;
      used = tt;
      total = omega arith;
      some = omega arith;
    }

    pub left_holes : (k : ℕ) → hole_count (heap_with at (Hole n ∷ [])) < k → hole_count (heap_with (narrowed at (Used size ∷ []) []) (Used left ∷ [])) < k
    left_holes k few =
        omega (
          arith,
          holes_narrowed at (Used size ∷ []) [] (Used size ∷ Used left ∷ []) (Used left ∷ []) refl,
          holes_less at (Hole n ∷ []) (Used size ∷ Used left ∷ []) (omega arith) (omega arith),
        )

    -- what is left made a hole
    pub cut_turn : (c : BestFit) (v : Words) →
        ((site : Context) (blocks : List Block) → StandUsed b x site (place + size) blocks left → Turn b c x v site (place + size) blocks (Hole left ∷ [])) →
        Turn a c w v at place (Hole n ∷ []) (cut size n)
    cut_turn c v put =
        let last = turn_widened at (Used size ∷ []) [] b c x v place (place + size) (Used size ∷ Used left ∷ []) (Used size ∷ Hole left ∷ []) (Used left ∷ []) (Hole left ∷ []) refl refl parts.stand.start
        (put (narrowed at (Used size ∷ []) []) (Used left ∷ []) left_asks) in
        let first = subst (λ z. Turn a b w u at place (Hole n ∷ []) (Used z ∷ [])) bytes turn in
        let all = turn_then a b c w x v at place (Hole n ∷ []) (Used size ∷ Used left ∷ []) (Used size ∷ Hole left ∷ [])
        (turn_then a b b w u x at place (Hole n ∷ []) (Used (size + left) ∷ []) (Used size ∷ Used left ∷ []) first parts) last in
        let test : nat_lt (n - size) 48 ≡ false = grind (arith, nat_tests) in
        let rest : left ≡ n - size = omega arith in
        subst (λ z. Turn a c w v at place (Hole n ∷ []) (if z then Used n ∷ [] else Used size ∷ Hole (n - size) ∷ [])) (sym test)
        (subst (λ z. Turn a c w v at place (Hole n ∷ []) (Used size ∷ Hole z ∷ [])) rest all)

-- ---- a block given back

pub clear_some : (a b : BestFit) (w v : Words) (place n : ℕ) → 0 < n →
    ((at : Context) → Stand a w at place (Hole n ∷ []) → Turn a b w v at place (Hole n ∷ []) (Used n ∷ [])) →
    (at : Context) → Stand a w at place (gap n) → Turn a b w v at place (gap n) (filled n)
clear_some a b w v place n some turn at stand =
    subst (λ z. Turn a b w v at place z (filled n)) (sym (gap_some n some)) (subst (λ z. Turn a b w v at place (Hole n ∷ []) z) (sym (filled_some n some))
    (turn at (subst (Stand a w at place) (gap_some n some) stand)))

pub gap_bytes : (n : ℕ) → bytes_in (gap n) ≡ n
gap_bytes zero = refl
gap_bytes (suc n) = ap bytes_in (gap_some (suc n) (omega arith)) ∙ omega arith

filled_bytes : (n : ℕ) → bytes_in (filled n) ≡ n
filled_bytes zero = refl
filled_bytes (suc n) = ap bytes_in (filled_some (suc n) (omega arith)) ∙ omega arith

filled_used : (n : ℕ) → AreUsed (filled n)
filled_used zero = tt
filled_used (suc n) = subst AreUsed (sym (filled_some (suc n) (omega arith))) tt

used_append : (xs ys : List Block) → AreUsed xs → AreUsed ys → AreUsed (xs ++ ys)
used_append [] ys used used' = used'
used_append (Used n ∷ xs) ys used used' = used_append xs ys used used'
used_append (Hole n ∷ xs) ys used used' = absurd used

module _ (a : BestFit) (w : Words) (at : Context) (place p n m : ℕ) (stand : Stand a w at place (gap p ++ Used n ∷ gap m)) where
  pub given_end : place + p + n + m < 2 ^ 40
  given_end = omega (arith, stand_end a w at place (gap p ++ Used n ∷ gap m) stand, bytes-append (gap p) (Used n ∷ gap m), gap_bytes p, gap_bytes m)

  pub before_asks : Stand a w (narrowed at [] (Used n ∷ gap m)) place (gap p)
  before_asks = stand_narrowed at [] (Used n ∷ gap m) a w place place (gap p ++ Used n ∷ gap m) (gap p) refl (omega arith) stand

  pub before_holes : (k : ℕ) → hole_count (heap_with at (gap p ++ Used n ∷ gap m)) < k → hole_count (heap_with (narrowed at [] (Used n ∷ gap m)) (gap p)) < k
  before_holes k few = omega (arith, holes_narrowed at [] (Used n ∷ gap m) (gap p ++ Used n ∷ gap m) (gap p) refl)

  module _ (b : BestFit) (u : Words) (first : Turn a b w u (narrowed at [] (Used n ∷ gap m)) place (gap p) (filled p)) where
    before_turn : Turn a b w u at place (gap p ++ Used n ∷ gap m) (filled p ++ Used n ∷ gap m)
    before_turn = turn_widened at [] (Used n ∷ gap m) a b w u place place (gap p ++ Used n ∷ gap m) (filled p ++ Used n ∷ gap m) (gap p) (filled p) refl refl stand.start first

    apart : (zs : List Block) → filled p ++ Used n ∷ zs ≡ filled p ++ Used n ∷ [] ++ (zs ++ [])
    apart zs = simp (append_assoc, append-nil)

    pub behind_asks : Stand b u (narrowed at (filled p ++ Used n ∷ []) []) (place + p + n) (gap m)
    behind_asks =
        stand_narrowed at (filled p ++ Used n ∷ []) [] b u place (place + p + n) (filled p ++ Used n ∷ gap m) (gap m) (apart (gap m))
        (omega (arith, bytes-append (filled p) (Used n ∷ []), filled_bytes p)) before_turn.stand

    pub behind_holes : (k : ℕ) → hole_count (heap_with at (gap p ++ Used n ∷ gap m)) < k → hole_count (heap_with (narrowed at (filled p ++ Used n ∷ []) []) (gap m)) < k
    behind_holes k few =
        omega (
          arith,
          holes_narrowed at (filled p ++ Used n ∷ []) [] (filled p ++ Used n ∷ gap m) (gap m) (apart (gap m)),
          holes_less at (gap p ++ Used n ∷ gap m) (filled p ++ Used n ∷ gap m) before_turn.bytes fewer,
        )
      where
        fewer : weigh none one (start_of at) (filled p ++ Used n ∷ gap m) ≤ weigh none one (start_of at) (gap p ++ Used n ∷ gap m)
        fewer =
            let same : start_of at + bytes_in (filled p) ≡ start_of at + bytes_in (gap p) = omega (arith, gap_bytes p, filled_bytes p) in
            omega (
              arith,
              rw same at (weigh-append none one (start_of at) (filled p) (Used n ∷ gap m)),
              weigh-append none one (start_of at) (gap p) (Used n ∷ gap m),
              used_none one (start_of at) (filled p) (filled_used p),
            )

    module _ (c : BestFit) (x : Words) (second : Turn b c u x (narrowed at (filled p ++ Used n ∷ []) []) (place + p + n) (gap m) (filled m)) where
      both_turn : Turn a c w x at place (gap p ++ Used n ∷ gap m) (filled p ++ Used n ∷ filled m)
      both_turn =
          turn_then a b c w u x at place (gap p ++ Used n ∷ gap m) (filled p ++ Used n ∷ gap m) (filled p ++ Used n ∷ filled m) before_turn
          (turn_widened at (filled p ++ Used n ∷ []) [] b c u x place (place + p + n) (filled p ++ Used n ∷ gap m) (filled p ++ Used n ∷ filled m) (gap m) (filled m) (apart (gap m)) (apart (filled m)) stand.start second)

      pub given_asks : StandUsed c x at place (filled p ++ Used n ∷ filled m) (p + n + m)
      given_asks =
          let laid = laid_right x place (filled p) (Used n ∷ filled m) (stand_laid c x at place (filled p ++ Used n ∷ filled m) both_turn.stand) in
          record {
            stand = both_turn.stand;
            used = used_append (filled p) (Used n ∷ filled m) (filled_used p) (filled_used m);
            total = omega (arith, bytes-append (filled p) (Used n ∷ filled m), filled_bytes p, filled_bytes m);
            some = omega (arith, laid.0.sized.least);
          }

      pub given_holes : (k : ℕ) → hole_count (heap_with at (gap p ++ Used n ∷ gap m)) < k → hole_count (heap_with at (filled p ++ Used n ∷ filled m)) < k
      given_holes k few =
          omega (
            arith,
            holes_less at (gap p ++ Used n ∷ gap m) (filled p ++ Used n ∷ filled m) both_turn.bytes
                (omega (arith, used_none one (start_of at) (filled p ++ Used n ∷ filled m) given_asks.used)),
          )

      pub given_turn : (d : BestFit) (v : Words) → Turn c d x v at place (filled p ++ Used n ∷ filled m) (Hole (p + n + m) ∷ []) →
          Turn a d w v at place (gap p ++ Used n ∷ gap m) (Hole (p + n + m) ∷ [])
      given_turn d v last = turn_then a c d w x v at place (gap p ++ Used n ∷ gap m) (filled p ++ Used n ∷ filled m) (Hole (p + n + m) ∷ []) both_turn last
