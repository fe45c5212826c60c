-- A used block given back: where it stands in the heap, and what is left.
use Rattle.std.proofs.Common.{◌≡◌, ℕ, suc, ◌+◌, ◌-◌, ◌^◌, ◌<◌, ◌≤◌, Bool, true, false, refl, sym, ap, ◌∙◌, subst, inl, inr, arith, List, [], ◌∷◌, ◌++◌, length, take, drop, get_or, Some, None, not}
use Rattle.std.specs.Prelude.{◌==◌, nat_lt, if◌then◌else◌}
use Rattle.std.specs.List.{AllByRecursion}
use Rattle.std.proofs.lemmas.Bool.{cases_lt, not-true}
use Rattle.std.proofs.lemmas.Bool.Decides.{nat_tests}
use Rattle.std.proofs.lemmas.List.{append_assoc, append-nil, get_or_past, length-take-le, take-append-drop, set_split}
use Rattle.std.proofs.Math.Seq.{drop-cons}
use Rattle.own_model.proofs.ListLemmas.{all_right}
use Rattle.own_model.specs.Heap.{Block, Used, Hole, bytes_in, AreBlocks, Heap}
use Rattle.own_model.specs.BestFit.{chunk_of, given_in, given, used_at, payload_at, binary_digits}
use Rattle.avl_alloc.specs.declared.best_fit.BestFit.{BestFit}
use Rattle.avl_alloc.specs.declared.chunk.Block.{Block as BlockFound}
use Rattle.avl_alloc.specs.Words.{Words, place_at}
use Rattle.avl_alloc.specs.FreeBlocks.{heads}
use Rattle.avl_alloc.specs.Layout.{heap_of, hole_count, sizes_of, whole, kept_at, AreChunks, IsLaidOut, IsSound, ChangesHoles}
use Rattle.avl_alloc.specs.Context.{Context, heap_with, Stand, Turn, gap, first_hole, start_of}
use Rattle.avl_alloc.specs.Walk.{block_there}
use Rattle.avl_alloc.proofs.HoleLemmas.{within_in, within_above}
use Rattle.avl_alloc.proofs.WeightLemmas.{around-parts, weigh-site, AreLong, IsLong, laid_long}
use Rattle.avl_alloc.proofs.LayoutLemmas.{sound_chunk, sound_missing, sound_told}
use Rattle.avl_alloc.proofs.ContextLemmas.{chunks_length, site_clear}
use Rattle.avl_alloc.proofs.TurnLemmas.{stand_narrowed}
use Rattle.avl_alloc.proofs.StandLemmas.{gap_bytes}
use Rattle.avl_alloc.proofs.TakenLemmas.{heap_turned}
use Rattle.avl_alloc.proofs.FreedLemmas.{some_there, used_over, used_some, past_hole, past_is, freed, given_blocks}
use Rattle.avl_alloc.proofs.CallLemmas.{turn_heap, turn_sound, hole_changes, same_few}
use Rattle.own_model.proofs.HeapBlockLemmas.{bytes-append}

-- ---- what a walk's end is not

pub not_used : (target : ℕ) (b : BlockFound) → not b.used ≡ true → None ≡ used_over target b
not_used target b hole = let used : b.used ≡ false = not-true b.used hole in simp used

pub not_start : (target : ℕ) (b : BlockFound) → (b.offset ≡ target → ⊥) → None ≡ used_over target b
not_start target b other = let start : (b.offset == target) ≡ false = grind (arith, nat_tests) in neither b.used start
  where
    neither : (used : Bool) → (b.offset == target) ≡ false → None ≡ (if used then (if b.offset == target then Some b.size else None) else None)
    neither true start = simp start
    neither false start = refl

pub used_start : (target : ℕ) (b : BlockFound) → b.used ≡ true → b.offset ≡ target → Some b.size ≡ used_over target b
used_start target b used at = let start : (b.offset == target) ≡ true = grind (arith, nat_tests) in simp (used, start)

-- ---- where it stands

-- a heap about one of its chunks
chunk_split : (h : Heap) (chunk : ℕ) → chunk < length h → take chunk h ++ chunk_of h chunk ∷ drop (suc chunk) h ≡ h
chunk_split h chunk lt = ap (λ z. take chunk h ++ z) (sym (drop-cons h chunk [] lt)) ∙ take-append-drop chunk h

-- blocks of a chunk are long, also where there is no such chunk
pub sound_long : (fit : BestFit) (w : Words) → IsSound fit w → (chunk : ℕ) → AreLong (chunk_of (heap_of fit w) chunk)
sound_long fit w sound chunk =
    elim (cases_lt chunk fit.count) [
      | inl lt ↦ laid_long w _ _ (sound_chunk fit w chunk sound lt).laid
      | inr ge ↦ subst AreLong (sym (sound_missing fit w chunk sound ge)) tt
    ]

-- a used block of the heap, with the holes directly before and behind it
pub record IsUsedAt (fit : BestFit) (w : Words) (chunk offset : ℕ) (b : BlockFound) : Type 0 where
  pub low : chunk < 64
  pub back : b.before ≤ offset
  pub last : place_at chunk 0 + get_or fit.sizes chunk 0 < 2 ^ 40
  pub site : Context
  pub behind : ℕ
  pub stand : Stand fit w site (place_at chunk 0 + offset - b.before) (gap b.before ++ Used b.size ∷ gap behind)
  pub is : heap_with site (gap b.before ++ Used b.size ∷ gap behind) ≡ heap_of fit w
  pub made : heap_with site (Hole (b.before + b.size + behind) ∷ []) ≡ given chunk offset (heap_of fit w)
  pub blocks : AllByRecursion AreBlocks (heap_with site (Hole (b.before + b.size + behind) ∷ []))
  pub next : Context
  pub rest : List Block
  pub next_stand : Stand fit w next (place_at chunk 0 + offset + b.size) rest
  pub first : first_hole rest ≡ behind
  pub end : place_at chunk 0 + get_or fit.sizes chunk 0 ≡ place_at chunk 0 + offset + b.size + bytes_in rest

module _ (fit : BestFit) (w : Words) (chunk offset : ℕ) (b : BlockFound) (sound : IsSound fit w) (some : Some b ≡ block_there offset (chunk_of (heap_of fit w) chunk)) where
  chunk_low : chunk < fit.count
  chunk_low =
      elim (cases_lt chunk fit.count) [
        | inl lt ↦ lt
        | inr ge ↦
            let none = sound_missing fit w chunk sound ge in
            let there = some_there offset (chunk_of (heap_of fit w) chunk) b some in
            absurd (omega (arith, there.0, ap bytes_in none))
      ]

  pub used_is : b.used ≡ true → b.offset ≡ offset → IsUsedAt fit w chunk offset b
  used_is used at =
      let h : Heap = heap_of fit w in
      let blocks : List Block = chunk_of (heap_of fit w) chunk in
      let told = sound_told fit w sound in
      let there = sound_chunk fit w chunk sound chunk_low in
      let f = freed offset blocks b (sound_long fit w sound chunk) some used at in
      let few = told.laid.few in
      let sized = told.laid.sized in
      let lt : chunk < length h = omega (arith, chunk_low, chunks_length w 0 (sizes_of fit) h told.laid.chunks, length-take-le fit.count fit.sizes (omega arith)) in
      let older : Heap = take chunk h in
      let newer : Heap = drop (suc chunk) h in
      let p : ℕ = b.before in
      let n : ℕ = b.size in
      let m : ℕ = first_hole f.right in
      let past : List Block = past_hole f.right in
      let number = length-take-le chunk h (omega arith) in
      let split = chunk_split h chunk lt in
      let long = subst AreLong f.is (sound_long fit w sound chunk) in
      let long_right = (all_right IsLong (gap p) (Used n ∷ f.right) (all_right IsLong f.left (gap p ++ Used n ∷ f.right) long)).1 in
      let joined : gap p ++ Used n ∷ gap m ++ past ≡ gap p ++ Used n ∷ f.right = append_assoc (gap p) (Used n ∷ gap m) past ∙ ap (λ z. gap p ++ Used n ∷ z) (past_is f.right long_right) in
      let parts : f.left ++ (gap p ++ Used n ∷ gap m ++ past) ≡ blocks = ap (λ z. f.left ++ z) joined ∙ sym f.is in
      let site : Context = record { older = older; left = f.left; right = past; newer = newer } in
      let is : heap_with site (gap p ++ Used n ∷ gap m) ≡ h = ap (λ z. older ++ z ∷ newer) parts ∙ split in
      let start : bytes_in f.left + p ≡ offset = omega (arith, f.start) in
      let bytes : bytes_in blocks ≡ bytes_in f.left + (p + (n + bytes_in f.right)) =
      ap bytes_in f.is ∙ omega (arith, bytes-append f.left (gap p ++ Used n ∷ f.right), bytes-append (gap p) (Used n ∷ f.right), gap_bytes p) in
      let here : offset - 0 + 0 ≡ offset = omega arith in
      let freed_blocks : given_in offset blocks ≡ f.left ++ Hole (p + n + m) ∷ past = ap (λ o. given_in o blocks) (sym here) ∙ f.given in
      let used_there : used_at offset blocks ≡ Some n = sym (used_start offset b used at ∙ used_some offset blocks b (sound_long fit w sound chunk) some) in
      let whole : Context = record { older = older; left = f.left; right = []; newer = newer } in
      let all : heap_with whole (gap p ++ Used n ∷ f.right) ≡ h =
      ap (λ z. older ++ (f.left ++ z) ∷ newer) (append-nil (gap p ++ Used n ∷ f.right)) ∙ ap (λ z. older ++ z ∷ newer) (sym f.is) ∙ split in
      let tail : gap p ++ Used n ∷ f.right ≡ gap p ++ Used n ∷ [] ++ (f.right ++ []) = simp (append_assoc, append-nil) in
      record {
        low = omega (arith, chunk_low);
        back = omega arith;
        last = omega (arith, there.low, there.short);
        site = site;
        behind = m;
        stand = record { start = omega arith; tree = told.tree; laid = subst (λ k. IsLaidOut fit w k told.tree) (sym is) told.laid };
        is = is;
        made = ap (λ z. older ++ z ∷ newer) (sym freed_blocks) ∙ sym (set_split h chunk (given_in offset blocks) lt);
        blocks = heap_turned site (gap p ++ Used n ∷ gap m) (Hole (p + n + m) ∷ [])
            (λ are. subst AreBlocks freed_blocks (given_blocks offset n blocks (subst AreBlocks parts are) used_there))
            (subst (AllByRecursion AreBlocks) (sym is) told.blocks);
        next = record { older = older; left = f.left ++ (gap p ++ Used n ∷ []); right = []; newer = newer };
        rest = f.right;
        next_stand = stand_narrowed whole (gap p ++ Used n ∷ []) [] fit w (place_at chunk 0 + bytes_in f.left) (place_at chunk 0 + offset + n) (gap p ++ Used n ∷ f.right) f.right tail
            (omega (arith, bytes-append (gap p) (Used n ∷ []), gap_bytes p))
            (record { start = omega arith; tree = told.tree; laid = subst (λ k. IsLaidOut fit w k told.tree) (sym all) told.laid });
        first = refl;
        end = omega (arith, there.total);
      }

-- ---- what is left

pub record IsGiven (old new : BestFit) (w v : Words) (chunk offset : ℕ) : Type 0 where
  pub heap : heap_of new v ≡ given chunk offset (heap_of old w)
  pub sound : IsSound new v
  pub sizes : sizes_of new ≡ sizes_of old
  pub others : ChangesHoles w v (heap_of new v)

-- a call's own names of what it read: the words, where the chunk starts, and the size of the hole behind
module _ (fit : BestFit) (w x : Words) (chunk offset start : ℕ) (b : BlockFound) (is : IsUsedAt fit w chunk offset b) (words : x ≡ w) (at : start ≡ place_at chunk 0) where
  pub next_stand : Stand fit x is.next (start + offset + b.size) is.rest
  next_stand = rw (words, at) is.next_stand

  pub next_end : start + get_or fit.sizes chunk 0 ≡ start + offset + b.size + bytes_in is.rest
  next_end = omega (arith, is.end)

  module _ (hole : ℕ) (read : hole ≡ first_hole is.rest) where
    hole_is : hole ≡ is.behind
    hole_is = read ∙ is.first

    pub back_stand : Stand fit x is.site (start + offset - b.before) (gap b.before ++ Used b.size ∷ gap hole)
    back_stand = rw (words, at, hole_is) is.stand

    pub back_few : hole_count (heap_with is.site (gap b.before ++ Used b.size ∷ gap hole)) < 2 ^ binary_digits (hole_count (heap_of fit w))
    back_few = rw hole_is (same_few (heap_of fit w) (heap_with is.site (gap b.before ++ Used b.size ∷ gap is.behind)) is.is)

    pub block_given : (new : BestFit) (v : Words) →
        Turn fit new x v is.site (start + offset - b.before) (gap b.before ++ Used b.size ∷ gap hole) (Hole (b.before + b.size + hole) ∷ []) → IsGiven fit new w v chunk offset
    block_given new v turn =
        let place : ℕ = place_at chunk 0 + offset - b.before in
        let xs : List Block = gap b.before ++ Used b.size ∷ gap is.behind in
        let n : ℕ = b.before + b.size + is.behind in
        let turn' : Turn fit new w v is.site place xs (Hole n ∷ []) = rw (← words, ← at, ← hole_is) turn in
        let made = turn_heap fit new w v is.site place xs (Hole n ∷ []) turn' in
        record {
          heap = made ∙ is.made;
          sound = turn_sound fit new w v is.site place xs (Hole n ∷ []) turn' is.blocks;
          sizes = turn'.sizes;
          others = subst (ChangesHoles w v) (sym made) (hole_changes fit new w v is.site place n xs (Hole n ∷ []) (omega (arith, turn'.bytes)) turn');
        }

-- ---- payloads

abbrev pair : ℕ → ℕ → ℕ × ℕ
pair x y = (x, y)

some_pair : (x y a n : ℕ) → Some (pair x y) ≡ Some (pair a n) → (x ≡ a) × (y ≡ n)
some_pair x y a n same = let parts : pair x y ≡ pair a n = cc in (ap (λ p. p.0) parts, ap (λ p. p.1) parts)

-- the used block whose payload has an offset, among the others
payload_parts : (from offset a n : ℕ) (blocks : List Block) → payload_at from offset blocks ≡ Some (pair a n) →
    (left : List Block) × (right : List Block) × (left ++ Used n ∷ right ≡ blocks) × (from + bytes_in left ≡ a)
payload_parts from offset a n [] is = absurd (cc)
payload_parts from offset a n (Used m ∷ rest) is =
    elim (nat_lt offset m) as (λ v. (if v then (if nat_lt offset 16 then None else Some (pair from m)) else payload_at (from + m) (offset - m) rest) ≡ Some (pair a n) →
    (left : List Block) × (right : List Block) × (left ++ Used n ∷ right ≡ Used m ∷ rest) × (from + bytes_in left ≡ a)) [
      | true ↦ elim (nat_lt offset 16) as (λ v. (if v then None else Some (pair from m)) ≡ Some (pair a n) →
          (left : List Block) × (right : List Block) × (left ++ Used n ∷ right ≡ Used m ∷ rest) × (from + bytes_in left ≡ a)) [
            | true ↦ λ none. absurd (cc)
            | false ↦ λ here. let same = some_pair from m a n here in ([], rest, ap (λ k. Used k ∷ rest) (sym same.1), omega (arith, same.0))
          ]
      | false ↦ λ on.
          let under = payload_parts (from + m) (offset - m) a n rest on in
          (Used m ∷ under.0, under.1, ap (λ xs. Used m ∷ xs) under.2, omega (arith, under.3))
    ] is
payload_parts from offset a n (Hole m ∷ rest) is =
    elim (nat_lt offset m) as (λ v. (if v then None else payload_at (from + m) (offset - m) rest) ≡ Some (pair a n) →
    (left : List Block) × (right : List Block) × (left ++ Used n ∷ right ≡ Hole m ∷ rest) × (from + bytes_in left ≡ a)) [
      | true ↦ λ none. absurd (cc)
      | false ↦ λ on.
          let under = payload_parts (from + m) (offset - m) a n rest on in
          (Hole m ∷ under.0, under.1, ap (λ xs. Hole m ∷ xs) under.2, omega (arith, under.3))
    ] is

filled_there : (h : Heap) (chunk offset : ℕ) (x : ℕ × ℕ) → payload_at 0 offset (chunk_of h chunk) ≡ Some x → chunk < length h
filled_there h chunk offset x is =
    elim (cases_lt chunk (length h)) [
      | inl lt ↦ lt
      | inr ge ↦ let none : None ≡ Some x = sym (ap (payload_at 0 offset) (get_or_past h chunk [] ge)) ∙ is in absurd (cc)
    ]

-- it has no word that the heap keeps for itself
pub payload_kept : (fit : BestFit) (w : Words) → IsSound fit w → (chunk offset a n : ℕ) → payload_at 0 offset (chunk_of (heap_of fit w) chunk) ≡ Some (pair a n) →
    (q : ℕ) → a + 16 ≤ q → q < a + n → kept_at (place_at chunk q) (heap_of fit w) ≡ 0
payload_kept fit w sound chunk offset a n is q from to =
    let h : Heap = heap_of fit w in
    let told = sound_told fit w sound in
    let parts = payload_parts 0 offset a n (chunk_of h chunk) is in
    let place : ℕ = place_at chunk q in
    let lt = filled_there h chunk offset (pair a n) is in
    let older : Heap = take chunk h in
    let number = length-take-le chunk h (omega arith) in
    let site : Context = record { older = older; left = parts.0; right = parts.1; newer = drop (suc chunk) h } in
    let whole_heap : heap_with site (Used n ∷ []) ≡ h = ap (λ z. older ++ z ∷ drop (suc chunk) h) parts.2 ∙ chunk_split h chunk lt in
    let one : bytes_in (Used n ∷ []) ≡ n = omega arith in
    let clear = site_clear w (sizes_of fit) site (Used n ∷ []) n one (subst (AreChunks w 0 (sizes_of fit)) (sym whole_heap) told.laid.chunks) place in
    let all = rw one at (weigh-site (heads place) (whole place) site (Used n ∷ [])) in
    let inside = within_in (start_of site) (start_of site + n) place (omega (arith, parts.3)) (omega (arith, parts.3)) in
    let past = within_above (start_of site) (start_of site + 16) place (omega (arith, parts.3)) in
    omega (arith, ap (kept_at place) whole_heap, all, around-parts (heads place) (whole place) site n, clear.used, clear.apart)
