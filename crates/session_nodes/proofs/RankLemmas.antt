-- Ranks of names: they tell names apart, and words tell how two of them compare.
use Rattle.std.proofs.Common.{◌≡◌, ℕ, zero, suc, ◌+◌, ◌-◌, ◌*◌, ◌/◌, ◌%◌, ◌^◌, ◌<◌, ◌≤◌, ◌≢◌, true, List, ◌++◌, length, take, drop, refl, sym, ap, ◌∙◌, length-append, inl, inr, arith}
use Rattle.std.proofs.Math.Seq.{take-append_seam, drop-append_seam}
use Rattle.std.proofs.lemmas.Bool.Decides.{nat_tests}
use Rattle.std.proofs.lemmas.List.{take_all, take-replicate}
use Rattle.std.proofs.lemmas.List.Folds.{list_all-append}
use Rattle.std.proofs.lemmas.Bool.{cases_lt}
use Rattle.std.specs.Prelude.{slice_range, nat_lt, replicate}
use Rattle.std.specs.Ordering.{nat_cmp}
use Rattle.std.specs.declared.cmp.Ordering.TheVariants.{Less, Equal, Greater}
use Rattle.trade_base.specs.Word.{word_of, word_bytes}
use Rattle.trade_base.proofs.WordLemmas.{length-word_bytes, word_of-word_bytes, word_of-lt, word_bytes-lt}
use Rattle.own_model.specs.OwnState.{zeros}
use Rattle.own_model.proofs.ByteLemmas.{length-zeros}
use Rattle.heap_core.specs.Words.{are_bytes}
use Rattle.heap_core.specs.Words.{word_from as heap_word}
use Rattle.heap_core.proofs.AddLemmas.{zeros_bytes}
use Rattle.heap_core.proofs.HoleLemmas.{slices_same}
use Rattle.heap_core.proofs.WordsLemmas.{below_bytes, bytes_below, bytes_dropped, bytes_taken, word_there}
use Rattle.session_nodes.specs.Node.{name_bytes, rank_by, rank_of, word_from, longest_name}

-- ---- ranks by their words

-- the first word that differs decides
pub rank_less : (u w : ℕ → ℕ) (i : ℕ) → i < 5 → ((j : ℕ) → j < 5 → u j < 2 ^ 64) → ((j : ℕ) → j < 5 → w j < 2 ^ 64) → ((j : ℕ) → j < i → u j ≡ w j) → u i < w i → rank_by u < rank_by w
rank_less u w zero few small low same less = omega (arith, less, low 1 (omega arith), small 1 (omega arith), low 2 (omega arith), small 2 (omega arith), low 3 (omega arith), small 3 (omega arith), low 4 (omega arith), small 4 (omega arith))
rank_less u w (suc zero) few small low same less = omega (arith, same 0 (omega arith), less, low 2 (omega arith), small 2 (omega arith), low 3 (omega arith), small 3 (omega arith), low 4 (omega arith), small 4 (omega arith))
rank_less u w (suc (suc zero)) few small low same less = omega (arith, same 0 (omega arith), same 1 (omega arith), less, low 3 (omega arith), small 3 (omega arith), low 4 (omega arith), small 4 (omega arith))
rank_less u w (suc (suc (suc zero))) few small low same less = omega (arith, same 0 (omega arith), same 1 (omega arith), same 2 (omega arith), less, low 4 (omega arith), small 4 (omega arith))
rank_less u w (suc (suc (suc (suc zero)))) few small low same less = omega (arith, same 0 (omega arith), same 1 (omega arith), same 2 (omega arith), same 3 (omega arith), less)
rank_less u w (suc (suc (suc (suc (suc i))))) few small low same less = absurd (omega (arith, few))

-- equal words have one rank
pub rank_same : (u w : ℕ → ℕ) → ((j : ℕ) → j < 5 → u j ≡ w j) → rank_by u ≡ rank_by w
rank_same u w same = omega (arith, same 0 (omega arith), same 1 (omega arith), same 2 (omega arith), same 3 (omega arith), same 4 (omega arith))

-- so two ranks compare as the first words that differ
pub order_by : (u w : ℕ → ℕ) (i : ℕ) → i < 5 → ((j : ℕ) → j < 5 → u j < 2 ^ 64) → ((j : ℕ) → j < 5 → w j < 2 ^ 64) → ((j : ℕ) → j < i → u j ≡ w j) → u i ≢ w i →
    nat_cmp (u i) (w i) ≡ nat_cmp (rank_by u) (rank_by w)
order_by u w i few small low same differ = elim (cases_lt (u i) (w i)) [
  | inl less ↦ cmp_less (u i) (w i) less ∙ sym (cmp_less (rank_by u) (rank_by w) (rank_less u w i few small low same less))
  | inr most ↦
      let more : w i < u i = omega (arith, most, differ) in
      cmp_more (u i) (w i) more ∙ sym (cmp_more (rank_by u) (rank_by w) (rank_less w u i few low small (λ j t. sym (same j t)) more))
]
  where
    cmp_less : (x y : ℕ) → x < y → nat_cmp x y ≡ Less
    cmp_less x y lt = grind (arith, nat_tests)

    cmp_more : (x y : ℕ) → y < x → nat_cmp x y ≡ Greater
    cmp_more x y lt = grind (arith, nat_tests)

pub order_same : (u w : ℕ → ℕ) → ((j : ℕ) → j < 5 → u j ≡ w j) → Equal ≡ nat_cmp (rank_by u) (rank_by w)
order_same u w same = let e : rank_by u ≡ rank_by w = rank_same u w same in grind (arith, nat_tests)

-- what a comparison tells
pub cmp_is_less : (x y : ℕ) → Less ≡ nat_cmp x y → x < y
cmp_is_less x y is = grind (arith, nat_tests)

pub cmp_is_more : (x y : ℕ) → Greater ≡ nat_cmp x y → y < x
cmp_is_more x y is = grind (arith, nat_tests)

pub cmp_is_equal : (x y : ℕ) → Equal ≡ nat_cmp x y → x ≡ y
cmp_is_equal x y is = grind (arith, nat_tests)

pub rank_five : (u w : ℕ → ℕ) → u 0 ≡ w 0 → u 1 ≡ w 1 → u 2 ≡ w 2 → u 3 ≡ w 3 → u 4 ≡ w 4 → rank_by u ≡ rank_by w
rank_five u w a b c d e = omega (arith, a, b, c, d, e)

-- a part of zeros is zeros
pub zeros_part : (n : ℕ) → n ≤ 32 → take n (replicate 32 zero) ≡ zeros n
unfolding zeros
zeros_part n few = take-replicate n 32 zero few

-- one rank has equal words
record AreSame (u w : ℕ → ℕ) : Type 0 where
  one : u 0 ≡ w 0
  two : u 1 ≡ w 1
  three : u 2 ≡ w 2
  four : u 3 ≡ w 3
  five : u 4 ≡ w 4

words_same : (u w : ℕ → ℕ) → ((j : ℕ) → u j < 2 ^ 64) → ((j : ℕ) → w j < 2 ^ 64) → rank_by u ≡ rank_by w → AreSame u w
words_same u w small low same =
    let five : u 4 ≡ w 4 = omega (arith, same, small 4, low 4) in
    let four : u 3 ≡ w 3 = omega (arith, same, five, small 3, low 3) in
    let three : u 2 ≡ w 2 = omega (arith, same, five, four, small 2, low 2) in
    let two : u 1 ≡ w 1 = omega (arith, same, five, four, three, small 1, low 1) in
    record { one = omega (arith, same, five, four, three, two); two = two; three = three; four = four; five = five }

-- ---- ranks of names

-- bytes put together are bytes
bytes_both : (xs ys : List ℕ) → are_bytes xs ≡ true → are_bytes ys ≡ true → are_bytes (xs ++ ys) ≡ true
bytes_both xs ys one two = list_all-append (λ b. nat_lt b 256) xs ys ∙ rw (one, two) refl

pub name_bytes-are : (name : List ℕ) → are_bytes name ≡ true → are_bytes (name_bytes name) ≡ true
name_bytes-are name are =
    bytes_both (word_bytes (length name)) (name ++ zeros (longest_name - length name)) (below_bytes (word_bytes (length name)) (word_bytes-lt (length name)))
    (bytes_both name (zeros (longest_name - length name)) are (zeros_bytes (longest_name - length name)))

pub length-name_bytes : (name : List ℕ) → length name ≤ 32 → length (name_bytes name) ≡ 40
length-name_bytes name few =
    let word = length-word_bytes (length name) in
    let rest = length-zeros (longest_name - length name) in
    let all = length-append (word_bytes (length name)) (name ++ zeros (longest_name - length name)) in
    let tail = length-append name (zeros (longest_name - length name)) in
    omega (arith, word, rest, all, tail, few)

-- each of its words is one
pub word_low : (bytes : List ℕ) → are_bytes bytes ≡ true → (offset : ℕ) → word_from bytes offset < 2 ^ 64
word_low bytes are offset = word_of-lt (slice_range bytes offset (offset + 8)) (λ i. bytes_below (slice_range bytes offset (offset + 8)) i (bytes_taken (drop offset bytes) (offset + 8 - offset) (bytes_dropped bytes offset are)))

-- the first is its length
first_word : (name : List ℕ) → length name ≤ 32 → word_from (name_bytes name) 0 ≡ length name
first_word name few =
    ap word_of (ap (λ n. take n (name_bytes name)) (sym (length-word_bytes (length name))) ∙ take-append_seam (word_bytes (length name)) (name ++ zeros (longest_name - length name)))
    ∙ word_of-word_bytes (length name) (omega (arith, few))

-- behind it the name stands
name_behind : (name : List ℕ) → take (length name) (drop 8 (name_bytes name)) ≡ name
name_behind name =
    ap (λ n. take (length name) (drop n (name_bytes name))) (sym (length-word_bytes (length name)))
    ∙ ap (take (length name)) (drop-append_seam (word_bytes (length name)) (name ++ zeros (longest_name - length name)))
    ∙ take-append_seam name (zeros (longest_name - length name))

-- a rank is that of one name
pub rank_name : (a b : List ℕ) → length a ≤ 32 → length b ≤ 32 → are_bytes a ≡ true → are_bytes b ≡ true → rank_of a ≡ rank_of b → a ≡ b
unfolding rank_of
rank_name a b few too one two same =
    let x = name_bytes a in
    let y = name_bytes b in
    let are = name_bytes-are a one in
    let also = name_bytes-are b two in
    let s = words_same (λ i. word_from x (8 * i)) (λ i. word_from y (8 * i)) (λ j. word_low x are (8 * j)) (λ j. word_low y also (8 * j)) same in
    let long = length-name_bytes a few in
    let wide = length-name_bytes b too in
    let each : (o : ℕ) → o % 8 ≡ 0 → 0 ≤ o → o + 8 ≤ 40 → heap_word x o ≡ heap_word y o = λ o even _ to.
    word_there x o even (omega (arith, to, long)) ∙ at_word x y s o (omega (arith, to)) even ∙ sym (word_there y o even (omega (arith, to, wide))) in
    let whole : slice_range x 0 40 ≡ slice_range y 0 40 = slices_same x y 0 40 (long ∙ sym wide) are also refl refl (omega (arith, long)) each in
    let all : x ≡ y = sym (take_all 40 x (omega (arith, long))) ∙ whole ∙ take_all 40 y (omega (arith, wide)) in
    let size : length a ≡ length b = sym (first_word a few) ∙ ap (λ l. word_from l 0) all ∙ first_word b too in
    sym (name_behind a) ∙ (λ i. take (size i) (drop 8 (all i))) ∙ name_behind b
  where
    at_word : (x y : List ℕ) → AreSame (λ i. word_from x (8 * i)) (λ i. word_from y (8 * i)) → (o : ℕ) → o < 40 → o % 8 ≡ 0 → word_from x o ≡ word_from y o
    at_word x y s o low even =
        let by : (j : ℕ) → o ≡ 8 * j → word_from x (8 * j) ≡ word_from y (8 * j) → word_from x o ≡ word_from y o = λ j is e. ap (word_from x) is ∙ e ∙ ap (word_from y) (sym is) in
        pick (o / 8) (omega (arith, low)) (λ j e. omega (arith, even, e)) by s
      where
        pick : (k : ℕ) → k < 5 → ((j : ℕ) → k ≡ j → o ≡ 8 * j) → ((j : ℕ) → o ≡ 8 * j → word_from x (8 * j) ≡ word_from y (8 * j) → word_from x o ≡ word_from y o) →
            AreSame (λ i. word_from x (8 * i)) (λ i. word_from y (8 * i)) → word_from x o ≡ word_from y o
        pick zero low is by s = by 0 (is 0 refl) s.one
        pick (suc zero) low is by s = by 1 (is 1 refl) s.two
        pick (suc (suc zero)) low is by s = by 2 (is 2 refl) s.three
        pick (suc (suc (suc zero))) low is by s = by 3 (is 3 refl) s.four
        pick (suc (suc (suc (suc zero)))) low is by s = by 4 (is 4 refl) s.five
        pick (suc (suc (suc (suc (suc k))))) low is by s = absurd (omega (arith, low))
