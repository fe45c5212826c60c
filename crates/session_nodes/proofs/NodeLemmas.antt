-- The bytes that stand for a node tell it back.
use Rattle.std.proofs.lemmas.Bool.Decides.{nat_tests}
use Rattle.std.proofs.Common.{◌≡◌, ℕ, ◌+◌, ◌-◌, ◌<◌, ◌≤◌, ◌^◌, List, [], ◌++◌, length, take, drop, refl, sym, ap, ◌∙◌, append_assoc, length-append, arith}
use Rattle.std.proofs.Math.Seq.{take-append_seam, drop-append_seam}
use Rattle.std.proofs.lemmas.List.{length-drop, length-take-le, take-append-drop, take-append-le, drop-append-le}
use Rattle.std.specs.Prelude.{min, slice_range}
use Rattle.trade_base.specs.Bytes.{with_bytes}
use Rattle.trade_base.specs.Word.{word_of, word_bytes}
use Rattle.trade_base.proofs.WordLemmas.{length-word_bytes, word_of-word_bytes}
use Rattle.own_model.specs.OwnState.{with_part, zeros}
use Rattle.own_model.proofs.ByteLemmas.{with_part-within, length-zeros}
use Rattle.session_nodes.specs.Node.{StoredNode, IsNode, node_of, bytes_of, word_from, longest_name}

-- a part between others
slice_mid : (xs ys zs : List ℕ) (n m : ℕ) → length xs ≡ n → m ≡ n + length ys → slice_range (xs ++ (ys ++ zs)) n m ≡ ys
slice_mid xs ys zs n m long to =
    let size : m - n ≡ length ys = omega (arith, to) in
    (λ i. take (size i) (drop (sym long i) (xs ++ (ys ++ zs)))) ∙ ap (take (length ys)) (drop-append_seam xs (ys ++ zs)) ∙ take-append_seam ys zs

-- a word between others
pub word_mid : (xs zs : List ℕ) (word n : ℕ) → length xs ≡ n → word < 2 ^ 64 → word_from (xs ++ (word_bytes word ++ zs)) n ≡ word
word_mid xs zs word n long small = simp (slice_mid, length-word_bytes, word_of-word_bytes)

-- lists one after another
pub joined : (a b c d e z : List ℕ) → a ++ b ++ c ++ d ++ e ++ z ≡ a ++ (b ++ (c ++ (d ++ (e ++ z))))
joined a b c d e z = simp append_assoc refl

-- seven of them
parted : (a b c d e z f : List ℕ) → (a ++ (b ++ (c ++ (d ++ (e ++ z))))) ++ f ≡ a ++ (b ++ (c ++ (d ++ (e ++ (z ++ f)))))
parted a b c d e z f = simp append_assoc refl

first_two : (a b r : List ℕ) → a ++ (b ++ r) ≡ (a ++ b) ++ r
first_two a b r = sym (append_assoc a b r)

module _ (v : StoredNode) (is : IsNode v) (rest : List ℕ) where
  abbrev a : List ℕ
  a = word_bytes v.next

  abbrev b : List ℕ
  b = word_bytes v.content

  abbrev c : List ℕ
  c = word_bytes v.size

  abbrev d : List ℕ
  d = word_bytes (length v.name)

  abbrev tail : List ℕ
  tail = v.name ++ (zeros (longest_name - length v.name) ++ rest)

  is_parted : bytes_of v ++ rest ≡ a ++ (b ++ (c ++ (d ++ tail)))
  unfolding bytes_of
  is_parted = parted a b c d v.name (zeros (longest_name - length v.name)) rest

  two : length (a ++ b) ≡ 16
  two = length-append a b ∙ (λ i. length-word_bytes v.next i + length-word_bytes v.content i)

  three : length ((a ++ b) ++ c) ≡ 24
  three = length-append (a ++ b) c ∙ (λ i. two i + length-word_bytes v.size i)

  four : length (((a ++ b) ++ c) ++ d) ≡ 32
  four = length-append ((a ++ b) ++ c) d ∙ (λ i. three i + length-word_bytes (length v.name) i)

  in_two : bytes_of v ++ rest ≡ (a ++ b) ++ (c ++ (d ++ tail))
  in_two = is_parted ∙ first_two a b (c ++ (d ++ tail))

  in_three : bytes_of v ++ rest ≡ ((a ++ b) ++ c) ++ (d ++ tail)
  in_three = in_two ∙ first_two (a ++ b) c (d ++ tail)

  in_four : bytes_of v ++ rest ≡ (((a ++ b) ++ c) ++ d) ++ tail
  in_four = in_three ∙ first_two ((a ++ b) ++ c) d tail

  short : length v.name < 2 ^ 64
  short = let few = is.name in omega (arith, few)

  name_length : word_from (bytes_of v ++ rest) 24 ≡ length v.name
  name_length = ap (λ l. word_from l 24) in_three ∙ word_mid ((a ++ b) ++ c) tail (length v.name) 24 three short

  name_is : slice_range (bytes_of v ++ rest) 32 (32 + min (word_from (bytes_of v ++ rest) 24) longest_name) ≡ v.name
  name_is =
      let few = is.name in
      let to : 32 + min (word_from (bytes_of v ++ rest) 24) longest_name ≡ 32 + length v.name = omega (arith, few, name_length) in
      ap (λ l. slice_range l 32 (32 + min (word_from (bytes_of v ++ rest) 24) longest_name)) in_four
      ∙ slice_mid (((a ++ b) ++ c) ++ d) v.name (zeros (longest_name - length v.name) ++ rest) 32 (32 + min (word_from (bytes_of v ++ rest) 24) longest_name) four to

  -- the bytes of a node tell it, whatever stands behind them
  pub node_back : node_of (bytes_of v ++ rest) ≡ v
  unfolding node_of
  node_back = λ i. record {
    next = (ap (λ l. word_from l 0) is_parted ∙ word_mid [] (b ++ (c ++ (d ++ tail))) v.next 0 refl is.next) i;
    content = (ap (λ l. word_from l 8) is_parted ∙ word_mid a (c ++ (d ++ tail)) v.content 8 (length-word_bytes v.next) is.content) i;
    size = (ap (λ l. word_from l 16) in_two ∙ word_mid (a ++ b) (d ++ tail) v.size 16 two is.size) i;
    name = name_is i;
  }

-- so many bytes stand for it
pub length-bytes_of : (v : StoredNode) → length v.name ≤ longest_name → length (bytes_of v) ≡ 64
unfolding bytes_of
length-bytes_of v few = let z = length-zeros (longest_name - length v.name) in grind (arith, nat_tests, length-word_bytes, length-append)

-- put over the front of a payload, with more behind them, they tell the node and are its front
module _ (v : StoredNode) (is : IsNode v) (payload more : List ℕ) (long : 64 + length more ≤ length payload) where
  pub stored_front : with_part payload 0 (bytes_of v ++ more) ≡ bytes_of v ++ (more ++ drop (64 + length more) payload)
  unfolding with_bytes
  stored_front =
      let sum : length (bytes_of v ++ more) ≡ 64 + length more = length-append (bytes_of v) more ∙ ap (λ n. n + length more) (length-bytes_of v is.name) in
      let size : 0 + length (bytes_of v ++ more) ≡ 64 + length more = omega (arith, sum) in
      with_part-within payload 0 (bytes_of v ++ more) (omega (arith, sum, long))
      ∙ ap (λ n. (bytes_of v ++ more) ++ drop n payload) size
      ∙ append_assoc (bytes_of v) more (drop (64 + length more) payload)

  pub node_stored_back : node_of (with_part payload 0 (bytes_of v ++ more)) ≡ v
  node_stored_back = ap node_of stored_front ∙ node_back v is (more ++ drop (64 + length more) payload)

  pub front_stored : take 64 (with_part payload 0 (bytes_of v ++ more)) ≡ bytes_of v
  front_stored =
      ap (take 64) stored_front
      ∙ ap (λ n. take n (bytes_of v ++ (more ++ drop (64 + length more) payload))) (sym (length-bytes_of v is.name))
      ∙ take-append_seam (bytes_of v) (more ++ drop (64 + length more) payload)

-- a range of the first of two lists
slice_left : (xs ys : List ℕ) (from count : ℕ) → from + count ≤ length xs → slice_range (xs ++ ys) from (from + count) ≡ slice_range xs from (from + count)
slice_left xs ys from count within = grind (arith, nat_tests, length-drop, drop-append-le, take-append-le)

-- what stands behind the bytes of a node tells nothing of it
pub slice_front : (bytes : List ℕ) (from count : ℕ) → 64 ≤ length bytes → from + count ≤ 64 → slice_range (slice_range bytes 0 64) from (from + count) ≡ slice_range bytes from (from + count)
slice_front bytes from count long within =
    let front : slice_range bytes 0 64 ≡ take 64 bytes = refl in
    let size = length-take-le 64 bytes long in
    (λ i. slice_range (front i) from (from + count))
    ∙ sym (slice_left (take 64 bytes) (drop 64 bytes) from count (omega (arith, size, within)))
    ∙ ap (λ (l : List ℕ). slice_range l from (from + count)) (take-append-drop 64 bytes)

pub node_front : (bytes : List ℕ) → 64 ≤ length bytes → node_of (slice_range bytes 0 64) ≡ node_of bytes
unfolding node_of
node_front bytes long =
    let size : word_from (slice_range bytes 0 64) 24 ≡ word_from bytes 24 = ap word_of (slice_front bytes 24 8 long (omega arith)) in
    λ i. record {
      next = word_of (slice_front bytes 0 8 long (omega arith) i);
      content = word_of (slice_front bytes 8 8 long (omega arith) i);
      size = word_of (slice_front bytes 16 8 long (omega arith) i);
      name = (ap (λ n. slice_range (slice_range bytes 0 64) 32 (32 + min n longest_name)) size ∙ slice_front bytes 32 (min (word_from bytes 24) longest_name) long (omega arith)) i;
    }
