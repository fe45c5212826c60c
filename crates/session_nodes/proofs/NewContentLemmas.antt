-- A node has got another content: of its block the second and the third word have changed.
use Rattle.std.proofs.Common.{◌≡◌, ℕ, ◌+◌, ◌^◌, ◌<◌, ◌≤◌, List, [], ◌++◌, length, take, drop, append_assoc, length-append, Some, is_some, refl, sym, ap, ◌∙◌, arith}
use Rattle.std.proofs.Math.Seq.{drop-append_seam, take-append-add}
use Rattle.std.proofs.lemmas.List.{append-nil, drop-take, take-take, length-take-le}
use Rattle.std.specs.Prelude.{min, slice_range}
use Rattle.std.specs.FinMap.{get, insert}
use Rattle.std.specs.Option.{unwrap_or}
use Rattle.trade_base.specs.Bytes.{with_bytes}
use Rattle.trade_base.specs.Word.{word_of, word_bytes}
use Rattle.trade_base.proofs.ElsewhereLemmas.{range_after, range_before}
use Rattle.trade_base.proofs.WordLemmas.{length-word_bytes}
use Rattle.own_model.specs.OwnHeap.{OwnHeap}
use Rattle.own_model.specs.OwnState.{with_part}
use Rattle.own_model.proofs.ByteLemmas.{length-with_part, with_part-within}
use Rattle.own_model.proofs.NatMapLemmas.{get-insert_same}
use Rattle.heap_core.specs.Words.{are_bytes}
use Rattle.session_nodes.specs.Calls.{HasBytes, payload_in}
use Rattle.session_nodes.specs.Order.{node_at}
use Rattle.session_nodes.specs.Index.{KeepsPlace}
use Rattle.session_nodes.specs.Node.{StoredNode, node_of, bytes_of, name_bytes, word_from, longest_name}
use Rattle.session_nodes.proofs.NodeLemmas.{word_mid}

-- two words
abbrev pub two_words : ℕ → ℕ → List ℕ
two_words content size = word_bytes content ++ word_bytes size

long : (content size : ℕ) → length (two_words content size) ≡ 16
long content size = length-append (word_bytes content) (word_bytes size) ∙ (λ i. length-word_bytes content i + length-word_bytes size i)

-- a block with other words there
parted : (p w : List ℕ) → length w ≡ 16 → with_bytes p 8 w ≡ take 8 p ++ (w ++ drop 24 p)
unfolding with_bytes
parted p w size =
    let from : 8 + length w ≡ 24 = omega (arith, size) in
    append_assoc (take 8 p) w (drop (8 + length w) p) ∙ ap (λ n. take 8 p ++ (w ++ drop n p)) from

-- its front
front_with : (p w : List ℕ) → length w ≡ 16 → 64 ≤ length p → take 64 (with_bytes p 8 w) ≡ take 8 (take 64 p) ++ (w ++ drop 24 (take 64 p))
front_with p w size fits =
    let eight : length (take 8 p) ≡ 8 = length-take-le 8 p (omega (arith, fits)) in
    let first : 64 ≡ length (take 8 p) + 56 = omega (arith, eight) in
    let second : 56 ≡ length w + 40 = omega (arith, size) in
    ap (take 64) (parted p w size)
    ∙ ap (λ n. take n (take 8 p ++ (w ++ drop 24 p))) first ∙ take-append-add (take 8 p) (w ++ drop 24 p) 56
    ∙ ap (λ n. take 8 p ++ take n (w ++ drop 24 p)) second ∙ ap (λ l. take 8 p ++ l) (take-append-add w (drop 24 p) 40)
    ∙ (λ i. sym (take-take 8 64 p (omega arith)) i ++ (w ++ sym (drop-take 24 40 p) i))

-- around these words a node's bytes don't tell its content
around_content : (v : StoredNode) (content size : ℕ) →
    take 8 (bytes_of v) ++ (two_words content size ++ drop 24 (bytes_of v)) ≡ bytes_of (record v { content = content; size = size })
unfolding bytes_of
around_content v content size =
    let a = word_bytes v.next in
    let b = word_bytes v.content in
    let c = word_bytes v.size in
    let n = name_bytes v.name in
    let eight : 8 ≡ length a + 0 = omega (arith, length-word_bytes v.next) in
    let next : take 8 (a ++ (b ++ (c ++ n))) ≡ a = ap (λ k. take k (a ++ (b ++ (c ++ n)))) eight ∙ take-append-add a (b ++ (c ++ n)) 0 ∙ append-nil a in
    let whole : a ++ (b ++ (c ++ n)) ≡ (a ++ (b ++ c)) ++ n = sym (append_assoc a (b ++ c) n ∙ ap (λ l. a ++ l) (append_assoc b c n)) in
    let front : length (a ++ (b ++ c)) ≡ 24 = length-append a (b ++ c) ∙ omega (arith, length-append b c, length-word_bytes v.next, length-word_bytes v.content, length-word_bytes v.size) in
    let name : drop 24 (a ++ (b ++ (c ++ n))) ≡ n = ap (drop 24) whole ∙ ap (λ k. drop k ((a ++ (b ++ c)) ++ n)) (sym front) ∙ drop-append_seam (a ++ (b ++ c)) n in
    (λ i. next i ++ (two_words content size ++ name i)) ∙ ap (λ l. a ++ l) (append_assoc (word_bytes content) (word_bytes size) n)

module _ (nodes later : OwnHeap) (block content size : ℕ) (content_low : content < 2 ^ 64) (size_low : size < 2 ^ 64) (has : HasBytes nodes.payloads block 0 96)
    (stored : later.payloads ≡ insert nodes.payloads block (with_part (payload_in nodes.payloads block) 8 (two_words content size))) where
  abbrev p : List ℕ
  p = payload_in nodes.payloads block

  abbrev w : List ℕ
  w = two_words content size

  now : get later.payloads block ≡ Some (with_part p 8 w)
  now = ap (λ m. get m block) stored ∙ get-insert_same nodes.payloads block (with_part p 8 w) block refl

  payload : payload_in later.payloads block ≡ with_bytes p 8 w
  payload = ap (λ o. unwrap_or o []) now ∙ with_part-within p 8 w (omega (arith, long content size, has.within))

  behind : (from to : ℕ) → 24 ≤ from → slice_range (payload_in later.payloads block) from to ≡ slice_range p from to
  behind from to far =
      ap (λ l. slice_range l from to) payload ∙ range_after p 8 w from to (omega (arith, long content size, far)) (omega (arith, long content size, has.within))

  word_behind : (o : ℕ) → 24 ≤ o → word_from (payload_in later.payloads block) o ≡ word_from p o
  word_behind o far = ap word_of (behind o (o + 8) far)

  first : word_from (payload_in later.payloads block) 0 ≡ word_from p 0
  first = ap word_of (ap (λ l. slice_range l 0 8) payload ∙ range_before p 8 w 0 8 (omega arith) (omega (arith, long content size, has.within)))

  eight : length (take 8 p) ≡ 8
  eight = length-take-le 8 p (omega (arith, has.within))

  whole : payload_in later.payloads block ≡ take 8 p ++ (word_bytes content ++ (word_bytes size ++ drop 24 p))
  whole = payload ∙ parted p w (long content size) ∙ ap (λ l. take 8 p ++ l) (append_assoc (word_bytes content) (word_bytes size) (drop 24 p))

  second : word_from (payload_in later.payloads block) 8 ≡ content
  second = ap (λ l. word_from l 8) whole ∙ word_mid (take 8 p) (word_bytes size ++ drop 24 p) content 8 eight content_low

  third : word_from (payload_in later.payloads block) 16 ≡ size
  third =
      let two : length (take 8 p ++ word_bytes content) ≡ 16 = length-append (take 8 p) (word_bytes content) ∙ omega (arith, eight, length-word_bytes content) in
      ap (λ l. word_from l 16) (whole ∙ sym (append_assoc (take 8 p) (word_bytes content) (word_bytes size ++ drop 24 p))) ∙ word_mid (take 8 p ++ word_bytes content) (drop 24 p) size 16 two size_low

  -- the node has the content
  pub node_given : node_at later block ≡ record (node_at nodes block) { content = content; size = size }
  unfolding node_of
  node_given = λ i. record {
    next = first i;
    content = second i;
    size = third i;
    name = (ap (λ n. slice_range (payload_in later.payloads block) 32 (32 + min n longest_name)) (word_behind 24 (omega arith)) ∙ behind 32 (32 + min (word_from p 24) longest_name) (omega arith)) i;
  }

  pub there_given : HasBytes later.payloads block 0 96
  there_given =
      let size_is = ap (λ o. length (unwrap_or o [])) now in
      record { there = ap is_some now; within = omega (arith, size_is, length-with_part p 8 w, has.within) }

  -- and keeps all else
  pub place_given : KeepsPlace nodes later block
  place_given = record {
    name = ap (λ (n : StoredNode). n.name) node_given;
    links = λ i. record { left = word_behind 64 (omega arith) i; right = word_behind 72 (omega arith) i; high = word_behind 80 (omega arith) i };
    previous = word_behind 88 (omega arith);
    padded = λ was. record {
      there = there_given;
      front = ap (take 64) payload ∙ front_with p w (long content size) (omega (arith, has.within)) ∙ ap (λ l. take 8 l ++ (w ++ drop 24 l)) was.front
          ∙ around_content (node_at nodes block) content size ∙ ap bytes_of (sym node_given);
      name = ap are_bytes (ap (λ (n : StoredNode). n.name) node_given) ∙ was.name;
    };
  }
