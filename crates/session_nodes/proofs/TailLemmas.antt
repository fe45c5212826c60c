-- A payload of which only the tail has changed: its node is as it was.
use Rattle.std.proofs.Common.{◌≡◌, ◌≢◌, ℕ, ◌+◌, ◌^◌, ◌<◌, ◌≤◌, List, [], ◌++◌, length, take, drop, Some, is_some, refl, sym, ap, subst, ◌∙◌, append_assoc, length-append, inl, inr, arith}
use Rattle.std.proofs.lemmas.Bool.{cases_eq}
use Rattle.std.proofs.lemmas.Bool.Decides.{nat_tests}
use Rattle.std.proofs.lemmas.List.{length-take-le}
use Rattle.trade_base.specs.Bytes.{with_bytes}
use Rattle.trade_base.specs.Word.{word_of, word_bytes}
use Rattle.trade_base.proofs.ElsewhereLemmas.{drop_after, range_before, range_after}
use Rattle.own_model.specs.OwnState.{with_part}
use Rattle.own_model.proofs.ByteLemmas.{length-with_part, with_part-within}
use Rattle.own_model.proofs.NatMapLemmas.{get-insert, get-insert_same}
use Rattle.std.specs.FinMap.{get, insert}
use Rattle.std.specs.Option.{unwrap_or}
use Rattle.own_model.specs.OwnHeap.{OwnHeap}
use Rattle.heap_core.specs.Words.{are_bytes}
use Rattle.session_nodes.specs.Calls.{HasBytes, payload_in, node_stored}
use Rattle.session_nodes.specs.Order.{node_at}
use Rattle.session_nodes.specs.SoundHeaps.{Stock}
use Rattle.session_nodes.specs.Index.{ChangesTails, KeepsFront, IsPadded, KeepsFronts}
use Rattle.session_nodes.specs.Node.{StoredNode, node_of, bytes_of, word_from}
use Rattle.session_nodes.proofs.NodeLemmas.{node_front, word_mid}

-- what is the same at its front stands for the same node
pub front_node : (bytes later : List ℕ) → 96 ≤ length bytes → 96 ≤ length later → take 64 later ≡ take 64 bytes → node_of later ≡ node_of bytes
front_node bytes later long too same = sym (node_front later (omega (arith, too))) ∙ ap node_of same ∙ node_front bytes (omega (arith, long))

module _ (nodes later : OwnHeap) (block : ℕ) (keeps : KeepsFront nodes later block) (has : HasBytes nodes.payloads block 0 96) where
  pub tail_there : HasBytes later.payloads block 0 96
  tail_there = record { there = keeps.there ∙ has.there; within = omega (arith, keeps.long, has.within) }

  pub tail_node : node_at later block ≡ node_at nodes block
  tail_node = front_node _ _ (omega (arith, has.within)) (omega (arith, keeps.long, has.within)) keeps.front

-- its bytes are still padded
pub tail_padded : (nodes later : OwnHeap) (block : ℕ) → KeepsFront nodes later block → IsPadded nodes block → IsPadded later block
tail_padded nodes later block keeps is =
    let same = tail_node nodes later block keeps is.there in
    record {
      there = tail_there nodes later block keeps is.there;
      front = keeps.front ∙ is.front ∙ ap bytes_of (sym same);
      name = ap (λ (n : StoredNode). are_bytes n.name) same ∙ is.name;
    }

-- ---- bytes put over the tail of a payload

-- the payloads of all blocks but one stay
abbrev pub OtherPayloadsStay : ℕ → Stock → Stock → Type 0
OtherPayloadsStay block old new = (b : ℕ) → b ≢ block → get new.nodes.payloads b ≡ get old.nodes.payloads b

module _ (old new : Stock) (block offset : ℕ) (bytes : List ℕ) (far : 64 ≤ offset) (fits : offset + length bytes ≤ 96) (has : HasBytes old.nodes.payloads block 0 96)
    (stored : new ≡ node_stored block offset bytes old) where
  abbrev p : List ℕ
  p = payload_in old.nodes.payloads block

  payloads : new.nodes.payloads ≡ insert old.nodes.payloads block (with_part p offset bytes)
  payloads = ap (λ (s : Stock). s.nodes.payloads) stored

  here : get new.nodes.payloads block ≡ Some (with_part p offset bytes)
  here = ap (λ m. get m block) payloads ∙ get-insert_same old.nodes.payloads block (with_part p offset bytes) block refl

  pub tail_payload : payload_in new.nodes.payloads block ≡ with_bytes p offset bytes
  tail_payload = ap (λ o. unwrap_or o []) here ∙ with_part-within p offset bytes (omega (arith, fits, has.within))

  pub tail_others : OtherPayloadsStay block old new
  tail_others b other = ap (λ m. get m b) payloads ∙ get-insert old.nodes.payloads block (with_part p offset bytes) b ∙ grind (arith, nat_tests)

  fronts : KeepsFronts old.nodes new.nodes
  fronts b = elim (cases_eq b block) [
    | inl at ↦ subst (KeepsFront old.nodes new.nodes) (sym at) (record {
      there = ap is_some here ∙ sym has.there;
      long = ap length (ap (λ o. unwrap_or o []) here) ∙ length-with_part p offset bytes;
      front = ap (take 64) tail_payload ∙ range_before p offset bytes 0 64 far (omega (arith, fits, has.within));
      user = ap (drop 96) tail_payload ∙ drop_after p offset bytes 96 fits (omega (arith, fits, has.within));
    })
    | inr other ↦
        let e = tail_others b other in
        record { there = ap is_some e; long = ap (λ o. length (unwrap_or o [])) e; front = ap (λ o. take 64 (unwrap_or o [])) e; user = ap (λ o. drop 96 (unwrap_or o [])) e }
  ]

  pub tails_stored : ChangesTails old new
  tails_stored = record {
    rest = stored ∙ (λ i. record old { nodes = record old.nodes { payloads = sym payloads i } });
    fronts = fronts;
  }

  -- words before and behind it stay
  pub word_before : (b o : ℕ) → o + 8 ≤ offset → word_from (payload_in new.nodes.payloads b) o ≡ word_from (payload_in old.nodes.payloads b) o
  word_before b o low = elim (cases_eq b block) [
    | inl at ↦ subst (λ x. word_from (payload_in new.nodes.payloads x) o ≡ word_from (payload_in old.nodes.payloads x) o) (sym at)
        (ap (λ l. word_from l o) tail_payload ∙ ap word_of (range_before p offset bytes o (o + 8) low (omega (arith, fits, has.within))))
    | inr other ↦ ap (λ m. word_from (unwrap_or m []) o) (tail_others b other)
  ]

  pub word_behind : (b o : ℕ) → offset + length bytes ≤ o → word_from (payload_in new.nodes.payloads b) o ≡ word_from (payload_in old.nodes.payloads b) o
  word_behind b o high = elim (cases_eq b block) [
    | inl at ↦ subst (λ x. word_from (payload_in new.nodes.payloads x) o ≡ word_from (payload_in old.nodes.payloads x) o) (sym at)
        (ap (λ l. word_from l o) tail_payload ∙ ap word_of (range_after p offset bytes o (o + 8) high (omega (arith, fits, has.within))))
    | inr other ↦ ap (λ m. word_from (unwrap_or m []) o) (tail_others b other)
  ]

  -- and those that are put there stand there
  pub word_put : (front rest : List ℕ) (word o : ℕ) → bytes ≡ front ++ (word_bytes word ++ rest) → o ≡ offset + length front → word < 2 ^ 64 → word_from (payload_in new.nodes.payloads block) o ≡ word
  unfolding with_bytes
  word_put front rest word o is at low =
      let start : length (take offset p) ≡ offset = length-take-le offset p (omega (arith, fits, has.within)) in
      let size : length (take offset p ++ front) ≡ o = length-append (take offset p) front ∙ omega (arith, start, at) in
      let tail = drop (offset + length bytes) p in
      ap (λ l. word_from l o) (tail_payload ∙ ap (λ bs. take offset p ++ bs ++ tail) is ∙ seams (take offset p) front (word_bytes word) rest tail)
      ∙ word_mid (take offset p ++ front) (rest ++ tail) word o size low
    where
      seams : (a b c d e : List ℕ) → a ++ (b ++ (c ++ d)) ++ e ≡ (a ++ b) ++ (c ++ (d ++ e))
      seams a b c d e = simp append_assoc refl
