-- The words of an object in the bytes of its block.
use Rattle.std.proofs.Common.{◌≡◌, ℕ, ◌+◌, ◌*◌, ◌^◌, ◌<◌, ◌≤◌, ◌-◌, true, List, drop, length, take, sym, ap, ◌∙◌, arith}
use Rattle.std.proofs.lemmas.List.{drop-drop, length-drop}
use Rattle.std.proofs.lemmas.Nat.{div-mul-add, mod-mul-add}
use Rattle.std.specs.Prelude.{slice_range, ◌/◌, ◌%◌}
use Rattle.trade_base.specs.Bytes.{with_bytes}
use Rattle.trade_base.specs.Word.{word_of, word_bytes}
use Rattle.trade_base.proofs.BytesLemmas.{slice_range-with_bytes}
use Rattle.trade_base.proofs.ElsewhereLemmas.{range_before}
use Rattle.trade_base.proofs.WordLemmas.{word_of-word_bytes, length-word_bytes}
use Rattle.own_model.specs.Heap.{header}
use Rattle.own_model.specs.OwnHeap.{OwnHeap, chunk_with, offset_of}
use Rattle.session_nodes.specs.Frame.{is_listed}
use Rattle.session_nodes.specs.Calls.{payload_in, HasBytes}
use Rattle.session_nodes.specs.Node.{word_from}
use Rattle.session_nodes.specs.NodeList.{nodes_in, HasNodes, PutsUser}
use Rattle.session_nodes.specs.Order.{user_at}
use Rattle.session_nodes.specs.SoundHeaps.{Stock}
use Rattle.session_nodes.specs.declared.node_list.NodeList.{NodeList}
use Rattle.session_nodes.proofs.KeptLemmas.{blocks_are, stays_then}
use Rattle.session_nodes.proofs.UserLemmas.{payload_put, there_put}
use Rattle.object_service.specs.Calls.{PutsWords}
use Rattle.object_service.specs.Objects.{word_at, units_at}

-- a word after the node is one of the block
pub user_word : (bytes : List ℕ) (offset : ℕ) → word_from (drop 96 bytes) offset ≡ word_from bytes (96 + offset)
user_word bytes offset =
    let size : 96 + offset + 8 - (96 + offset) ≡ offset + 8 - offset = omega arith in
    ap (λ l. word_of (take (offset + 8 - offset) l)) (drop-drop offset 96 bytes) ∙ ap (λ n. word_of (take n (drop (96 + offset) bytes))) (sym size)

-- a block with an object's words has so many bytes
pub has_words : (nodes : OwnHeap) (block n : ℕ) → HasBytes nodes.payloads block 0 96 → 16 ≤ length (user_at nodes block) → n ≤ 112 → HasBytes nodes.payloads block 0 n
has_words nodes block n has room low = record { there = has.there; within = omega (arith, room, length-drop 96 (payload_in nodes.payloads block), low, has.within) }

-- and the other way round
pub room_of : (nodes : OwnHeap) (block n : ℕ) → HasBytes nodes.payloads block 0 n → 112 ≤ n → 16 ≤ length (user_at nodes block)
room_of nodes block n has high = omega (arith, length-drop 96 (payload_in nodes.payloads block), has.within, high)

-- so has a block of the list
pub block_has : (list : NodeList) (stock : Stock) (block n : ℕ) → HasNodes list stock → is_listed (nodes_in list stock) block ≡ true → 16 ≤ length (user_at stock.nodes block) → n ≤ 112 → HasBytes stock.nodes.payloads block 0 n
block_has list stock block n has listed room low =
    let are = blocks_are list.first list.last stock.nodes stock.contents has.blocks has.stand in
    has_words stock.nodes block n (has.stand.each block (ap (λ bs. is_listed bs block) (sym are) ∙ listed)).there room low

-- ---- the number of a kind and the bytes of a unit

pub number_is : (number bytes word : ℕ) → bytes < 65536 → word ≡ number * 65536 + bytes → word / 65536 ≡ number
number_is number bytes word low is = ap (λ w. w / 65536) is ∙ div-mul-add number 65536 bytes low

pub unit_is : (number bytes word : ℕ) → bytes < 65536 → word ≡ number * 65536 + bytes → word % 65536 ≡ bytes
unit_is number bytes word low is = ap (λ w. w % 65536) is ∙ mod-mul-add number 65536 bytes low

-- the words that are read of a block are the object's
pub word_read : (nodes : OwnHeap) (address word : ℕ) → word ≡ word_from (payload_in nodes.payloads address) 96 → word ≡ word_at nodes address
word_read nodes address word is = is ∙ sym (user_word (payload_in nodes.payloads address) 0)

pub units_read : (nodes : OwnHeap) (address units : ℕ) → units ≡ word_from (payload_in nodes.payloads address) 104 → units ≡ units_at nodes address
units_read nodes address units is = is ∙ sym (user_word (payload_in nodes.payloads address) 8)

-- ---- words are put

module _ (list : NodeList) (address : ℕ) (old mid new : Stock) (word units : ℕ) (low_word : word < 2 ^ 64) (low_units : units < 2 ^ 64)
    (first_bytes second_bytes : List ℕ) (first_is : first_bytes ≡ word_bytes word) (second_is : second_bytes ≡ word_bytes units)
    (has : HasBytes old.nodes.payloads address 0 112) (first : PutsUser list address 96 first_bytes old mid) where
  first_long : length first_bytes ≡ 8
  first_long = ap length first_is ∙ length-word_bytes word

  second_long : length second_bytes ≡ 8
  second_long = ap length second_is ∙ length-word_bytes units

  pub has_first : HasBytes old.nodes.payloads address 0 (96 + length first_bytes)
  has_first = record { there = has.there; within = omega (arith, first_long, has.within) }

  pub has_mid : HasBytes mid.nodes.payloads address 0 112
  has_mid = there_put old mid address 96 first_bytes (omega arith) has_first first.is 112 has

  pub has_second : HasBytes mid.nodes.payloads address 0 (104 + length second_bytes)
  has_second = record { there = has_mid.there; within = omega (arith, second_long, has_mid.within) }

  module _ (second : PutsUser list address 104 second_bytes mid new) where
    mid_is : payload_in mid.nodes.payloads address ≡ with_bytes (payload_in old.nodes.payloads address) 96 first_bytes
    mid_is = payload_put old mid address 96 first_bytes (omega arith) has_first first.is

    new_is : payload_in new.nodes.payloads address ≡ with_bytes (payload_in mid.nodes.payloads address) 104 second_bytes
    new_is = payload_put mid new address 104 second_bytes (omega arith) has_second second.is

    word_new : word_from (payload_in new.nodes.payloads address) 96 ≡ word
    word_new =
        ap (λ l. word_from l 96) new_is
        ∙ ap word_of (range_before (payload_in mid.nodes.payloads address) 104 second_bytes 96 104 (omega arith) (omega (arith, has_second.within)))
        ∙ ap (λ l. word_from l 96) mid_is
        ∙ ap (λ n. word_of (slice_range (with_bytes (payload_in old.nodes.payloads address) 96 first_bytes) 96 (96 + n))) (sym first_long)
        ∙ ap word_of (slice_range-with_bytes (payload_in old.nodes.payloads address) 96 first_bytes (omega (arith, has_first.within)))
        ∙ ap word_of first_is ∙ word_of-word_bytes word low_word

    units_new : word_from (payload_in new.nodes.payloads address) 104 ≡ units
    units_new =
        ap (λ l. word_from l 104) new_is
        ∙ ap (λ n. word_of (slice_range (with_bytes (payload_in mid.nodes.payloads address) 104 second_bytes) 104 (104 + n))) (sym second_long)
        ∙ ap word_of (slice_range-with_bytes (payload_in mid.nodes.payloads address) 104 second_bytes (omega (arith, has_second.within)))
        ∙ ap word_of second_is ∙ word_of-word_bytes units low_units

    has_new : HasBytes new.nodes.payloads address 0 112
    has_new = there_put mid new address 104 second_bytes (omega arith) has_second second.is 112 has_mid

    pub puts_words : PutsWords list address word units old new
    puts_words = record {
      kept = second.kept;
      listed = second.listed ∙ first.listed;
      others = λ b t other. stays_then old.nodes mid.nodes new.nodes old.contents mid.contents new.contents b (first.others b t other)
          (second.others b (ap (λ bs. is_listed bs b) first.listed ∙ t) other);
      node_is = second.node_is ∙ first.node_is;
      room = room_of new.nodes address 112 has_new (omega arith);
      word_is = user_word (payload_in new.nodes.payloads address) 0 ∙ word_new;
      units_are = user_word (payload_in new.nodes.payloads address) 8 ∙ units_new;
      chunk = ap (λ (s : Stock). chunk_with s.nodes (address - header)) second.is ∙ ap (λ (s : Stock). chunk_with s.nodes (address - header)) first.is;
      offset = ap (λ (s : Stock). offset_of s.nodes (address - header)) second.is ∙ ap (λ (s : Stock). offset_of s.nodes (address - header)) first.is;
      shape = ap (λ (s : Stock). s.nodes.shape) second.is ∙ ap (λ (s : Stock). s.nodes.shape) first.is;
      account = ap (λ (s : Stock). s.account) second.is ∙ ap (λ (s : Stock). s.account) first.is;
    }
