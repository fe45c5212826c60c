-- The node of a file, and its bytes at the front of its block.
use Rattle.std.specs.Prelude.{ℕ, ◌+◌, ◌-◌, ◌*◌, ◌^◌, ◌<◌, ◌≤◌, List, ◌++◌, length, min, slice_range}
use Rattle.trade_base.specs.Word.{word_of, word_bytes}
use Rattle.own_model.specs.OwnState.{zeros}
use Rattle.session_nodes.specs.declared.node.Node.{Node}

-- the address of the next file's node, that of the content, the content's bytes, and the name
pub record StoredNode : Type 0 where
  pub next : ℕ
  pub content : ℕ
  pub size : ℕ
  pub name : List ℕ

-- what a node is
abbrev pub value_of : Node → StoredNode
value_of node = record { next = node.next; content = node.content; size = node.size; name = node.name.items }

-- the most bytes of a name
abbrev pub longest_name : ℕ
longest_name = 32

-- the bytes of a node, at the front of its block
abbrev pub node_bytes : ℕ
node_bytes = 64

-- the word at an offset of these bytes
abbrev pub word_from : List ℕ → ℕ → ℕ
word_from bytes offset = word_of (slice_range bytes offset (offset + 8))

-- the bytes of a name: its length, and its bytes followed by zeros
abbrev pub name_bytes : List ℕ → List ℕ
name_bytes name = word_bytes (length name) ++ (name ++ zeros (longest_name - length name))

-- names are ordered by a number: that of their five words, of which the first is the most significant
abbrev pub rank_by : (ℕ → ℕ) → ℕ
rank_by word = (((word 0 * 2 ^ 64 + word 1) * 2 ^ 64 + word 2) * 2 ^ 64 + word 3) * 2 ^ 64 + word 4

unfoldable pub rank_of : List ℕ → ℕ
rank_of name = rank_by (λ i. word_from (name_bytes name) (8 * i))

-- four words, the last of them the length of the name, and the name
unfoldable pub node_of : List ℕ → StoredNode
node_of bytes = record {
  next = word_from bytes 0;
  content = word_from bytes 8;
  size = word_from bytes 16;
  name = slice_range bytes 32 (32 + min (word_from bytes 24) longest_name);
}

unfoldable pub bytes_of : StoredNode → List ℕ
bytes_of node = word_bytes node.next ++ (word_bytes node.content ++ (word_bytes node.size ++ name_bytes node.name))

-- words hold its numbers, and there is room for its name
pub record IsNode (node : StoredNode) : Type 0 where
  pub next : node.next < 2 ^ 64
  pub content : node.content < 2 ^ 64
  pub size : node.size < 2 ^ 64
  pub name : length node.name ≤ longest_name
