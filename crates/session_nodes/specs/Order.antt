-- The nodes of a session in the order of their creation, each with the content that it names.
use Rattle.std.specs.Prelude.{◌≡◌, ℕ, ◌-◌, ◌≢◌, ◌<◌, ◌==◌, true, if◌then◌else◌, List, drop, length, take, Some}
use Rattle.std.specs.FinMap.{get, len}
use Rattle.own_model.specs.Heap.{header}
use Rattle.own_model.specs.NatMap.{NatMap}
use Rattle.own_model.specs.OwnHeap.{OwnHeap, chunk_with, offset_of}
use Rattle.own_model.specs.Sliced.{sliced_header, sliced_size}
use Rattle.sliced_heap.specs.Chain.{is_listed}
use Rattle.session_nodes.specs.Calls.{payload_in, HasBytes}
use Rattle.session_nodes.specs.Links.{along, last_of, IsLine}
use Rattle.session_nodes.specs.Node.{StoredNode, node_of}

-- the node whose block's payload starts at an address
abbrev pub node_at : OwnHeap → ℕ → StoredNode
node_at nodes address = node_of (payload_in nodes.payloads address)

-- the bytes of a block after those of its node, which are its user's
abbrev pub user_at : OwnHeap → ℕ → List ℕ
user_at nodes address = drop 96 (payload_in nodes.payloads address)

-- the link of a holder: the session, which is number 0, has the first one, and each node has the next one
abbrev pub link_in : ℕ → OwnHeap → ℕ → ℕ
link_in first nodes holder = if holder == 0 then first else (node_at nodes holder).next

-- the addresses of the nodes, in the order of the links
abbrev pub nodes_from : ℕ → OwnHeap → List ℕ
nodes_from first nodes = along (link_in first nodes) (len nodes.payloads) 0

-- the bytes of a node are the front of its content
abbrev pub bytes_at : NatMap (List ℕ) → StoredNode → List ℕ
bytes_at contents node = take node.size (payload_in contents node.content)

-- ---- what is true of them between requests

-- a content has room for as many bytes as the node says
pub record HasContent (contents : NatMap (List ℕ)) (node : StoredNode) : Type 0 where
  pub payload : List ℕ
  pub there : get contents node.content ≡ Some payload
  pub long : length payload ≡ sliced_size node.size - sliced_header

-- a block holds a node, which has a content unless it has no bytes
pub record HoldsNode (nodes : OwnHeap) (contents : NatMap (List ℕ)) (block : ℕ) : Type 0 where
  pub there : HasBytes nodes.payloads block 0 96
  pub place : chunk_with nodes (block - header) < length nodes.shape.chunks
  pub content : 0 < (node_at nodes block).size → HasContent contents (node_at nodes block)

-- the links connect these blocks in order, each of a node; each node that has bytes has a content of its own
pub record StandAt (first last : ℕ) (nodes : OwnHeap) (contents : NatMap (List ℕ)) (blocks : List ℕ) : Type 0 where
  pub line : IsLine (link_in first nodes) blocks
  pub last_is : last ≡ last_of 0 blocks
  pub each : (b : ℕ) → is_listed blocks b ≡ true → HoldsNode nodes contents b
  pub apart : (a b : ℕ) → is_listed blocks a ≡ true → is_listed blocks b ≡ true → 0 < (node_at nodes a).size → 0 < (node_at nodes b).size →
      (node_at nodes a).content ≡ (node_at nodes b).content → a ≡ b

-- ---- what stays

-- a block holds the same node as before, except for the link
pub record Stays (nodes later : OwnHeap) (contents after : NatMap (List ℕ)) (b : ℕ) : Type 0 where
  pub name : (node_at later b).name ≡ (node_at nodes b).name
  pub size : (node_at later b).size ≡ (node_at nodes b).size
  pub content : (node_at later b).content ≡ (node_at nodes b).content
  pub there : HasBytes later.payloads b 0 96
  pub chunk : chunk_with later (b - 16) ≡ chunk_with nodes (b - 16)
  pub offset : offset_of later (b - 16) ≡ offset_of nodes (b - 16)
  pub user : user_at later b ≡ user_at nodes b
  pub bytes : 0 < (node_at nodes b).size → get after (node_at nodes b).content ≡ get contents (node_at nodes b).content

-- the nodes of these blocks stay
abbrev pub AllStay : OwnHeap → OwnHeap → NatMap (List ℕ) → NatMap (List ℕ) → List ℕ → Type 0
AllStay nodes later contents after blocks = (b : ℕ) → is_listed blocks b ≡ true → Stays nodes later contents after b

-- they stay, except that of one block
abbrev pub OthersStay : OwnHeap → OwnHeap → NatMap (List ℕ) → NatMap (List ℕ) → List ℕ → ℕ → Type 0
OthersStay nodes later contents after blocks x = (b : ℕ) → is_listed blocks b ≡ true → b ≢ x → Stays nodes later contents after b
