-- The list of a session's nodes, in the order of their creation: what a search finds in it, and what calls change.
use Rattle.std.specs.Prelude.{◌≡◌, ◌≢◌, ℕ, ◌-◌, ◌^◌, ◌<◌, true, false, List, [], ◌∷◌, ◌++◌, length}
use Rattle.std.specs.FinMap.{get}
use Rattle.own_model.specs.Account.{credited}
use Rattle.own_model.specs.Growth.{hole_for, shape_given}
use Rattle.own_model.specs.Heap.{header}
use Rattle.own_model.specs.NatMap.{NatMap}
use Rattle.own_model.specs.Nodes.{BlockTaken, block_taken, content_ram, content_caps}
use Rattle.own_model.specs.OwnHeap.{OwnHeap, chunk_with, offset_of}
use Rattle.dataspace_core.specs.Share.{Share}
pub use Rattle.heap_core.specs.Heap.{heap_in}
use Rattle.sliced_heap.specs.Chain.{is_listed}
use Rattle.sliced_heap.specs.Sliced.{sliced_of}
use Rattle.session_nodes.specs.Calls.{node_stored, HasBytes}
use Rattle.session_nodes.specs.Index.{AreListed, IsNamed, KeepsPlace, LeadsBack, previous_at}
use Rattle.session_nodes.specs.Links.{last_of}
use Rattle.session_nodes.specs.Node.{StoredNode}
use Rattle.session_nodes.specs.Node.{value_of as node_value}
use Rattle.session_nodes.specs.Order.{node_at, link_in, nodes_from, user_at, AllStay, OthersStay, StandAt}
use Rattle.session_nodes.specs.SoundHeaps.{Stock}
use Rattle.session_nodes.specs.declared.node_list.FoundNode.{FoundNode}
use Rattle.session_nodes.specs.declared.node_list.NodeList.{NodeList}

-- the addresses of its nodes
abbrev pub nodes_in : NodeList → Stock → List ℕ
nodes_in list stock = nodes_from list.first stock.nodes

-- while a request is served, it has nodes
abbrev pub HasNodes : NodeList → Stock → Type 0
HasNodes list stock = AreListed list.first list.last list.root list.recent stock.nodes stock.contents

-- between requests, in a share
abbrev pub KeepsList : NodeList → Share → Type 0
KeepsList list share = AreListed list.first list.last list.root list.recent (heap_in list.heaps.nodes share) (sliced_of share)

-- ---- searches

-- no node of these blocks has a name
abbrev pub NoneHas : OwnHeap → List ℕ → List ℕ → Type 0
NoneHas nodes name blocks = (b : ℕ) → is_listed blocks b ≡ true → (node_at nodes b).name ≢ name

-- the node of a name is found, with what is before it: no node before it has the name
pub record IsFound (first last : ℕ) (nodes : OwnHeap) (contents : NatMap (List ℕ)) (name : List ℕ) (previous address : ℕ) (node : StoredNode) : Type 0 where
  pub before : List ℕ
  pub behind : List ℕ
  pub stand : StandAt first last nodes contents (before ++ address ∷ behind)
  pub previous_is : previous ≡ last_of 0 before
  pub others : NoneHas nodes name before
  pub named : node.name ≡ name
  pub node_is : node ≡ node_at nodes address

-- a search for a name ends there
abbrev pub Finds : NodeList → Stock → List ℕ → FoundNode → Type 0
Finds list stock name found =
    IsFound list.first list.last stock.nodes stock.contents name (previous_at stock.nodes found.address) found.address (node_value found.node)

-- ---- links

-- a node is unchanged except for its link
pub record KeepsNode (nodes later : OwnHeap) (block : ℕ) : Type 0 where
  pub name : (node_at later block).name ≡ (node_at nodes block).name
  pub size : (node_at later block).size ≡ (node_at nodes block).size
  pub content : (node_at later block).content ≡ (node_at nodes block).content
  pub there : HasBytes later.payloads block 0 96
  pub place : KeepsPlace nodes later block
  pub user : user_at later block ≡ user_at nodes block

-- a holder is linked to another block, and else all nodes are as they were
pub record LinksTo (first holder block later_first : ℕ) (nodes later : OwnHeap) : Type 0 where
  pub linked : link_in later_first later holder ≡ block
  pub links : (b : ℕ) → b ≢ holder → link_in later_first later b ≡ link_in first nodes b
  pub rest : later ≡ record nodes { payloads = later.payloads }
  pub files : (b : ℕ) → HasBytes nodes.payloads b 0 96 → KeepsNode nodes later b

-- a block holds this node of the list
pub record IsListed (list : NodeList) (stock : Stock) (block : ℕ) (node : StoredNode) : Type 0 where
  pub there : is_listed (nodes_in list stock) block ≡ true
  pub node_is : node ≡ node_at stock.nodes block

-- the tree and the links back are those of the nodes without a block's
abbrev pub Unlists : NodeList → NodeList → ℕ → Stock → Stock → Type 0
Unlists list later block old new =
    (before behind : List ℕ) → StandAt list.first list.last old.nodes old.contents (before ++ block ∷ behind) →
    IsNamed later.root new.nodes (before ++ behind) × LeadsBack (previous_at new.nodes) 0 (before ++ behind)

-- a block that is allocated for a node is not yet in the list
pub record IsFresh (first : ℕ) (nodes : OwnHeap) (block : ℕ) : Type 0 where
  pub there : HasBytes nodes.payloads block 0 96
  pub small : block < 2 ^ 64
  pub place : chunk_with nodes (block - header) < length nodes.shape.chunks
  pub free : is_listed (0 ∷ nodes_from first nodes) block ≡ false

-- a content is no node's yet
abbrev pub IsOwn : ℕ → OwnHeap → ℕ → Type 0
IsOwn first nodes content =
    (b : ℕ) → is_listed (nodes_from first nodes) b ≡ true → 0 < (node_at nodes b).size → (node_at nodes b).content ≢ content

-- ---- what calls change

-- a node without a content has been appended
pub record Appends (list later : NodeList) (address : ℕ) (name : List ℕ) (old new : Stock) : Type 0 where
  pub kept : HasNodes later new
  pub listed : nodes_in later new ≡ nodes_in list old ++ address ∷ []
  pub stay : AllStay old.nodes new.nodes old.contents new.contents (nodes_in list old)
  pub name_is : (node_at new.nodes address).name ≡ name
  pub empty : (node_at new.nodes address).size ≡ 0
  pub there : HasBytes new.nodes.payloads address 0 96
  pub user : user_at new.nodes address ≡ user_at old.nodes address
  pub rest : new.nodes ≡ record old.nodes { payloads = new.nodes.payloads }
  pub account : new.account ≡ old.account

-- a block of so many bytes, as the model takes it for a node
abbrev pub taken_in : ℕ → Stock → BlockTaken
taken_in asked stock = block_taken asked (hole_for asked stock.nodes.shape) stock.nodes.shape stock.account

-- a node without a content has been created in such a block
pub record Creates (list later : NodeList) (asked address : ℕ) (name : List ℕ) (old new : Stock) : Type 0 where
  pub kept : HasNodes later new
  pub listed : nodes_in later new ≡ nodes_in list old ++ address ∷ []
  pub stay : AllStay old.nodes new.nodes old.contents new.contents (nodes_in list old)
  pub name_is : (node_at new.nodes address).name ≡ name
  pub empty : (node_at new.nodes address).size ≡ 0
  pub room : HasBytes new.nodes.payloads address 0 asked
  pub chunk : chunk_with new.nodes (address - header) ≡ (taken_in asked old).spot.chunk
  pub offset : offset_of new.nodes (address - header) ≡ (taken_in asked old).spot.offset
  pub shape : new.nodes.shape ≡ (taken_in asked old).shape
  pub account : new.account ≡ (taken_in asked old).account

-- the node of one of these blocks has another content of so many bytes, and the others stay
pub record Sets (nodes later : OwnHeap) (contents after : NatMap (List ℕ)) (blocks : List ℕ) (address content size : ℕ) : Type 0 where
  pub others : OthersStay nodes later contents after blocks address
  pub node_is : node_at later address ≡ record (node_at nodes address) { content = content; size = size }
  pub chunk : chunk_with later (address - header) ≡ chunk_with nodes (address - header)
  pub offset : offset_of later (address - header) ≡ offset_of nodes (address - header)
  pub shape : later.shape ≡ nodes.shape

-- so it has in place of the content that it had, which is freed
pub record Replaces (list later : NodeList) (address content size : ℕ) (old new : Stock) : Type 0 where
  pub kept : HasNodes later new
  pub listed : nodes_in later new ≡ nodes_in list old
  pub sets : Sets old.nodes new.nodes old.contents new.contents (nodes_in list old) address content size
  pub user : user_at new.nodes address ≡ user_at old.nodes address
  pub bytes : 0 < size → get new.contents content ≡ get old.contents content
  pub account : new.account ≡ credited old.account (content_ram (node_at old.nodes address).size) (content_caps (node_at old.nodes address).size)

-- a node has been removed with its content
pub record Removes (list later : NodeList) (address : ℕ) (old new : Stock) : Type 0 where
  pub before : List ℕ
  pub behind : List ℕ
  pub was : nodes_in list old ≡ before ++ address ∷ behind
  pub others : NoneHas old.nodes (node_at old.nodes address).name before
  pub kept : HasNodes later new
  pub listed : nodes_in later new ≡ before ++ behind
  pub stay : AllStay old.nodes new.nodes old.contents new.contents (before ++ behind)
  pub shape : new.nodes.shape ≡ shape_given (chunk_with old.nodes (address - header)) (offset_of old.nodes (address - header)) old.nodes.shape
  pub account : new.account ≡ credited old.account (content_ram (node_at old.nodes address).size) (content_caps (node_at old.nodes address).size)

-- bytes have been put over a block after those of its node, and nothing else has changed
pub record PutsUser (list : NodeList) (address offset : ℕ) (bytes : List ℕ) (old new : Stock) : Type 0 where
  pub kept : HasNodes list new
  pub listed : nodes_in list new ≡ nodes_in list old
  pub others : OthersStay old.nodes new.nodes old.contents new.contents (nodes_in list old) address
  pub node_is : node_at new.nodes address ≡ node_at old.nodes address
  pub is : new ≡ node_stored address offset bytes old
