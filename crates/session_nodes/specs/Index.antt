-- The tree by name inside the nodes, and the links to previous nodes.
use Rattle.std.specs.Prelude.{◌≡◌, ◌≢◌, ℕ, ◌+◌, ◌*◌, ◌^◌, ◌<◌, ◌≤◌, ◌==◌, ◌&&◌, true, false, not, if◌then◌else◌, List, [], ◌∷◌, ◌++◌, length, take, is_some, slice_get, Option, Some, None, IfSome}
use Rattle.std.specs.FinMap.{get}
use Rattle.avl_tree.specs.declared.node.Links.{Links}
use Rattle.avl_tree.specs.Tree.{Tree, tally, is_at, IsOrdered}
use Rattle.avl_tree.specs.View.{View, Plan, Stands}
use Rattle.own_model.specs.OwnHeap.{OwnHeap}
use Rattle.heap_core.specs.Words.{are_bytes}
use Rattle.sliced_heap.specs.Chain.{is_listed, has_no_repeat}
use Rattle.session_nodes.specs.Calls.{payload_in, HasBytes}
use Rattle.session_nodes.specs.Order.{node_at, nodes_from, user_at, StandAt}
use Rattle.session_nodes.specs.SoundHeaps.{Stock, stock, HasSoundHeaps, KeepsSession}
use Rattle.dataspace_core.specs.Store.{Store}
use Rattle.region_map.specs.Regions.{Regions}
use Rattle.heap_core.specs.declared.heap.Heap.{Heap}
use Rattle.sliced_heap.specs.declared.heap.SlicedHeap.{SlicedHeap}
use Rattle.own_model.specs.NatMap.{NatMap}
use Rattle.session_nodes.specs.Links.{followed}
use Rattle.session_nodes.specs.Node.{bytes_of, rank_of, word_from}
use Rattle.session_nodes.specs.declared.recent.RecentNode.{RecentNode}

-- the links of a node in the tree are after the bytes of the node, and the link to the previous node is after these
abbrev pub links_at : OwnHeap → ℕ → Links
links_at nodes address = record {
  left = word_from (payload_in nodes.payloads address) 64;
  right = word_from (payload_in nodes.payloads address) 72;
  high = word_from (payload_in nodes.payloads address) 80;
}

abbrev pub previous_at : OwnHeap → ℕ → ℕ
previous_at nodes address = word_from (payload_in nodes.payloads address) 88

-- the word at an offset of a node's block
abbrev pub word_at : OwnHeap → ℕ → ℕ → ℕ
word_at nodes offset address = word_from (payload_in nodes.payloads address) offset

-- nodes are in the first n blocks on the way from a block along links at an offset of the blocks, unless it has ended
abbrev pub AreOnTheWay : OwnHeap → ℕ → ℕ → ℕ → Type 0
AreOnTheWay nodes offset address n =
    (k : ℕ) → k < n → followed (word_at nodes offset) k address ≢ 0 → HasBytes nodes.payloads (followed (word_at nodes offset) k address) 0 96

-- nodes as those of a tree, by their names, in a memory that is stated whole at each place
abbrev pub names_in : {Rest : Type 0} → Rest → OwnHeap → View Rest
names_in rest nodes = record { links = links_at nodes; rank = λ a. rank_of (node_at nodes a).name; rest = λ q. rest }

-- the same with no memory
abbrev pub names_of : OwnHeap → View ℕ
names_of nodes = names_in 0 nodes

-- a node owns its own number alone, and its links are a part of the memory
abbrev pub name_plan : Plan
name_plan = record { cover = λ q a. is_at q a 0; feet = λ q a. 1 }

-- the bytes of a node are the front of its block, with zeros after the name
pub record IsPadded (nodes : OwnHeap) (block : ℕ) : Type 0 where
  pub there : HasBytes nodes.payloads block 0 96
  pub front : take 64 (payload_in nodes.payloads block) ≡ bytes_of (node_at nodes block)
  pub name : are_bytes (node_at nodes block).name ≡ true

-- each of these blocks holds the number of the one before it, and the first one that of their holder
abbrev pub LeadsBack : (ℕ → ℕ) → ℕ → List ℕ → Type 0
LeadsBack previous holder [] = Unit {0}
LeadsBack previous holder (block ∷ rest) = (previous block ≡ holder) × LeadsBack previous block rest

-- a balanced tree by name has these blocks and no other
pub record IsNamed (root : ℕ) (nodes : OwnHeap) (blocks : List ℕ) : Type 0 where
  pub tree : Tree
  pub most : ℕ
  pub stands : Stands name_plan (names_of nodes) tree root
  pub ordered : IsOrdered 0 tree most
  pub count : tally (λ a s. 1) tree ≡ length blocks
  pub all : (b : ℕ) → tally (is_at b) tree ≡ (if is_listed blocks b then 1 else 0)
  pub padded : (b : ℕ) → is_listed blocks b ≡ true → IsPadded nodes b
  pub small : (b : ℕ) → is_listed blocks b ≡ true → b < 2 ^ 64

-- the node of a block can be entered by a rank: the block is none of these, and none of these has the rank
pub record CanEnter (root : ℕ) (blocks : List ℕ) (block rank : ℕ) (nodes : OwnHeap) : Type 0 where
  pub named : IsNamed root nodes blocks
  pub some : 0 < block
  pub small : block < 2 ^ 64
  pub free : is_listed blocks block ≡ false
  pub padded : IsPadded nodes block
  pub ranked : rank_of (node_at nodes block).name ≡ rank
  pub fresh : (b : ℕ) → is_listed blocks b ≡ true → rank_of (node_at nodes b).name ≢ rank
  pub few : length blocks ≤ 2 ^ 64

-- a search of the tree returns the node of a rank, if any has it, and otherwise some node or 0
pub record Seeks (root rank : ℕ) (nodes : OwnHeap) (found : ℕ) : Type 0 where
  pub there : (blocks : List ℕ) (b : ℕ) → IsNamed root nodes blocks → is_listed blocks b ≡ true → 0 < b → rank_of (node_at nodes b).name ≡ rank → found ≡ b
  pub listed : (blocks : List ℕ) → IsNamed root nodes blocks → 0 < found → is_listed blocks found ≡ true

-- a block's node has been entered, as that of the last one
abbrev pub Enters : ℕ → ℕ → ℕ → ℕ → OwnHeap → OwnHeap → Type 0
Enters root block rank later_root nodes later =
    (blocks : List ℕ) → CanEnter root blocks block rank nodes → IsNamed later_root later (blocks ++ block ∷ [])

-- the node of a rank has been removed
abbrev pub Leaves : ℕ → ℕ → ℕ → OwnHeap → OwnHeap → Type 0
Leaves root rank later_root nodes later =
    (before behind : List ℕ) (block : ℕ) → IsNamed root nodes (before ++ block ∷ behind) → has_no_repeat (before ++ block ∷ behind) ≡ true →
    rank_of (node_at nodes block).name ≡ rank → IsNamed later_root later (before ++ behind)

-- few words were loaded: at most `most` times 2n + 1, if the number of nodes is below 2 to the power of n
abbrev pub LoadsFew : ℕ → OwnHeap → ℕ → ℕ → ℕ → Type 0
LoadsFew root nodes most old new =
    (blocks : List ℕ) → IsNamed root nodes blocks → (n : ℕ) → length blocks < 2 ^ n → new ≤ old + most * (2 * n + 1)

-- a padded payload stays padded
abbrev pub KeepsPadding : OwnHeap → OwnHeap → ℕ → Type 0
KeepsPadding nodes later block = IsPadded nodes block → IsPadded later block

-- what a block's node has of the tree and of the link back is as it was
pub record KeepsPlace (nodes later : OwnHeap) (block : ℕ) : Type 0 where
  pub name : (node_at later block).name ≡ (node_at nodes block).name
  pub links : links_at later block ≡ links_at nodes block
  pub previous : previous_at later block ≡ previous_at nodes block
  pub padded : KeepsPadding nodes later block

-- nothing of a block's payload has changed except its tail: the links of the tree, or the link to the previous node
pub record KeepsFront (nodes later : OwnHeap) (block : ℕ) : Type 0 where
  pub there : is_some (get later.payloads block) ≡ is_some (get nodes.payloads block)
  pub long : length (payload_in later.payloads block) ≡ length (payload_in nodes.payloads block)
  pub front : take 64 (payload_in later.payloads block) ≡ take 64 (payload_in nodes.payloads block)
  pub user : user_at later block ≡ user_at nodes block

-- nothing of any payload has changed except its tail
abbrev pub KeepsFronts : OwnHeap → OwnHeap → Type 0
KeepsFronts nodes later = (b : ℕ) → KeepsFront nodes later b

-- nothing of a session has changed except tails of its nodes' payloads
pub record ChangesTails (old new : Stock) : Type 0 where
  pub rest : new ≡ record old { nodes = record old.nodes { payloads = new.nodes.payloads } }
  pub fronts : KeepsFronts old.nodes new.nodes

-- a node, if there is one, has been linked back to another one
pub record LinksBack (block previous : ℕ) (old new : Stock) : Type 0 where
  pub tails : ChangesTails old new
  pub links : (b : ℕ) → links_at new.nodes b ≡ links_at old.nodes b
  pub linked : block ≢ 0 → previous_at new.nodes block ≡ previous
  pub others : (b : ℕ) → b ≢ block → previous_at new.nodes b ≡ previous_at old.nodes b

-- nothing except links of the tree
pub record ChangesTree (old new : Stock) : Type 0 where
  pub tails : ChangesTails old new
  pub previous : (b : ℕ) → previous_at new.nodes b ≡ previous_at old.nodes b

-- a file that is remembered is at its place among these blocks
abbrev pub IsAmong : Option RecentNode → List ℕ → Type 0
IsAmong recent blocks = IfSome recent (λ file. slice_get blocks file.place ≡ Some file.address)

-- what is remembered after a block is removed: the next one, at the place of the remembered one, if that is the block
abbrev pub remembered_without : Option RecentNode → ℕ → ℕ → Option RecentNode
remembered_without None block next = None
remembered_without (Some file) block next = if file.address == block && not (next == 0) then Some (record file { address = next }) else None

-- the tree has the nodes' names, the nodes are linked back, and the remembered file is at its place
pub record IsIndexed (first root : ℕ) (recent : Option RecentNode) (nodes : OwnHeap) : Type 0 where
  pub named : IsNamed root nodes (nodes_from first nodes)
  pub back : LeadsBack (previous_at nodes) 0 (nodes_from first nodes)
  pub remembered : IsAmong recent (nodes_from first nodes)

-- files are in some blocks in order, and the tree has their names
pub record AreListed (first last root : ℕ) (recent : Option RecentNode) (nodes : OwnHeap) (contents : NatMap (List ℕ)) : Type 0 where
  pub blocks : List ℕ
  pub stand : StandAt first last nodes contents blocks
  pub indexed : IsIndexed first root recent nodes

-- ---- as a tree's functions see nodes

-- a block holds a node of a sound session
pub record IsNameNode (heap : Heap) (sliced : SlicedHeap) (store : Store) (regions : Regions) (block : ℕ) : Type 0 where
  pub furnished : HasSoundHeaps heap sliced store regions
  pub padded : IsPadded (stock heap sliced store regions).nodes block

-- nothing has changed except links of the tree
pub record KeepsNames (heap : Heap) (sliced : SlicedHeap) (regions : Regions) (old new : Store) : Type 0 where
  pub keeps : HasSoundHeaps heap sliced old regions → KeepsSession sliced heap sliced old new regions regions
  pub tree : ChangesTree (stock heap sliced old regions) (stock heap sliced new regions)
  pub nodes : (b : ℕ) → IsNameNode heap sliced old regions b → IsNameNode heap sliced new regions b
