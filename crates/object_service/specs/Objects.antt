-- The objects of a session, as the blocks of its nodes hold them. After the node a block has two words: the number of the kind with
-- the bytes of a unit, and the units.
use Rattle.std.specs.Prelude.{◌≡◌, ℕ, ◌-◌, ◌*◌, ◌/◌, ◌%◌, ◌≤◌, true, List, length, map}
use Rattle.own_model.specs.Heap.{header}
use Rattle.own_model.specs.ObjectKinds.{ObjectKind}
use Rattle.own_model.specs.ObjectService.{DeclaredObject, Objects}
use Rattle.own_model.specs.OwnHeap.{OwnHeap, chunk_with, offset_of}
use Rattle.session_nodes.specs.Frame.{is_listed}
use Rattle.session_nodes.specs.Node.{word_from}
use Rattle.session_nodes.specs.Order.{node_at, nodes_from, user_at}
use Rattle.object_service.specs.Kinds.{kind_at}

-- the word of the kind: the number of the kind times 65,536, and the bytes of a unit
abbrev pub word_at : OwnHeap → ℕ → ℕ
word_at nodes address = word_from (user_at nodes address) 0

abbrev pub number_at : OwnHeap → ℕ → ℕ
number_at nodes address = word_at nodes address / 65536

abbrev pub unit_at : OwnHeap → ℕ → ℕ
unit_at nodes address = word_at nodes address % 65536

-- the word of the units
abbrev pub units_at : OwnHeap → ℕ → ℕ
units_at nodes address = word_from (user_at nodes address) 8

-- the object of a node, with the place of its block
abbrev pub object_at : List ObjectKind → OwnHeap → ℕ → DeclaredObject
object_at kinds nodes address = record {
  name = (node_at nodes address).name;
  kind = record (kind_at kinds (number_at nodes address)) { bytes = unit_at nodes address };
  units = units_at nodes address;
  chunk = chunk_with nodes (address - header);
  offset = offset_of nodes (address - header);
}

-- the objects of a session
abbrev pub objects_of : List ObjectKind → ℕ → OwnHeap → Objects
objects_of kinds first nodes = record { objects = map (object_at kinds nodes) (nodes_from first nodes); shape = nodes.shape }

-- the numbers of their kinds
abbrev pub numbers_of : ℕ → OwnHeap → List ℕ
numbers_of first nodes = map (number_at nodes) (nodes_from first nodes)

-- ---- what is true of them between requests

-- a block has an object's words, and its content has the bytes of the units
pub record IsObject (nodes : OwnHeap) (block : ℕ) : Type 0 where
  pub room : 16 ≤ length (user_at nodes block)
  pub size : (node_at nodes block).size ≡ units_at nodes block * unit_at nodes block

abbrev pub AreObjectNodes : ℕ → OwnHeap → Type 0
AreObjectNodes first nodes = (b : ℕ) → is_listed (nodes_from first nodes) b ≡ true → IsObject nodes b
