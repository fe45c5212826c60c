-- The files of a session, as the blocks of its nodes and its contents hold them.
use Rattle.std.specs.Prelude.{ℕ, ◌-◌, List, map}
use Rattle.own_model.specs.FileService.{File, Files}
use Rattle.own_model.specs.Heap.{header}
use Rattle.own_model.specs.NatMap.{NatMap}
use Rattle.own_model.specs.OwnHeap.{OwnHeap, chunk_with, offset_of}
use Rattle.session_nodes.specs.Order.{node_at, nodes_from, bytes_at}

-- the file of a node, with the place of its block
abbrev pub file_at : OwnHeap → NatMap (List ℕ) → ℕ → File
file_at nodes contents address = record {
  name = (node_at nodes address).name;
  bytes = bytes_at contents (node_at nodes address);
  chunk = chunk_with nodes (address - header);
  offset = offset_of nodes (address - header);
}

-- the files of a session
abbrev pub files_of : ℕ → OwnHeap → NatMap (List ℕ) → Files
files_of first nodes contents = record { files = map (file_at nodes contents) (nodes_from first nodes); shape = nodes.shape }
