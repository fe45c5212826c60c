-- Requests leave files as files are: their nodes stay nodes.
use Rattle.std.proofs.Common.{◌≡◌, ℕ, ◌++◌, List, [], ◌∷◌, Some, sym, ap, subst, ◌∙◌, find, map}
use Rattle.std.proofs.lemmas.List.{map-append}
use Rattle.std.specs.Prelude.{None}
use Rattle.std.specs.Option.{option_map}
use Rattle.trade_base.specs.Bytes.{with_bytes}
use Rattle.own_model.proofs.FileListLemmas.{node_named, nodes-rewritten, nodes-without}
use Rattle.own_model.proofs.FileRequestLemmas.{KeptByRequests, requests_keep, with_content, without_file}
use Rattle.own_model.proofs.NodeLemmas.{nodes_in_hole, nodes_in_chunk, nodes_removed, no_nodes_are}
use Rattle.own_model.specs.Account.{Account}
use Rattle.own_model.specs.FileService.{Files, File, AreFiles, node_size, node_of, no_files, file_named}
use Rattle.own_model.specs.FileTheorems.{RequestsKeepFiles}
use Rattle.own_model.specs.Growth.{Shape}
use Rattle.own_model.specs.Nodes.{Node, BlockTaken, AreNodesOf, has_name, block_taken}

-- no files are files
pub no_files_are : AreFiles no_files
no_files_are = no_nodes_are

abbrev Kept : Files → Account → Type 0
Kept files account = AreFiles files

module _ (files : Files) (h : AreFiles files) where
  abbrev nodes : List Node
  nodes = map node_of files.files

  -- a name that no file has is no node's
  no_node : (name : List ℕ) → file_named name files ≡ None → find (has_name name) nodes ≡ None
  no_node name free = node_named name files.files ∙ ap (option_map node_of) free

  -- the nodes with that of a file that comes last
  pushed : (new : File) (shape : Shape) → AreNodesOf shape (nodes ++ node_of new ∷ []) → AreNodesOf shape (map node_of (files.files ++ new ∷ []))
  pushed new shape are = subst (AreNodesOf shape) (sym (map-append node_of files.files (new ∷ []))) are

  rewritten_are : (file : File) (bytes : List ℕ) → AreFiles (with_content file bytes files)
  rewritten_are file bytes = subst (AreNodesOf files.shape) (sym (nodes-rewritten file.name bytes files.files)) h

  dropped_are : (file : File) → file_named file.name files ≡ Some file → AreFiles (without_file file files)
  dropped_are file there =
      subst (AreNodesOf (without_file file files).shape) (sym (nodes-without file.name files.files))
      (nodes_removed (node_of file) files.shape nodes h (node_named file.name files.files ∙ ap (option_map node_of) there))

pub files_kept : (files : Files) (account : Account) → AreFiles files → KeptByRequests Kept files account
files_kept files account h = record {
  takes = λ name hole name_is free best.
      let new : File = record { name = name; bytes = []; chunk = hole.chunk; offset = hole.offset } in
      let taken : BlockTaken = block_taken node_size (Some hole) files.shape account in
      pushed files h new taken.shape (nodes_in_hole name node_size files.shape account (map node_of files.files) h name_is (no_node files h name free) hole best);
  grows = λ name name_is free accepted.
      let taken : BlockTaken = block_taken node_size None files.shape account in
      let new : File = record { name = name; bytes = []; chunk = taken.spot.chunk; offset = taken.spot.offset } in
      pushed files h new taken.shape (nodes_in_chunk name node_size files.shape account (map node_of files.files) h name_is (no_node files h name free) accepted);
  lengthens = λ file offset bytes there start longer accepted. rewritten_are files h file (with_bytes file.bytes offset bytes);
  replaces = λ file offset bytes there fits. rewritten_are files h file (with_bytes file.bytes offset bytes);
  clears = λ file there. rewritten_are files h file [];
  drops = λ file there. dropped_are files h file there;
}

pub files_stay : RequestsKeepFiles
files_stay files account text h = requests_keep Kept files account h (files_kept files account h) text
