-- The file that a search finds in a session, in a memory that is the one before the search.
use Rattle.std.proofs.Common.{◌≡◌, List, ℕ, Option, Some, length, sym, subst}
use Rattle.std.specs.Prelude.{IfSome}
use Rattle.own_model.specs.FileService.{File, file_named}
use Rattle.session_nodes.specs.Frame.{Regions, Store}
use Rattle.session_nodes.specs.Index.{previous_at}
use Rattle.session_nodes.specs.Node.{value_of}
use Rattle.session_nodes.specs.NodeList.{Finds}
use Rattle.session_nodes.specs.SessionHeaps.{stock_of}
use Rattle.session_nodes.specs.SoundHeaps.{Stock}
use Rattle.session_nodes.specs.declared.node_list.FoundNode.{FoundNode}
use Rattle.session_nodes.proofs.SearchLemmas.{found_long}
use Rattle.file_service.specs.Files.{file_at}
use Rattle.file_service.specs.Session.{files_in}
use Rattle.file_service.specs.declared.session.FileSession.{FileSession}
use Rattle.file_service.proofs.FileFoundLemmas.{found_named}

-- the file of a node
abbrev pub file_in : FileSession → Store → Regions → FoundNode → File
file_in session store regions node = let s : Stock = stock_of session.nodes.heaps store regions in file_at s.nodes s.contents node.address

pub record IsThere (session : FileSession) (store : Store) (regions : Regions) (name : List ℕ) (node : FoundNode) : Type 0 where
  pub found : Finds session.nodes (stock_of session.nodes.heaps store regions) name node
  pub named : file_named name (files_in session (stock_of session.nodes.heaps store regions)) ≡ Some (file_in session store regions node)
  pub long : length (file_in session store regions node).bytes ≡ node.node.size

pub is_there : (session : FileSession) {store later : Store} (regions : Regions) (name : List ℕ) (node : FoundNode) {o : Option FoundNode} → IfSome o (Finds session.nodes (stock_of session.nodes.heaps store regions) name) →
    o ≡ Some node → later ≡ store → IsThere session later regions name node
is_there session {store} {later} regions name node finds some same =
    let list = session.nodes in
    let is : Finds list (stock_of list.heaps store regions) name node = subst (λ o. IfSome o (Finds list (stock_of list.heaps store regions) name)) some finds in
    let found : Finds list (stock_of list.heaps later regions) name node = subst (λ m. Finds list (stock_of list.heaps m regions) name node) (sym same) is in
    let s : Stock = stock_of list.heaps later regions in
    record {
      found = found;
      named = found_named list.first list.last s.nodes s.contents name (previous_at s.nodes node.address) node.address (value_of node.node) found;
      long = found_long list.first list.last s.nodes s.contents name (previous_at s.nodes node.address) node.address (value_of node.node) found;
    }
