-- The object that a search finds in a session, in the memory before the search and after it.
use Rattle.std.proofs.Common.{◌≡◌, ℕ, ◌≤◌, true, List, Option, Some, sym, subst}
use Rattle.std.specs.Prelude.{IfSome}
use Rattle.own_model.specs.ObjectKinds.{ObjectKind}
use Rattle.own_model.specs.ObjectService.{object_named}
use Rattle.session_nodes.specs.Frame.{Regions, Store, is_listed}
use Rattle.session_nodes.specs.Calls.{HasBytes}
use Rattle.session_nodes.specs.Index.{previous_at}
use Rattle.session_nodes.specs.Node.{value_of}
use Rattle.session_nodes.specs.NodeList.{nodes_in, Finds}
use Rattle.session_nodes.specs.SessionHeaps.{stock_of}
use Rattle.session_nodes.specs.SoundHeaps.{Stock}
use Rattle.session_nodes.specs.declared.node_list.FoundNode.{FoundNode}
use Rattle.object_service.specs.Objects.{object_at}
use Rattle.object_service.specs.Session.{HasObjects, objects_in}
use Rattle.object_service.specs.declared.session.ObjectSession.{ObjectSession}
use Rattle.object_service.proofs.FoundLemmas.{found_named, listed_found}
use Rattle.object_service.proofs.WordLemmas.{block_has}

pub record IsThere (session : ObjectSession) (store later : Store) (regions : Regions) (name : List ℕ) (node : FoundNode) : Type 0 where
  pub found : Finds session.nodes (stock_of session.nodes.heaps store regions) name node
  pub named : (kinds : List ObjectKind) → let was = stock_of session.nodes.heaps store regions in object_named name (objects_in kinds session was) ≡ Some (object_at kinds was.nodes node.address)
  pub listed : is_listed (nodes_in session.nodes (stock_of session.nodes.heaps store regions)) node.address ≡ true
  pub has : (n : ℕ) → n ≤ 112 → HasBytes (stock_of session.nodes.heaps later regions).nodes.payloads node.address 0 n

pub is_there : (session : ObjectSession) {store later : Store} (regions : Regions) (name : List ℕ) (node : FoundNode) {o : Option FoundNode} → HasObjects session (stock_of session.nodes.heaps store regions) →
    IfSome o (Finds session.nodes (stock_of session.nodes.heaps store regions) name) → later ≡ store → o ≡ Some node → IsThere session store later regions name node
is_there session {store} regions name node has finds memory some =
    let list = session.nodes in
    let was : Stock = stock_of list.heaps store regions in
    let previous = previous_at was.nodes node.address in
    let found : Finds list was name node = subst (λ o. IfSome o (Finds list was name)) some finds in
    let listed = listed_found list.first list.last was.nodes was.contents name previous node.address (value_of node.node) found in
    record {
      found = found;
      named = λ kinds. found_named kinds was.nodes name list.first list.last was.contents previous node.address (value_of node.node) found;
      listed = listed;
      has = λ n low. subst (λ m. HasBytes (stock_of list.heaps m regions).nodes.payloads node.address 0 n) (sym memory) (block_has list was node.address n has.nodes listed (has.objects node.address listed).room low);
    }
