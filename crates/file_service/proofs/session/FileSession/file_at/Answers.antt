-- The file of the node is told, which is remembered.
use Rattle.std.proofs.Common.{◌≡◌, Some, None, sym, ap, subst, ◌∙◌}
use Rattle.std.proofs.lemmas.Option.{slice_get-map}
use Rattle.std.specs.Prelude.{IfSome, slice_get}
use Rattle.std.specs.Option.{option_map}
use Rattle.own_model.specs.FileService.{File}
use Rattle.session_nodes.specs.Node.{StoredNode, value_of}
use Rattle.session_nodes.specs.NodeList.{nodes_in}
use Rattle.session_nodes.specs.Order.{node_at}
use Rattle.session_nodes.specs.SessionHeaps.{stock_of}
use Rattle.session_nodes.specs.SoundHeaps.{Stock}
use Rattle.session_nodes.specs.declared.node_list.FoundNode.{FoundNode}
use Rattle.file_service.specs.Files.{file_at}
use Rattle.file_service.proofs.session.FileSession.file_at.Goals as goal

pub returns-in-Some-clause-name : goal.returns-in-Some-clause-name
returns-in-Some-clause-name c =
    let has : Stock = stock_of c.args.self.now.nodes.heaps c.args.memory.now c.args.map.now in
    let blocks = nodes_in c.args.self.now.nodes has in
    let found = c.in-Some.found in
    let address : Some found.address ≡ slice_get blocks c.args.place = ap (option_map (λ (f : FoundNode). f.address)) (sym c.in-Some.is) ∙ c.at_place.ensures.address in
    let node : value_of found.node ≡ node_at has.nodes found.address = subst (λ o. IfSome o (λ (f : FoundNode). value_of f.node ≡ node_at has.nodes f.address)) c.in-Some.is c.at_place.ensures.node in
    ap (λ (n : StoredNode). Some n.name) node
    ∙ ap (λ o. option_map (λ (file : File). file.name) (option_map (file_at has.nodes has.contents) o)) address
    ∙ sym (ap (option_map (λ (file : File). file.name)) (slice_get-map (file_at has.nodes has.contents) blocks c.args.place))

pub returns-in-None-clause-name : goal.returns-in-None-clause-name
returns-in-None-clause-name c =
    let has : Stock = stock_of c.args.self.now.nodes.heaps c.args.memory.now c.args.map.now in
    let blocks = nodes_in c.args.self.now.nodes has in
    let address : None ≡ slice_get blocks c.args.place = ap (option_map (λ (f : FoundNode). f.address)) (sym c.in-None.is) ∙ c.at_place.ensures.address in
    ap (λ o. option_map (λ (file : File). file.name) (option_map (file_at has.nodes has.contents) o)) address
    ∙ sym (ap (option_map (λ (file : File). file.name)) (slice_get-map (file_at has.nodes has.contents) blocks c.args.place))
