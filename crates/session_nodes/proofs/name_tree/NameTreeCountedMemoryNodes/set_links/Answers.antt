-- The links are put behind the bytes that stand for the node.
use Rattle.std.proofs.Common.{◌∙◌, ap, refl}
use Rattle.session_nodes.specs.Calls.{node_stored}
use Rattle.session_nodes.specs.SessionHeaps.{stock_of}
use Rattle.session_nodes.proofs.LinksSetLemmas.{links_set, names_kept}
use Rattle.session_nodes.proofs.name_tree.NameTreeCountedMemoryNodes.set_links.Goals as goal

pub returns-clause-links : goal.returns-clause-links
returns-clause-links g c =
    links_set c.args.node c.args.links _ _ _ _ c.requires.padded
    (c.put_bytes.ensures.stored ∙ ap (λ b. node_stored c.args.node 64 b (stock_of c.args.self.now.heaps.now c.args.memory.now.memory.now c.args.self.now.map.now)) (c.deref.ensures.0 ∙ c.link_bytes-bytes.ensures.bytes))
    c.link_bytes-bytes.ensures.left c.link_bytes-bytes.ensures.right c.link_bytes-bytes.ensures.high

pub returns-clause-keeps : goal.returns-clause-keeps
returns-clause-keeps g c = (
  refl,
  names_kept _ _ _ _ _ c.args.node c.args.links c.requires c.put_bytes.ensures.keeps
      (c.put_bytes.ensures.stored ∙ ap (λ b. node_stored c.args.node 64 b (stock_of c.args.self.now.heaps.now c.args.memory.now.memory.now c.args.self.now.map.now)) (c.deref.ensures.0 ∙ c.link_bytes-bytes.ensures.bytes)),
)
