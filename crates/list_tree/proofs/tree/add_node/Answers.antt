-- One node more.
use Rattle.std.proofs.Common.{◌∙◌, ℕ, ap, refl, subst, sym}
use Rattle.own_model.specs.Listed.{ListedEntry}
use Rattle.list_tree.specs.Nodes.{AddsNode, keeps_of}
use Rattle.list_tree.proofs.NodeLemmas.{node_more}
use Rattle.list_tree.proofs.tree.add_node.Goals as goal

pub returns : goal.returns
returns c =
    let entry : ℕ × ListedEntry = (c.args.number, c.args.entry.now) in
    subst (λ new. AddsNode c.args.list.now c.args.nodes.now.items entry new) (sym c.in_ok-push.ensures.items)
    (node_more c.args.list.now c.args.nodes.now.items _ entry c.requires.nodes
    (record {
      keeps = c.keeps_of.ensures ∙ ap (λ inits. keeps_of inits entry) c.requires.inits;
      requests = c.in_ok-of_entry.ensures;
    }) refl)
