-- A node that leaves the tree: where it and the one behind it stand, and what is left.
use Rattle.std.proofs.Common.{◌≡◌, ◌≢◌, ℕ, true, List, ◌∷◌, ◌++◌, sym, ap, subst, ◌∙◌}
use Rattle.sliced_heap.specs.Chain.{is_listed, has_no_repeat}
use Rattle.session_nodes.specs.Calls.{HasBytes}
use Rattle.session_nodes.specs.Order.{link_in, StandAt}
use Rattle.session_nodes.specs.SoundHeaps.{Stock}
use Rattle.session_nodes.specs.Index.{ChangesTree, IsNamed, LeadsBack, Leaves, LinksBack, previous_at}
use Rattle.session_nodes.specs.Node.{StoredNode, rank_of}
use Rattle.session_nodes.specs.NodeList.{HasNodes, IsListed}
use Rattle.session_nodes.specs.declared.node_list.NodeList.{NodeList}
use Rattle.session_nodes.proofs.BackLemmas.{back_at, back_without}
use Rattle.session_nodes.proofs.IndexLemmas.{named_kept}
use Rattle.session_nodes.proofs.KeptLemmas.{blocks_are}
use Rattle.session_nodes.proofs.LinkLemmas.{once_first, once_later}
use Rattle.session_nodes.proofs.NodeKeptLemmas.{named_of, back_of}
use Rattle.session_nodes.proofs.SeekLemmas.{between}
use Rattle.session_nodes.proofs.TailNodeLemmas.{leads_on, next_is, next_there}
use Rattle.session_nodes.proofs.TailLemmas.{tail_node, tail_padded}

-- where a listed node stands, and the one behind it
pub record AreThere (was : Stock) (address : ℕ) (node : StoredNode) : Type 0 where
  pub has : HasBytes was.nodes.payloads address 0 96
  pub next : node.next ≢ 0 → HasBytes was.nodes.payloads node.next 0 96

pub listed_there : (list : NodeList) (was : Stock) (address : ℕ) (node : StoredNode) → HasNodes list was → IsListed list was address node → AreThere was address node
listed_there list was address node files listed =
    let blocks = blocks_are list.first list.last was.nodes was.contents files.blocks files.stand in
    let among : is_listed files.blocks address ≡ true = ap (λ xs. is_listed xs address) (sym blocks) ∙ listed.there in
    let at = between files.blocks address among in
    let stand = subst (StandAt list.first list.last was.nodes was.contents) at.is files.stand in
    record {
      has = (files.stand.each address among).there;
      next = subst (λ (n : StoredNode). n.next ≢ 0 → HasBytes was.nodes.payloads n.next 0 96) (sym listed.node_is) (next_there list.first list.last was.nodes was.contents at.before at.behind address stand);
    }

module _ (list : NodeList) (was mid now : Stock) (address : ℕ) (node : StoredNode) (before behind : List ℕ) (stand : StandAt list.first list.last was.nodes was.contents (before ++ address ∷ behind))
    (files : HasNodes list was) (listed : IsListed list was address node) (root previous : ℕ) (previous_is : previous ≡ previous_at was.nodes address)
    (gone : Leaves list.root (rank_of node.name) root was.nodes mid.nodes) (tree : ChangesTree was mid) (links : LinksBack node.next previous mid now) where
  abbrev all : List ℕ
  all = before ++ address ∷ behind

  named : IsNamed list.root was.nodes all
  named = named_of list.first list.last list.root was.nodes was.contents all stand files.indexed

  back : LeadsBack (previous_at was.nodes) 0 all
  back = back_of list.first list.last list.root was.nodes was.contents all stand files.indexed

  once : has_no_repeat all ≡ true
  once = once_later 0 all stand.line.once

  left : IsNamed root mid.nodes (before ++ behind)
  left = gone before behind address named once (ap (λ (n : StoredNode). rank_of n.name) (sym listed.node_is))

  still : IsNamed root now.nodes (before ++ behind)
  still =
      named_kept root mid.nodes now.nodes (before ++ behind)
      (λ b t. let p = left.padded b t in record {
        name = ap (λ (n : StoredNode). n.name) (tail_node mid.nodes now.nodes b (links.tails.fronts b) p.there);
        padded = λ is. tail_padded mid.nodes now.nodes b (links.tails.fronts b) is;
      })
      (λ b t. links.links b) left

  led : LeadsBack (previous_at now.nodes) 0 (before ++ behind)
  led =
      let next : node.next ≡ link_in list.first was.nodes address = ap (λ (n : StoredNode). n.next) listed.node_is ∙ next_is list.first list.last was.nodes was.contents before behind address stand in
      back_without (previous_at was.nodes) (previous_at now.nodes) (link_in list.first was.nodes) 0 address node.next before behind once (once_first 0 all stand.line.once)
      (leads_on list.first list.last was.nodes was.contents before behind address stand) next
      (λ b t other. links.others b other ∙ tree.previous b)
      (λ some. links.linked some ∙ previous_is ∙ back_at (previous_at was.nodes) 0 before behind address back) back

  pub unlisted_by : IsNamed root now.nodes (before ++ behind) × LeadsBack (previous_at now.nodes) 0 (before ++ behind)
  unlisted_by = (still, led)
