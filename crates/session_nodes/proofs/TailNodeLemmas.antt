-- Where only tails of nodes' payloads have changed, nodes are as they were.
use Rattle.std.proofs.Common.{◌≡◌, ◌≢◌, ℕ, ◌-◌, ◌≤◌, true, List, [], ◌∷◌, ◌++◌, length, refl, sym, ap, subst, ◌∙◌, arith}
use Rattle.std.proofs.lemmas.Bool.Decides.{nat_tests}
use Rattle.own_model.specs.NatMap.{NatMap}
use Rattle.own_model.specs.OwnHeap.{OwnHeap, chunk_with, offset_of}
use Rattle.sliced_heap.specs.Chain.{is_listed}
use Rattle.session_nodes.specs.Calls.{HasBytes}
use Rattle.session_nodes.specs.Order.{node_at, link_in, StandAt}
use Rattle.session_nodes.specs.SoundHeaps.{Stock}
use Rattle.session_nodes.specs.Index.{ChangesTails}
use Rattle.session_nodes.specs.Links.{Leads}
use Rattle.session_nodes.specs.Node.{StoredNode}
use Rattle.session_nodes.specs.NodeList.{IsFound}
use Rattle.session_nodes.specs.Order.{AllStay}
use Rattle.session_nodes.proofs.KeptLemmas.{listed_nonzero, stand_kept}
use Rattle.session_nodes.proofs.LinkLemmas.{listed_append, listed_first, listed_later}
use Rattle.session_nodes.proofs.SearchLemmas.{link_some}
use Rattle.session_nodes.proofs.TailLemmas.{tail_node, tail_there}

module _ (first last : ℕ) (old new : Stock) (tails : ChangesTails old new) (blocks : List ℕ) (stand : StandAt first last old.nodes old.contents blocks) where
  pub contents_same : new.contents ≡ old.contents
  contents_same = ap (λ (s : Stock). s.contents) tails.rest

  pub account_same : new.account ≡ old.account
  account_same = ap (λ (s : Stock). s.account) tails.rest

  pub shape_same : new.nodes.shape ≡ old.nodes.shape
  shape_same = ap (λ (s : Stock). s.nodes.shape) tails.rest

  pub node_same : (b : ℕ) → is_listed blocks b ≡ true → node_at new.nodes b ≡ node_at old.nodes b
  node_same b t = tail_node old.nodes new.nodes b (tails.fronts b) (stand.each b t).there

  pub stays : AllStay old.nodes new.nodes old.contents old.contents blocks
  stays b t =
      let same = node_same b t in
      record {
        name = ap (λ (n : StoredNode). n.name) same;
        size = ap (λ (n : StoredNode). n.size) same;
        content = ap (λ (n : StoredNode). n.content) same;
        there = tail_there old.nodes new.nodes b (tails.fronts b) (stand.each b t).there;
        chunk = ap (λ (s : Stock). chunk_with s.nodes (b - 16)) tails.rest;
        offset = ap (λ (s : Stock). offset_of s.nodes (b - 16)) tails.rest;
        user = (tails.fronts b).user;
        bytes = λ some. refl;
      }

  more : length old.nodes.shape.chunks ≤ length new.nodes.shape.chunks
  more = omega (arith, ap (λ (s : Stock). length s.nodes.shape.chunks) tails.rest)

  pub stand_tails : StandAt first last new.nodes new.contents blocks
  stand_tails =
      subst (λ c. StandAt first last new.nodes c blocks) (sym contents_same)
      (stand_kept first last old.nodes new.nodes old.contents old.contents blocks stand more stays (λ b t. ap (λ (n : StoredNode). n.next) (node_same b t)))

-- a node that is found is found as it was
unfoldable pub found_tails : (first last : ℕ) (old new : Stock) (name : List ℕ) (previous address : ℕ) (node : StoredNode) → ChangesTails old new → IsFound first last old.nodes old.contents name previous address node →
    IsFound first last new.nodes new.contents name previous address node
found_tails first last old new name previous address node tails found =
    let all : List ℕ = found.before ++ address ∷ found.behind in
    let same = node_same first last old new tails all found.stand in
    let here : is_listed all address ≡ true = let l = listed_append found.before (address ∷ found.behind) address in grind (arith, nat_tests) in
    record {
      before = found.before;
      behind = found.behind;
      stand = stand_tails first last old new tails all found.stand;
      previous_is = found.previous_is;
      others = λ b t is. found.others b t (ap (λ (n : StoredNode). n.name) (sym (same b (let l = listed_append found.before (address ∷ found.behind) b in grind (arith, nat_tests)))) ∙ is);
      named = found.named;
      node_is = found.node_is ∙ sym (same address here);
    }

-- ---- the node behind another one

module _ (first last : ℕ) (nodes : OwnHeap) (contents : NatMap (List ℕ)) (before behind : List ℕ) (address : ℕ) (stand : StandAt first last nodes contents (before ++ address ∷ behind)) where
  -- the links lead on along the blocks behind it
  pub leads_on : Leads (link_in first nodes) address behind
  leads_on = leads_behind (link_in first nodes) 0 before stand.line.leads
    where
      leads_behind : (link : ℕ → ℕ) (holder : ℕ) (xs : List ℕ) → Leads link holder (xs ++ address ∷ behind) → Leads link address behind
      leads_behind link holder [] leads = leads.1
      leads_behind link holder (x ∷ xs) leads = leads_behind link x xs leads.1

  some : address ≢ 0
  some = listed_nonzero first last nodes contents (before ++ address ∷ behind) stand address (let l = listed_append before (address ∷ behind) address in grind (arith, nat_tests))

  pub next_is : (node_at nodes address).next ≡ link_in first nodes address
  next_is = sym (link_some first nodes address some)

  -- the next one, if there is one, is a node's
  pub next_there : (node_at nodes address).next ≢ 0 → HasBytes nodes.payloads (node_at nodes address).next 0 96
  next_there some = there behind leads_on (λ b t. (stand.each b (let l = listed_append before (address ∷ behind) b in grind (arith, nat_tests, listed_later))).there)
    where
      there : (ys : List ℕ) → Leads (link_in first nodes) address ys → ((b : ℕ) → is_listed ys b ≡ true → HasBytes nodes.payloads b 0 96) → HasBytes nodes.payloads (node_at nodes address).next 0 96
      there [] leads has = absurd (some (next_is ∙ leads))
      there (y ∷ ys) leads has = subst (λ x. HasBytes nodes.payloads x 0 96) (sym (next_is ∙ leads.0)) (has y (listed_first y ys))
