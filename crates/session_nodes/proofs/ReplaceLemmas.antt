-- A node that gets another content in place of its old one, which is freed afterwards.
use Rattle.std.proofs.Common.{◌≡◌, ◌≢◌, ℕ, ◌-◌, ◌<◌, true, List, ◌∷◌, ◌++◌, length, refl, sym, ap, subst, ◌∙◌, inl, inr, arith}
use Rattle.std.specs.Prelude.{Option}
use Rattle.std.proofs.lemmas.Bool.{cases_eq}
use Rattle.std.proofs.lemmas.Bool.Decides.{nat_tests}
use Rattle.std.specs.FinMap.{get, insert, remove}
use Rattle.own_model.specs.Account.{Account, credited}
use Rattle.own_model.specs.Nodes.{content_ram, content_caps}
use Rattle.own_model.specs.Sliced.{block_size, sliced_size}
use Rattle.own_model.specs.NatMap.{NatMap}
use Rattle.own_model.specs.OwnHeap.{OwnHeap}
use Rattle.own_model.proofs.NatMapLemmas.{get-remove}
use Rattle.sliced_heap.specs.Chain.{is_listed}
use Rattle.session_nodes.specs.Calls.{HasBytes}
use Rattle.session_nodes.specs.Order.{node_at, nodes_from, HasContent}
use Rattle.session_nodes.specs.Index.{AreListed, IsIndexed, KeepsPlace}
use Rattle.session_nodes.specs.Node.{StoredNode}
use Rattle.session_nodes.specs.declared.recent.RecentNode.{RecentNode}
use Rattle.session_nodes.specs.NodeList.{IsFound, IsOwn, Sets}
use Rattle.session_nodes.proofs.KeptLemmas.{blocks_are}
use Rattle.session_nodes.proofs.AppendLemmas.{stored_payload}
use Rattle.session_nodes.proofs.NodeKeptLemmas.{indexed_kept, place_same}
use Rattle.session_nodes.proofs.SearchLemmas.{in_blocks, content_long}
use Rattle.session_nodes.proofs.SetLemmas.{stand_rewritten, sets}

module _ (first last : ℕ) (nodes later : OwnHeap) (contents : NatMap (List ℕ)) (name : List ℕ) (previous address : ℕ) (node : StoredNode)
    (found : IsFound first last nodes contents name previous address node)
    (payload : List ℕ) (stored : later ≡ record nodes { payloads = insert nodes.payloads address payload })
    (content size : ℕ) (back : node_at later address ≡ record node { content = content; size = size }) (there : HasBytes later.payloads address 0 96)
    (has : 0 < size → HasContent contents (record node { content = content; size = size })) (own : 0 < size → IsOwn first nodes content)
    (root : ℕ) {recent : Option RecentNode} (indexed : IsIndexed first root recent nodes) (place : KeepsPlace nodes later address) where
  places : (b : ℕ) → is_listed (found.before ++ address ∷ found.behind) b ≡ true → KeepsPlace nodes later b
  places b t = elim (cases_eq b address) [
    | inl here ↦ subst (KeepsPlace nodes later) (sym here) place
    | inr other ↦ place_same nodes later b (stored_payload nodes later address payload stored b other)
  ]

  own_others : 0 < size → (b : ℕ) → is_listed (nodes_from first nodes) b ≡ true → b ≢ address → 0 < (node_at nodes b).size → (node_at nodes b).content ≢ content
  own_others some b t other some_b = own some b t some_b

  -- there was no old content
  pub kept_alone : AreListed first last root recent later contents
  kept_alone =
      let stand = stand_rewritten first last nodes later contents contents name previous address node found payload stored content size back there has own_others (λ a apart. refl) in
      record {
        blocks = found.before ++ address ∷ found.behind;
        stand = stand;
        indexed = indexed_kept first last root first last recent nodes later contents contents (found.before ++ address ∷ found.behind) found.stand stand places indexed;
      }

  blocks : nodes_from first nodes ≡ found.before ++ address ∷ found.behind
  blocks = blocks_are first last nodes contents (found.before ++ address ∷ found.behind) found.stand

  pub listed_alone : nodes_from first later ≡ nodes_from first nodes
  unfolding kept_alone
  listed_alone = blocks_are first last later contents (found.before ++ address ∷ found.behind) kept_alone.stand ∙ sym blocks

  pub sets_alone : Sets nodes later contents contents (nodes_from first nodes) address content size
  sets_alone =
      subst (λ bs. Sets nodes later contents contents bs address content size) (sym blocks)
      (sets first last nodes later contents contents name previous address node found payload stored content size back there has own_others (λ a apart. refl))

  -- the old content goes
  module _ (was_some : 0 < node.size) where
    abbrev pub left : NatMap (List ℕ)
    left = remove contents node.content

    gone : (a : ℕ) → (0 < node.size → a ≢ node.content) → get left a ≡ get contents a
    gone a apart = grind (arith, nat_tests, get-remove)

    pub content_stays : 0 < size → get left content ≡ get contents content
    content_stays some =
        let listed : is_listed (nodes_from first nodes) address ≡ true =
        ap (λ xs. is_listed xs address) (blocks_are first last nodes contents (found.before ++ address ∷ found.behind) found.stand) ∙ in_blocks first last nodes contents name previous address node found in
        gone content (λ _ e. own some address listed (subst (λ (n : StoredNode). 0 < n.size) found.node_is was_some) (ap (λ (n : StoredNode). n.content) (sym found.node_is) ∙ sym e))

    has_left : 0 < size → HasContent left (record node { content = content; size = size })
    has_left some = let h = has some in record { payload = h.payload; there = content_stays some ∙ h.there; long = h.long }

    pub kept_left : AreListed first last root recent later left
    kept_left =
        let stand = stand_rewritten first last nodes later contents left name previous address node found payload stored content size back there has_left own_others gone in
        record {
          blocks = found.before ++ address ∷ found.behind;
          stand = stand;
          indexed = indexed_kept first last root first last recent nodes later contents left (found.before ++ address ∷ found.behind) found.stand stand places indexed;
        }

    pub listed_left : nodes_from first later ≡ nodes_from first nodes
    unfolding kept_left
    listed_left = blocks_are first last later left (found.before ++ address ∷ found.behind) kept_left.stand ∙ sym blocks

    pub sets_left : Sets nodes later contents left (nodes_from first nodes) address content size
    sets_left =
        subst (λ bs. Sets nodes later contents left bs address content size) (sym blocks)
        (sets first last nodes later contents left name previous address node found payload stored content size back there has_left own_others gone)

-- what was charged for a content is credited
pub credited_is : (account : Account) (size : ℕ) (payload : List ℕ) → 0 < size → length payload ≡ sliced_size size - 32 →
    credited account (block_size payload) 1 ≡ credited account (content_ram size) (content_caps size)
credited_is account size payload some long = grind (arith, nat_tests, content_long)
