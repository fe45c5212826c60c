-- A new node, linked to by the last one, is entered in the tree.
use Rattle.std.proofs.Common.{◌≡◌, ◌≢◌, ℕ, ◌^◌, true, false, List, [], ◌∷◌, ◌++◌, sym, ap, subst, ◌∙◌, arith}
use Rattle.std.specs.Prelude.{Option}
use Rattle.std.proofs.lemmas.Bool.Decides.{nat_tests}
use Rattle.std.specs.FinMap.{insert}
use Rattle.own_model.specs.NatMap.{NatMap}
use Rattle.own_model.specs.OwnHeap.{OwnHeap}
use Rattle.sliced_heap.specs.Chain.{is_listed}
use Rattle.session_nodes.specs.Order.{node_at, nodes_from, StandAt}
use Rattle.session_nodes.specs.SoundHeaps.{Stock}
use Rattle.session_nodes.specs.Index.{AreListed, IsAmong, CanEnter, ChangesTree, Enters, IsPadded, KeepsPlace, previous_at}
use Rattle.session_nodes.specs.Links.{last_of}
use Rattle.session_nodes.specs.Node.{StoredNode, rank_of}
use Rattle.session_nodes.specs.declared.recent.RecentNode.{RecentNode}
use Rattle.session_nodes.specs.NodeList.{LinksTo, IsFresh}
use Rattle.session_nodes.proofs.AppendLemmas.{stand_new, stored_payload}
use Rattle.session_nodes.proofs.BackLemmas.{back_appended}
use Rattle.session_nodes.proofs.IndexLemmas.{few_below, named_kept}
use Rattle.session_nodes.proofs.KeptLemmas.{blocks_are}
use Rattle.session_nodes.proofs.LinkLemmas.{listed_first, listed_later, once_later, unlisted}
use Rattle.session_nodes.proofs.RecentLemmas.{among_appended}
use Rattle.session_nodes.proofs.NodeKeptLemmas.{back_of, indexed_by, named_of, place_same, place_then}
use Rattle.session_nodes.proofs.TailNodeLemmas.{stand_tails}

module _ (first last root : ℕ) {recent : Option RecentNode} (nodes mid linked : OwnHeap) (contents : NatMap (List ℕ)) (files : AreListed first last root recent nodes contents)
    (block : ℕ) (fresh : IsFresh first nodes block) (payload : List ℕ) (stored : mid ≡ record nodes { payloads = insert nodes.payloads block payload })
    (name : List ℕ) (back : node_at mid block ≡ record { next = 0; content = 0; size = 0; name = name }) (padded : IsPadded mid block)
    (first_later : ℕ) (links : LinksTo first last block first_later mid linked)
    (new : (b : ℕ) → is_listed (nodes_from first nodes) b ≡ true → rank_of (node_at nodes b).name ≢ rank_of name) where
  abbrev blocks : List ℕ
  blocks = files.blocks

  are : nodes_from first nodes ≡ files.blocks
  are = blocks_are first last nodes contents files.blocks files.stand

  not_listed : is_listed (0 ∷ files.blocks) block ≡ false
  not_listed = ap (λ xs. is_listed (0 ∷ xs) block) (sym are) ∙ fresh.free

  -- the others keep their places
  places : (b : ℕ) → is_listed files.blocks b ≡ true → KeepsPlace nodes linked b
  places b t =
      let other : b ≢ block = unlisted (0 ∷ files.blocks) block b not_listed (listed_later 0 b files.blocks t) in
      let same = place_same nodes mid b (stored_payload nodes mid block payload stored b other) in
      place_then nodes mid linked b same (links.files b (same.padded (files.indexed.named.padded b (ap (λ xs. is_listed xs b) are ∙ t))).there).place

  -- the new one has its name, and is linked back to the last one
  its : KeepsPlace mid linked block
  its = (links.files block padded.there).place

  its_name : (node_at linked block).name ≡ name
  its_name = its.name ∙ ap (λ (n : StoredNode). n.name) back

  pub can_enter : CanEnter root files.blocks block (rank_of name) linked
  can_enter = record {
    named = named_kept root nodes linked files.blocks (λ b t. record { name = (places b t).name; padded = (places b t).padded }) (λ b t. (places b t).links)
        (named_of first last root nodes contents files.blocks files.stand files.indexed);
    some = let some : block ≢ 0 = (λ e. unlisted (0 ∷ files.blocks) block 0 not_listed (listed_first 0 files.blocks) (sym e)) in omega (arith, some);
    small = fresh.small;
    free = let l = not_listed in grind (arith, nat_tests);
    padded = its.padded padded;
    ranked = ap rank_of its_name;
    fresh = λ b t same. new b (ap (λ xs. is_listed xs b) are ∙ t) (ap rank_of (sym (places b t).name) ∙ same);
    few = few_below (2 ^ 64) files.blocks (once_later 0 files.blocks files.stand.line.once) (λ b t. files.indexed.named.small b (ap (λ xs. is_listed xs b) are ∙ t));
  }

module _ (first last root : ℕ) {recent : Option RecentNode} (nodes mid : OwnHeap) (contents : NatMap (List ℕ)) (linked now : Stock) (files : AreListed first last root recent nodes contents)
    (block : ℕ) (fresh : IsFresh first nodes block) (payload : List ℕ) (stored : mid ≡ record nodes { payloads = insert nodes.payloads block payload })
    (name : List ℕ) (back : node_at mid block ≡ record { next = 0; content = 0; size = 0; name = name }) (padded : IsPadded mid block) (previous : previous_at mid block ≡ last)
    (first_later : ℕ) (links : LinksTo first last block first_later mid linked.nodes) (contents_are : linked.contents ≡ contents)
    (new : (b : ℕ) → is_listed (nodes_from first nodes) b ≡ true → rank_of (node_at nodes b).name ≢ rank_of name)
    (later_root : ℕ) (enters : Enters root block (rank_of name) later_root linked.nodes now.nodes) (tree : ChangesTree linked now) where
  place_of : (b : ℕ) → is_listed files.blocks b ≡ true → KeepsPlace nodes linked.nodes b
  place_of = places first last root nodes mid linked.nodes contents files block fresh payload stored name back padded first_later links new

  pub stand_linked : StandAt first_later block linked.nodes linked.contents (files.blocks ++ block ∷ [])
  stand_linked =
      subst (λ c. StandAt first_later block linked.nodes c (files.blocks ++ block ∷ [])) (sym contents_are)
      (stand_new first last nodes mid linked.nodes contents files.blocks files.stand block fresh payload stored name back padded.there first_later links)

  pub are_appended : AreListed first_later block later_root recent now.nodes now.contents
  are_appended =
      let stand = stand_tails first_later block linked now tree.tails (files.blocks ++ block ∷ []) stand_linked in
      let enter = can_enter first last root nodes mid linked.nodes contents files block fresh payload stored name back padded first_later links new in
      let was = back_of first last root nodes contents files.blocks files.stand files.indexed in
      let its_back : previous_at now.nodes block ≡ last_of 0 files.blocks = tree.previous block ∙ (links.files block padded.there).place.previous ∙ previous ∙ files.stand.last_is in
      record {
        blocks = files.blocks ++ block ∷ [];
        stand = stand;
        indexed = indexed_by first_later block later_root recent now.nodes now.contents (files.blocks ++ block ∷ []) stand (enters files.blocks enter)
            (back_appended (previous_at nodes) (previous_at now.nodes) 0 block files.blocks (λ b t. tree.previous b ∙ (place_of b t).previous) its_back was)
            (among_appended recent files.blocks block (subst (IsAmong recent) (blocks_are first last nodes contents files.blocks files.stand) files.indexed.remembered));
      }
