-- A node is removed, with its block and its content.
use Rattle.std.proofs.Common.{◌≡◌, ◌≢◌, ℕ, ◌-◌, ◌<◌, true, false, cond, eqb, List, [], ◌∷◌, ◌++◌, refl, sym, ap, subst, ◌∙◌, arith}
use Rattle.std.proofs.lemmas.Bool.Decides.{nat_tests}
use Rattle.std.specs.Prelude.{IsSome}
use Rattle.std.specs.Option.{unwrap_or}
use Rattle.std.specs.FinMap.{get, remove}
use Rattle.own_model.specs.Account.{Account, credited}
use Rattle.own_model.specs.Growth.{shape_given}
use Rattle.own_model.specs.HeapStep.{without_block}
use Rattle.own_model.specs.NatMap.{NatMap}
use Rattle.own_model.specs.Nodes.{content_ram, content_caps}
use Rattle.own_model.specs.OwnHeap.{OwnHeap, chunk_with, offset_of}
use Rattle.own_model.specs.Sliced.{block_size}
use Rattle.own_model.proofs.NatMapLemmas.{get-remove}
use Rattle.sliced_heap.specs.Chain.{is_listed}
use Rattle.session_nodes.specs.Calls.{payload_in, content_given, HasBytes}
use Rattle.session_nodes.specs.Order.{node_at, link_in, AllStay, StandAt}
use Rattle.session_nodes.specs.SoundHeaps.{Stock}
use Rattle.session_nodes.specs.Index.{ChangesTails, IsAmong, IsNamed, KeepsPlace, LeadsBack, previous_at, remembered_without}
use Rattle.session_nodes.specs.Node.{StoredNode}
use Rattle.session_nodes.specs.NodeList.{nodes_in, HasNodes, IsFound, LinksTo, NoneHas, Removes, Unlists}
use Rattle.session_nodes.specs.declared.node_list.NodeList.{NodeList}
use Rattle.session_nodes.proofs.BackLemmas.{back_kept}
use Rattle.session_nodes.proofs.IndexLemmas.{named_kept}
use Rattle.session_nodes.proofs.LinkLemmas.{listed_append, last_listed, once_apart, once_later, unlisted}
use Rattle.session_nodes.proofs.NodeKeptLemmas.{indexed_by, place_same, place_then}
use Rattle.session_nodes.proofs.RemoveLemmas.{stand_removed, stay_removed, shape_removed}
use Rattle.session_nodes.proofs.ReplaceLemmas.{credited_is}
use Rattle.session_nodes.proofs.KeptLemmas.{blocks_are, listed_nonzero, stays_then}
use Rattle.session_nodes.proofs.RecentLemmas.{among_without}
use Rattle.session_nodes.proofs.SearchLemmas.{found_node, found_content, in_blocks, link_some}
use Rattle.session_nodes.proofs.TailNodeLemmas.{contents_same, found_tails, stays}

-- the node before one that is found
pub previous_there : (first last : ℕ) (nodes : OwnHeap) (contents : NatMap (List ℕ)) (name : List ℕ) (previous address : ℕ) (node : StoredNode) →
    IsFound first last nodes contents name previous address node → previous ≢ 0 → HasBytes nodes.payloads previous 0 96
previous_there first last nodes contents name previous address node found some =
    let among : is_listed (0 ∷ found.before) previous ≡ true = subst (λ l. is_listed (0 ∷ found.before) l ≡ true) (sym found.previous_is) (last_listed 0 found.before) in
    let listed : is_listed found.before previous ≡ true = grind (arith, nat_tests, among, some) in
    let all = listed_append found.before (address ∷ found.behind) previous in
    (found.stand.each previous (grind (arith, nat_tests, all, listed))).there

-- one of these is one of more
listed_more : (before behind : List ℕ) (a b : ℕ) → is_listed (before ++ behind) b ≡ true → is_listed (before ++ a ∷ behind) b ≡ true
listed_more before behind a b t = let all = listed_append before (a ∷ behind) b in let part = listed_append before behind b in grind (arith, nat_tests)

-- what is so of a node that is out of the tree, and still linked to
pub record IsUnlisted (list : NodeList) (old was : Stock) (root : ℕ) (name : List ℕ) (previous address : ℕ) (node : StoredNode) : Type 0 where
  pub found : IsFound list.first list.last was.nodes was.contents name previous address node
  pub named : IsNamed root was.nodes (found.before ++ found.behind)
  pub back : LeadsBack (previous_at was.nodes) 0 (found.before ++ found.behind)
  pub remembered : IsAmong list.recent (found.before ++ address ∷ found.behind)
  pub listed : nodes_in list old ≡ found.before ++ address ∷ found.behind
  pub others : NoneHas old.nodes (node_at old.nodes address).name found.before
  pub stay : AllStay old.nodes was.nodes old.contents was.contents (found.before ++ address ∷ found.behind)
  pub rest : was ≡ record old { nodes = record old.nodes { payloads = was.nodes.payloads } }
  pub node_was : node ≡ node_at old.nodes address

pub is_unlisted : (list later : NodeList) (old was : Stock) (name : List ℕ) (previous address : ℕ) (node : StoredNode) →
    HasNodes list old → IsFound list.first list.last old.nodes old.contents name (previous_at old.nodes address) address node → previous ≡ previous_at old.nodes address → ChangesTails old was → Unlists list later address old was →
    IsUnlisted list old was later.root name previous address node
unfolding found_tails
is_unlisted list later old was name previous address node has was_found is tails unlists =
    let from = subst (λ p. IsFound list.first list.last old.nodes old.contents name p address node) (sym is) was_found in
    let lists = unlists from.before from.behind from.stand in
    let all : List ℕ = from.before ++ address ∷ from.behind in
    let listed = blocks_are list.first list.last old.nodes old.contents all from.stand in
    record {
      found = found_tails list.first list.last old was name previous address node tails from;
      named = lists.0;
      back = lists.1;
      remembered = subst (IsAmong list.recent) listed has.indexed.remembered;
      listed = listed;
      others = λ b t same. from.others b t (same ∙ ap (λ (n : StoredNode). n.name) (sym from.node_is) ∙ from.named);
      stay = subst (λ c. AllStay old.nodes was.nodes old.contents c all) (sym (contents_same list.first list.last old was tails all from.stand)) (stays list.first list.last old was tails all from.stand);
      rest = tails.rest;
      node_was = from.node_is;
    }

-- nothing is credited
pub credited_none : (account : Account) → credited account 0 0 ≡ account
credited_none account = grind (arith, nat_tests)

module _ (list later : NodeList) (old was linked given : Stock) (root : ℕ) (name : List ℕ) (previous address : ℕ) (node : StoredNode)
    (is : IsUnlisted list old was root name previous address node)
    (links : LinksTo list.first previous node.next later.first was.nodes linked.nodes)
    (rest : linked ≡ record was { nodes = linked.nodes }) (same_root : later.root ≡ root) where
  abbrev before : List ℕ
  before = is.found.before

  abbrev behind : List ℕ
  behind = is.found.behind

  -- its block is still there after the links lead past it
  pub linked_there : IsSome (get linked.nodes.payloads address)
  linked_there = (links.files address (found_node list.first list.last was.nodes was.contents name previous address node is.found).there).there.there

  module _ (gives : given ≡ record linked { nodes = without_block address linked.nodes }) where
    given_contents : given.contents ≡ was.contents
    given_contents = ap (λ (s : Stock). s.contents) gives ∙ ap (λ (s : Stock). s.contents) rest

    given_account : given.account ≡ was.account
    given_account = ap (λ (s : Stock). s.account) gives ∙ ap (λ (s : Stock). s.account) rest

    -- so is its content
    pub given_there : 0 < node.size → IsSome (get given.contents node.content)
    given_there some = grind (arith, nat_tests, found_content list.first list.last was.nodes was.contents name previous address node is.found some)

    module _ (last_is : later.last ≡ cond (eqb list.last address) previous list.last) (recent_is : later.recent ≡ remembered_without list.recent address node.next) where
      -- it is removed, whatever became of its content
      removed_as : (new : Stock) → new.nodes ≡ given.nodes → ((a : ℕ) → (0 < node.size → a ≢ node.content) → get new.contents a ≡ get was.contents a) →
          new.account ≡ credited was.account (content_ram node.size) (content_caps node.size) → Removes list later address old new
      removed_as new nodes gone account =
          let without : new.nodes ≡ without_block address linked.nodes = nodes ∙ ap (λ (s : Stock). s.nodes) gives in
          record {
            before = before;
            behind = behind;
            was = is.listed;
            others = is.others;
            kept = record {
              blocks = before ++ behind;
              stand = stand new without gone;
              indexed = indexed_by later.first later.last later.root later.recent new.nodes new.contents (before ++ behind) (stand new without gone)
                  (named_kept later.root was.nodes new.nodes (before ++ behind) (λ b t. let p = places new without b t in record { name = p.name; padded = p.padded }) (λ b t. (places new without b t).links)
                  (subst (λ r. IsNamed r was.nodes (before ++ behind)) (sym same_root) is.named))
                  (back_kept (previous_at was.nodes) (previous_at new.nodes) 0 (before ++ behind) (λ b t. (places new without b t).previous) is.back)
                  remembered;
            };
            listed = blocks_are later.first later.last new.nodes new.contents (before ++ behind) (stand new without gone);
            stay = λ b t. stays_then old.nodes was.nodes new.nodes old.contents was.contents new.contents b (is.stay b (listed_more before behind address b t))
                (stay_removed list.first list.last was.nodes linked.nodes new.nodes was.contents new.contents name previous address node is.found later.first later.last links without last_is gone b t);
            shape = shape_removed list.first list.last was.nodes linked.nodes new.nodes was.contents new.contents name previous address node is.found later.first later.last links without last_is gone
                ∙ ap (λ (s : Stock). shape_given (chunk_with s.nodes (address - 16)) (offset_of s.nodes (address - 16)) s.nodes.shape) is.rest;
            account = account ∙ (λ i. credited (is.rest i).account (content_ram (is.node_was i).size) (content_caps (is.node_was i).size));
          }
        where
          stand : (new : Stock) → new.nodes ≡ without_block address linked.nodes → ((a : ℕ) → (0 < node.size → a ≢ node.content) → get new.contents a ≡ get was.contents a) →
              StandAt later.first later.last new.nodes new.contents (before ++ behind)
          stand new without gone = stand_removed list.first list.last was.nodes linked.nodes new.nodes was.contents new.contents name previous address node is.found later.first later.last links without last_is gone

          -- what is remembered is at its place
          remembered : IsAmong later.recent (before ++ behind)
          remembered =
              let some = listed_nonzero list.first list.last was.nodes was.contents (before ++ address ∷ behind) is.found.stand address (in_blocks list.first list.last was.nodes was.contents name previous address node is.found) in
              let next = ap (λ (n : StoredNode). n.next) is.found.node_is ∙ sym (link_some list.first was.nodes address some) in
              subst (λ r. IsAmong r (before ++ behind)) (sym recent_is)
              (among_without (link_in list.first was.nodes) 0 node.next list.recent before behind address (once_later 0 (before ++ address ∷ behind) is.found.stand.line.once) is.found.stand.line.leads next is.remembered)

          -- the others keep their places
          places : (new : Stock) → new.nodes ≡ without_block address linked.nodes → (b : ℕ) → is_listed (before ++ behind) b ≡ true → KeepsPlace was.nodes new.nodes b
          places new without b t =
              let listed = listed_more before behind address b t in
              let other : b ≢ address = unlisted (before ++ behind) address b (once_apart before behind address (once_later 0 (before ++ address ∷ behind) is.found.stand.line.once)) t in
              let left : get new.nodes.payloads b ≡ get linked.nodes.payloads b = ap (λ (n : OwnHeap). get n.payloads b) without ∙ get-remove linked.nodes.payloads address b ∙ (let e : eqb b address ≡ false = grind (arith, nat_tests) in rw e refl) in
              place_then was.nodes linked.nodes new.nodes b (links.files b (is.found.stand.each b listed).there).place (place_same linked.nodes new.nodes b left)

      -- a node without bytes had no content
      pub removed_empty : node.size ≡ 0 → Removes list later address old given
      removed_empty none =
          removed_as given refl (λ a apart. ap (λ (m : NatMap (List ℕ)). get m a) given_contents)
          (given_account ∙ sym (ap (λ n. credited was.account (content_ram n) (content_caps n)) none ∙ credited_none was.account))

      -- else its content is freed
      pub removed_full : (new : Stock) → 0 < node.size → new ≡ content_given node.content given → Removes list later address old new
      removed_full new some freed =
          let has = found_content list.first list.last was.nodes was.contents name previous address node is.found some in
          let payload : payload_in given.contents node.content ≡ has.payload = ap (λ o. unwrap_or o []) (ap (λ (m : NatMap (List ℕ)). get m node.content) given_contents ∙ has.there) in
          let left : (a : ℕ) → a ≢ node.content → get (remove was.contents node.content) a ≡ get was.contents a =
          λ a other. let e : eqb a node.content ≡ false = grind (arith, nat_tests) in get-remove was.contents node.content a ∙ rw e refl in
          removed_as new (ap (λ (s : Stock). s.nodes) freed)
          (λ a apart. ap (λ (m : NatMap (List ℕ)). get m a) (ap (λ (s : Stock). s.contents) freed ∙ ap (λ (m : NatMap (List ℕ)). remove m node.content) given_contents) ∙ left a (apart some))
          (ap (λ (s : Stock). s.account) freed
          ∙ (λ i. credited (given_account i) (block_size (payload i)) 1)
          ∙ credited_is was.account node.size has.payload some has.long)
