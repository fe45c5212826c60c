-- A node that is stored, a link that is set, and a node appended after the last one.
use Rattle.std.proofs.Common.{rules, ◌≡◌, ◌≢◌, ℕ, ◌-◌, true, false, cond, eqb, List, [], ◌∷◌, ◌++◌, drop, length, refl, sym, ap, subst, ◌∙◌, ⊎_elim, arith}
use Rattle.std.proofs.lemmas.Bool.{cases_eq}
use Rattle.std.proofs.lemmas.Bool.Decides.{nat_tests}
use Rattle.std.specs.Option.{unwrap_or}
use Rattle.std.specs.FinMap.{get, insert}
use Rattle.own_model.specs.NatMap.{NatMap}
use Rattle.own_model.specs.OwnHeap.{OwnHeap, chunk_with, offset_of}
use Rattle.own_model.proofs.NatMapLemmas.{get-insert}
use Rattle.sliced_heap.specs.Chain.{is_listed}
use Rattle.session_nodes.specs.Calls.{HasBytes}
use Rattle.session_nodes.specs.Order.{node_at, link_in, user_at, HoldsNode, StandAt}
use Rattle.session_nodes.specs.Index.{KeepsPlace}
use Rattle.session_nodes.specs.Node.{StoredNode, node_of}
use Rattle.session_nodes.specs.NodeList.{LinksTo, KeepsNode, IsFresh}
use Rattle.session_nodes.proofs.NodeKeptLemmas.{place_same}
use Rattle.session_nodes.specs.Order.{AllStay}
use Rattle.session_nodes.proofs.KeptLemmas.{stand_appended, blocks_are, ChunksStay, OffsetsStay}
use Rattle.session_nodes.proofs.LinkLemmas.{listed_first, listed_later, last_listed, unlisted}
use Rattle.session_nodes.proofs.SearchLemmas.{link_some}

-- ---- a node is stored

module _ (nodes later : OwnHeap) (block : ℕ) (payload : List ℕ) (stored : later ≡ record nodes { payloads = insert nodes.payloads block payload }) where
  -- other blocks hold what they held
  pub stored_payload : (b : ℕ) → b ≢ block → get later.payloads b ≡ get nodes.payloads b
  stored_payload b other = grind (arith, nat_tests, get-insert)

  pub stored_node : (b : ℕ) → b ≢ block → node_at later b ≡ node_at nodes b
  stored_node b other = ap (λ o. node_of (unwrap_or o [])) (stored_payload b other)

  pub stored_user : (b : ℕ) → b ≢ block → user_at later b ≡ user_at nodes b
  stored_user b other = ap (λ o. drop 96 (unwrap_or o [])) (stored_payload b other)

  pub stored_there : (b : ℕ) → b ≢ block → HasBytes nodes.payloads b 0 96 → HasBytes later.payloads b 0 96
  stored_there b other was = search (rules, stored_payload)

  pub stored_rest : later ≡ record nodes { payloads = later.payloads }
  stored_rest = stored ∙ ap (λ p. record nodes { payloads = p }) (sym (ap (λ (n : OwnHeap). n.payloads) stored))

  -- so a node with another link is all that has changed
  pub stored_links : (first target : ℕ) → block ≢ 0 → node_at later block ≡ record (node_at nodes block) { next = target } → HasBytes later.payloads block 0 96 → KeepsPlace nodes later block → user_at later block ≡ user_at nodes block →
      LinksTo first block target first nodes later
  stored_links first target some is there place user = record {
    linked = link_some first later block some ∙ ap (λ (n : StoredNode). n.next) is;
    links = λ b other. ap (λ (n : StoredNode). cond (eqb b 0) first n.next) (stored_node b other);
    rest = stored_rest;
    files = λ b was. ⊎_elim
        (λ (here : b ≡ block). subst (KeepsNode nodes later) (sym here) (record {
          name = ap (λ (n : StoredNode). n.name) is;
          size = ap (λ (n : StoredNode). n.size) is;
          content = ap (λ (n : StoredNode). n.content) is;
          there = there;
          place = place;
          user = user;
        }))
        (λ (other : b ≢ block). record {
          name = ap (λ (n : StoredNode). n.name) (stored_node b other);
          size = ap (λ (n : StoredNode). n.size) (stored_node b other);
          content = ap (λ (n : StoredNode). n.content) (stored_node b other);
          there = stored_there b other was;
          place = place_same nodes later b (stored_payload b other);
          user = stored_user b other;
        })
        (cases_eq b block);
  }

-- the session's own link is another one
pub first_links : (first target : ℕ) (nodes : OwnHeap) → LinksTo first 0 target target nodes nodes
first_links first target nodes = search (rules, place_same)

-- ---- a node more

-- the last node is still there when the new one is stored
module _ (first last : ℕ) (nodes mid : OwnHeap) (contents : NatMap (List ℕ)) (blocks : List ℕ) (stand : StandAt first last nodes contents blocks)
    (block : ℕ) (fresh : IsFresh first nodes block) (payload : List ℕ) (stored : mid ≡ record nodes { payloads = insert nodes.payloads block payload }) where
  pub last_there : last ≢ 0 → HasBytes mid.payloads last 0 96
  last_there some =
      let among : is_listed (0 ∷ blocks) last ≡ true = subst (λ l. is_listed (0 ∷ blocks) l ≡ true) (sym stand.last_is) (last_listed 0 blocks) in
      let listed : is_listed blocks last ≡ true = grind (arith, nat_tests, among, some) in
      let free = ap (λ xs. is_listed (0 ∷ xs) block) (sym (blocks_are first last nodes contents blocks stand)) ∙ fresh.free in
      stored_there nodes mid block payload stored last (unlisted (0 ∷ blocks) block last free among) (stand.each last listed).there

module _ (first last : ℕ) (nodes mid later : OwnHeap) (contents : NatMap (List ℕ)) (blocks : List ℕ) (stand : StandAt first last nodes contents blocks)
    (block : ℕ) (fresh : IsFresh first nodes block) (payload : List ℕ) (stored : mid ≡ record nodes { payloads = insert nodes.payloads block payload })
    (name : List ℕ) (back : node_at mid block ≡ record { next = 0; content = 0; size = 0; name = name }) (there : HasBytes mid.payloads block 0 96)
    (first_later : ℕ) (links : LinksTo first last block first_later mid later) where
  not_listed : is_listed (0 ∷ blocks) block ≡ false
  not_listed = ap (λ xs. is_listed (0 ∷ xs) block) (sym (blocks_are first last nodes contents blocks stand)) ∙ fresh.free

  other_block : (b : ℕ) → is_listed (0 ∷ blocks) b ≡ true → b ≢ block
  other_block b t = unlisted (0 ∷ blocks) block b not_listed t

  pub rest : later ≡ record nodes { payloads = later.payloads }
  rest = links.rest ∙ ap (λ (n : OwnHeap). record n { payloads = later.payloads }) (stored_rest nodes mid block payload stored)

  chunk_same : ChunksStay nodes later
  chunk_same a = ap (λ n. chunk_with n a) rest

  offset_same : OffsetsStay nodes later
  offset_same a = ap (λ n. offset_of n a) rest

  count_same : length later.shape.chunks ≡ length nodes.shape.chunks
  count_same = ap (λ (n : OwnHeap). length n.shape.chunks) rest

  pub stays : AllStay nodes later contents contents blocks
  stays b t =
      let other = other_block b (listed_later 0 b blocks t) in
      let one = stored_node nodes mid block payload stored b other in
      let file = links.files b (stored_there nodes mid block payload stored b other (stand.each b t).there) in
      record {
        name = file.name ∙ ap (λ (n : StoredNode). n.name) one;
        size = file.size ∙ ap (λ (n : StoredNode). n.size) one;
        content = file.content ∙ ap (λ (n : StoredNode). n.content) one;
        there = file.there;
        chunk = chunk_same (b - 16);
        offset = offset_same (b - 16);
        user = file.user ∙ stored_user nodes mid block payload stored b other;
        bytes = λ some. refl;
      }

  same_links : (b : ℕ) → is_listed (0 ∷ blocks) b ≡ true → b ≢ last → link_in first_later later b ≡ link_in first nodes b
  same_links b t other = search (rules, stored_node, other_block)

  block_some : block ≢ 0
  block_some e = other_block 0 (listed_first 0 blocks) (sym e)

  not_last : block ≢ last
  not_last e = other_block last (subst (λ l. is_listed (0 ∷ blocks) l ≡ true) (sym stand.last_is) (last_listed 0 blocks)) (sym e)

  ends : link_in first_later later block ≡ 0
  ends = links.links block not_last ∙ link_some first mid block block_some ∙ ap (λ (n : StoredNode). n.next) back

  pub new_node : KeepsNode mid later block
  new_node = links.files block there

  pub new_empty : (node_at later block).size ≡ 0
  new_empty = new_node.size ∙ ap (λ (n : StoredNode). n.size) back

  new_is_node : HoldsNode later contents block
  new_is_node = search (rules, new_node, chunk_same, count_same, new_empty)

  pub stand_new : StandAt first_later block later contents (blocks ++ block ∷ [])
  stand_new = stand_appended first last nodes later contents contents blocks stand (omega (arith, count_same)) first_later block stays same_links links.linked ends not_listed new_is_node new_empty
