-- A node that is removed: the one before it is linked to the one behind it, and the others stay.
use Rattle.std.proofs.Common.{rules, ◌≡◌, ◌≢◌, ℕ, ◌-◌, ◌<◌, true, false, cond, eqb, List, [], ◌∷◌, ◌++◌, drop, length, refl, ap, ◌∙◌, arith}
use Rattle.std.proofs.lemmas.Bool.Decides.{nat_tests}
use Rattle.std.specs.Option.{unwrap_or}
use Rattle.std.specs.FinMap.{get}
use Rattle.own_model.specs.Growth.{shape_given}
use Rattle.own_model.specs.HeapStep.{without_block}
use Rattle.own_model.specs.NatMap.{NatMap}
use Rattle.own_model.specs.OwnHeap.{OwnHeap, chunk_with, offset_of}
use Rattle.own_model.proofs.NatMapLemmas.{get-remove}
use Rattle.sliced_heap.specs.Chain.{is_listed}
use Rattle.session_nodes.specs.Calls.{HasBytes}
use Rattle.session_nodes.specs.Order.{node_at, link_in, user_at, StandAt}
use Rattle.session_nodes.specs.Links.{last_of}
use Rattle.session_nodes.specs.Node.{StoredNode, node_of}
use Rattle.session_nodes.specs.NodeList.{IsFound, LinksTo}
use Rattle.session_nodes.specs.Order.{AllStay, OthersStay}
use Rattle.session_nodes.proofs.KeptLemmas.{stand_without, listed_nonzero, ChunksStay, OffsetsStay}
use Rattle.session_nodes.proofs.LinkLemmas.{listed_append, last_listed, once_later, once_apart, unlisted}
use Rattle.session_nodes.proofs.PlaceLemmas.{chunk_given, offset_given, count_given}
use Rattle.session_nodes.proofs.SearchLemmas.{in_blocks, not_old}

module _ (first last : ℕ) (nodes mid later : OwnHeap) (contents after : NatMap (List ℕ)) (name : List ℕ) (previous address : ℕ) (node : StoredNode)
    (found : IsFound first last nodes contents name previous address node)
    (first_later last_later : ℕ) (links : LinksTo first previous node.next first_later nodes mid) (given : later ≡ without_block address mid)
    (last_is : last_later ≡ cond (eqb last address) previous last)
    (gone : (a : ℕ) → (0 < node.size → a ≢ node.content) → get after a ≡ get contents a) where
  abbrev all : List ℕ
  all = found.before ++ address ∷ found.behind

  chunk_same : ChunksStay nodes later
  chunk_same a = ap (λ n. chunk_with n a) given ∙ chunk_given mid address a ∙ ap (λ n. chunk_with n a) links.rest

  offset_same : OffsetsStay nodes later
  offset_same a = ap (λ n. offset_of n a) given ∙ offset_given mid address a ∙ ap (λ n. offset_of n a) links.rest

  count_same : length later.shape.chunks ≡ length nodes.shape.chunks
  count_same = ap (λ (n : OwnHeap). length n.shape.chunks) given ∙ count_given mid address ∙ ap (λ (n : OwnHeap). length n.shape.chunks) links.rest

  in_all : is_listed all address ≡ true
  in_all = in_blocks first last nodes contents name previous address node found

  -- other blocks stay when one is given back
  left_payload : (b : ℕ) → b ≢ address → get later.payloads b ≡ get mid.payloads b
  left_payload b other = grind (arith, nat_tests, get-remove)

  left_node : (b : ℕ) → b ≢ address → node_at later b ≡ node_at mid b
  left_node b other = ap (λ o. node_of (unwrap_or o [])) (left_payload b other)

  left_user : (b : ℕ) → b ≢ address → HasBytes nodes.payloads b 0 96 → user_at later b ≡ user_at nodes b
  left_user b other was = ap (λ o. drop 96 (unwrap_or o [])) (left_payload b other) ∙ (links.files b was).user

  left_stays : OthersStay nodes later contents after all address
  left_stays b t other = let apart = not_old first last nodes contents name previous address node found b t other in grind (arith, nat_tests, left_node, left_payload, left_user, chunk_same, offset_same, apart)

  left_link : (b : ℕ) → b ≢ address → link_in first_later later b ≡ link_in first_later mid b
  left_link b other = ap (λ (n : StoredNode). cond (eqb b 0) first_later n.next) (left_node b other)

  left_links : (b : ℕ) → is_listed (0 ∷ all) b ≡ true → b ≢ address → b ≢ last_of 0 found.before → link_in first_later later b ≡ link_in first nodes b
  left_links b t other holder = left_link b other ∙ links.links b (λ e. holder (e ∙ found.previous_is))

  -- the one before it is another one
  previous_other : last_of 0 found.before ≢ address
  previous_other =
      let fresh : is_listed (0 ∷ found.before) address ≡ false =
      let some = listed_nonzero first last nodes contents all found.stand address in_all in
      let apart = once_apart found.before found.behind address (once_later 0 all found.stand.line.once) in
      let l = listed_append found.before found.behind address in
      grind (arith, nat_tests) in
      unlisted (0 ∷ found.before) address (last_of 0 found.before) fresh (last_listed 0 found.before)

  left_linked : link_in first_later later (last_of 0 found.before) ≡ (node_at nodes address).next
  left_linked = search (rules, left_link, previous_other)

  pub stand_removed : StandAt first_later last_later later after (found.before ++ found.behind)
  stand_removed = stand_without first last nodes later contents after all found.stand (omega (arith, count_same)) first_later last_later address found.before found.behind refl
      left_stays left_links left_linked (last_is ∙ ap (λ p. cond (eqb last address) p last) found.previous_is)

  pub stay_removed : AllStay nodes later contents after (found.before ++ found.behind)
  stay_removed b t =
      let fresh = once_apart found.before found.behind address (once_later 0 all found.stand.line.once) in
      let l = listed_append found.before (address ∷ found.behind) b in
      let w = listed_append found.before found.behind b in
      left_stays b (grind (arith, nat_tests)) (unlisted (found.before ++ found.behind) address b fresh t)

  pub shape_removed : later.shape ≡ shape_given (chunk_with nodes (address - 16)) (offset_of nodes (address - 16)) nodes.shape
  shape_removed = ap (λ (n : OwnHeap). n.shape) given ∙ ap (λ (n : OwnHeap). shape_given (chunk_with n (address - 16)) (offset_of n (address - 16)) n.shape) links.rest
