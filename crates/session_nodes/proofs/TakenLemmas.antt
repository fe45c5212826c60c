-- A block that is allocated for a new node: the other nodes stay, and it is where the model has it.
use Rattle.std.proofs.Common.{◌≡◌, ◌≢◌, ℕ, ◌+◌, ◌-◌, ◌^◌, ◌<◌, ◌≤◌, true, false, List, [], ◌∷◌, drop, length, Option, Some, None, is_some, refl, sym, ap, subst, ◌∙◌, arith}
use Rattle.std.proofs.lemmas.Bool.Decides.{nat_tests}
use Rattle.std.proofs.lemmas.Option.{none-some}
use Rattle.std.specs.Option.{unwrap_or}
use Rattle.std.specs.FinMap.{get, insert}
use Rattle.own_model.specs.Account.{charged}
use Rattle.own_model.specs.BestFit.{Spot, block_size}
use Rattle.own_model.specs.Growth.{Growth, hole_for, growth_of, new_hole}
use Rattle.own_model.specs.HeapStep.{size_taken, with_block, with_chunk}
use Rattle.own_model.specs.NatMap.{NatMap}
use Rattle.own_model.specs.Nodes.{BlockTaken, block_taken}
use Rattle.own_model.specs.OwnHeap.{OwnHeap, chunk_with, offset_of, payload_start}
use Rattle.own_model.specs.OwnState.{zeros}
use Rattle.own_model.proofs.HeapBestFitLemmas.{best_is_hole}
use Rattle.own_model.proofs.ByteLemmas.{length-zeros}
use Rattle.own_model.proofs.NatMapLemmas.{some_of, get-insert, get-insert_same}
use Rattle.heap_core.proofs.TakesGrownLemmas.{growth_fits}
use Rattle.sliced_heap.specs.Chain.{is_listed}
use Rattle.session_nodes.specs.Calls.{HasBytes, TakesNode, TakesInHole, TakesInChunk}
use Rattle.session_nodes.specs.Order.{node_at, user_at, StandAt}
use Rattle.session_nodes.specs.SoundHeaps.{Stock}
use Rattle.session_nodes.specs.NodeList.{IsFresh, taken_in}
use Rattle.session_nodes.specs.Node.{StoredNode, node_of}
use Rattle.session_nodes.specs.Order.{AllStay}
use Rattle.session_nodes.proofs.KeptLemmas.{stand_kept, blocks_are}
use Rattle.session_nodes.proofs.PlaceLemmas.{HasPlaces, chunk_taken, offset_taken, count_taken, chunk_grown, offset_grown, placed_in_hole, placed_in_chunk, starts_at}

-- what a taken block leaves, and where it is
pub record Takes (asked first last : ℕ) (blocks : List ℕ) (block : ℕ) (old new : Stock) : Type 0 where
  pub stand : StandAt first last new.nodes new.contents blocks
  pub stay : AllStay old.nodes new.nodes old.contents new.contents blocks
  pub fresh : IsFresh first new.nodes block
  pub room : HasBytes new.nodes.payloads block 0 asked
  pub same : (b : ℕ) → is_listed blocks b ≡ true → get new.nodes.payloads b ≡ get old.nodes.payloads b
  pub chunk : chunk_with new.nodes (block - 16) ≡ (taken_in asked old).spot.chunk
  pub offset : offset_of new.nodes (block - 16) ≡ (taken_in asked old).spot.offset
  pub shape : new.nodes.shape ≡ (taken_in asked old).shape
  pub account : new.account ≡ (taken_in asked old).account

module _ (first last : ℕ) (nodes later : OwnHeap) (contents : NatMap (List ℕ)) (blocks : List ℕ) (stand : StandAt first last nodes contents blocks)
    (block : ℕ) (payload : List ℕ) (free : get nodes.payloads block ≡ None) (is : later.payloads ≡ insert nodes.payloads block payload)
    (chunk : (a : ℕ) → chunk_with nodes a < length nodes.shape.chunks → chunk_with later a ≡ chunk_with nodes a)
    (offset : (a : ℕ) → chunk_with nodes a < length nodes.shape.chunks → offset_of later a ≡ offset_of nodes a)
    (more : length nodes.shape.chunks ≤ length later.shape.chunks) where
  -- a block that has a payload is another one
  not_it : (b : ℕ) → is_listed blocks b ≡ true → b ≢ block
  not_it b t e = let there = some_of (get nodes.payloads b) (stand.each b t).there.there in none-some there.0 (sym free ∙ ap (get nodes.payloads) (sym e) ∙ there.1)

  same_payload : (b : ℕ) → is_listed blocks b ≡ true → get later.payloads b ≡ get nodes.payloads b
  same_payload b t = grind (arith, nat_tests, not_it, get-insert)

  same_node : (b : ℕ) → is_listed blocks b ≡ true → node_at later b ≡ node_at nodes b
  same_node b t = ap (λ o. node_of (unwrap_or o [])) (same_payload b t)

  same_user : (b : ℕ) → is_listed blocks b ≡ true → user_at later b ≡ user_at nodes b
  same_user b t = ap (λ o. drop 96 (unwrap_or o [])) (same_payload b t)

  pub taken_stays : AllStay nodes later contents contents blocks
  taken_stays b t = grind (arith, nat_tests, same_node, same_payload, same_user)

  pub stand_taken : StandAt first last later contents blocks
  stand_taken = stand_kept first last nodes later contents contents blocks stand more taken_stays (λ b t. ap (λ (n : StoredNode). n.next) (same_node b t))

  -- the block has a payload
  pub room_taken : (n : ℕ) → n ≤ length payload → HasBytes later.payloads block 0 n
  room_taken n long =
      let there : get later.payloads block ≡ Some payload = ap (λ m. get m block) is ∙ get-insert_same nodes.payloads block payload block refl in
      record { there = ap is_some there; within = subst (λ (o : Option (List ℕ)). 0 + n ≤ length (unwrap_or o [])) (sym there) (omega (arith, long)) }

  -- and is none of the list
  pub fresh_taken : 0 < block → block < 2 ^ 64 → 96 ≤ length payload → chunk_with later (block - 16) < length later.shape.chunks → IsFresh first later block
  fresh_taken some low long place =
      let unlisted : is_listed blocks block ≡ false = elim (is_listed blocks block) as (λ t. is_listed blocks block ≡ t → t ≡ false) [
        | true ↦ λ t. absurd (not_it block t refl)
        | false ↦ λ _. refl
      ] refl in
      record {
        there = room_taken 96 long;
        small = low;
        place = place;
        free = ap (λ xs. is_listed (0 ∷ xs) block) (blocks_are first last later contents blocks stand_taken) ∙ grind (arith, nat_tests);
      }

-- a hole gives a block as long as it is asked for, or longer
taken_least : (size n : ℕ) → size ≤ n → size ≤ size_taken size n
taken_least size n enough = grind (arith, nat_tests)

long_taken : (asked size : ℕ) → block_size asked ≤ size → asked ≤ length (zeros (size_taken (block_size asked) size - 16))
long_taken asked size enough =
    let e = length-zeros (size_taken (block_size asked) size - 16) in
    let fits : asked + 16 ≤ block_size asked = omega arith in
    omega (arith, e, fits, taken_least (block_size asked) size enough)

module _ (asked first last : ℕ) (least : 96 ≤ asked) (blocks : List ℕ) (block : ℕ) (low : block < 2 ^ 64) (old : Stock) (stand : StandAt first last old.nodes old.contents blocks) (has : HasPlaces old.nodes)
    (free : get old.nodes.payloads block ≡ None) where
  -- in the best hole
  in_hole : (hole : Spot) (new : Stock) → hole_for asked old.nodes.shape ≡ Some hole → TakesInHole asked hole block old new → Takes asked first last blocks block old new
  in_hole hole new best t =
      let later : OwnHeap = with_block asked hole old.nodes in
      let payload = zeros (size_taken (block_size asked) hole.size - 16) in
      let free_there : get old.nodes.payloads (payload_start old.nodes hole) ≡ None = ap (get old.nodes.payloads) (sym t.at) ∙ free in
      let is : later.payloads ≡ insert old.nodes.payloads block payload = ap (λ a. insert old.nodes.payloads a payload) (sym t.at) in
      let chunk : (a : ℕ) → chunk_with old.nodes a < length old.nodes.shape.chunks → chunk_with later a ≡ chunk_with old.nodes a = λ a _. chunk_taken old.nodes asked hole a in
      let offset : (a : ℕ) → chunk_with old.nodes a < length old.nodes.shape.chunks → offset_of later a ≡ offset_of old.nodes a = λ a _. offset_taken old.nodes asked hole a in
      let count = count_taken old.nodes asked hole in
      let place = placed_in_hole old.nodes asked block hole has best t.at in
      let enough = (best_is_hole (block_size asked) old.nodes.shape.chunks hole has.blocks best).1 in
      let here : chunk_with later (block - 16) ≡ hole.chunk = chunk_taken old.nodes asked hole (block - 16) ∙ place.1.0 in
      let into : offset_of later (block - 16) ≡ hole.offset = offset_taken old.nodes asked hole (block - 16) ∙ place.1.1 in
      let taken : block_taken asked (Some hole) old.nodes.shape old.account ≡ taken_in asked old = ap (λ o. block_taken asked o old.nodes.shape old.account) (sym best) in
      let takes : Takes asked first last blocks block old (record old { nodes = later }) = record {
        stand = stand_taken first last old.nodes later old.contents blocks stand block payload free is chunk offset (omega (arith, count));
        stay = taken_stays first last old.nodes later old.contents blocks stand block payload free is chunk offset (omega (arith, count));
        same = same_payload first last old.nodes later old.contents blocks stand block payload free is chunk offset (omega (arith, count));
        fresh = fresh_taken first last old.nodes later old.contents blocks stand block payload free is chunk offset (omega (arith, count))
            (omega (arith, t.at)) low (omega (arith, least, long_taken asked hole.size enough)) (omega (arith, here, place.0, count));
        room = room_taken first last old.nodes later old.contents blocks stand block payload free is chunk offset (omega (arith, count)) asked (long_taken asked hole.size enough);
        chunk = here ∙ ap (λ (t : BlockTaken). t.spot.chunk) taken;
        offset = into ∙ ap (λ (t : BlockTaken). t.spot.offset) taken;
        shape = ap (λ (t : BlockTaken). t.shape) taken;
        account = ap (λ (t : BlockTaken). t.account) taken;
      } in
      subst (Takes asked first last blocks block old) (sym t.is) takes

  -- in a new chunk
  in_chunk : (new : Stock) → HasPlaces new.nodes → hole_for asked old.nodes.shape ≡ None → TakesInChunk asked block old new → Takes asked first last blocks block old new
  in_chunk new later_has none t =
      let growth : Growth = growth_of asked old.nodes.shape old.account in
      let grown : OwnHeap = with_chunk growth t.start old.nodes in
      let hole : Spot = new_hole growth old.nodes.shape in
      let later : OwnHeap = with_block asked hole grown in
      let payload = zeros (size_taken (block_size asked) growth.bytes - 16) in
      let fits = growth_fits asked old.nodes.shape old.account in
      let has_later : HasPlaces later = subst (λ (s : Stock). HasPlaces s.nodes) t.is later_has in
      let place = placed_in_chunk old.nodes asked block t.start growth has fits t.at has_later in
      let start : payload_start grown hole ≡ block = starts_at old.nodes growth t.start has ∙ sym t.at in
      let is : later.payloads ≡ insert old.nodes.payloads block payload = ap (λ a. insert old.nodes.payloads a payload) start in
      let chunk : (a : ℕ) → chunk_with old.nodes a < length old.nodes.shape.chunks → chunk_with later a ≡ chunk_with old.nodes a =
      λ a within. chunk_taken grown asked hole a ∙ chunk_grown old.nodes growth t.start has a within in
      let offset : (a : ℕ) → chunk_with old.nodes a < length old.nodes.shape.chunks → offset_of later a ≡ offset_of old.nodes a =
      λ a within. offset_taken grown asked hole a ∙ offset_grown old.nodes growth t.start has a within in
      let more : length old.nodes.shape.chunks ≤ length later.shape.chunks = omega (arith, place.0) in
      let taken : block_taken asked None old.nodes.shape old.account ≡ taken_in asked old = ap (λ o. block_taken asked o old.nodes.shape old.account) (sym none) in
      let takes : Takes asked first last blocks block old (record old { account = charged old.account growth.bytes 1; nodes = later }) = record {
        stand = stand_taken first last old.nodes later old.contents blocks stand block payload free is chunk offset more;
        stay = taken_stays first last old.nodes later old.contents blocks stand block payload free is chunk offset more;
        same = same_payload first last old.nodes later old.contents blocks stand block payload free is chunk offset more;
        fresh = fresh_taken first last old.nodes later old.contents blocks stand block payload free is chunk offset more
            (omega (arith, t.at)) low (omega (arith, least, long_taken asked growth.bytes fits)) (omega (arith, place.0, place.1.0));
        room = room_taken first last old.nodes later old.contents blocks stand block payload free is chunk offset more asked (long_taken asked growth.bytes fits);
        chunk = place.1.0 ∙ ap (λ (t : BlockTaken). t.spot.chunk) taken;
        offset = place.1.1 ∙ ap (λ (t : BlockTaken). t.spot.offset) taken;
        shape = ap (λ (t : BlockTaken). t.shape) taken;
        account = ap (λ (t : BlockTaken). t.account) taken;
      } in
      subst (Takes asked first last blocks block old) (sym t.is) takes

  -- a taken block
  pub takes_node : (new : Stock) → HasPlaces new.nodes → TakesNode asked block old new → Takes asked first last blocks block old new
  takes_node new later_has t = elim (hole_for asked old.nodes.shape) as (λ o. hole_for asked old.nodes.shape ≡ o → Takes asked first last blocks block old new) [
    | Some hole ↦ λ best. in_hole hole new best (t.in_hole hole best)
    | None ↦ λ none. in_chunk new later_has none (t.in_chunk none)
  ] refl
