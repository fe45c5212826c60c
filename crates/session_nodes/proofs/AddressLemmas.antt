-- The node at a place: walks lead to it, and it is remembered.
use Rattle.std.proofs.Common.{◌≡◌, ◌≢◌, ℕ, ◌+◌, ◌-◌, ◌<◌, ◌≤◌, false, List, length, get_or, Some, refl, sym, ap, subst, ◌∙◌, arith}
use Rattle.std.proofs.lemmas.Option.{get_or_from_slice_get, slice_get_within, unwrap_or-slice_get}
use Rattle.std.specs.Prelude.{Option, None, slice_get}
use Rattle.std.specs.Option.{unwrap_or}
use Rattle.own_model.specs.NatMap.{NatMap}
use Rattle.own_model.specs.OwnHeap.{OwnHeap}
use Rattle.sliced_heap.specs.Chain.{is_listed}
use Rattle.session_nodes.specs.Calls.{HasBytes}
use Rattle.session_nodes.specs.Order.{link_in, nodes_from}
use Rattle.session_nodes.specs.Index.{AreListed, AreOnTheWay, IsAmong, word_at}
use Rattle.session_nodes.specs.Links.{followed}
use Rattle.session_nodes.specs.declared.recent.RecentNode.{RecentNode}
use Rattle.session_nodes.proofs.FollowLemmas.{first_at, followed_at, followed_back, followed_same, listed_at}
use Rattle.session_nodes.proofs.KeptLemmas.{blocks_are, listed_nonzero}
use Rattle.session_nodes.proofs.LinkLemmas.{once_first}
use Rattle.session_nodes.proofs.NextLemmas.{next_is}
use Rattle.session_nodes.proofs.NodeKeptLemmas.{back_of}
use Rattle.session_nodes.proofs.RecentLemmas.{get_listed}
use Rattle.session_nodes.proofs.SearchLemmas.{link_some}

some_of_default : (o : Option ℕ) (a : ℕ) → a ≡ unwrap_or o 0 → a ≢ 0 → o ≡ Some a
some_of_default None a is some = absurd (some is)
some_of_default (Some x) a is some = ap Some (sym is)

none_of_default : (o : Option ℕ) → unwrap_or o 0 ≡ 0 → ((x : ℕ) → o ≡ Some x → x ≢ 0) → o ≡ None
none_of_default None is some = refl
none_of_default (Some x) is some = absurd (some x refl is)

module _ (first last root : ℕ) {recent : Option RecentNode} (nodes : OwnHeap) (contents : NatMap (List ℕ)) (files : AreListed first last root recent nodes contents) where
  abbrev blocks : List ℕ
  blocks = files.blocks

  abbrev next : ℕ → ℕ
  next = word_at nodes 0

  abbrev previous : ℕ → ℕ
  previous = word_at nodes 88

  -- the block at a place, or 0
  abbrev address_of : ℕ → ℕ
  address_of place = unwrap_or (slice_get (nodes_from first nodes) place) 0

  are : nodes_from first nodes ≡ blocks
  are = blocks_are first last nodes contents blocks files.stand

  no_zero : is_listed blocks 0 ≡ false
  no_zero = once_first 0 blocks files.stand.line.once

  at : (place : ℕ) → get_or blocks place 0 ≡ address_of place
  at place = sym (ap (λ xs. unwrap_or (slice_get xs place) 0) are ∙ unwrap_or-slice_get blocks place 0)

  there : (k : ℕ) → get_or blocks k 0 ≢ 0 → HasBytes nodes.payloads (get_or blocks k 0) 0 96
  there k some = (files.stand.each (get_or blocks k 0) (listed_at blocks k some)).there

  -- ---- walks

  ahead : (n k : ℕ) → followed next n (get_or blocks k 0) ≡ get_or blocks (n + k) 0
  ahead n k =
      sym (followed_same (link_in first nodes) next (λ b some. link_some first nodes b some ∙ next_is nodes b) n (get_or blocks k 0))
      ∙ followed_at (link_in first nodes) 0 blocks no_zero files.stand.line.leads n k

  back : (n k : ℕ) → n + k < length blocks → followed previous n (get_or blocks (n + k) 0) ≡ get_or blocks k 0
  back n k inside = followed_back previous 0 blocks no_zero (back_of first last root nodes contents blocks files.stand files.indexed) n k inside

  way_ahead : (k n address : ℕ) → address ≡ get_or blocks k 0 → AreOnTheWay nodes 0 address n
  way_ahead k n address is j less some =
      let to = ap (followed next j) is ∙ ahead j k in
      subst (λ b. HasBytes nodes.payloads b 0 96) (sym to) (there (j + k) (λ e. some (to ∙ e)))

  found_ahead : (k place address : ℕ) → address ≡ get_or blocks k 0 → k ≤ place → followed next (place - k) address ≡ address_of place
  found_ahead k place address is low =
      let whole : place - k + k ≡ place = omega (arith, low) in
      ap (followed next (place - k)) is ∙ ahead (place - k) k ∙ ap (λ m. get_or blocks m 0) whole ∙ at place

  -- from the first node on
  first_is : first ≡ get_or blocks 0 0
  first_is = first_at (link_in first nodes) 0 blocks files.stand.line.leads

  pub first_way : (n : ℕ) → AreOnTheWay nodes 0 first n
  first_way n = way_ahead 0 n first first_is

  pub first_found : (place : ℕ) → followed next place first ≡ address_of place
  first_found place = let same : place ≡ place - 0 = omega arith in ap (λ n. followed next n first) same ∙ found_ahead 0 place first first_is (omega arith)

  -- from the remembered node on
  module _ (node : RecentNode) (is : recent ≡ Some node) where
    among : slice_get blocks node.place ≡ Some node.address
    among = ap (λ xs. slice_get xs node.place) (sym are) ∙ subst (λ r. IsAmong r (nodes_from first nodes)) is files.indexed.remembered

    address_is : node.address ≡ get_or blocks node.place 0
    address_is = sym (get_or_from_slice_get blocks node.place node.address 0 among)

    inside : node.place < length blocks
    inside = slice_get_within blocks node.place node.address among

    pub recent_way : (n : ℕ) → AreOnTheWay nodes 0 node.address n
    recent_way n = way_ahead node.place n node.address address_is

    pub recent_found : (place : ℕ) → node.place ≤ place → followed next (place - node.place) node.address ≡ address_of place
    recent_found place low = found_ahead node.place place node.address address_is low

    -- and back
    went_back : (n : ℕ) → n ≤ node.place → followed previous n node.address ≡ get_or blocks (node.place - n) 0
    went_back n few =
        let whole : n + (node.place - n) ≡ node.place = omega (arith, few) in
        let less : n + (node.place - n) < length blocks = omega (arith, few, inside) in
        ap (followed previous n) (address_is ∙ ap (λ m. get_or blocks m 0) (sym whole)) ∙ back n (node.place - n) less

    pub back_way : (n : ℕ) → n ≤ node.place → AreOnTheWay nodes 88 node.address n
    back_way n few j less some =
        let to = went_back j (omega (arith, few, less)) in
        subst (λ b. HasBytes nodes.payloads b 0 96) (sym to) (there (node.place - j) (λ e. some (to ∙ e)))

    pub back_found : (place : ℕ) → place ≤ node.place → followed previous (node.place - place) node.address ≡ address_of place
    back_found place low =
        let whole : node.place - (node.place - place) ≡ place = omega (arith, low) in
        went_back (node.place - place) (omega (arith, low)) ∙ ap (λ m. get_or blocks m 0) whole ∙ at place

  -- ---- what is found

  module _ (place address : ℕ) (is : address ≡ address_of place) where
    -- no node is there
    pub no_node : address ≡ 0 → slice_get (nodes_from first nodes) place ≡ None
    no_node zero =
        none_of_default (slice_get (nodes_from first nodes) place) (sym is ∙ zero)
        (λ x e. listed_nonzero first last nodes contents blocks files.stand x (get_listed blocks place x (ap (λ xs. slice_get xs place) (sym are) ∙ e)))

    module _ (some : address ≢ 0) where
      pub placed : slice_get (nodes_from first nodes) place ≡ Some address
      placed = some_of_default (slice_get (nodes_from first nodes) place) address is some

      pub found_there : HasBytes nodes.payloads address 0 96
      found_there = (files.stand.each address (get_listed blocks place address (ap (λ xs. slice_get xs place) (sym are) ∙ placed))).there

      -- it is remembered
      pub remembers : AreListed first last root (Some (record { place = place; address = address })) nodes contents
      remembers = record {
        blocks = blocks;
        stand = files.stand;
        indexed = record { named = files.indexed.named; back = files.indexed.back; remembered = placed };
      }
