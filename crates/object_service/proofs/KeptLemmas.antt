-- Objects that stay while others are created, changed and removed, and how many there can be.
use Rattle.std.proofs.Common.{◌≡◌, ℕ, ◌+◌, ◌*◌, ◌^◌, ◌<◌, ◌≤◌, true, List, ◌∷◌, length, sym, ap, subst, ◌∙◌, inl, inr, arith}
use Rattle.std.proofs.lemmas.Bool.{cases_eq}
use Rattle.std.proofs.lemmas.Bool.Decides.{nat_tests}
use Rattle.std.specs.Prelude.{◌/◌, ◌%◌}
use Rattle.own_model.specs.NatMap.{NatMap}
use Rattle.own_model.specs.ObjectKinds.{ObjectKind}
use Rattle.own_model.specs.OwnHeap.{OwnHeap}
use Rattle.session_nodes.specs.Frame.{is_listed}
use Rattle.session_nodes.specs.Node.{word_from}
use Rattle.session_nodes.specs.NodeList.{nodes_in, HasNodes}
use Rattle.session_nodes.specs.Order.{Stays}
use Rattle.session_nodes.specs.SoundHeaps.{Stock}
use Rattle.session_nodes.specs.declared.node_list.NodeList.{NodeList}
use Rattle.session_nodes.proofs.IndexLemmas.{few_below}
use Rattle.session_nodes.proofs.KeptLemmas.{blocks_are}
use Rattle.object_service.specs.Kinds.{kind_at}
use Rattle.object_service.specs.Objects.{object_at, number_at, IsObject}

module _ (nodes later : OwnHeap) (contents after : NatMap (List ℕ)) (b : ℕ) (stays : Stays nodes later contents after b) where
  -- the object of a node that stays is the same
  pub same_object : (kinds : List ObjectKind) → object_at kinds later b ≡ object_at kinds nodes b
  same_object kinds = λ i. record {
    name = stays.name i;
    kind = record (kind_at kinds (word_from (stays.user i) 0 / 65536)) { bytes = word_from (stays.user i) 0 % 65536 };
    units = word_from (stays.user i) 8;
    chunk = stays.chunk i;
    offset = stays.offset i;
  }

  pub same_number : number_at later b ≡ number_at nodes b
  same_number = ap (λ user. word_from user 0 / 65536) stays.user

  pub still_object : IsObject nodes b → IsObject later b
  still_object is = record {
    room = subst (λ user. 16 ≤ length user) (sym stays.user) is.room;
    size = stays.size ∙ is.size ∙ sym (ap (λ user. word_from user 8 * (word_from user 0 % 65536)) stays.user);
  }

-- nodes are fewer than addresses
pub few_nodes : (list : NodeList) (stock : Stock) → HasNodes list stock → length (nodes_in list stock) + 1 ≤ 2 ^ 64
few_nodes list stock has =
    let blocks = has.blocks in
    let are : nodes_in list stock ≡ blocks = blocks_are list.first list.last stock.nodes stock.contents blocks has.stand in
    let small : (b : ℕ) → is_listed (0 ∷ blocks) b ≡ true → b < 2 ^ 64 =
    λ b t. elim (cases_eq b 0) [
      | inl zero ↦ omega (arith, zero)
      | inr other ↦ has.indexed.named.small b (ap (λ bs. is_listed bs b) are ∙ grind (arith, nat_tests))
    ] in
    omega (arith, few_below (2 ^ 64) (0 ∷ blocks) has.stand.line.once small, ap length are)
