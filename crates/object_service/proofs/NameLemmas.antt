-- The object at a place in the order of creation, as it is named.
use Rattle.std.proofs.Common.{◌≡◌, ℕ, List, map, Some, None, sym, ap, ◌∙◌}
use Rattle.std.proofs.lemmas.Option.{slice_get-map}
use Rattle.std.specs.Prelude.{slice_get, ◌/◌}
use Rattle.std.specs.Option.{option_map}
use Rattle.own_model.specs.ObjectKinds.{ObjectKind}
use Rattle.own_model.specs.ObjectText.ObjectReply.{Named}
use Rattle.own_model.specs.OwnHeap.{OwnHeap}
use Rattle.session_nodes.specs.Order.{node_at}
use Rattle.object_service.specs.Kinds.{kind_at}
use Rattle.object_service.specs.Objects.{object_at, word_at, units_at}
use Rattle.object_service.specs.Session.{named_reply}

module _ (kinds : List ObjectKind) (nodes : OwnHeap) (blocks : List ℕ) (place : ℕ) where
  -- the words of its block tell its kind and its units
  pub named_at : (address word units : ℕ) (name : List ℕ) → Some address ≡ slice_get blocks place → name ≡ (node_at nodes address).name → word ≡ word_at nodes address → units ≡ units_at nodes address →
      Some (Named (kind_at kinds (word / 65536)).name name units) ≡ option_map named_reply (slice_get (map (object_at kinds nodes) blocks) place)
  named_at address word units name at name_is word_is units_is =
      (λ i. Some (Named (kind_at kinds (word_is i / 65536)).name (name_is i) (units_is i)))
      ∙ ap (λ o. option_map named_reply (option_map (object_at kinds nodes) o)) at
      ∙ sym (ap (option_map named_reply) (slice_get-map (object_at kinds nodes) blocks place))

  -- there is none
  pub none_at : None ≡ slice_get blocks place → None ≡ option_map named_reply (slice_get (map (object_at kinds nodes) blocks) place)
  none_at at = ap (λ o. option_map named_reply (option_map (object_at kinds nodes) o)) at ∙ sym (ap (option_map named_reply) (slice_get-map (object_at kinds nodes) blocks place))
