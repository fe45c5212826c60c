-- How objects are stored as parts of a model's value.
use Rattle.std.specs.Prelude.{ℕ, List}
use Rattle.std.proofs.Common.{refl}
use Rattle.std.specs.Coded.{Coded, code_by, coded×, coded_ℕ, coded_list}
use Rattle.own_model.specs.Growth.{Shape}
use Rattle.own_model.specs.ObjectKinds.{ObjectKind}
use Rattle.own_model.specs.ObjectService.{DeclaredObject, Objects}
use Rattle.own_model.specs.Offer.{coded_kind}
use Rattle.own_model.specs.OwnHeap.{coded_shape}

-- an object, and objects with the heap of their nodes, are stored as the tuples of their fields
abbrev pub coded_object : Coded DeclaredObject
coded_object =
    code_by
    (List ℕ × (ObjectKind × (ℕ × (ℕ × ℕ))))
    (coded× (coded_list coded_ℕ) (coded× coded_kind (coded× coded_ℕ (coded× coded_ℕ coded_ℕ))))
    (λ o. (o.name, (o.kind, (o.units, (o.chunk, o.offset)))))
    (λ p. record { name = p.0; kind = p.1.0; units = p.1.1.0; chunk = p.1.1.1.0; offset = p.1.1.1.1 })
    (λ _. refl)

abbrev pub coded_objects : Coded Objects
coded_objects =
    code_by
    (List DeclaredObject × Shape)
    (coded× (coded_list coded_object) coded_shape)
    (λ o. (o.objects, o.shape))
    (λ p. record { objects = p.0; shape = p.1 })
    (λ _. refl)
