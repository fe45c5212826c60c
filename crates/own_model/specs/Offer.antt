-- What a server offers to each of its sessions.
use Rattle.std.specs.Prelude.{◌≡◌, ℕ, List, Option, Some, None}
use Rattle.std.proofs.Common.{refl}
use Rattle.std.specs.Coded.{Coded, code_by, coded×, coded_ℕ, coded_list, coded_option}
use Rattle.trade_base.specs.declared.service.BuiltInService.{BuiltInService}
use Rattle.trade_base.specs.declared.service.BuiltInService.TheVariants.{Log, Files}
use Rattle.own_model.specs.ObjectKinds.{ObjectKind}

-- the lines of a log, files, or objects of some kinds
pub data Offer : Type 0 where
  OffersLog : Offer
  OffersFiles : Offer
  OffersObjects : List ObjectKind → Offer

-- what the servers of a service offer that the machine has built in
abbrev pub offer_of_service : BuiltInService → Offer
offer_of_service Log = OffersLog
offer_of_service Files = OffersFiles

-- ---- as parts of a model's value

-- a kind is stored as the tuple of its fields
abbrev pub coded_kind : Coded ObjectKind
coded_kind =
    code_by
    (List ℕ × (ℕ × ℕ))
    (coded× (coded_list coded_ℕ) (coded× coded_ℕ coded_ℕ))
    (λ k. (k.name, (k.block, k.bytes)))
    (λ p. record { name = p.0; block = p.1.0; bytes = p.1.1 })
    (λ _. refl)

-- an offer is stored as its kinds, if it is one of objects, or else as whether it is one of files
abbrev pub offer_parts : Offer → Option (Option (List ObjectKind))
offer_parts OffersLog = None
offer_parts OffersFiles = Some None
offer_parts (OffersObjects kinds) = Some (Some kinds)

abbrev pub offer_from : Option (Option (List ObjectKind)) → Offer
offer_from None = OffersLog
offer_from (Some None) = OffersFiles
offer_from (Some (Some kinds)) = OffersObjects kinds

abbrev pub offer_back : (offer : Offer) → offer_from (offer_parts offer) ≡ offer
offer_back OffersLog = refl
offer_back OffersFiles = refl
offer_back (OffersObjects kinds) = refl

abbrev pub coded_offer : Coded Offer
coded_offer = code_by (Option (Option (List ObjectKind))) (coded_option (coded_option (coded_list coded_kind))) offer_parts offer_from offer_back
