-- When two binaries are the same.
use Rattle.std.proofs.Common.{◌≡◌, ◌&&◌, Bool, true, false, List, ℕ, refl}
use Rattle.std.specs.Str.{bytes_eq}
use Rattle.trade_base.specs.Service.{service_name}
use Rattle.trade_base.specs.declared.service.BuiltInService.{BuiltInService}
use Rattle.trade_base.specs.declared.service.BuiltInService.TheVariants.{Log, Files}
use Rattle.own_model.specs.Listed.Binary.{Server}
use Rattle.own_model.specs.ObjectKinds.{ObjectKind}
use Rattle.own_model.specs.Offer.Offer.{OffersObjects}
use Rattle.list_parser.specs.BuiltIn.{built_in}
use Rattle.list_diff.specs.Changes.{same_binary}

and_false : (a : Bool) → false ≡ (a && false)
and_false true = refl
and_false false = refl

-- servers of services that the machine has built in offer the same if their services have one name
pub same_built_in : (service server : BuiltInService) →
    bytes_eq (service_name service) (service_name server) ≡ same_binary (built_in service) (built_in server)
same_built_in Log Log = refl
same_built_in Log Files = refl
same_built_in Files Log = refl
same_built_in Files Files = refl

-- no such server is one that declares its service
pub built_in_differs : (service : BuiltInService) (name : List ℕ) (kinds : List ObjectKind) →
    false ≡ same_binary (built_in service) (Server name (OffersObjects kinds))
built_in_differs Log name kinds = and_false (bytes_eq (service_name Log) name)
built_in_differs Files name kinds = and_false (bytes_eq (service_name Files) name)

pub declared_differs : (service : BuiltInService) (name : List ℕ) (kinds : List ObjectKind) →
    false ≡ same_binary (Server name (OffersObjects kinds)) (built_in service)
declared_differs Log name kinds = and_false (bytes_eq name (service_name Log))
declared_differs Files name kinds = and_false (bytes_eq name (service_name Files))
