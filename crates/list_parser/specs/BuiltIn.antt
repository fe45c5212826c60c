-- The servers that the machine has built in.
use Rattle.trade_base.specs.Service.{service_name}
use Rattle.trade_base.specs.declared.service.BuiltInService.{BuiltInService}
use Rattle.own_model.specs.Listed.{Binary}
use Rattle.own_model.specs.Listed.Binary.{Server}
use Rattle.own_model.specs.Offer.{offer_of_service}

-- what the server of a service runs
abbrev pub built_in : BuiltInService → Binary
built_in service = Server (service_name service) (offer_of_service service)
