-- The kinds of objects in what a server offers.
use Rattle.std.specs.Prelude.{List, Option, Some, None}
use Rattle.own_model.specs.ObjectKinds.{ObjectKind}
use Rattle.own_model.specs.Offer.{Offer}
use Rattle.own_model.specs.Offer.Offer.{OffersLog, OffersFiles, OffersObjects}

-- the kinds, if the server offers objects
abbrev pub offered_kinds : Offer → Option (List ObjectKind)
offered_kinds OffersLog = None
offered_kinds OffersFiles = None
offered_kinds (OffersObjects kinds) = Some kinds
