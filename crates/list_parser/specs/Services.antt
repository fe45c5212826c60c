-- The services of a list as it stores them.
use Rattle.std.specs.Prelude.{◌≡◌, ℕ, List, ◌++◌, map}
use Rattle.trade_base.specs.Service.{service_name, services}
use Rattle.own_model.specs.Listed.{ListedEntry, services_of}
use Rattle.list_parser.specs.declared.list_service.ListService.{ListService}
use Rattle.list_parser.specs.declared.list_service.ListService.TheVariants.{BuiltIn, Declared}

-- the name of a service
abbrev pub service_text : ListService → List ℕ
service_text (BuiltIn service) = service_name service
service_text (Declared name) = name.now

-- the names of the services that the machine has built in, and then those that are declared
abbrev pub names_with : List (List ℕ) → List (List ℕ)
names_with declared = map service_name services ++ declared

-- they are the services of the entries
abbrev pub AreServices : List (List ℕ) → List ListedEntry → Type 0
AreServices declared entries = names_with declared ≡ services_of entries
