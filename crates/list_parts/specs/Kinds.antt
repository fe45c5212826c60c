-- What a component is, as cells of records.
use Rattle.std.specs.Prelude.{ℕ, Bool, List, [], ◌∷◌, codes, map, if◌then◌else◌, Option, Some, None}
use Rattle.std.specs.Option.{option_map}
use Rattle.serde_json.specs.Data.{Data}
use Rattle.own_model.specs.Listed.{Binary, ListedEntry, service_in}
use Rattle.own_model.specs.Listed.Binary.{Script, Server, Init}
use Rattle.own_model.specs.ObjectKinds.{ObjectKind}
use Rattle.own_model.specs.Offer.Offer.{OffersLog, OffersFiles, OffersObjects}
use Rattle.view_records.specs.JsonTexts.{list_data}
use Rattle.view_records.specs.Records.{CellData, Record, absent, null, number, text}

-- the word of a binary, as a list has it
abbrev pub binary_word : Binary → List ℕ
binary_word Script = codes "script"
binary_word (Server service OffersLog) = codes "log"
binary_word (Server service OffersFiles) = codes "files"
binary_word (Server service (OffersObjects kinds)) = codes "server"
binary_word Init = codes "init"

-- the kinds that a server declares
abbrev pub kinds_in : Binary → Option (List ObjectKind)
kinds_in Script = None
kinds_in (Server service OffersLog) = None
kinds_in (Server service OffersFiles) = None
kinds_in (Server service (OffersObjects kinds)) = Some kinds
kinds_in Init = None

abbrev pub kind_record : ObjectKind → Record
kind_record kind = (codes "kind", text kind.name) ∷ (codes "block", number kind.block) ∷ (codes "bytes", number kind.bytes) ∷ []

-- the kinds as a list, if a server declares some
abbrev pub kinds_data : Binary → Option Data
kinds_data binary = option_map (λ kinds. list_data (map kind_record kinds)) (kinds_in binary)

-- the service of a server, or null if the entry doesn't provide it
abbrev pub provided_by : Bool → Option (List ℕ) → CellData
provided_by provides None = absent
provided_by provides (Some service) = if provides then text service else null

abbrev pub provided_cell : ListedEntry → CellData
provided_cell entry = provided_by entry.provides (service_in entry.binary)
