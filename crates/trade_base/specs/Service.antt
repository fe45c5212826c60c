-- The services of servers: the one table of their names.
use Rattle.std.specs.Prelude.{List, ℕ, [], ◌∷◌, codes, Option}
use Rattle.std.specs.List.{find}
use Rattle.std.specs.Str.{bytes_eq}
use Rattle.trade_base.specs.declared.service.BuiltInService.{BuiltInService}
use Rattle.trade_base.specs.declared.service.BuiltInService.TheVariants.{Log, Files}

-- every service
abbrev pub services : List BuiltInService
services = Log ∷ Files ∷ []

-- the name by which clients request it
abbrev pub service_name : BuiltInService → List ℕ
service_name Log = codes "LOG"
service_name Files = codes "File_system"

-- the name of the binary that serves it
abbrev pub binary_name : BuiltInService → List ℕ
binary_name Log = codes "log"
binary_name Files = codes "files"

-- the service of a binary's name, if it is one's
abbrev pub served_by_binary : List ℕ → Option BuiltInService
served_by_binary name = find (λ service. bytes_eq name (binary_name service)) services
