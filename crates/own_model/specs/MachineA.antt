-- The built-in machine A, as its text denotes it.
use Rattle.std.specs.Prelude.{ℕ, Bool, List, [], ◌∷◌, true, false, codes, None}
use Rattle.trade_base.specs.Service.{service_name}
use Rattle.trade_base.specs.declared.service.BuiltInService.TheVariants.{Log, Files}
use Rattle.own_model.specs.Listed.{Binary, Listed, ListedEntry}
use Rattle.own_model.specs.Listed.Binary.{Script, Server}
use Rattle.own_model.specs.Listed.Target.{AnyChild}
use Rattle.own_model.specs.Offer.Offer.{OffersLog, OffersFiles}

-- an entry of the machine's own list, without a route and a reserve
abbrev of_machine : List ℕ → Binary → ℕ → ℕ → Bool → ListedEntry
of_machine name binary ram caps provides = record {
  name = name;
  path = name;
  label = name;
  home = 0;
  binary = binary;
  ram = ram;
  caps = caps;
  provides = provides;
  route = None;
  reserve = None;
  inner_route = [];
}

-- one of the scripts
abbrev pub alice : ListedEntry
alice = of_machine (codes "alice") Script 65536 16 false

-- two servers and two scripts, whose session requests are routed to the only child that provides what they request
abbrev pub machine_a : Listed
machine_a = record {
  pages = 64;
  caps = 64;
  default_route = record { service = None; label = None; label_prefix = None; label_suffix = None; target = AnyChild } ∷ [];
  entries = of_machine (codes "log") (Server (service_name Log) OffersLog) 16384 8 true
      ∷ of_machine (codes "files") (Server (service_name Files) OffersFiles) 16384 8 true
      ∷ alice
      ∷ of_machine (codes "bob") Script 65536 16 false
      ∷ [];
}
