-- Entries and what they provide.
use Rattle.std.proofs.Common.{◌≡◌, ◌<◌, false, List, [], ◌∷◌, length, map, codes, None, Ok, refl, sym, ap, ◌∙◌, arith}
use Rattle.std.specs.Str.{bytes_eq}
use Rattle.serde_json.specs.View.{view}
use Rattle.serde_json.specs.declared.value.Value.{Value}
use Rattle.trade_base.specs.Service.{binary_name}
use Rattle.trade_base.specs.declared.service.BuiltInService.{BuiltInService}
use Rattle.trade_base.specs.declared.service.BuiltInService.TheVariants as service
use Rattle.own_model.proofs.ServiceLemmas.{found_again, is_no_init, is_no_script}
use Rattle.own_model.specs.Listed.{Binary}
use Rattle.list_parser.specs.BuiltIn.{built_in}
use Rattle.list_parser.specs.Entries.{provided_in, word_of}
use Rattle.list_parser.specs.Entries.BinaryWord.{Known}
use Rattle.list_parser.specs.View.{word_by}

-- no two services are provided
pub provides_too_many : (binary : Binary) (services : List Value) → 1 < length services → provided_in binary (map view services) ≡ None
provides_too_many binary [] many = absurd (omega arith)
provides_too_many binary (service ∷ []) many = absurd (omega arith)
provides_too_many binary (service ∷ another ∷ more) many = refl

-- a service's binary has another word than a server that declares its service
is_no_server : (of : BuiltInService) → bytes_eq (binary_name of) (codes "server") ≡ false
is_no_server service.Log = refl
is_no_server service.Files = refl

-- a service's binary is read by its name
known_read_back : (of : BuiltInService) → word_of (binary_name of) ≡ Ok (Known (built_in of))
known_read_back of = rw (is_no_script of, is_no_init of, is_no_server of, found_again of) refl

word_of_built_in : (of : BuiltInService) → word_by (built_in of) ≡ Known (built_in of)
word_of_built_in service.Log = refl
word_of_built_in service.Files = refl

pub word_read_back : (of : BuiltInService) → word_of (binary_name of) ≡ Ok (word_by (built_in of))
word_read_back of = known_read_back of ∙ ap Ok (sym (word_of_built_in of))
