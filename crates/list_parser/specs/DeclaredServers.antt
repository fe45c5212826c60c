-- What a JSON value says of a server that declares its service: the name of the service, and the kinds of its objects.
use Rattle.std.specs.Prelude.{ℕ, Bool, List, [], ◌∷◌, ◌++◌, length, codes, is_some, nat_le, if◌then◌else◌, map, Option, Some, None, Result, Ok, Err}
use Rattle.std.specs.List.{list_any}
use Rattle.std.specs.Option.{option_and_then, option_map}
use Rattle.std.specs.Str.{bytes_eq}
use Rattle.serde_json.specs.Data.{Data}
use Rattle.serde_json.specs.Find.{as_array}
use Rattle.trade_base.specs.Service.{service_name, services}
use Rattle.own_model.specs.ObjectKinds.{ObjectKind, kind_named, least_node, most_kind_bytes, most_kinds}
use Rattle.list_parser.specs.FaultPlace.{◌>>=◌, all_after, bad, bad_member, bad_whole, in_element, value_or}
use Rattle.list_parser.specs.Members.{elements, is_object, name_at, name_of, whole_at}
use Rattle.list_parser.specs.declared.fault.ConfigField.TheVariants as field
use Rattle.list_parser.specs.declared.list_fault.ExpectedValue.TheVariants as expect
use Rattle.list_parser.specs.declared.list_fault.FaultPart.TheVariants as part
use Rattle.list_parser.specs.declared.list_fault.Flaw.{Flaw}
use Rattle.list_parser.specs.declared.list_fault.ListFault.{ListFault}
use Rattle.list_parser.specs.declared.list_fault.ListMember.TheVariants as member

-- a service that a server declares, with the kinds of its objects
pub record DeclaredService : Type 0 where
  pub name : List ℕ
  pub kinds : List ObjectKind

-- the elements of a member, if it is a list
abbrev pub listed_in : Option Data → Option (List Data)
listed_in member = option_map elements (option_and_then as_array member)

-- ---- the name

-- a name that no service has which the machine has built in
abbrev pub is_built_in : List ℕ → Bool
is_built_in name = list_any (bytes_eq name) (map service_name services)

abbrev pub declarable : List ℕ → Option (List ℕ)
declarable name = if is_built_in name then None else Some name

-- exactly one text, which is such a name
abbrev pub declared_in : List Data → Option (List ℕ)
declared_in [] = None
declared_in (service ∷ []) = option_and_then declarable (name_of service)
declared_in (service ∷ another ∷ more) = None

abbrev pub service_declared : Option Data → Option (List ℕ)
service_declared member = option_and_then declared_in (listed_in member)

-- ---- the kinds

abbrev pub kind_of : Data → Result ObjectKind Flaw
kind_of d = do
  kind ← if is_object d then Ok d else Err (bad_whole expect.Object)
  name ← value_or (bad_member member.Kind expect.Name) (name_at (codes "kind") kind)
  block ← value_or (bad_member member.Block expect.BlockBytes) (whole_at (codes "block") least_node most_kind_bytes kind)
  bytes ← value_or (bad_member member.Bytes expect.UnitBytes) (whole_at (codes "bytes") 0 most_kind_bytes kind)
  Ok (record { name = name; block = block; bytes = bytes })

-- a kind after others, none of which has its name
abbrev pub new_kind : List ObjectKind → ObjectKind → Result ObjectKind Flaw
new_kind before kind = if is_some (kind_named kind.name before) then Err (bad_member member.Kind expect.NewKind) else Ok kind

abbrev pub kind_after : List ObjectKind → Data → Result ObjectKind Flaw
kind_after before d = kind_of d >>= new_kind before

abbrev pub with_next : List ObjectKind → Data → Result (List ObjectKind) ListFault
with_next before d = in_element field.Kinds (part.Kind (length before)) (kind_after before d) >>= (λ kind. Ok (before ++ kind ∷ []))

-- a list of at most 16 kinds
abbrev pub kinds_in : List Data → Result (List ObjectKind) ListFault
kinds_in ds = if nat_le (length ds) most_kinds then all_after with_next [] ds else Err (bad field.Kinds expect.Kinds)

abbrev pub kinds_declared : Option Data → Result (List ObjectKind) ListFault
kinds_declared member = value_or (bad field.Kinds expect.Kinds) (listed_in member) >>= kinds_in
