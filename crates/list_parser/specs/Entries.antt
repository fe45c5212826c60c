-- What a JSON value says as an entry of a start list, or its fault.
use Rattle.std.specs.Prelude.{ℕ, ◌+◌, ◌==◌, ◌&&◌, zero, suc, Bool, true, false, List, [], ◌∷◌, ◌++◌, length, codes, nat_le, if◌then◌else◌, Option, Some, None, Result, Ok, Err}
use Rattle.std.specs.List.{list_any}
use Rattle.std.specs.Option.{option_and_then, option_map, unwrap_or}
use Rattle.std.specs.Str.{bytes_eq}
use Rattle.serde_json.specs.Data.{Data}
use Rattle.serde_json.specs.Find.{get, as_array, as_str}
use Rattle.own_model.specs.Amounts.{Amounts}
use Rattle.trade_base.specs.Service.{served_by_binary}
use Rattle.own_model.specs.Listed.{Binary, ListedEntry, ListedRule, serves}
use Rattle.own_model.specs.Listed.Binary.{Script, Server, Init}
use Rattle.own_model.specs.Offer.{Offer}
use Rattle.own_model.specs.Offer.Offer.{OffersLog, OffersFiles, OffersObjects}
use Rattle.list_parser.specs.BuiltIn.{built_in}
use Rattle.list_parser.specs.DeclaredServers.{kinds_declared, service_declared}
use Rattle.list_parser.specs.declared.fault.BootFault.{BootFault}
use Rattle.list_parser.specs.declared.fault.BootFault.TheVariants.{BadConfig, DuplicateName, UnknownBinary}
use Rattle.list_parser.specs.declared.fault.ConfigField.TheVariants as field
use Rattle.list_parser.specs.declared.list_fault.ExpectedValue.{ExpectedValue}
use Rattle.list_parser.specs.declared.list_fault.ExpectedValue.TheVariants as expect
use Rattle.list_parser.specs.declared.list_fault.FaultPart.TheVariants as part
use Rattle.list_parser.specs.declared.list_fault.ListFault.{ListFault}
use Rattle.list_parser.specs.declared.list_fault.ListMember.TheVariants.{Field}
use Rattle.list_parser.specs.FaultPlace.{◌>>=◌, all_after, at_entry, bad, fault_at, in_config, value_or}
use Rattle.list_parser.specs.Members.{amount_at, amount_in, elements, is_object, name_at, name_in, short_list, whole_at, whole_in}
use Rattle.list_parser.specs.Rules.{rules_of}

-- an entry is an object
abbrev pub object_of : Data → Result Data ListFault
object_of d = if is_object d then Ok d else Err (fault_at (BadConfig field.Start) part.Whole None expect.Object)

-- ---- the place of a list

-- the list of an init: the number of that, its path and its label, both empty of the machine's
pub record ListPlace : Type 0 where
  pub init : ℕ
  pub path : List ℕ
  pub label : List ℕ

abbrev pub outermost : ListPlace
outermost = record { init = 0; path = []; label = [] }

-- a name after those of the inits above it, with separators
abbrev pub behind : List ℕ → List ℕ → List ℕ → List ℕ
behind parts [] name = name
behind parts (b ∷ above) name = (b ∷ above) ++ parts ++ name

-- the state of a reader of a list and of those around it: the entries so far, and the number of entries of all lists that
-- were met
pub record SoFar : Type 0 where
  pub entries : List ListedEntry
  pub met : ℕ

-- ---- an entry

-- a name, that no earlier entry of its list has
abbrev pub is_taken : List ListedEntry → ℕ → List ℕ → Bool
is_taken before init name = list_any (λ entry. entry.home == init && bytes_eq entry.name name) before

abbrev pub taken_name : List ℕ → ListFault
taken_name name = fault_at (DuplicateName name) part.Whole (Some (Field field.Name)) expect.NewName

abbrev pub new_name : List ListedEntry → ℕ → List ℕ → Result (List ℕ) ListFault
new_name before init name = if is_taken before init name then Err (taken_name name) else Ok name

-- the text of a binary: without the member it is the name
abbrev pub binary_text : List ℕ → Option Data → Result (List ℕ) ListFault
binary_text name None = Ok name
binary_text name (Some d) = value_or (bad field.Binary expect.Binary) (as_str d)

-- the fault of a text that is no binary's, which names it if it is a name
abbrev pub no_binary : Option (List ℕ) → ListFault
no_binary None = bad field.Binary expect.Binary
no_binary (Some name) = fault_at (UnknownBinary name) part.Whole (Some (Field field.Binary)) expect.Binary

-- what the word of a binary says: a binary with its service, or a server that declares its service
pub data BinaryWord : Type 0 where
  Known : Binary → BinaryWord
  Declares : BinaryWord

abbrev pub word_of : List ℕ → Result BinaryWord ListFault
word_of text =
    if bytes_eq text (codes "script") then Ok (Known Script)
    else (if bytes_eq text (codes "init") then Ok (Known Init)
    else (if bytes_eq text (codes "server") then Ok Declares
    else value_or (no_binary (name_in text)) (option_map (λ service. Known (built_in service)) (served_by_binary text))))

-- the word of an entry's binary
abbrev pub word_of_entry : List ℕ → Option Data → Result BinaryWord ListFault
word_of_entry name told = binary_text name told >>= word_of

-- what an entry runs, without kinds of objects, and whether it provides the binary's service
pub record Provider : Type 0 where
  pub binary : Binary
  pub provides : Bool

abbrev pub is_service_of : Binary → Data → Bool
is_service_of binary d = unwrap_or (option_map (serves binary) (as_str d)) false

-- at most one service, the one of the binary
abbrev pub provided_in : Binary → List Data → Option Bool
provided_in binary [] = Some false
provided_in binary (service ∷ []) = if is_service_of binary service then Some true else None
provided_in binary (service ∷ another ∷ more) = None

-- whether the service is provided: without the member it isn't
abbrev pub provided : Binary → Option Data → Option Bool
provided binary None = Some false
provided binary (Some d) = option_and_then (provided_in binary) (option_map elements (as_array d))

-- a server that declares its service provides it
abbrev pub provider_of : BinaryWord → Option Data → Option Provider
provider_of (Known binary) member = option_map (λ provides. record { binary = binary; provides = provides }) (provided binary member)
provider_of Declares member = option_map (λ service. record { binary = Server service (OffersObjects []); provides = true }) (service_declared member)

-- what is expected of the member
abbrev pub provides_expected : BinaryWord → ExpectedValue
provides_expected (Known binary) = expect.Provides
provides_expected Declares = expect.DeclaredService

-- without the member there is no route of one's own
abbrev pub own_route : Option Data → Result (Option (List ListedRule)) ListFault
own_route None = Ok None
own_route (Some d) = rules_of field.Route d >>= (λ rules. Ok (Some rules))

-- a member of a script's entry, read by f if the member is there; in an entry of another binary it has no value
abbrev pub if_script : {A : Type 0} → (Data → Option A) → Binary → Option Data → Option (Option A)
if_script f binary None = Some None
if_script f Script (Some d) = option_map Some (f d)
if_script f (Server service offer) (Some d) = None
if_script f Init (Some d) = None

-- what is expected of such a member
abbrev pub if_script_expected : ExpectedValue → Binary → ExpectedValue
if_script_expected expected Script = expected
if_script_expected expected (Server service offer) = expect.NoReserve
if_script_expected expected Init = expect.NoReserve

-- a reserve is stated by one of its two members, or by both: the other one is 0 if it is missing
abbrev pub reserve_with : Option ℕ → Option ℕ → Option Amounts
reserve_with None None = None
reserve_with (Some ram) caps = Some (record { ram = ram; caps = unwrap_or caps 0 })
reserve_with None (Some caps) = Some (record { ram = 0; caps = caps })

-- the reserve in an entry of a binary
abbrev pub reserve_of_entry : Binary → Data → Result (Option Amounts) ListFault
reserve_of_entry binary entry = do
  ram ← value_or (bad field.Reserve (if_script_expected expect.Amount binary)) (if_script amount_in binary (get (codes "reserve") entry))
  caps ← value_or (bad field.ReserveCaps (if_script_expected expect.Caps binary)) (if_script (whole_in 0 4294967295) binary (get (codes "reserve-caps") entry))
  Ok (reserve_with ram caps)

-- a server that declares its service offers the kinds of the member; another binary ignores it
abbrev pub offer_with : Offer → Option Data → Result Offer ListFault
offer_with OffersLog member = Ok OffersLog
offer_with OffersFiles member = Ok OffersFiles
offer_with (OffersObjects none) member = kinds_declared member >>= (λ kinds. Ok (OffersObjects kinds))

abbrev pub with_kinds : Binary → Option Data → Result Binary ListFault
with_kinds Script member = Ok Script
with_kinds (Server service offer) member = offer_with offer member >>= (λ offered. Ok (Server service offered))
with_kinds Init member = Ok Init

-- ---- what an init starts

-- the default route and the values of the entries of a list
pub record ListConfig : Type 0 where
  pub route : List ListedRule
  pub starts : List Data

-- without the member no rule
abbrev pub default_route : Option Data → Result (List ListedRule) ListFault
default_route None = Ok []
default_route (Some d) = rules_of field.DefaultRoute d

-- the entries of a list, if all lists that were met have at most 32 together
abbrev pub starts_in : ℕ → Option Data → Option (List Data)
starts_in met d = option_and_then (λ starts. if nat_le (met + length starts) 32 then Some starts else None) (option_and_then short_list d)

-- a list is stated by two members of an object
abbrev pub own_of : ℕ → Data → Result ListConfig ListFault
own_of met d = do
  route ← default_route (get (codes "default-route") d)
  starts ← value_or (bad field.Start expect.Entries) (starts_in met (get (codes "start") d))
  Ok (record { route = route; starts = starts })

-- the list of an entry that starts nothing
abbrev pub nothing_own : ListConfig
nothing_own = record { route = []; starts = [] }

-- the list of an init, which is a member that is an object, if lists may nest deeper
abbrev pub config_of : Bool → ℕ → Option Data → Result ListConfig ListFault
config_of deeper met None = Err (bad field.Config expect.Object)
config_of deeper met (Some d) =
    if is_object d then (if deeper then in_config (own_of met d) else Err (bad field.Config expect.NoInit)) else Err (bad field.Config expect.Object)

-- an entry of another binary starts nothing, with any member
abbrev pub list_of_entry : Binary → Bool → ℕ → Option Data → Result ListConfig ListFault
list_of_entry Script deeper met d = Ok nothing_own
list_of_entry (Server service offer) deeper met d = Ok nothing_own
list_of_entry Init deeper met d = config_of deeper met d

-- an entry, and the values of the entries that it starts
pub record EntryHead : Type 0 where
  pub entry : ListedEntry
  pub starts : List Data

-- an entry of a list after the entries so far; an init may start entries if lists may nest deeper
abbrev pub head_of : ListPlace → Bool → SoFar → Data → Result EntryHead ListFault
head_of place deeper so_far d = do
  entry ← object_of d
  told_name ← value_or (bad field.Name expect.Name) (name_at (codes "name") entry)
  name ← new_name so_far.entries place.init told_name
  word ← word_of_entry name (get (codes "binary") entry)
  ram ← value_or (bad field.Quantum expect.Amount) (amount_at (codes "quantum") entry)
  caps ← value_or (bad field.Caps expect.Caps) (whole_at (codes "caps") 0 4294967295 entry)
  provider ← value_or (bad field.Provides (provides_expected word)) (provider_of word (get (codes "provides") entry))
  route ← own_route (get (codes "route") entry)
  reserve ← reserve_of_entry provider.binary entry
  own ← list_of_entry provider.binary deeper so_far.met (get (codes "config") entry)
  binary ← with_kinds provider.binary (get (codes "kinds") entry)
  Ok (record {
    entry = record {
      name = name;
      path = behind (codes "/") place.path name;
      label = behind (codes " -> ") place.label name;
      home = place.init;
      binary = binary;
      ram = ram;
      caps = caps;
      provides = provider.provides;
      route = route;
      reserve = reserve;
      inner_route = own.route;
    };
    starts = own.starts;
  })

-- ---- all entries

-- once an entry was read, with the list that it starts met
abbrev pub with_head : SoFar → EntryHead → SoFar
with_head so_far head = record { entries = so_far.entries ++ head.entry ∷ []; met = so_far.met + length head.starts }

-- the place of the list of an entry, given by the entry's number
abbrev pub place_within : ℕ → ListedEntry → ListPlace
place_within number entry = record { init = number + 1; path = entry.path; label = entry.label }

-- how the entries of a list are read, one after another, each with those that it starts
abbrev pub Reads : Type 0
Reads = ListPlace → SoFar → Data → Result SoFar ListFault

abbrev pub all_read : Reads → ListPlace → SoFar → List Data → Result SoFar ListFault
all_read reads place so_far ds = all_after (reads place) so_far ds

-- an entry and those that it starts
abbrev pub read_own : Reads → SoFar → Result EntryHead ListFault → Result SoFar ListFault
read_own reads so_far (Ok head) =
    all_read reads (place_within (length so_far.entries) head.entry) (with_head so_far head) head.starts
read_own reads so_far (Err fault) = Err fault

-- an entry of a list in which inits may nest so deep
abbrev pub read_within : ℕ → Reads
read_within zero place so_far d =
    read_own (λ _ s _. Ok s) so_far (at_entry (length so_far.entries) (head_of place false so_far d))
read_within (suc deeper) place so_far d =
    read_own (read_within deeper) so_far (at_entry (length so_far.entries) (head_of place true so_far d))

-- inits nest at most so deep below the machine's
abbrev pub deepest : ℕ
deepest = 3

-- the entries of the machine's list and of all lists within
abbrev pub entries_read : List Data → Result SoFar ListFault
entries_read starts = all_read (read_within deepest) outermost (record { entries = []; met = length starts }) starts
