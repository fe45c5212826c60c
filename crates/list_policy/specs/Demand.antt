-- What lines of a policy demand of a start list, and where the list breaks them.
use Rattle.std.specs.Prelude.{◌≡◌, ◌≢◌, ℕ, ◌+◌, ◌&&◌, ◌||◌, ◌==◌, zero, suc, Bool, true, false, not, List, [], ◌∷◌, ◌++◌, drop, length, position, filter, nat_eq, nat_lt, if◌then◌else◌, Option, Some, None, MatchOption, ⊤}
use Rattle.std.specs.List.{list_all, list_any, slice_get, starts_with}
use Rattle.std.specs.Option.{option_map, option_to_list, unwrap_or}
use Rattle.std.specs.Str.{bytes_eq}
use Rattle.own_model.specs.Listed.{Binary, Listed, ListedEntry, reserve_of, service_in}
use Rattle.list_labels.specs.GivenLabels.{IsGiven, leads_to}
use Rattle.list_labels.specs.LabelRanges.{AskedLabel}
use Rattle.list_reach.specs.Reach.{NoneRouted}
use Rattle.list_reach.specs.RangeReach.{IsShortestInRange, NoneRoutedInRange}
use Rattle.list_parser.specs.Depth.{runs_script, runs_server}
use Rattle.list_reach.specs.ClientReach.{is_child}
use Rattle.list_policy.specs.declared.breach.Breach.{Breach}
use Rattle.list_policy.specs.declared.breach.Breach.TheVariants as breach
use Rattle.list_policy.specs.declared.breach.ReachBreach.{ReachBreach}
use Rattle.list_policy.specs.Line.{LineAt}
use Rattle.list_policy.specs.declared.demand.BudgetLimit.{BudgetLimit}
use Rattle.list_policy.specs.declared.demand.LabelRange.{LabelRange}
use Rattle.list_policy.specs.declared.demand.LabelRange.TheVariants.{All as AllLabels, Exactly, Prefix, Suffix}
use Rattle.list_policy.specs.declared.demand.Demand.{Demand}
use Rattle.list_policy.specs.declared.demand.Demand.TheVariants.{Deny, Allow, Only, Isolate, AtMost}

abbrev pub leads_there : Listed → ℕ → List ℕ → List ℕ → ℕ → Bool
leads_there list client service label server = is_child server (leads_to list client service label)

-- the label of a range that has one label alone
abbrev pub named_label : LabelRange → Option (List ℕ)
named_label AllLabels = None
named_label (Exactly label) = Some label
named_label (Prefix text) = None
named_label (Suffix text) = None

-- the labels that begin with a text, and those that end with it
abbrev pub beginning : List ℕ → AskedLabel
beginning text = record { front = text; end = [] }

abbrev pub ending : List ℕ → AskedLabel
ending text = record { front = []; end = text }

-- a given label of a client's requests for a service is routed to a server
pub record IsRoutedThere (list : Listed) (client : ℕ) (service : List ℕ) (server : ℕ) (label : List ℕ) : Type 0 where
  pub given : IsGiven label
  pub leads : leads_to list client service label ≡ Some server

-- a label of a range is; of the labels that begin or end with a text one of the shortest
abbrev pub IsRoutedIn : Listed → ℕ → List ℕ → ℕ → LabelRange → List ℕ → Type 0
IsRoutedIn list client service server AllLabels label = IsRoutedThere list client service server label
IsRoutedIn list client service server (Exactly one) label = (label ≡ one) × (leads_to list client service label ≡ Some server)
IsRoutedIn list client service server (Prefix text) label = IsShortestInRange (beginning text) list client service server label
IsRoutedIn list client service server (Suffix text) label = IsShortestInRange (ending text) list client service server label

-- no label of a range is
abbrev pub NoneRoutedIn : Listed → ℕ → List ℕ → ℕ → LabelRange → Type 0
NoneRoutedIn list client service server AllLabels = NoneRouted list client service server
NoneRoutedIn list client service server (Exactly one) = leads_to list client service one ≢ Some server
NoneRoutedIn list client service server (Prefix text) = NoneRoutedInRange (beginning text) list client service server
NoneRoutedIn list client service server (Suffix text) = NoneRoutedInRange (ending text) list client service server

-- a client's requests for a server's service are as demanded
abbrev pub IsKept : Listed → Demand → ℕ → List ℕ → ℕ → Type 0
IsKept list (Deny range) client service server = NoneRoutedIn list client service server range
IsKept list (Allow range) client service server = (label : List ℕ) × IsRoutedIn list client service server range label
IsKept list (Only range) client service server = NoneRoutedIn list client service server range
IsKept list Isolate client service server = NoneRoutedIn list client service server AllLabels
IsKept list (AtMost limit) client service server = ⊤

-- a label is there, and is routed to the server
abbrev pub IsRoutedBy : Listed → ℕ → List ℕ → ℕ → LabelRange → Option (List ℕ) → Type 0
IsRoutedBy list client service server range None = ⊥
IsRoutedBy list client service server range (Some label) = IsRoutedIn list client service server range label

-- they aren't, by a label that is routed there and mustn't be, or since none of the range is
abbrev pub IsBroken : Listed → Demand → ℕ → List ℕ → ℕ → Option (List ℕ) → Type 0
IsBroken list (Deny range) client service server label = IsRoutedBy list client service server range label
IsBroken list (Allow range) client service server label = (label ≡ named_label range) × NoneRoutedIn list client service server range
IsBroken list (Only range) client service server label = IsRoutedBy list client service server range label
IsBroken list Isolate client service server label = IsRoutedBy list client service server AllLabels label
IsBroken list (AtMost limit) client service server label = ⊥

-- ---- the components that a line is about

abbrev pub same_number : ℕ → ℕ → Bool
same_number one other = nat_eq one other

-- one of these numbers
abbrev pub names : List ℕ → ℕ → Bool
names numbers number = list_any (same_number number) numbers

-- the component of a number is a script
abbrev pub is_script : Listed → ℕ → Bool
is_script list number = unwrap_or (option_map (λ entry. runs_script entry.binary) (slice_get list.entries number)) false

-- it is a server
abbrev pub is_server : Listed → ℕ → Bool
is_server list number = unwrap_or (option_map (λ entry. runs_server entry.binary) (slice_get list.entries number)) false

-- a path is another one, or is that of a component within
abbrev pub is_inside : List ℕ → List ℕ → Bool
is_inside party path =
    bytes_eq path party || (starts_with nat_eq path party && starts_with nat_eq (drop (length party) path) (47 ∷ []))

abbrev pub belongs_in : Option ListedEntry → Option ListedEntry → Bool
belongs_in (Some party) (Some entry) = is_inside party.path entry.path
belongs_in (Some party) None = false
belongs_in None entry = false

-- a component is another one, or is within it
abbrev pub belongs : Listed → ℕ → ℕ → Bool
belongs list number party = belongs_in (slice_get list.entries party) (slice_get list.entries number)

-- the place of the first component to which another one belongs
abbrev pub party_of : Listed → List ℕ → ℕ → Option ℕ
party_of list parties number = position (belongs list number) parties

abbrev pub are_apart : Option ℕ → Option ℕ → Bool
are_apart (Some one) (Some other) = not (nat_eq one other)
are_apart (Some one) None = false
are_apart None other = false

-- a component belongs to one alone of some components
abbrev pub is_separate : Listed → List ℕ → ℕ → Bool
is_separate list numbers number = length (filter (belongs list number) numbers) == 1

-- they are two or more, and none belongs to another
abbrev pub are_separate : Listed → List ℕ → Bool
are_separate list numbers = nat_lt 1 (length numbers) && list_all (is_separate list numbers) numbers

-- a line is about the requests of a client to a server: `only` is about those of all scripts that it doesn't name, and `isolate`
-- about those of the scripts of one component to the servers of another
abbrev pub concerns_by : Listed → Demand → List ℕ → List ℕ → ℕ → ℕ → Bool
concerns_by list (Deny range) from to client server = names to server && names from client
concerns_by list (Allow range) from to client server = names to server && names from client
concerns_by list (Only range) from to client server = (names to server && is_script list client) && not (names from client)
concerns_by list Isolate from to client server =
    (is_script list client && is_server list server) && are_apart (party_of list from client) (party_of list from server)
concerns_by list (AtMost limit) from to client server = false

abbrev pub concerns : Listed → LineAt → ℕ → ℕ → Bool
concerns list line client server = concerns_by list line.demand line.from line.to client server

abbrev pub served_name : Binary → List ℕ
served_name binary = unwrap_or (service_in binary) []

-- the name of the service of the server of a number; of another component nothing
abbrev pub service_at : Listed → ℕ → List ℕ
service_at list server = unwrap_or (option_map (λ entry. served_name entry.binary) (slice_get list.entries server)) []

-- ---- the budgets of components

-- what the list gives an entry, and its reserve, are together more than a limit; an init pays its own entries from its budget
abbrev pub exceeds : BudgetLimit → ListedEntry → Bool
exceeds limit entry =
    nat_lt limit.ram (entry.ram + (reserve_of entry).ram) || nat_lt limit.caps (entry.caps + (reserve_of entry).caps)

abbrev pub exceeds_at : Listed → BudgetLimit → ℕ → Bool
exceeds_at list limit number = unwrap_or (option_map (λ entry. exceeds limit entry) (slice_get list.entries number)) false

-- a line names a component that has more
abbrev pub excess_at : Listed → LineAt → BudgetLimit → ℕ → Bool
excess_at list line limit number = names line.from number && exceeds_at list limit number

-- ---- the breaches of a line

-- a line is about a client and a server, and they break it as a breach says
pub record IsReachBreach (list : Listed) (line : LineAt) (client server : ℕ) (found : ReachBreach) : Type 0 where
  pub concerned : concerns list line client server ≡ true
  pub client_is : found.client ≡ client
  pub server_is : found.server ≡ server
  pub broken : IsBroken list line.demand client (service_at list server) server found.label

abbrev pub IsBreach : Listed → LineAt → ℕ → ℕ → Breach → Type 0
IsBreach list line client server (breach.Reach found) = IsReachBreach list line client server found
IsBreach list line client server (breach.Excess number) = ⊥

-- a client and a server keep a line, if it is about them
abbrev pub IsKeptBy : Listed → LineAt → ℕ → ℕ → Type 0
IsKeptBy list line client server =
    concerns list line client server ≡ true → IsKept list line.demand client (service_at list server) server

-- what a line finds at a client and a server: their breach, or none if they keep it
abbrev pub FindsAt : Listed → LineAt → ℕ → ℕ → Option Breach → Type 0
FindsAt list line client server found =
    MatchOption found (IsKeptBy list line client server) (IsBreach list line client server)

abbrev pub FindsOne : Listed → LineAt → ℕ → ℕ → List Breach → Type 0
FindsOne list line client server found = (one : Option Breach) × (found ≡ option_to_list one) × FindsAt list line client server one

-- what is found at each number below a bound, one after the other
abbrev pub FindsBelow : (ℕ → List Breach → Type 0) → ℕ → List Breach → Type 0
FindsBelow finds zero found = found ≡ []
FindsBelow finds (suc n) found = (front : List Breach) × (last : List Breach) × (found ≡ front ++ last) × FindsBelow finds n front × finds n last

-- what is found at a client and each server
abbrev pub FindsReach : Listed → LineAt → ℕ → List Breach → Type 0
FindsReach list line client found = FindsBelow (FindsOne list line client) (length list.entries) found

-- what is found at a component of a limit
abbrev pub FindsBudget : Listed → LineAt → BudgetLimit → ℕ → List Breach → Type 0
FindsBudget list line limit number found = found ≡ (if excess_at list line limit number then breach.Excess number ∷ [] else [])

-- what is found at a component
abbrev pub FindsBy : Listed → LineAt → Demand → ℕ → List Breach → Type 0
FindsBy list line (Deny range) number found = FindsReach list line number found
FindsBy list line (Allow range) number found = FindsReach list line number found
FindsBy list line (Only range) number found = FindsReach list line number found
FindsBy list line Isolate number found = FindsReach list line number found
FindsBy list line (AtMost limit) number found = FindsBudget list line limit number found

abbrev pub FindsFor : Listed → LineAt → ℕ → List Breach → Type 0
FindsFor list line number found = FindsBy list line line.demand number found

-- all breaches of a line, component by component and server by server
abbrev pub AreBreaches : Listed → LineAt → List Breach → Type 0
AreBreaches list line found = FindsBelow (FindsFor list line) (length list.entries) found
