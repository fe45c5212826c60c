-- Findings: parts of a start list that are probably not intended.
use Rattle.std.specs.Prelude.{ℕ, ◌+◌, ◌%◌, ◌==◌, ◌&&◌, Bool, not, List, [], ◌∷◌, ◌++◌, codes, flat_map, is_some, nat_lt, position, find, take, if◌then◌else◌, Option, Some, None}
use Rattle.std.specs.List.{enumerate_from, list_any}
use Rattle.std.specs.Option.{option_map}
use Rattle.std.specs.Str.{bytes_eq, str_eq_ignore_ascii_case}
use Rattle.own_model.specs.Listed.{Binary, Listed, ListedEntry, ListedRule, Target, reserve_of, services_of}
use Rattle.own_model.specs.Listed.Binary.{Script, Server, Init}
use Rattle.own_model.specs.Listed.Target.{Child, AnyChild, Parent}
use Rattle.list_findings.specs.UnreachableRules.{decides_some, hides}
use Rattle.list_findings.specs.Idle.{is_idle}
use Rattle.list_parts.specs.Left.{budget_of}
use Rattle.text_near_words.specs.Near.{nearest}
use Rattle.list_findings.specs.Near.{names_in}
use Rattle.list_findings.specs.Outer.{chosen_end, outer_init, idle_remark, wide_front}
use Rattle.list_findings.specs.Reached.{is_routed_to, is_routed_at_all}
use Rattle.list_parts.specs.Steps.{part_of}
use Rattle.list_findings.specs.RuleTargets.{child_at, is_provided}
use Rattle.list_findings.specs.declared.finding.Finding.{Finding}
use Rattle.list_findings.specs.declared.finding.Remark.{Remark}
use Rattle.list_findings.specs.declared.finding.Remark.TheVariants.{NoChild, NotProvided, NoProvider, SeveralProviders, Hidden, NotProviding, OtherCase, Unreached, LowRam, LowCaps, MachinesName, PartPages, PartReserve}
use Rattle.list_parts.specs.declared.list_part.RuleOwner.{RuleOwner}
use Rattle.list_parts.specs.declared.list_part.RuleOwner.TheVariants as owner
use Rattle.list_parts.specs.declared.list_part.ListPart.{ListPart}
use Rattle.list_parts.specs.declared.list_part.PartId.TheVariants as about

-- the finding on a part, if there is a remark
abbrev pub finding_on : ListPart → Option Remark → List Finding
finding_on part None = []
finding_on part (Some remark) = record { part = part; remark = remark } ∷ []

-- ---- of a rule

-- an earlier rule of its list makes it unreachable
abbrev pub hidden : List ListedRule → ListedRule → Option Remark
hidden before rule = option_map Hidden (position (λ earlier. hides earlier rule) before)

-- the name of a service that differs from this in case alone
abbrev pub is_in_case : List ℕ → List ℕ → Bool
is_in_case written service = str_eq_ignore_ascii_case written service && not (bytes_eq written service)

-- a rule asks for a name that is none of these services, and differs from one in case alone
abbrev pub other_case : List (List ℕ) → Option (List ℕ) → Option Remark
other_case services None = None
other_case services (Some name) =
    if list_any (bytes_eq name) services then None else option_map (OtherCase name) (find (is_in_case name) services)

-- an entry of an init's list has a name
abbrev pub has_name : List ListedEntry → ℕ → List ℕ → Bool
has_name entries init name = list_any (λ entry. entry.home == init && bytes_eq entry.name name) entries

-- no entry of the init's list has the name of its child
abbrev pub no_child : List ListedEntry → ℕ → Target → Option Remark
no_child entries init (Child name) =
    if has_name entries init name then None else Some (NoChild name (nearest (names_in init entries) name))
no_child entries init AnyChild = None
no_child entries init Parent = None

-- why a target routes a service to no child, unless it routes outward
abbrev pub misled : List ListedEntry → ℕ → Target → List ℕ → Option Remark
misled entries init (Child name) service = Some (NotProvided name service)
misled entries init AnyChild service =
    if is_provided entries init service then Some (SeveralProviders service) else Some (NoProvider service)
misled entries init Parent service = None

-- a rule decides some requests for a service, and routes them to no child
abbrev pub strays : List ListedEntry → ℕ → List ListedRule → ListedRule → List ℕ → Option Remark
strays entries init before rule service =
    if decides_some before rule service && not (is_some (child_at entries init rule.target service))
    then misled entries init rule.target service else None

-- the same for a rule of any service, if some entry of the list provides the service
abbrev pub strays_if_provided : List ListedEntry → ℕ → List ListedRule → ListedRule → List ℕ → Option Remark
strays_if_provided entries init before rule service =
    if is_provided entries init service then strays entries init before rule service else None

-- the findings for one of all services
abbrev pub strays_of : List ListedEntry → ℕ → ListPart → List ListedRule → ListedRule → List ℕ → List Finding
strays_of entries init part before rule service = finding_on part (strays_if_provided entries init before rule service)

-- the findings for the service that a rule asks for, or for each
abbrev pub stray_findings : List ListedEntry → ℕ → ListPart → List ListedRule → ListedRule → Option (List ℕ) → List Finding
stray_findings entries init part before rule (Some service) = finding_on part (strays entries init before rule service)
stray_findings entries init part before rule None =
    flat_map (strays_of entries init part before rule) (services_of entries)

-- the finding that its child isn't there, or else the findings for which services it routes to no child
abbrev pub target_findings : List ListedEntry → ℕ → ListPart → List ListedRule → ListedRule → Option Remark → List Finding
target_findings entries init part before rule (Some remark) = finding_on part (Some remark)
target_findings entries init part before rule None = stray_findings entries init part before rule rule.service

-- the findings on the service and the target of a rule of an init's list, which is this part, after the earlier rules
abbrev pub rule_findings : List ListedEntry → ℕ → ListPart → List ListedRule → ListedRule → List Finding
rule_findings entries init part before rule =
    finding_on part (other_case (services_of entries) rule.service) ++ target_findings entries init part before rule (no_child entries init rule.target)

-- the first of two that there is
abbrev pub or_else : Option Remark → Option Remark → Option Remark
or_else None other = other
or_else (Some remark) other = Some remark

-- it decides nothing: an earlier rule makes it unreachable, or another reason holds
abbrev pub useless : Listed → RuleOwner → Bool → List ListedRule → ℕ × ListedRule → Option Remark
useless list owner outer before rule =
    or_else (hidden before rule.1) (if is_idle list owner rule.0 then Some (idle_remark outer rule.1) else None)

-- the findings on a rule's label, by its place in an owner's list, with the first init that asks the list, if one does
abbrev pub label_findings : Listed → ListPart → RuleOwner → Option ListedEntry → List ListedRule → ℕ × ListedRule → List Finding
label_findings list part owner init before rule =
    finding_on part (useless list owner (is_some init) before rule)
    ++ (finding_on part (wide_front list.entries init rule.1.label_prefix) ++ finding_on part (chosen_end (is_some init) rule.1))

-- ---- of a list of rules

-- the findings on a rule, by its place in an owner's list, which belongs to an init's list
abbrev pub findings_at : Listed → ℕ → RuleOwner → List ListedRule → ℕ × ListedRule → List Finding
findings_at list init owner rules rule =
    let part = part_of list.entries (about.Rule owner rule.0) in
    label_findings list part owner (outer_init list owner) (take rule.0 rules) rule
    ++ rule_findings list.entries init part (take rule.0 rules) rule.1

abbrev pub rules_findings : Listed → ℕ → RuleOwner → List ListedRule → List Finding
rules_findings list init owner rules = flat_map (findings_at list init owner rules) (enumerate_from 0 rules)

-- ---- of an entry

-- an entry of the outermost list has the name of the machine's own account
abbrev pub machines_name : ListedEntry → Option Remark
machines_name entry = if entry.home == 0 && bytes_eq entry.name (codes "init") then Some MachinesName else None

-- its RAM isn't whole pages
abbrev pub part_pages : ListedEntry → Option Remark
part_pages entry = if entry.ram % 4096 == 0 then None else Some (PartPages entry.ram)

-- the same for its reserve
abbrev pub part_reserve : ListedEntry → Option Remark
part_reserve entry = if (reserve_of entry).ram % 4096 == 0 then None else Some (PartReserve (reserve_of entry).ram)

abbrev pub pages_findings : ListPart → ListedEntry → List Finding
pages_findings part entry = finding_on part (part_pages entry) ++ finding_on part (part_reserve entry)

-- some request of a client is routed to a server, and its RAM, with that of its reserve, is insufficient for a session
abbrev pub low_ram : Listed → ℕ × ListedEntry → Option Remark
low_ram list client =
    if is_routed_at_all list client.0 && nat_lt (budget_of client.1).ram 4096
    then Some (LowRam client.1.ram (reserve_of client.1).ram) else None

-- the same for the capabilities
abbrev pub low_caps : Listed → ℕ × ListedEntry → Option Remark
low_caps list client =
    if is_routed_at_all list client.0 && nat_lt (budget_of client.1).caps 2
    then Some (LowCaps client.1.caps (reserve_of client.1).caps) else None

-- no script's request is routed to a server
abbrev pub unreached : Listed → ℕ → Option Remark
unreached list number = if is_routed_to list number then None else Some Unreached

-- a server doesn't provide its service, or isn't reached
abbrev pub missed : Listed → List ℕ → ℕ × ListedEntry → Option Remark
missed list service entry =
    if entry.1.provides then unreached list entry.0 else Some (NotProviding service)

-- the findings on a script's budget, or on whether a server is reached
abbrev pub use_findings : Listed → ListPart → ℕ × ListedEntry → Binary → List Finding
use_findings list part entry Script = finding_on part (low_ram list entry) ++ finding_on part (low_caps list entry)
use_findings list part entry (Server service offer) = finding_on part (missed list service entry)
use_findings list part entry Init = []

-- the findings on the rules of an entry's own route, if it has one
abbrev pub route_findings : Listed → ℕ × ListedEntry → Option (List ListedRule) → List Finding
route_findings list entry None = []
route_findings list entry (Some rules) = rules_findings list entry.1.home (owner.Entry entry.0) rules

-- the findings on the default route of what it starts, which is the list of the init of the number after its own
abbrev pub inner_findings : Listed → ℕ × ListedEntry → List Finding
inner_findings list entry = rules_findings list (entry.0 + 1) (owner.Inner entry.0) entry.1.inner_route

-- the findings on an entry, by its number, on its own route, and on the default route of what it starts
abbrev pub entry_findings : Listed → ℕ × ListedEntry → List Finding
entry_findings list entry =
    let part = part_of list.entries (about.Entry entry.0) in
    finding_on part (machines_name entry.1) ++ pages_findings part entry.1 ++ use_findings list part entry entry.1.binary
    ++ route_findings list entry entry.1.route ++ inner_findings list entry

-- ---- of all lists

-- the findings on the machine's default route, and then on each entry
abbrev pub findings_of : Listed → List Finding
findings_of list =
    rules_findings list 0 owner.Default list.default_route
    ++ flat_map (entry_findings list) (enumerate_from 0 list.entries)
