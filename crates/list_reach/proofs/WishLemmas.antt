-- What a script's wish for a session is answered.
use Rattle.std.proofs.Common.{◌≡◌, ℕ, ◌<◌, ◌≤◌, zero, suc, Bool, true, false, ◌&&◌, ◌==◌, List, [], ◌∷◌, length, get_or, Option, Some, None, refl, sym, ap, ◌∙◌, arith, nat_lt}
use Rattle.std.specs.Prelude.{if◌then◌else◌, count_by, position}
use Rattle.std.specs.List.{slice_get}
use Rattle.std.specs.Option.{option_and_then, option_map, option_or}
use Rattle.std.specs.Str.{bytes_eq}
use Rattle.std.proofs.lemmas.Bool.Decides.{nat_tests}
use Rattle.std.proofs.lemmas.List.Quantifiers.{position-Some}
use Rattle.std.proofs.lemmas.Bool.{and_parts}
use Rattle.std.proofs.lemmas.Option.{slice_get-get_or}
use Rattle.own_model.specs.Account.{Account, shortage}
use Rattle.own_model.specs.Listed.{Binary, Listed, ListedEntry, ListedRule, Target, Way, asks_for, end_of, init_entry, levels_within, most_lists, named_provider, offer_at, offer_in, offers, route_within, rules_for, server_at, serves, start_of, way_by, way_to}
use Rattle.own_model.specs.Listed.Binary.{Script, Server, Init}
use Rattle.own_model.specs.Listed.Target.{Child, AnyChild, Parent}
use Rattle.own_model.specs.Offer.{Offer}
use Rattle.own_model.specs.OwnState.{OwnState}
use Rattle.own_model.specs.OwnStep.{opened_by, session_opened, turned_away, unless}
use Rattle.own_model.specs.Routes.{ServerAt, label_with, provider}
use Rattle.own_model.specs.Session.{donation_refusal, too_small, wish, resolved_request, routed_request}
use Rattle.own_model.specs.SessionArgs.{Arguments}
use Rattle.own_model.proofs.StartListedLemmas.{routes_lead}
use Rattle.list_labels.specs.GivenLabels.{leads_to}
use Rattle.list_reach.specs.RequestTheorems.{Asks, RequestsAreDenied, RequestsAreOpened}

-- ---- who is led to serves

serves_one : (binary : Binary) (service : List ℕ) → serves binary service ≡ true → (kind : Offer) × (offer_in binary ≡ Some kind)
serves_one Script service is = cc
serves_one (Server name kind) service is = (kind, refl)
serves_one Init service is = cc

offers_one : (entry : ListedEntry) (init : ℕ) (service : List ℕ) → offers init service entry ≡ true
    → (kind : Offer) × (offer_in entry.binary ≡ Some kind)
offers_one entry init service is =
    serves_one entry.binary service (and_parts entry.provides _ (and_parts (entry.home == init) _ is).1).1

kind_there : (entries : List ListedEntry) (k : ℕ) (d : ListedEntry) (kind : Offer) → k < length entries
    → offer_in (get_or entries k d).binary ≡ Some kind → offer_at entries k ≡ Some kind
kind_there entries k d kind within is =
    ap (λ o. option_and_then (λ (e : ListedEntry). offer_in e.binary) o) (slice_get-get_or entries k d within) ∙ is

-- an entry, of a list that has a place
some_entry : (entries : List ListedEntry) (p : ListedEntry → Bool) (k : ℕ) → position p entries ≡ Some k → ListedEntry
some_entry [] p k found = absurd (cc)
some_entry (e ∷ entries) p k found = e

named_serves : (entries : List ListedEntry) (init : ℕ) (name service : List ℕ) (k : ℕ) → named_provider entries init name service ≡ Some k
    → (kind : Offer) × (offer_at entries k ≡ Some kind)
named_serves entries init name service k found =
    let d = some_entry entries (λ e. bytes_eq e.name name && offers init service e) k found in
    let is = position-Some (λ e. bytes_eq e.name name && offers init service e) entries k d found in
    let kind = offers_one (get_or entries k d) init service (and_parts (bytes_eq (get_or entries k d).name name) _ is.1).1 in
    (kind.0, kind_there entries k d kind.0 is.0 kind.1)

only_case : (entries : List ListedEntry) (init : ℕ) (service : List ℕ) (k : ℕ) (b : Bool)
    → (if b then position (offers init service) entries else None) ≡ Some k → (kind : Offer) × (offer_at entries k ≡ Some kind)
only_case entries init service k true found =
    let d = some_entry entries (offers init service) k found in
    let is = position-Some (offers init service) entries k d found in
    let kind = offers_one (get_or entries k d) init service is.1 in
    (kind.0, kind_there entries k d kind.0 is.0 kind.1)
only_case entries init service k false found = cc

target_serves : (entries : List ListedEntry) (init : ℕ) (target : Target) (service : List ℕ) (outward : Option ℕ) (k : ℕ)
    → (outward ≡ Some k → (kind : Offer) × (offer_at entries k ≡ Some kind))
    → end_of (way_to entries init target service) outward ≡ Some k → (kind : Offer) × (offer_at entries k ≡ Some kind)
target_serves entries init (Child name) service outward k out found = named_serves entries init name service k found
target_serves entries init AnyChild service outward k out found =
    only_case entries init service k (count_by (offers init service) entries == 1) found
target_serves entries init Parent service outward k out found = out found

rule_serves : (entries : List ListedEntry) (init : ℕ) (rule : ListedRule) (rest : Way) (service : List ℕ) (outward : Option ℕ) (k : ℕ) (b : Bool)
    → (outward ≡ Some k → (kind : Offer) × (offer_at entries k ≡ Some kind))
    → (end_of rest outward ≡ Some k → (kind : Offer) × (offer_at entries k ≡ Some kind))
    → end_of (if b then way_to entries init rule.target service else rest) outward ≡ Some k → (kind : Offer) × (offer_at entries k ≡ Some kind)
rule_serves entries init rule rest service outward k true out others found = target_serves entries init rule.target service outward k out found
rule_serves entries init rule rest service outward k false out others found = others found

way_serves : (entries : List ListedEntry) (init : ℕ) (rules : List ListedRule) (service label : List ℕ) (outward : Option ℕ) (k : ℕ)
    → (outward ≡ Some k → (kind : Offer) × (offer_at entries k ≡ Some kind))
    → end_of (way_by entries init rules service label) outward ≡ Some k → (kind : Offer) × (offer_at entries k ≡ Some kind)
way_serves entries init [] service label outward k out found = cc
way_serves entries init (rule ∷ rules) service label outward k out found =
    rule_serves entries init rule (way_by entries init rules service label) service outward k (asks_for rule service label) out
    (λ rest. way_serves entries init rules service label outward k out rest) found

init_serves : (entries : List ListedEntry) (outer : Option ListedEntry) (goes : ListedEntry → Option ℕ) (k : ℕ)
    → ((init : ListedEntry) → goes init ≡ Some k → (kind : Offer) × (offer_at entries k ≡ Some kind))
    → option_and_then goes outer ≡ Some k → (kind : Offer) × (offer_at entries k ≡ Some kind)
init_serves entries None goes k each found = cc
init_serves entries (Some init) goes k each found = each init found

route_serves : (lists : ℕ) (list : Listed) (entry : ListedEntry) (service label : List ℕ) (k : ℕ)
    → route_within lists list entry service label ≡ Some k → (kind : Offer) × (offer_at list.entries k ≡ Some kind)
route_serves zero list entry service label k found = cc
route_serves (suc lists) list entry service label k found =
    way_serves list.entries entry.home (rules_for list entry) service label
    (option_and_then (λ init. route_within lists list init service (label_with entry.name label)) (init_entry list entry.home)) k
    (init_serves list.entries (init_entry list entry.home) (λ init. route_within lists list init service (label_with entry.name label)) k
    (λ init there. route_serves lists list init service (label_with entry.name label) k there))
    found

-- ---- what own step answers

script_step : (list : Listed) (client : ℕ) (entry : ListedEntry) (text : List ℕ) (arguments : Arguments) (s : OwnState)
    → Asks list client entry text arguments s → turned_away (start_of list entry).entry.kind s ≡ None
script_step list client entry text arguments s asks =
    let is = asks.script in
    let here = asks.here in
    cc

leads_by : (list : Listed) (client : ℕ) (entry : ListedEntry) (service label : List ℕ) → slice_get list.entries client ≡ Some entry
    → leads_to list client service label ≡ route_within most_lists list entry service label
unfolding leads_to
leads_by list client entry service label is =
    ap (λ o. option_and_then (λ e. route_within most_lists list e service label) o) is

provider_is : (list : Listed) (client : ℕ) (entry : ListedEntry) (service label : List ℕ) → slice_get list.entries client ≡ Some entry
    → provider (levels_within most_lists list entry) service label
    ≡ option_and_then (server_at list.entries) (leads_to list client service label)
provider_is list client entry service label is =
    routes_lead most_lists list entry service label ∙ ap (λ o. option_and_then (server_at list.entries) o) (sym (leads_by list client entry service label is))

wish_is : (list : Listed) (client : ℕ) (entry : ListedEntry) (service text : List ℕ) (arguments : Arguments) (s : OwnState)
    → (leads : Option ServerAt) → Asks list client entry text arguments s
    → option_and_then (server_at list.entries) (leads_to list client service arguments.label) ≡ leads
    → wish entry.label (levels_within most_lists list entry) service text ≡ routed_request entry.label arguments leads
wish_is list client entry service text arguments s leads asks is =
    ap (λ o. resolved_request entry.label (levels_within most_lists list entry) service o) asks.read
    ∙ ap (λ o. routed_request entry.label arguments o) (provider_is list client entry service arguments.label asks.entry_is ∙ is)

step_is : (list : Listed) (client : ℕ) (entry : ListedEntry) (service text : List ℕ) (arguments : Arguments) (s : OwnState) (leads : Option ServerAt)
    → Asks list client entry text arguments s
    → option_and_then (server_at list.entries) (leads_to list client service arguments.label) ≡ leads
    → unless (turned_away (start_of list entry).entry.kind s) s (opened_by (wish entry.label (levels_within most_lists list entry) service text) s)
    ≡ opened_by (routed_request entry.label arguments leads) s
step_is list client entry service text arguments s leads asks is =
    ap (λ t. unless t s (opened_by (wish entry.label (levels_within most_lists list entry) service text) s)) (script_step list client entry text arguments s asks)
    ∙ ap (λ w. opened_by w s) (wish_is list client entry service text arguments s leads asks is)

pub wishes_denied : RequestsAreDenied
wishes_denied list client entry service text arguments s asks nowhere =
    step_is list client entry service text arguments s None asks (ap (λ o. option_and_then (server_at list.entries) o) nowhere)

large_enough : (ram caps : ℕ) → 4096 ≤ ram → 2 ≤ caps → too_small ram caps ≡ None
large_enough ram caps more most =
    let one : nat_lt ram 4096 ≡ false = grind (arith, nat_tests) in
    let two : nat_lt caps 2 ≡ false = grind (arith, nat_tests) in
    cc

covered : (account : Account) (ram caps : ℕ) → 4096 ≤ ram → 2 ≤ caps → shortage account ram caps ≡ None → donation_refusal account ram caps ≡ None
covered account ram caps more most short = ap (λ o. option_or o (too_small ram caps)) short ∙ large_enough ram caps more most

server_is : (entries : List ListedEntry) (k : ℕ) (kind : Offer) → offer_at entries k ≡ Some kind
    → server_at entries k ≡ Some (record { kind = kind; place = k })
server_is entries k kind is = ap (λ o. option_map (λ kind. record { kind = kind; place = k }) o) is

pub wishes_opened : RequestsAreOpened
wishes_opened list client entry service text arguments s server asks leads ram caps covers =
    let kind = route_serves most_lists list entry service arguments.label server
    (sym (leads_by list client entry service arguments.label asks.entry_is) ∙ leads) in (
      kind.0,
      kind.1,
      step_is list client entry service text arguments s (Some (record { kind = kind.0; place = server })) asks
          (ap (λ o. option_and_then (server_at list.entries) o) leads ∙ server_is list.entries server kind.0 kind.1)
          ∙ ap (λ r. unless r s (session_opened (record {
            server = record { kind = kind.0; place = server };
            label = label_with entry.label arguments.label;
            ram = arguments.ram;
            caps = arguments.caps;
          }) s)) (covered s.account arguments.ram arguments.caps ram caps covers),
    )
