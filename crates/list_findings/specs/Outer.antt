-- Texts that rules ask of labels, and rules of outer lists, which see names before the label that a client gives.
use Rattle.std.specs.Prelude.{ℕ, ◌+◌, ◌&&◌, ◌||◌, Bool, not, List, codes, drop, find, length, nat_eq, nat_lt, if◌then◌else◌, Option, Some, None}
use Rattle.std.specs.List.{enumerate_from, ends_with, list_all, list_any, starts_with}
use Rattle.std.specs.Option.{option_map}
use Rattle.std.specs.Str.{bytes_eq}
use Rattle.list_parser.specs.Depth.{is_init, runs_server}
use Rattle.own_model.specs.Listed.{Listed, ListedEntry, ListedRule}
use Rattle.own_model.specs.SessionArgs.{is_quotable}
use Rattle.list_parts.specs.Texts.{has}
use Rattle.list_findings.specs.Idle.{is_of}
use Rattle.list_findings.specs.declared.finding.Remark.{Remark}
use Rattle.list_findings.specs.declared.finding.Remark.TheVariants.{Arrow, ChosenEnd, Idle, LetsIn, NoLabel}
use Rattle.list_parts.specs.declared.list_part.RuleOwner.{RuleOwner}

-- ---- the init that asks an owner's list

-- an entry, by its number, is an init, and the owner's rules are those for it
abbrev pub is_asked_by : RuleOwner → ℕ × ListedEntry → Bool
is_asked_by owner entry = is_init entry.1 && is_of owner entry.0 entry.1

abbrev pub entry_in : ℕ × ListedEntry → ListedEntry
entry_in entry = entry.1

-- the first such init
abbrev pub outer_init : Listed → RuleOwner → Option ListedEntry
outer_init list owner = option_map entry_in (find (is_asked_by owner) (enumerate_from 0 list.entries))

-- ---- texts that no label has

-- the maximum number of bytes of a label that a list sees, with names before it if some init asks the list
abbrev pub most_seen : Bool → ℕ
most_seen outer = if outer then 172 else 64

abbrev pub is_no_label : Bool → List ℕ → Bool
is_no_label outer text = nat_lt (most_seen outer) (length text) || not (list_all is_quotable text)

-- the member of a rule that asks for one
abbrev pub no_label_in : Bool → ListedRule → Option (List ℕ)
no_label_in outer rule =
    if has (is_no_label outer) rule.label then Some (codes "label")
    else if has (is_no_label outer) rule.label_prefix then Some (codes "label_prefix")
    else if has (is_no_label outer) rule.label_suffix then Some (codes "label_suffix") else None

-- an outer list is asked for a label that ends in the arrow
abbrev pub has_arrow : Bool → ListedRule → Bool
has_arrow outer rule = outer && has (λ text. ends_with nat_eq text (codes " -> ")) rule.label

-- why a rule decides nothing, as far as its texts show
abbrev pub idle_by : Option (List ℕ) → Bool → Remark
idle_by (Some member) arrow = NoLabel member
idle_by None arrow = if arrow then Arrow else Idle

abbrev pub idle_remark : Bool → ListedRule → Remark
idle_remark outer rule = idle_by (no_label_in outer rule) (has_arrow outer rule)

-- ---- fronts that are names

-- an entry that makes requests, or whose own entries do, is below an init
abbrev pub is_below : ListedEntry → ListedEntry → Bool
is_below init entry =
    not (runs_server entry.binary)
    && (starts_with nat_eq entry.label init.label && starts_with nat_eq (drop (length init.label) entry.label) (codes " -> "))

-- what an init's rules see of the names of an entry below it
abbrev pub names_from : ListedEntry → ListedEntry → List ℕ
names_from init entry = drop (length init.label + 4) entry.label

-- these are its names
abbrev pub is_named : ListedEntry → List ℕ → ListedEntry → Bool
is_named init names entry = is_below init entry && bytes_eq (names_from init entry) names

-- its names begin so, and it isn't below the entry that has these names
abbrev pub is_let_in : ListedEntry → List ℕ → ListedEntry → Bool
is_let_in init names entry =
    is_below init entry
    && (starts_with nat_eq (names_from init entry) names
    && (not (bytes_eq (names_from init entry) names) && not (starts_with nat_eq (drop (length names) (names_from init entry)) (codes " -> "))))

-- an entry whose names begin with the names of another one
abbrev pub let_in_by : List ListedEntry → ListedEntry → List ℕ → Option ListedEntry
let_in_by entries init names = if list_any (is_named init names) entries then find (is_let_in init names) entries else None

abbrev pub lets_in : List ℕ → ListedEntry → Remark
lets_in names entry = LetsIn names entry.name

-- a prefix that names one entry and also matches the names of another
abbrev pub wide_front : List ListedEntry → Option ListedEntry → Option (List ℕ) → Option Remark
wide_front entries None front = None
wide_front entries (Some init) None = None
wide_front entries (Some init) (Some front) = option_map (lets_in front) (let_in_by entries init front)

-- ---- ends

-- an end of at least a byte that an outer list asks for
abbrev pub chosen_end : Bool → ListedRule → Option Remark
chosen_end outer rule = if outer && has (λ text. nat_lt 0 (length text)) rule.label_suffix then Some ChosenEnd else None
