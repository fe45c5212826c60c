-- The members of a start list's objects that nothing reads.
use Rattle.std.specs.Prelude.{ℕ, ◌||◌, Bool, List, [], ◌∷◌, ◌++◌, codes, flat_map, nat_eq, if◌then◌else◌, Option, Some, None}
use Rattle.std.specs.List.{list_any, starts_with}
use Rattle.std.specs.Option.{option_and_then, option_map, unwrap_or}
use Rattle.std.specs.Str.{bytes_eq}
use Rattle.serde_json.specs.Data.{Data, Members, no_members, member}
use Rattle.serde_json.specs.Find.{as_object}
use Rattle.list_findings.specs.Findings.{finding_on}
use Rattle.list_findings.specs.Objects.{ObjectPart}
use Rattle.text_near_words.specs.Near.{nearest}
use Rattle.list_findings.specs.declared.finding.Finding.{Finding}
use Rattle.list_findings.specs.declared.finding.Remark.{Remark}
use Rattle.list_findings.specs.declared.finding.Remark.TheVariants.{Unread}
use Rattle.list_findings.specs.declared.members.MemberOwner.{MemberOwner}
use Rattle.list_findings.specs.declared.members.MemberOwner.TheVariants as table

-- ---- of an object

-- the members that are read of an entry, except an init's `config` and a server's `kinds`
abbrev pub entry_members : List (List ℕ)
entry_members =
    codes "name" ∷ codes "binary" ∷ codes "quantum" ∷ codes "caps" ∷ codes "provides" ∷ codes "route"
    ∷ codes "reserve" ∷ codes "reserve-caps" ∷ []

abbrev pub rule_members : List (List ℕ)
rule_members =
    codes "service" ∷ codes "any-service" ∷ codes "label" ∷ codes "label_prefix" ∷ codes "label_suffix"
    ∷ codes "child" ∷ codes "any-child" ∷ codes "parent" ∷ []

-- the members that are read of an object; of the list itself also the one by which editors find their schema
abbrev pub members_read : MemberOwner → List (List ℕ)
members_read table.List = codes "machine" ∷ codes "default-route" ∷ codes "start" ∷ codes "$schema" ∷ []
members_read table.Machine = codes "pages" ∷ codes "caps" ∷ []
members_read table.Entry = entry_members
members_read table.Server = entry_members ++ codes "kinds" ∷ []
members_read table.Init = entry_members ++ codes "config" ∷ []
members_read table.Config = codes "default-route" ∷ codes "start" ∷ []
members_read table.Rule = rule_members
members_read table.Kind = codes "kind" ∷ codes "block" ∷ codes "bytes" ∷ []

-- a comment's name begins with `_`
abbrev pub is_comment : List ℕ → Bool
is_comment name = starts_with nat_eq name (codes "_")

abbrev pub is_read : MemberOwner → List ℕ → Bool
is_read kind name = list_any (λ known. bytes_eq known name) (members_read kind)

-- the remark that nothing reads a member, and the name that may have been meant
abbrev pub unread : MemberOwner → List ℕ → Option Remark
unread kind name =
    if is_comment name || is_read kind name then None else Some (Unread name (nearest (members_read kind) name))

abbrev pub names_of : Members → List (List ℕ)
names_of no_members = []
names_of (member name value others) = name ∷ names_of others

-- the findings on the members of a value, none if it is missing or no object
abbrev pub names_in : Option Data → List (List ℕ)
names_in d = unwrap_or (option_map names_of (option_and_then as_object d)) []

abbrev pub unread_in : ObjectPart → List Finding
unread_in object = flat_map (λ name. finding_on object.part (unread object.owner name)) (names_in object.value)
