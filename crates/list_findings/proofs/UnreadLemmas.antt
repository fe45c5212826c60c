-- The members of an object, by the map that holds them.
use Rattle.std.proofs.Common.{◌≡◌, ℕ, List, [], ◌∷◌, ◌++◌, flat_map, map, Some, String, Global, string_bytes, refl, ap, ◌∙◌}
use Rattle.std.specs.Option.{option_and_then}
use Rattle.serde_json.specs.Find.{as_object}
use Rattle.serde_json.specs.View.{members_view}
use Rattle.serde_json.specs.declared.value.Value.{Value}
use Rattle.list_findings.specs.Findings.{finding_on}
use Rattle.list_findings.specs.Objects.{ObjectPart}
use Rattle.list_findings.specs.Unread.{names_of, unread, unread_in}
use Rattle.list_findings.specs.declared.finding.Finding.{Finding}

-- the findings on each name
findings_each : (f : List ℕ → List Finding) (entries : List (String Global × Value))
    → flat_map (λ key. f (string_bytes key)) (map (λ e. e.0) entries) ≡ flat_map f (names_of (members_view entries))
findings_each f [] = refl
findings_each f (e ∷ entries) = ap (λ rest. f (string_bytes e.0) ++ rest) (findings_each f entries)

pub findings_members : (object : ObjectPart) (entries : List (String Global × Value)) → Some (members_view entries) ≡ option_and_then as_object object.value
    → flat_map (λ key. finding_on object.part (unread object.owner (string_bytes key))) (map (λ e. e.0) entries) ≡ unread_in object
findings_members object entries is = findings_each (λ name. finding_on object.part (unread object.owner name)) entries ∙ rw (← is) refl
