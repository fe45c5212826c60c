-- Findings that a start list expects.
use Rattle.std.specs.Prelude.{ℕ, ◌&&◌, Bool, List, [], ◌∷◌, codes, map, position, remove, Option, Some, None}
use Rattle.std.specs.Option.{option_and_then, option_map, unwrap_or}
use Rattle.std.specs.Str.{bytes_eq}
use Rattle.serde_json.specs.Data.{Data, Items}
use Rattle.serde_json.specs.Find.{as_array, as_str, get}
use Rattle.list_parser.specs.Members.{elements}
use Rattle.list_findings.specs.Objects.{ObjectPart}
use Rattle.list_findings.specs.declared.expectations.Expectation.{Expectation}
use Rattle.list_findings.specs.declared.finding.Finding.{Finding}
use Rattle.list_findings.specs.declared.finding.Remark.{Remark}
use Rattle.list_findings.specs.declared.finding.Remark.TheVariants as remark
use Rattle.list_parts.specs.Steps.{is_at}
use Rattle.list_parts.specs.declared.list_part.ListPart.{ListPart}

-- the name by which a list expects a finding: the front of its text
abbrev pub remark_name : Remark → List ℕ
remark_name (remark.GivenTwice member) = codes "duplicate member"
remark_name (remark.Unread member near) = codes "unknown member"
remark_name (remark.NoChild child near) = codes "child"
remark_name (remark.NotProvided child service) = codes "child"
remark_name (remark.NoProvider service) = codes "any-child"
remark_name (remark.SeveralProviders service) = codes "any-child"
remark_name (remark.Hidden rule) = codes "unreachable rule"
remark_name (remark.OtherCase service meant) = codes "service"
remark_name remark.Idle = codes "unused rule"
remark_name (remark.NoLabel member) = codes "unreachable rule"
remark_name remark.Arrow = codes "unreachable rule"
remark_name (remark.LetsIn front name) = codes "label_prefix"
remark_name remark.ChosenEnd = codes "label_suffix"
remark_name (remark.NotProviding service) = codes "provides"
remark_name remark.Unreached = codes "unused server"
remark_name (remark.LowRam own kept) = codes "quantum"
remark_name (remark.LowCaps own kept) = codes "caps"
remark_name remark.MachinesName = codes "name"
remark_name (remark.PartPages ram) = codes "quantum"
remark_name (remark.PartReserve ram) = codes "reserve"
remark_name (remark.Unmet name) = codes "_expected"

-- a finding on a part by its name, which is empty for what is no text
abbrev pub expected_at : ListPart → Data → Expectation
expected_at part name = record { part = part; name = unwrap_or (as_str name) [] }

-- those of a list of names, or one of an empty name
abbrev pub expected_all : ListPart → Option Items → List Expectation
expected_all part None = record { part = part; name = [] } ∷ []
expected_all part (Some items) = map (expected_at part) (elements items)

abbrev pub expected_by : ListPart → Data → List Expectation
expected_by part names = expected_all part (as_array names)

-- the findings that an object expects on its part
abbrev pub expected_in : ObjectPart → List Expectation
expected_in object = unwrap_or (option_map (expected_by object.part) (option_and_then (get (codes "_expected")) object.value)) []

-- a finding meets an expectation of its part and its name
abbrev pub acknowledges : Finding → Expectation → Bool
acknowledges finding expectation = is_at finding.part expectation.part && bytes_eq (remark_name finding.remark) expectation.name

-- an expectation without its finding is a finding
abbrev pub unmet : Expectation → Finding
unmet expectation = record { part = expectation.part; remark = remark.Unmet expectation.name }

-- each finding meets the first expectation that is left for it, or remains
abbrev pub met_or_left : (List Expectation → List Finding) → List Expectation → Finding → Option ℕ → List Finding
met_or_left others left finding None = finding ∷ others left
met_or_left others left finding (Some place) = others (remove left place)

abbrev pub judged : List Expectation → List Finding → List Finding
judged left [] = map unmet left
judged left (finding ∷ findings) =
    met_or_left (λ others. judged others findings) left finding (position (acknowledges finding) left)
