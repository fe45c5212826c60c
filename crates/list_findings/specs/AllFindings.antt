-- The findings of a start list, of its value, and of the text of this value.
use Rattle.std.specs.Prelude.{ℕ, List, ◌++◌, flat_map}
use Rattle.serde_json.specs.Data.{Data}
use Rattle.own_model.specs.Listed.{Listed}
use Rattle.list_findings.specs.Expectations.{expected_in, judged}
use Rattle.list_findings.specs.Findings.{findings_of}
use Rattle.list_findings.specs.Objects.{parts_in}
use Rattle.list_findings.specs.Repeated.{repeated_in}
use Rattle.list_findings.specs.Unread.{unread_in}
use Rattle.list_findings.specs.declared.finding.Finding.{Finding}

-- duplicate members, in the order of the text; members that nothing reads; then the others, in the order of the parts. Findings
-- that the list expects are left out, and those that it expects and hasn't follow
abbrev pub all_findings : List ℕ → Data → Listed → List Finding
all_findings text value list =
    judged (flat_map expected_in (parts_in value)) (repeated_in text ++ flat_map unread_in (parts_in value) ++ findings_of list)
