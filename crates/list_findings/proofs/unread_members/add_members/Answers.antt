use Rattle.std.proofs.Common.{List, ◌++◌, flat_map, String, Global, string_bytes, sym, ap, ◌∙◌}
use Rattle.std.proofs.lemmas.List.{append-nil}
use Rattle.list_findings.specs.Findings.{finding_on}
use Rattle.list_findings.specs.Objects.{seen_part}
use Rattle.list_findings.specs.Unread.{unread}
use Rattle.list_findings.specs.declared.finding.Finding.{Finding}
use Rattle.list_findings.proofs.UnreadLemmas.{findings_members}
use Rattle.list_findings.proofs.unread_members.add_members.Goals as goal

pub returns : goal.returns
returns c =
    let findings_of_key : String Global → List Finding = λ key. finding_on c.args.part.now.part (unread c.args.part.now.owner (string_bytes key)) in
    sym (append-nil c.loop-key.found.items)
    ∙ ap (λ keys. c.loop-key.found.items ++ flat_map findings_of_key keys) (sym c.in-None.ensures.steps.0)
    ∙ c.loop-key.invariant
    ∙ ap (λ keys. c.args.found.now.items ++ flat_map findings_of_key keys) (c.into_iter-key-iterator.ensures.into_iter_gives ∙ c.keys-key-items.ensures.rest)
    ∙ ap (λ rest. c.args.found.now.items ++ rest) (findings_members (seen_part c.args.part.now) _ c.in-Some.ensures)
