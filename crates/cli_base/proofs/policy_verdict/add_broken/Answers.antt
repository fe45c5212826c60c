-- The breaches that were found.
use Rattle.std.proofs.Common.{◌≡◌, ◌++◌, map}
use Rattle.list_policy.specs.Demand.{AreBreaches}
use Rattle.list_policy.specs.Line.{line_at}
use Rattle.list_policy.specs.Verdict.{breach_place}
use Rattle.cli_base.specs.PolicyVerdict.{note_place}
use Rattle.cli_base.proofs.VerdictLemmas.{with_found}
use Rattle.cli_base.proofs.policy_verdict.add_broken.Goals as goal

pub returns : goal.returns
returns c =
    with_found (λ found. AreBreaches c.args.list.now (line_at c.args.line.now) found)
    (λ found. map note_place c.add_notes.new.broken.items
    ≡ map note_place c.args.broken.now.items ++ map (breach_place (line_at c.args.line.now)) found)
    c.in_ok-breaches.breaches.items c.as_slice.result.now c.add_notes.result c.as_slice.ensures.value c.in_ok-breaches.ensures c.add_notes.ensures
