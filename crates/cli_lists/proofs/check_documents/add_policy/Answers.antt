-- The verdict by the policy.
use Rattle.std.proofs.Common.{refl}
use Rattle.cli_lists.specs.CheckDocuments.{verdict_records}
use Rattle.cli_lists.proofs.check_documents.add_policy.Goals as goal

pub returns-clause-status : goal.returns-clause-status
returns-clause-status g c = rw c.in-Some.is (c.in_ok-verdict.verdict, c.in_ok-verdict.ensures, c.exit_status.ensures)

pub returns-clause-listed : goal.returns-clause-listed
returns-clause-listed g c =
    let verdict = c.in_ok-verdict.verdict in
    rw c.in-Some.is
    (verdict_records c.in-Some.path.now verdict, (verdict, c.in_ok-verdict.ensures, refl), c.in_ok-add_verdict.ensures)
