use Rattle.std.proofs.Common.{◌≡◌, drop}
use Rattle.list_findings.specs.Views.{names_asked, with_entries}
use Rattle.list_findings.proofs.decision_views.names_asked.Given as goal

abbrev pub invariant-loop-entry : goal.invariant-loop-entry
invariant-loop-entry l = with_entries l.services.items (drop l.entry-index l.entry-items) ≡ names_asked l.list
