use Rattle.std.proofs.Common.{drop}
use Rattle.list_parser.proofs.ServiceLemmas.{AreSoFar}
use Rattle.list_parser.proofs.list_service.declared_names.Given as goal

abbrev pub invariant-loop-entry : goal.invariant-loop-entry
invariant-loop-entry l = AreSoFar l.declared.items (drop l.entry-index l.entries) l.entries
