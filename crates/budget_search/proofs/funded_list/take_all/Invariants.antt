use Rattle.std.proofs.Common.{◌≡◌, length}
use Rattle.list_parser.specs.Budgets.{with_size}
use Rattle.budget_search.proofs.FundedLemmas.{bared}
use Rattle.budget_search.proofs.funded_list.take_all.Given as goal

abbrev pub invariant-loop-component : goal.invariant-loop-component
invariant-loop-component l = record {
  taken : l.machine ≡ record (with_size l.fn.machine 4096 4096) { entries = bared l.component l.fn.machine.entries };
  count : l.count ≡ length l.fn.machine.entries;
}
