use Rattle.std.proofs.Common.{◌≡◌, ◌≤◌, length}
use Rattle.std.specs.List.{slice_get}
use Rattle.list_parser.specs.Budgets.{but_budgets}
use Rattle.budget_search.specs.Alike.{HasAlone}
use Rattle.budget_search.proofs.FundedLemmas.{AreLaidFrom}
use Rattle.budget_search.proofs.funded_list.fund_inits.Given as goal

abbrev pub invariant-loop-init : goal.invariant-loop-init
invariant-loop-init l = record {
  alike : but_budgets l.machine ≡ but_budgets l.initial.machine;
  there : l.init ≤ length l.machine.entries;
  below : l.init ≤ l.component;
  pages : l.machine.pages ≡ l.initial.machine.pages;
  caps_same : l.machine.caps ≡ l.initial.machine.caps;
  own : slice_get l.machine.entries l.component ≡ slice_get l.initial.machine.entries l.component;
  laid : HasAlone l.initial.machine l.component (record { ram = l.ram.0; caps = l.caps.0 }) →
      AreLaidFrom (record { ram = l.ram.0; caps = l.caps.0 }) l.machine.entries l.component l.init;
}

abbrev pub decreases-loop-init : goal.decreases-loop-init
decreases-loop-init l = l.init
