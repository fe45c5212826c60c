-- A line of a policy.
use Rattle.std.specs.Prelude.{ℕ, List}
use Rattle.list_policy.specs.declared.demand.Demand.{Demand}
use Rattle.list_policy.specs.declared.demand.PolicyLine.{PolicyLine}

-- a line: its place, what it demands, and the numbers of the components that it names
pub record LineAt : Type 0 where
  pub number : ℕ
  pub column : ℕ
  pub demand : Demand
  pub from : List ℕ
  pub to : List ℕ

abbrev pub line_at : PolicyLine → LineAt
line_at line = record { number = line.number; column = line.column; demand = line.demand; from = line.from.items; to = line.to.items }
