-- The limits of so many components are added up, and each component's are few.
use Rattle.std.proofs.Common.{◌≡◌, ◌+◌, ◌*◌, ◌^◌, ◌≤◌, take, sum_by}
use Rattle.own_model.specs.Account.{Account}
use Rattle.own_model.specs.Limits.{ram_limits, caps_limits}
use Rattle.run_lines.proofs.account_sums.sum_all.Given as goal

abbrev pub invariant-loop-component : goal.invariant-loop-component
invariant-loop-component g l = record {
  ram : l.sums.ram ≡ sum_by (λ (a : Account). a.ram_limit) (take (l.component + 1) l.core.inits) + sum_by ram_limits (take l.component l.core.states);
  caps : l.sums.caps ≡ sum_by (λ (a : Account). a.caps_limit) (take (l.component + 1) l.core.inits) + sum_by caps_limits (take l.component l.core.states);
  ram_fits : l.sums.ram ≤ (l.component + 1) * 2 ^ 80;
  caps_fits : l.sums.caps ≤ (l.component + 1) * 2 ^ 80;
}
