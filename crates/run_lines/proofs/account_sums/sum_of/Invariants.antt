-- The limits of what so many selectors name are added up, and each session's fit 64 bits.
use Rattle.std.proofs.Common.{◌≡◌, ◌+◌, ◌*◌, ◌^◌, ◌≤◌}
use Rattle.own_model.proofs.NatMapSums.{sum_below}
use Rattle.own_model.specs.Limits.{ram_with, caps_with}
use Rattle.own_model.specs.StartList.{init_at}
use Rattle.own_model.specs.Transcript.{state_at}
use Rattle.run_lines.proofs.account_sums.sum_of.Given as goal

abbrev pub invariant-loop-selector : goal.invariant-loop-selector
invariant-loop-selector g l =
    let s = state_at l.core.states l.component in
    let init = init_at l.core.inits (l.component + 1) in
    record {
      ram : l.sums.ram ≡ init.ram_limit + s.account.ram_limit + s.reserve.ram + sum_below ram_with s.selectors l.selector;
      caps : l.sums.caps ≡ init.caps_limit + s.account.caps_limit + s.reserve.caps + sum_below caps_with s.selectors l.selector;
      ram_fits : l.sums.ram ≤ (l.selector + 2) * 2 ^ 64;
      caps_fits : l.sums.caps ≤ (l.selector + 2) * 2 ^ 64;
    }
