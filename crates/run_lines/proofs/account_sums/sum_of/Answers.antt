-- Past the last selector there is no session, so all limits are added up.
use Rattle.std.proofs.Common.{arith}
use Rattle.own_model.proofs.NatMapSums.{total_below}
use Rattle.own_model.specs.Limits.{ram_with, caps_with}
use Rattle.own_model.specs.Transcript.{state_at}
use Rattle.run_lines.proofs.account_sums.sum_of.Goals as goal

pub returns-clause-ram : goal.returns-clause-ram
returns-clause-ram g c =
    let all = total_below ram_with (state_at c.args.core.now.states c.args.component).selectors c.loop-selector.selector
    (λ k more. c.last_selector-selector-end.ensures.none k (omega (arith, more))) in
    omega (arith, c.loop-selector.invariant.ram, all)

pub returns-clause-caps : goal.returns-clause-caps
returns-clause-caps g c =
    let all = total_below caps_with (state_at c.args.core.now.states c.args.component).selectors c.loop-selector.selector
    (λ k more. c.last_selector-selector-end.ensures.none k (omega (arith, more))) in
    omega (arith, c.loop-selector.invariant.caps, all)
