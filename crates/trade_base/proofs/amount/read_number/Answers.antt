-- The number after the last digit.
use Rattle.std.proofs.Common.{◌<◌, ◌≤◌, length, arith, sym, ◌∙◌}
use Rattle.std.proofs.lemmas.Bool.Decides.{nat_tests}
use Rattle.trade_base.proofs.NumberLemmas.{number_at_end, number_of_some}
use Rattle.trade_base.proofs.amount.read_number.Goals as goal

pub returns-else-is_empty : goal.returns-else-is_empty
returns-else-is_empty c =
    let some : 0 < length c.args.digits.now = grind (arith, nat_tests) in
    let done : length c.args.digits.now ≤ c.loop-digit.digit-index = omega arith in
    sym (number_of_some _ some ∙ sym c.loop-digit.invariant.0 ∙ number_at_end _ _ _ c.loop-digit.invariant.1 done)
