-- A number has at most 20 digits.
use Rattle.std.proofs.Common.{ap, arith, rules, length, length-append}
use Rattle.std.proofs.lemmas.Grind.{common_steps}
use Rattle.std.proofs.lemmas.Fmt.{length-decimal-le}
use Rattle.std.specs.Fmt.{decimal}
use Rattle.core_calls.specs.Written.{Written}
use Rattle.core_calls.proofs.bounded_bytes.BoundedBytes.add_number.Goals as goal

pub write_number-end-requires : goal.write_number-end-requires
write_number-end-requires c = search (rules, length-decimal-le 20)

pub returns-clause-added : goal.returns-clause-added
returns-clause-added c = grind (arith, common_steps)

pub returns-clause-len : goal.returns-clause-len
returns-clause-len c =
    let few = length-decimal-le 20 c.args.number (omega arith) (omega (arith, c.ranges.number.fits)) c.ranges.number.fits in
    omega (arith, few, ap (λ (w : Written). length w.text) (returns-clause-added c), length-append c.args.self.now.text (decimal c.args.number))
