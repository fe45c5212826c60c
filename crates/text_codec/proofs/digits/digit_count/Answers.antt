-- Four digits are counted at a step, and the last ones by how large they are.
use Rattle.std.proofs.Common.{arith, sym}
use Rattle.std.proofs.lemmas.Fmt.{length-decimal-le}
use Rattle.text_codec.proofs.DigitLemmas.{one_digit, two_digits, three_digits, four_digits, five_digits, four_digits_more}
use Rattle.text_codec.proofs.digits.digit_count.Goals as goal

pub overflow_add-count : goal.overflow_add-count
overflow_add-count c =
    omega (arith, c.loop-left.invariant, length-decimal-le 20 c.args.number (omega arith) (omega (arith, c.ranges.number.fits)) c.ranges.number.fits)

pub loop-left-preserved : goal.loop-left-preserved
loop-left-preserved c = omega (arith, c.loop-left.invariant, four_digits_more c.loop-left.left c.loop-left-test.true c.loop-left.auto.left-fits.fits)

pub overflow_add-result : goal.overflow_add-result
overflow_add-result c =
    omega (arith, c.loop-left.invariant, length-decimal-le 20 c.args.number (omega arith) (omega (arith, c.ranges.number.fits)) c.ranges.number.fits)

pub overflow_add-result-then-left-lt100 : goal.overflow_add-result-then-left-lt100
overflow_add-result-then-left-lt100 c =
    omega (arith, c.loop-left.invariant, length-decimal-le 20 c.args.number (omega arith) (omega (arith, c.ranges.number.fits)) c.ranges.number.fits)

pub overflow_add-result-then-left-lt1000 : goal.overflow_add-result-then-left-lt1000
overflow_add-result-then-left-lt1000 c =
    omega (arith, c.loop-left.invariant, length-decimal-le 20 c.args.number (omega arith) (omega (arith, c.ranges.number.fits)) c.ranges.number.fits)

pub overflow_add-result-else-left-lt1000 : goal.overflow_add-result-else-left-lt1000
overflow_add-result-else-left-lt1000 c =
    omega (arith, c.loop-left.invariant, length-decimal-le 20 c.args.number (omega arith) (omega (arith, c.ranges.number.fits)) c.ranges.number.fits)

pub returns-then-left-lt10 : goal.returns-then-left-lt10
returns-then-left-lt10 c = omega (arith, c.loop-left.invariant, one_digit c.loop-left.left c.if-left-lt10.true)

pub returns-then-left-lt100 : goal.returns-then-left-lt100
returns-then-left-lt100 c = omega (arith, c.loop-left.invariant, two_digits c.loop-left.left c.if-left-lt10.false c.if-left-lt100.true)

pub returns-then-left-lt1000 : goal.returns-then-left-lt1000
returns-then-left-lt1000 c = omega (arith, c.loop-left.invariant, three_digits c.loop-left.left c.if-left-lt100.false c.if-left-lt1000.true)

pub returns-else-left-lt1000 : goal.returns-else-left-lt1000
returns-else-left-lt1000 c = omega (arith, c.loop-left.invariant, four_digits c.loop-left.left c.if-left-lt1000.false c.loop-left-test.false)

pub returns-then-number-lt100000 : goal.returns-then-number-lt100000
returns-then-number-lt100000 c = sym (five_digits c.args.number c.if-number-ge10000.true c.if-number-lt100000.true)
