-- The digits find room, and end where they are counted to.
use Rattle.std.proofs.Common.{◌+◌, arith}
use Rattle.std.specs.Fmt.{decimal}
use Rattle.text_codec.proofs.DigitLemmas.{one_digit, written_from}
use Rattle.std.proofs.lemmas.Fmt.{decimal_digit}
use Rattle.std.proofs.lemmas.List.{take_more_set}
use Rattle.text_codec.proofs.digits.write_number.Goals as goal

pub write_digits-requires : goal.write_digits-requires
write_digits-requires c = (omega (arith, c.digit_count.ensures), omega (arith, c.digit_count.ensures, c.requires))

pub returns-clause-written : goal.returns-clause-written
returns-clause-written c =
    let w = c.write_digits.ensures in
    written_from c.args.text.now c.write_digits.new.buf (decimal c.args.number) c.args.at c.write_digits.result _ w.start (omega (arith, c.digit_count.ensures)) (omega (arith, c.digit_count.ensures, c.requires)) w.before w.written

pub bounds-text-at : goal.bounds-text-at
bounds-text-at c = omega (arith, one_digit c.args.number c.if-number-lt10.true, c.requires)

pub returns-then-number-lt10-clause-end : goal.returns-then-number-lt10-clause-end
returns-then-number-lt10-clause-end c = omega (arith, one_digit c.args.number c.if-number-lt10.true)

pub returns-then-number-lt10-clause-written : goal.returns-then-number-lt10-clause-written
returns-then-number-lt10-clause-written c =
    rw (decimal_digit c.args.number c.if-number-lt10.true) (take_more_set c.args.text.now c.args.at (48 + c.args.number) (omega (arith, one_digit c.args.number c.if-number-lt10.true, c.requires)))
