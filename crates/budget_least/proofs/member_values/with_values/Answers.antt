-- All of the text.
use Rattle.budget_least.specs.MemberValues.{text_with}
use Rattle.budget_least.specs.ValueWriters.{values_of}
use Rattle.budget_least.proofs.ValueLemmas.{text_end}
use Rattle.budget_least.proofs.member_values.with_values.Goals as goal

pub returns : goal.returns
returns c = text_end c.loop-byte.writer c.end_scalar.new.self c.args.text.now (text_with (values_of c.args.values.now) c.args.text.now) c.loop-byte.byte-index c.loop-byte-test.false c.loop-byte.invariant.text c.in_ok-end_scalar.ensures.text
