-- A line that is too long is no call.
use Rattle.std.proofs.Common.{inl}
use Rattle.run_lines.proofs.line_dispatcher.LineDispatcher.answer.Goals as goal

pub returns-then-line-gt-LONGEST_LINE-clause-answered : goal.returns-then-line-gt-LONGEST_LINE-clause-answered
returns-then-line-gt-LONGEST_LINE-clause-answered g c = c.answer_no_call.ensures c.args.core.now c.args.line.now (inl c.if-line-gt-LONGEST_LINE.true)
