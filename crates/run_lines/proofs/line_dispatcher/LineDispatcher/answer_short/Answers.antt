-- What is read as a call is answered as such, and what isn't as none.
use Rattle.std.proofs.Common.{inr}
use Rattle.run_lines.proofs.line_dispatcher.LineDispatcher.answer_short.Goals as goal

pub returns-in-Ok-clause-world : goal.returns-in-Ok-clause-world
returns-in-Ok-clause-world g c = c.answer_said.ensures.world c.args.line.now (record { short = c.requires.short; says = c.in-Ok.ensures.value; formed = c.in-Ok.ensures.well_formed })

pub returns-in-Ok-clause-answered : goal.returns-in-Ok-clause-answered
returns-in-Ok-clause-answered g c = c.answer_said.ensures.answered c.args.line.now (record { short = c.requires.short; says = c.in-Ok.ensures.value; formed = c.in-Ok.ensures.well_formed })

pub returns-in-Err-clause-answered : goal.returns-in-Err-clause-answered
returns-in-Err-clause-answered g c = c.answer_no_call.ensures c.args.core.now c.args.line.now (inr c.in-Err.ensures.none)
