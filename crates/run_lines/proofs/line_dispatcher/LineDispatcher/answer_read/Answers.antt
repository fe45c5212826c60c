-- A call is answered as such, and what is none as none.
use Rattle.std.proofs.Common.{subst}
use Rattle.std.specs.Option.{option_copied}
use Rattle.line_grammar.specs.Read.{IsReadAs}
use Rattle.run_lines.proofs.AnsweringLemmas.{left_no_call}
use Rattle.run_lines.proofs.line_dispatcher.LineDispatcher.answer_read.Goals as goal

pub answer_said-requires-clause-formed : goal.answer_said-requires-clause-formed
answer_said-requires-clause-formed g c = (subst (IsReadAs c.args.line.now) c.in-Some.is c.requires.read).formed

pub returns-in-Some-clause-world : goal.returns-in-Some-clause-world
returns-in-Some-clause-world g c = c.answer_said.ensures.world c.args.line.now (subst (IsReadAs c.args.line.now) c.in-Some.is c.requires.read)

pub returns-in-Some-clause-answered : goal.returns-in-Some-clause-answered
returns-in-Some-clause-answered g c = c.answer_said.ensures.answered c.args.line.now (subst (IsReadAs c.args.line.now) c.in-Some.is c.requires.read)

pub returns-in-None-clause-world : goal.returns-in-None-clause-world
returns-in-None-clause-world g c = left_no_call (option_copied c.args.self.now.only) c.args.core.now c.args.line.now (subst (IsReadAs c.args.line.now) c.in-None.is c.requires.read)

pub returns-in-None-clause-answered : goal.returns-in-None-clause-answered
returns-in-None-clause-answered g c = c.answer_no_call.ensures c.args.core.now c.args.line.now (subst (IsReadAs c.args.line.now) c.in-None.is c.requires.read)
