-- A line that was read at sight is the engine's as it stands.
use Rattle.std.proofs.Common.{◌∙◌, sym}
use Rattle.line_friendly.proofs.PlainLemmas.{later_forms_are_marked, plain_lines_pass}
use Rattle.line_friendly.proofs.reading.read_friendly.Goals as goal

pub returns-in-Some-clause-value : goal.returns-in-Some-clause-value
returns-in-Some-clause-value c = sym (plain_lines_pass c.args.line.now c.in-Some.ensures.plain)

pub returns-in-Some-clause-later : goal.returns-in-Some-clause-later
returns-in-Some-clause-later c = later_forms_are_marked

pub returns-in-None-clause-plain : goal.returns-in-None-clause-plain
returns-in-None-clause-plain c = λ plain. c.said_of.ensures.value ∙ plain_lines_pass c.args.line.now plain

pub returns-in-None-clause-later : goal.returns-in-None-clause-later
returns-in-None-clause-later c = later_forms_are_marked
