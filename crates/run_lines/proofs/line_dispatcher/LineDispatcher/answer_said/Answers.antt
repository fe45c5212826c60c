-- A call that is meant is heard, and another's is skipped.
use Rattle.std.proofs.Common.{sym, ◌∙◌}
use Rattle.std.specs.Option.{option_copied}
use Rattle.line_grammar.specs.Read.{spoken_as}
use Rattle.run_lines.proofs.AnsweringLemmas.{answered_heard, heard_meant, left_heard}
use Rattle.run_lines.proofs.line_dispatcher.LineDispatcher.answer_said.Goals as goal

pub returns-then-means-clause-world : goal.returns-then-means-clause-world
returns-then-means-clause-world g c = λ line reads.
    c.answer_call.ensures.world
    ∙ left_heard (heard_meant (option_copied c.args.self.now.only) c.args.core.now line (spoken_as c.args.said) reads.short reads.says (sym c.means.ensures ∙ c.if-means.true))

pub returns-then-means-clause-answered : goal.returns-then-means-clause-answered
returns-then-means-clause-answered g c = λ line reads.
    answered_heard (heard_meant (option_copied c.args.self.now.only) c.args.core.now line (spoken_as c.args.said) reads.short reads.says (sym c.means.ensures ∙ c.if-means.true))
    c.answer_call.ensures.answered
