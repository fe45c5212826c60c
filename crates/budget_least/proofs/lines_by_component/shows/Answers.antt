-- The reply is the shortage's.
use Rattle.std.proofs.Common.{ap, ◌∙◌}
use Rattle.line_friendly.specs.Expected.{meets}
use Rattle.budget_least.specs.ComponentLines.{shows}
use Rattle.budget_least.proofs.lines_by_component.shows.Goals as goal

pub returns : goal.returns
unfolding shows
returns c = c.meets.ensures.value ∙ ap (λ reply. meets reply c.args.expected.now) (c.as_bytes.ensures.value ∙ c.reply.ensures)
