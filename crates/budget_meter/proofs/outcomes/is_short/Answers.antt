-- By the outcome, of which the text is the rendering.
use Rattle.std.proofs.Common.{◌∙◌}
use Rattle.budget_meter.proofs.OutcomeLemmas.{reads}
use Rattle.budget_meter.proofs.outcomes.is_short.Goals as goal

pub returns : goal.returns
returns c = c.lacks_session.ensures ∙ (reads c.args.reply.outcome c.args.reply.text.now c.args.reply.rendered).2
