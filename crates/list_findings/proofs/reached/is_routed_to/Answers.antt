-- What the views tell is so of all scripts.
use Rattle.std.proofs.Common.{◌∙◌}
use Rattle.list_findings.proofs.ViewLemmas.{led_by_views}
use Rattle.list_findings.proofs.reached.is_routed_to.Goals as goal

pub returns : goal.returns
returns c = λ list show. c.any_leads.ensures ∙ led_by_views list c.args.child c.args.views.now show
