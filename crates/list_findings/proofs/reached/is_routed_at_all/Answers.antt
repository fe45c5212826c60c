-- What the views tell is so of the client.
use Rattle.std.proofs.Common.{◌∙◌}
use Rattle.list_findings.proofs.ViewLemmas.{somewhere_by_views}
use Rattle.list_findings.proofs.reached.is_routed_at_all.Goals as goal

pub returns : goal.returns
returns c = λ list show. c.any_of.ensures ∙ somewhere_by_views list c.args.client c.args.views.now show
