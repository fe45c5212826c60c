-- What no view tells is so of no script.
use Rattle.std.proofs.Common.{◌∙◌, ap, not}
use Rattle.list_findings.proofs.ViewLemmas.{idle_by_views}
use Rattle.list_findings.proofs.idle_rules.is_idle.Goals as goal

pub returns : goal.returns
returns c =
    ap not c.any_decides.ensures ∙ idle_by_views c.args.decided.list.now c.args.owner c.args.place c.args.decided.views.now c.requires.views
