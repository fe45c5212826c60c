-- By where the label is routed.
use Rattle.std.proofs.Common.{◌∙◌, ℕ, List, Option, ap, sym}
use Rattle.list_reach.specs.RoutedLabels.{routed_on}
use Rattle.list_labels.specs.GivenLabels.{leads_to}
use Rattle.list_labels.specs.declared.session_requests.SessionRequests.{SessionRequests}
use Rattle.list_reach.proofs.comparison.child_of.Goals as goal

pub returns-in-Some : goal.returns-in-Some
unfolding leads_to
returns-in-Some c =
    c.route.ensures
    ∙ ap (λ (t : List ℕ). leads_to c.in-Some.wishes.list.now c.in-Some.wishes.client c.in-Some.wishes.service.now t) c.as_bytes.ensures.bytes
    ∙ ap (λ (w : Option SessionRequests). routed_on w c.args.label.now) (sym c.in-Some.is)
