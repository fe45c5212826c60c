-- The verdict on the list.
use Rattle.std.proofs.Common.{◌≡◌, subst}
use Rattle.own_model.specs.Listed.{Listed}
use Rattle.cli_base.specs.PolicyVerdict.{IsVerdictAt, verdict_status}
use Rattle.cli_base.proofs.StatusLemmas.{ends_by}
use Rattle.cli_lists.specs.ListStatus.{EndsVerdict}
use Rattle.cli_lists.proofs.check.check_kept.Goals as goal

pub returns-in-Ok : goal.returns-in-Ok
returns-in-Ok g c =
    let texts = g.H.Host.text_at c.args.host.now in
    let verdict = c.in-Ok.verdict in
    ends_by ⊥ ⊥ (λ ended. ended ≡ verdict_status c.args.strict verdict) (EndsVerdict texts c.args.strict c.args.path.now c.args.review.now.list) (λ no. no)
    (λ ended is. (verdict, subst (λ (l : Listed). IsVerdictAt texts c.args.path.now l verdict) c.list.ensures c.in-Ok.ensures, is))
    c.print_ok.result c.print_ok.ensures
