-- By the filter of the paths.
use Rattle.cli_base.specs.Statuses.{IsZero}
use Rattle.cli_base.proofs.StatusLemmas.{ends_by}
use Rattle.cli_lists.specs.ListStatus.{EndsNamed, NamesNone}
use Rattle.cli_lists.proofs.ReviewLemmas.{refused_or_one}
use Rattle.cli_lists.proofs.reach_command.reach_in.Goals as goal

pub returns-in-Ok : goal.returns-in-Ok
returns-in-Ok c =
    let asked = c.args.asked.now in
    ends_by ⊥ (NamesNone asked c.args.list.now) IsZero (EndsNamed asked c.args.list.now) (λ no. absurd no)
    (λ ended zero. (c.in-Ok.ensures.named, zero)) c.print_reach.result c.print_reach.ensures

pub returns-in-Err : goal.returns-in-Err
returns-in-Err c =
    let asked = c.args.asked.now in
    refused_or_one (NamesNone asked c.args.list.now) (EndsNamed asked c.args.list.now) c.in-Err.status c.in-Err.ensures.failed
