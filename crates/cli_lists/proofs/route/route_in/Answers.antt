-- The route path of the request, or why there is none.
use Rattle.std.proofs.Common.{◌≡◌}
use Rattle.cli_base.proofs.StatusLemmas.{ends_by}
use Rattle.cli_lists.specs.ListStatus.{EndsRouted, HasNoRequest, routed_status}
use Rattle.cli_lists.proofs.PathLemmas.{no_path}
use Rattle.cli_lists.proofs.route.route_in.Goals as goal

pub returns-in-Ok : goal.returns-in-Ok
returns-in-Ok c =
    let path = c.in-Ok.path in
    let asked = c.args.asked.now in
    ends_by ⊥ (HasNoRequest asked c.args.list.now) (λ ended. ended ≡ routed_status path.child) (EndsRouted asked c.args.list.now)
    (λ no. absurd no)
    (λ ended is.
    (path, rw (c.as_bytes.ensures.value, c.as_bytes-2.ensures.value, c.as_bytes-3.ensures.value) at c.in-Ok.ensures.answers, is))
    c.print_path.result c.print_path.ensures

pub returns-in-Err : goal.returns-in-Err
returns-in-Err c =
    let asked = c.args.asked.now in
    no_path c.args.list.now asked.client.now asked.args.now (EndsRouted asked c.args.list.now) c.in-Err.fault c.report_no_path.result
    (rw (c.as_bytes.ensures.value, c.as_bytes-3.ensures.value) at c.in-Err.ensures.fault) c.report_no_path.ensures
