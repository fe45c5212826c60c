-- By the list of the file.
use Rattle.own_model.specs.Listed.{Listed}
use Rattle.cli_lists.specs.ListStatus.{EndsRouted, HasNoRequest, IsListOf}
use Rattle.cli_lists.proofs.ReviewLemmas.{not_booted, on_read}
use Rattle.cli_lists.proofs.route.show_route.Goals as goal

pub returns-in-Ok : goal.returns-in-Ok
returns-in-Ok g c =
    let asked = c.args.asked.now in
    on_read (g.H.Host.text_at c.args.host.now) c.args.settings asked.list.now Listed IsListOf (HasNoRequest asked) (EndsRouted asked) c.in-Ok.list
    c.route_in.result c.in-Ok.ensures.read c.route_in.ensures

pub returns-in-Err : goal.returns-in-Err
returns-in-Err g c =
    let asked = c.args.asked.now in
    not_booted (g.H.Host.text_at c.args.host.now) c.args.settings asked.list.now Listed IsListOf (HasNoRequest asked) (EndsRouted asked)
    c.in-Err.status c.in-Err.ensures.failed
