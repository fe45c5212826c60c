-- By the list of the file.
use Rattle.own_model.specs.Listed.{Listed}
use Rattle.cli_lists.specs.ListStatus.{EndsNamed, IsListOf, NamesNone}
use Rattle.cli_lists.proofs.ReviewLemmas.{not_booted, on_read}
use Rattle.cli_lists.proofs.reach_command.show_reach.Goals as goal

pub returns-in-Ok : goal.returns-in-Ok
returns-in-Ok g c =
    let asked = c.args.asked.now in
    on_read (g.H.Host.text_at c.args.host.now) c.args.settings asked.list.now Listed IsListOf (NamesNone asked) (EndsNamed asked) c.in-Ok.list
    c.reach_in.result c.in-Ok.ensures.read c.reach_in.ensures

pub returns-in-Err : goal.returns-in-Err
returns-in-Err g c =
    let asked = c.args.asked.now in
    not_booted (g.H.Host.text_at c.args.host.now) c.args.settings asked.list.now Listed IsListOf (NamesNone asked) (EndsNamed asked)
    c.in-Err.status c.in-Err.ensures.failed
