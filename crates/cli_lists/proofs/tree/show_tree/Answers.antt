-- By the list of the file.
use Rattle.own_model.specs.Listed.{Listed}
use Rattle.cli_base.specs.Statuses.{IsZero}
use Rattle.cli_lists.specs.ListStatus.{IsListOf}
use Rattle.cli_lists.proofs.ReviewLemmas.{not_booted, on_read}
use Rattle.cli_lists.proofs.tree.show_tree.Goals as goal

pub returns-in-Ok : goal.returns-in-Ok
returns-in-Ok g c =
    on_read (g.H.Host.text_at c.args.host.now) c.args.settings c.args.asked.now.list.now Listed IsListOf (λ list. ⊥) (λ list. IsZero)
    c.in-Ok.list c.print_list.result c.in-Ok.ensures.read c.print_list.ensures

pub returns-in-Err : goal.returns-in-Err
returns-in-Err g c =
    not_booted (g.H.Host.text_at c.args.host.now) c.args.settings c.args.asked.now.list.now Listed IsListOf (λ list. ⊥) (λ list. IsZero)
    c.in-Err.status c.in-Err.ensures.failed
