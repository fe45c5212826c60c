-- By the numbers of the script and the server.
use Rattle.std.proofs.Common.{◌∙◌, ap}
use Rattle.std.specs.Option.{option_map}
use Rattle.list_reach.specs.declared.reach_cell.ReachCell.{ReachCell}
use Rattle.list_diff.specs.Changes.{place_of}
use Rattle.list_diff.specs.Reaches.{cell_at}
use Rattle.list_diff.proofs.reach_changes.reach_of.Goals as goal

pub returns : goal.returns
returns c =
    let cells = c.args.side.cells.now in
    let service = c.args.pair.now.service in
    let client = place_of c.args.side.list.now c.args.pair.now.client.path in
    let numbers =
    ap (λ n. cell_at cells service n c.server_in.result) c.client_in.ensures ∙ ap (λ n. cell_at cells service client n) c.server_in.ensures in
    c.reach_in.ensures ∙ ap (option_map (λ (cell : ReachCell). cell.reach)) (c.cell_at.ensures ∙ numbers)
