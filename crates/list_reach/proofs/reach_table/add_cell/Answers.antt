-- One cell more.
use Rattle.std.proofs.Common.{[], ◌∷◌, None, subst, sym}
use Rattle.list_labels.specs.GivenLabels.{leads_to}
use Rattle.list_reach.specs.Rows.{AddsRows, Row, row_of}
use Rattle.list_reach.specs.RoutedLabels.{routed_on}
use Rattle.list_reach.specs.Table.{IsTrue}
use Rattle.list_reach.proofs.AdditionLemmas.{adds_one}
use Rattle.list_reach.proofs.ComparisonLemmas.{set_of_server}
use Rattle.list_reach.proofs.reach_table.add_cell.Goals as goal

pub returns : goal.returns
returns c =
    let found = c.args.found.now in
    let row : Row = record { client = found.client; service = found.service.now; server = c.args.server } in
    let gains = c.in_ok-gained.ensures (routed_on None) (leads_to found.list.now found.client found.service.now) c.requires.sets in
    subst (λ cells. AddsRows found.list.now c.args.cells.now.items (row ∷ []) cells) (sym c.in_ok-push.ensures.items)
    (adds_one row_of (IsTrue found.list.now) c.args.cells.now.items _ c.requires.cells
    (record {
      reach = c.reach-reach.ensures found.list.now found.client found.service.now c.requires.sets gains.witness;
      labels = set_of_server found.list.now found.client found.service.now c.args.server _ gains;
    }))
