-- The requests are compared with those of no list.
use Rattle.std.proofs.Common.{◌<◌, ℕ, List, None, length, subst, sym}
use Rattle.std.specs.Prelude.{OnOk}
use Rattle.std.proofs.lemmas.Option.{slice_get_within}
use Rattle.list_labels.specs.GivenLabels.{leads_to}
use Rattle.list_reach.specs.Comparisons.{Compares}
use Rattle.list_reach.specs.Paths.{is_chosen}
use Rattle.list_reach.specs.RoutedLabels.{routed_on}
use Rattle.list_reach.specs.Rows.{AddsRows, asking_rows}
use Rattle.list_reach.specs.ScriptDecisions.{Asking}
use Rattle.list_reach.proofs.reach_table.add_service.Goals as goal

pub of-requires-clause-after : goal.of-requires-clause-after
of-requires-clause-after c =
    let asked = c.args.asked.now in
    subst (λ (a : Asking). a.client < length c.args.list.now.entries) (sym c.asked.view_is)
    (slice_get_within c.args.list.now.entries asked.client asked.entry c.requires.asked)

pub add_cells-requires-clause-sets : goal.add_cells-requires-clause-sets
add_cells-requires-clause-sets c =
    subst (λ (s : List ℕ). Compares (routed_on None) (leads_to c.args.list.now c.asked.inside.client s) c.in_ok-of.field-0) c.as_bytes.ensures.value
    c.in_ok-of.ensures

pub returns : goal.returns
returns c =
    subst
    (λ (a : Asking). OnOk c.add_cells.result
    (AddsRows c.args.list.now c.args.cells.now.items (asking_rows c.args.list.now (is_chosen c.args.chosen.now.to.items) a) c.add_cells.new.cells.items))
    c.asked.view_is c.add_cells.ensures
