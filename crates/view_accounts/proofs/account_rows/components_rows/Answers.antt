-- A component more.
use Rattle.std.proofs.Common.{◌∷◌, [], ◌∙◌, ap, map, sym}
use Rattle.view_accounts.specs.Rows.{component_view}
use Rattle.view_accounts.specs.RunRows.{component_row, measures_kept}
use Rattle.view_accounts.proofs.RowLemmas.{in_turn-none, pushed}
use Rattle.view_accounts.proofs.account_rows.components_rows.Goals as goal

pub loop-component-init : goal.loop-component-init
loop-component-init g c =
    ap (map component_view) c.new-components.ensures.items
    ∙ sym (in_turn-none (λ component. component_row c.args.list.now (measures_kept c.args.observer.now c.args.list.now) c.args.core.now component ∷ []))

pub loop-component-preserved : goal.loop-component-preserved
loop-component-preserved g c =
    pushed component_view (λ component. component_row c.args.list.now (measures_kept c.args.observer.now c.args.list.now) c.args.core.now component ∷ []) c.loop-component.component
    _ _ _ c.loop-component.invariant c.in_ok-push.ensures.items (ap (λ row. row ∷ []) c.in_ok-component_rows.ensures)
