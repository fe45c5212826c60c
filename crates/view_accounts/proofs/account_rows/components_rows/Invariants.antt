-- The rows of the components so far.
use Rattle.std.proofs.Common.{◌≡◌, ◌∷◌, [], map}
use Rattle.view_accounts.specs.Rows.{component_view}
use Rattle.view_accounts.specs.RunRows.{component_row, in_turn, measures_kept}
use Rattle.view_accounts.proofs.account_rows.components_rows.Given as goal

abbrev pub invariant-loop-component : goal.invariant-loop-component
invariant-loop-component g l = map component_view l.components.items ≡ in_turn (λ component. component_row l.list (measures_kept l.observer l.list) l.core component ∷ []) l.component
