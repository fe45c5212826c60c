-- Values of sessions, by the component that has the session and the selector that names it.
use Rattle.std.specs.Prelude.{ℕ, List, [], map, slice_index_or, Option, None, Vec, vec_items}
use Rattle.view_accounts.specs.declared.session_table.SessionTable.{SessionTable}

-- the value of a row under a selector, if there is one
abbrev pub row_value : {T : Type 0} → List (Option T) → ℕ → Option T
row_value row selector = slice_index_or row selector None

-- the row of a component
abbrev pub row_of : {T Z : Type 0} → List (Vec (Option T) Z) → ℕ → List (Option T)
row_of rows component = slice_index_or (map vec_items rows) component []

-- the value under a selector of a component, if there is one
abbrev pub value_at : {T : Type 0} → SessionTable T → ℕ → ℕ → Option T
value_at table component selector = row_value (row_of table.rows.items component) selector
