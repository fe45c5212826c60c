-- Rows of values, once one of their values or one of the rows is another.
use Rattle.std.proofs.Common.{◌≡◌, ℕ, ◌<◌, ◌==◌, ◌&&◌, Bool, true, false, cond, eqb-true, List, [], length, map, get_or, set, refl, sym, ◌∙◌, ap, arith}
use Rattle.std.proofs.lemmas.Bool.{eqb-false}
use Rattle.std.proofs.lemmas.List.{get_or-map, get_or-set_other, get_or-set_same, length-map, map-set}
use Rattle.std.specs.Prelude.{Option, None, Vec, vec_items}
use Rattle.view_accounts.specs.SessionTable.{row_value, row_of}

module _ {T Z : Type 0} where
  -- a row that was read
  pub row_read : (rows : List (Vec (Option T) Z)) (component : ℕ) (row : Vec (Option T) Z) → component < length rows → row ≡ get_or rows component row → row_of rows component ≡ row.items
  row_read rows component row within read = get_or-map vec_items rows component row [] within ∙ ap vec_items (sym read)

  -- another row at a place
  row-set : (rows : List (Vec (Option T) Z)) (component : ℕ) (row : Vec (Option T) Z) (c : ℕ) → component < length rows → row_of (set rows component row) c ≡ cond (c == component) row.items (row_of rows c)
  row-set rows component row c within = elim (c == component) as (λ b. (c == component) ≡ b → row_of (set rows component row) c ≡ cond b row.items (row_of rows c)) [
    | true ↦ λ same.
        ap (λ rs. get_or rs c []) (map-set vec_items rows component row) ∙ ap (λ k. get_or (set (map vec_items rows) component row.items) k []) (eqb-true c component same)
        ∙ get_or-set_same (map vec_items rows) component row.items [] (omega (arith, within, length-map rows vec_items))
    | false ↦ λ apart.
        ap (λ rs. get_or rs c []) (map-set vec_items rows component row)
        ∙ get_or-set_other (map vec_items rows) component c row.items [] (eqb-false c component apart)
  ] refl

  -- a row at a place whose value under a selector is another
  pub value-set : (rows : List (Vec (Option T) Z)) (component : ℕ) (row : Vec (Option T) Z) (selector : ℕ) (x : Option T) (old : List (Option T)) → component < length rows →
      row_of rows component ≡ old → ((q : ℕ) → row_value row.items q ≡ cond (q == selector) x (row_value old q)) →
      (c q : ℕ) → row_value (row_of (set rows component row) c) q ≡ cond (c == component && q == selector) x (row_value (row_of rows c) q)
  value-set rows component row selector x old within was is c q = ap (λ r. row_value r q) (row-set rows component row c within) ∙ by (c == component) refl
    where
      by : (b : Bool) → (c == component) ≡ b → row_value (cond b row.items (row_of rows c)) q ≡ cond (b && q == selector) x (row_value (row_of rows c) q)
      by true same = is q ∙ ap (λ r. cond (q == selector) x (row_value r q)) (sym (ap (row_of rows) (eqb-true c component same) ∙ was))
      by false apart = refl

  -- an empty row at a place
  pub value-none : (rows : List (Vec (Option T) Z)) (component : ℕ) (row : Vec (Option T) Z) → component < length rows → row.items ≡ [] →
      (c q : ℕ) → row_value (row_of (set rows component row) c) q ≡ cond (c == component) None (row_value (row_of rows c) q)
  value-none rows component row within empty c q = ap (λ r. row_value r q) (row-set rows component row c within) ∙ by (c == component)
    where
      by : (b : Bool) → row_value (cond b row.items (row_of rows c)) q ≡ cond b None (row_value (row_of rows c) q)
      by true = ap (λ r. row_value r q) empty
      by false = refl
