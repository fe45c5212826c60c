-- One more line of a component.
use Rattle.std.proofs.Common.{arith, ◌≡◌, ℕ, ◌<◌, ◌≤◌, List, [], ◌∷◌, ◌++◌, length, map, get_or, set, sym, ap, ◌∙◌}
use Rattle.std.proofs.lemmas.List.{length-map, map-append}
use Rattle.std.specs.Prelude.{Vec}
use Rattle.budget_search.proofs.ChangeLemmas.{set_changed, changed_past}
use Rattle.budget_search.specs.declared.component_line.ComponentLine.{ComponentLine}
use Rattle.budget_least.specs.ComponentLines.{line_of, lines_of, with_line, ReadLine}

module _ {Z : Type 0} (steps : List (Vec ComponentLine Z)) (component : ℕ) where
  abbrev seen : List (Vec ComponentLine Z) → List (List ReadLine)
  seen lists = map (λ lines. lines_of lines.items) lists

  pub one_more : (old new : Vec ComponentLine Z) (line : ComponentLine) → component < length steps → old ≡ get_or steps component old → new.items ≡ old.items ++ line ∷ [] →
      seen (set steps component new) ≡ with_line component (line_of line) (seen steps)
  one_more old new line there is longer =
      set_changed (λ (lines : Vec ComponentLine Z). lines_of lines.items) (λ lines. lines ++ line_of line ∷ []) steps component old new there
      (ap lines_of longer ∙ map-append line_of old.items (line ∷ []) ∙ ap (λ (lines : Vec ComponentLine Z). lines_of lines.items ++ line_of line ∷ []) is)

  -- of no component
  pub no_more : (line : ReadLine) → length steps ≤ component → seen steps ≡ with_line component line (seen steps)
  no_more line past =
      let count = length-map steps (λ (lines : Vec ComponentLine Z). lines_of lines.items) in
      sym (changed_past (λ lines. lines ++ line ∷ []) (seen steps) component (omega (arith, past, count)))
