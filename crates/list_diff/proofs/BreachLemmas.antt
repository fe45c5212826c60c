-- The breaches of one line more.
use Rattle.std.proofs.Common.{◌≡◌, ◌∙◌, ◌<◌, ◌+◌, ℕ, List, [], ◌∷◌, ◌++◌, length, get_or, map, take, refl, sym, subst, ap}
use Rattle.std.proofs.lemmas.List.{append-nil, append_assoc, map-append, take_more}
use Rattle.own_model.specs.Listed.{Listed}
use Rattle.list_policy.specs.Line.{LineAt, line_at}
use Rattle.list_policy.specs.declared.demand.PolicyLine.{PolicyLine}
use Rattle.list_diff.specs.PlacedBreaches.{AddsBreaches, ArePlaces, BreachPlace, place_at}

placed_more : (list : Listed) (lines : List LineAt) (line : LineAt) (old new : List BreachPlace) → ArePlaces list lines old
    → AddsBreaches list line old new → ArePlaces list (lines ++ line ∷ []) new
placed_more list [] line old new none adds = (
  adds.0,
  [],
  adds.2 ∙ ap (λ o. o ++ map (place_at list line) adds.0) none ∙ sym (append-nil (map (place_at list line) adds.0)),
  adds.1,
  refl,
)
placed_more list (one ∷ lines) line old new placed adds = (
  placed.0,
  placed.1 ++ map (place_at list line) adds.0,
  adds.2 ∙ ap (λ o. o ++ map (place_at list line) adds.0) placed.2
      ∙ append_assoc (map (place_at list one) placed.0) placed.1 (map (place_at list line) adds.0),
  placed.3,
  placed_more list lines line placed.1 (placed.1 ++ map (place_at list line) adds.0) placed.4 (adds.0, adds.1, refl),
)

-- the breaches of the line at a place, after those of the lines before it
pub next_placed : (list : Listed) (lines : List PolicyLine) (place : ℕ) (line : PolicyLine) (old new : List BreachPlace)
    → ArePlaces list (map line_at (take place lines)) old → place < length lines → line ≡ get_or lines place line
    → AddsBreaches list (line_at line) old new → ArePlaces list (map line_at (take (place + 1) lines)) new
next_placed list lines place line old new placed within at adds =
    subst (λ l. ArePlaces list l new)
    (sym (ap (map line_at) (take_more lines place line within ∙ ap (λ p. take place lines ++ p ∷ []) (sym at)) ∙ map-append line_at (take place lines) (line ∷ [])))
    (placed_more list (map line_at (take place lines)) (line_at line) old new placed adds)
