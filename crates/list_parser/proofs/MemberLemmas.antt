-- Lists of values.
use Rattle.std.proofs.Common.{◌≡◌, ◌∙◌, ℕ, ◌+◌, ◌≤◌, ◌<◌, List, [], ◌∷◌, length, map, drop, get_or, Some, None, Result, Ok, Err, refl, sym, ap, arith}
use Rattle.std.proofs.lemmas.Bool.Decides.{nat_tests}
use Rattle.std.proofs.lemmas.List.{drop_more}
use Rattle.serde_json.specs.Data.{Data}
use Rattle.serde_json.specs.Find.{as_array}
use Rattle.serde_json.specs.View.{items_of, view}
use Rattle.serde_json.specs.declared.value.Value.{Value}
use Rattle.list_parser.specs.FaultPlace.{◌>>=◌, all_after}
use Rattle.list_parser.specs.Members.{elements, short_list}

-- the elements of an array are those that it was made of
pub elements_of_items : (ds : List Data) → elements (items_of ds) ≡ ds
elements_of_items [] = refl
elements_of_items (d ∷ ds) = rw (elements_of_items ds) refl

-- a list is read in where it is no longer than 32
pub short_list-read : (d : Data) (ds : List Data) → Some (items_of ds) ≡ as_array d → length ds ≤ 32 → Some ds ≡ short_list d
short_list-read d ds is short = rw (← is, elements_of_items ds) (grind (arith, nat_tests))

pub short_list-refused : (d : Data) (ds : List Data) → Some (items_of ds) ≡ as_array d → 32 < length ds → None ≡ short_list d
short_list-refused d ds is long = rw (← is, elements_of_items ds) (grind (arith, nat_tests))

-- ---- a step for each value, one after another

-- nothing is left
pub none_left : {S E : Type 0} (step : S → Data → Result S E) (so_far : S) (values : List Value) → length values ≡ 0 → all_after step so_far (map view values) ≡ Ok so_far
none_left step so_far [] none = refl
none_left step so_far (value ∷ values) none = absurd (omega (arith, none))

-- so many values were passed, and the next one is this
module _ {S E : Type 0} (step : S → Data → Result S E) (first so_far : S) (values : List Value) (i : ℕ) (value : Value)
    (before : all_after step first (map view values) ≡ all_after step so_far (map view (drop i values)))
    (inside : i < length values) (is : value ≡ get_or values i value) where
  to_pass : all_after step first (map view values) ≡ (step so_far (view value) >>= (λ next. all_after step next (map view (drop (i + 1) values))))
  to_pass =
      before
      ∙ ap (λ left. all_after step so_far (map view left)) (drop_more values i value inside ∙ ap (λ v. v ∷ drop (i + 1) values) (sym is))

  -- it has an error
  pub next_refused : (error : E) → step so_far (view value) ≡ Err error → all_after step first (map view values) ≡ Err error
  next_refused error told = to_pass ∙ ap (λ r. r >>= (λ next. all_after step next (map view (drop (i + 1) values)))) told

  -- it is passed
  pub next_passed : (next : S) → step so_far (view value) ≡ Ok next → all_after step first (map view values) ≡ all_after step next (map view (drop (i + 1) values))
  next_passed next told = to_pass ∙ ap (λ r. r >>= (λ next. all_after step next (map view (drop (i + 1) values)))) told
