-- What holds of names.
use Rattle.std.proofs.Common.{◌≡◌, ℕ, ◌==◌, ◌||◌, Bool, cond, is_none, length, take, position, slice_index, List, [], ◌∷◌, ◌++◌, Option, Some, None, Result, Ok, refl, sym, ap, ◌∙◌}
use Rattle.std.specs.Option.{option_or}
use Rattle.std.specs.Str.{bytes_eq}
use Rattle.std.proofs.lemmas.Slice.Eq.{bytes_eq-Decides}
use Rattle.std.proofs.Math.Bool.{or-true}
use Rattle.line_friendly.specs.Friendly.{trimmed_line}
use Rattle.line_names.specs.Filling.{FilledLine, body_of, filled_parts, front_length, is_dollar, whole}
use Rattle.line_names.specs.NameTable.{Binding, NameTable, newest}
use Rattle.line_names.specs.Theorems.{BoundNamesStand, GivenNamesCount, MarkedLinesStay, PlainLinesStay, RoundsAreForgotten}
use Rattle.line_names.specs.declared.fault.NameFault.{NameFault}
use Rattle.line_names.proofs.KnownLemmas.{left_at, newest_last, told}

pub plain_lines_stay : PlainLinesStay
plain_lines_stay known line none =
    ap (λ (o : Option ℕ). cond {A = Result FilledLine NameFault} (is_none o || (slice_index (trimmed_line line) 0 == 33 || slice_index (trimmed_line line) 0 == 35))
    (Ok (whole line)) (filled_parts known (front_length line) (body_of line))) none

pub marked_lines_stay : MarkedLinesStay
marked_lines_stay known line marked =
    ap (λ n. cond {A = Result FilledLine NameFault} (is_none (position is_dollar line) || (n == 33 || n == 35))
    (Ok (whole line)) (filled_parts known (front_length line) (body_of line))) marked
    ∙ ap (λ (t : Bool). cond {A = Result FilledLine NameFault} t (Ok (whole line)) (filled_parts known (front_length line) (body_of line))) (or-true (is_none (position is_dollar line)))

-- the last binding of a name is the newest
newest_is : (name value : List ℕ) (bs : List Binding) → newest name (bs ++ record { name = name; value = value } ∷ []) ≡ Some value
newest_is name value bs =
    newest_last name bs (record { name = name; value = value })
    ∙ ap (λ (t : Bool). option_or (cond t (Some value) None) (newest name bs)) ((bytes_eq-Decides name name).1 refl)

pub bound_names_stand : BoundNamesStand
bound_names_stand known name value none =
    ap (λ o. option_or o (newest name (known.bound ++ record { name = name; value = value } ∷ []))) none
    ∙ newest_is name value known.bound

pub given_names_count : GivenNamesCount
given_names_count known name value bound rounds =
    ap (λ o. option_or o (newest name bound)) (newest_is name value known.given)

front_of : (xs ys : List Binding) → take (length xs) (xs ++ ys) ≡ xs
front_of [] ys = refl
front_of (x ∷ xs) ys = ap (λ l. x ∷ l) (front_of xs ys)

pub rounds_are_forgotten : RoundsAreForgotten
rounds_are_forgotten known bound =
    left_at known.given (known.bound ++ bound) known.rounds (length known.bound)
    ∙ ap (λ (l : List Binding). record { given = known.given; bound = l; rounds = known.rounds }) (front_of known.bound bound)
