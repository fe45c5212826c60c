-- What rows are once answers are noted in them, one after another.
use Rattle.std.proofs.Common.{◌≡◌, ◌||◌, ℕ, Bool, true, false, List, [], ◌∷◌, ◌++◌, drop, take, length, map, refl, ap, sym, ◌∙◌}
use Rattle.std.specs.List.{list_any}
use Rattle.std.proofs.Math.Seq.{take-append_seam}
use Rattle.std.proofs.lemmas.List.{length-map}
use Rattle.own_model.specs.Listed.{Listed}
use Rattle.view_coverage.specs.Covered.{Answer, evidence, is_shown, row_by, row_with, rows_after, rows_of}
use Rattle.view_coverage.specs.declared.row.CoverageRow.{CoverageRow}

-- ---- each row by all answers

or_false : (b : Bool) → b ≡ (b || false)
or_false true = refl
or_false false = refl

or_more : (a b c : Bool) → ((a || b) || c) ≡ (a || (b || c))
or_more true b c = refl
or_more false b c = refl

by_none : (list : Listed) (rows : List CoverageRow) → rows ≡ map (row_by list []) rows
by_none list [] = refl
by_none list (row ∷ rows) =
    ap (λ m. record { event = row.event; met = m } ∷ rows) (or_false row.met)
    ∙ ap (λ rs. row_by list [] row ∷ rs) (by_none list rows)

by_more : (list : Listed) (answer : Answer) (answers : List Answer) (rows : List CoverageRow) →
    map (row_by list answers) (map (row_with (evidence list answer)) rows)
    ≡ map (row_by list (answer ∷ answers)) rows
by_more list answer answers [] = refl
by_more list answer answers (row ∷ rows) =
    ap (λ m. record { event = row.event; met = m }
    ∷ map (row_by list answers) (map (row_with (evidence list answer)) rows))
    (or_more row.met (is_shown list row.event answer) (list_any (is_shown list row.event) answers))
    ∙ ap (λ rs. row_by list (answer ∷ answers) row ∷ rs) (by_more list answer answers rows)

by_all : (list : Listed) (answers : List Answer) (rows : List CoverageRow) → rows_after list answers rows ≡ map (row_by list answers) rows
by_all list [] rows = by_none list rows
by_all list (answer ∷ answers) rows =
    by_all list answers (map (row_with (evidence list answer)) rows)
    ∙ by_more list answer answers rows

-- ---- all answers

-- as many rows stay
as_many : (list : Listed) (answers : List Answer) (rows : List CoverageRow) → length (rows_after list answers rows) ≡ length rows
as_many list [] rows = refl
as_many list (answer ∷ answers) rows =
    as_many list answers (map (row_with (evidence list answer)) rows) ∙ length-map rows _

-- rows that were lent to be noted in, as they come back
pub covered_whole : (list : Listed) (answers : List Answer) (count : ℕ) (made now new : List CoverageRow) →
    now ≡ made → count ≡ length now → made ≡ rows_of list → new ≡ rows_after list answers now →
    take count (new ++ drop (length new) made) ≡ map (row_by list answers) (rows_of list)
covered_whole list answers count made now new now_is count_is made_is notes =
    let many : length new ≡ count = ap length notes ∙ as_many list answers now ∙ sym count_is in
    let whole : take count (new ++ drop (length new) made) ≡ new = rw (← many) (take-append_seam new (drop (length new) made)) in
    whole ∙ notes ∙ rw (now_is, made_is) (by_all list answers (rows_of list))
