-- Services of a list, one after another.
use Rattle.std.proofs.Common.{◌≡◌, ℕ, ◌+◌, true, false, List, [], ◌∷◌, ◌++◌, drop, Some, sym, ap, ◌∙◌}
use Rattle.std.specs.Prelude.{if◌then◌else◌}
use Rattle.std.specs.List.{slice_get}
use Rattle.std.proofs.lemmas.List.{append_assoc, drop_more}
use Rattle.std.proofs.lemmas.Option.{get_or_from_slice_get, slice_get_within}
use Rattle.std.specs.Str.{bytes_eq}
use Rattle.own_model.specs.Listed.{ListedEntry}
use Rattle.view_coverage.specs.Covered.{service_number, service_rows, services_rows}
use Rattle.view_coverage.specs.declared.row.CoverageRow.{CoverageRow}

-- what is left of the services from one on
pub left_from : (names : List (List ℕ)) (n : ℕ) (name : List ℕ) → slice_get names n ≡ Some name → drop n names ≡ name ∷ drop (n + 1) names
left_from names n name got =
    drop_more names n name (slice_get_within names n name got)
    ∙ ap (λ y. y ∷ drop (n + 1) names) (get_or_from_slice_get names n name name got)

-- the rows of one service more, and those of the others
pub one_service_more : (all : List ListedEntry) (client n : ℕ) (name : List ℕ) (names : List (List ℕ)) (old new whole : List CoverageRow)
    → slice_get names n ≡ Some name → new ≡ old ++ service_rows all client n name
    → old ++ services_rows all client n (drop n names) ≡ whole
    → new ++ services_rows all client (n + 1) (drop (n + 1) names) ≡ whole
one_service_more all client n name names old new whole got added before =
    let left : List CoverageRow = services_rows all client (n + 1) (drop (n + 1) names) in
    ap (λ rows. rows ++ left) added
    ∙ append_assoc old (service_rows all client n name) left
    ∙ ap (λ rest. old ++ services_rows all client n rest) (sym (left_from names n name got))
    ∙ before

-- the service at a place has the name
pub service_found : (name : List ℕ) (names : List (List ℕ)) (n : ℕ) (service : List ℕ)
    → slice_get names n ≡ Some service → bytes_eq service name ≡ true
    → service_number name n (drop n names) ≡ service_number name 0 names
    → Some n ≡ service_number name 0 names
service_found name names n service got is before =
    sym
    (ap (service_number name n) (left_from names n service got)
    ∙ ap (λ same. if same then Some n else service_number name (n + 1) (drop (n + 1) names)) is)
    ∙ before

-- the service at a place has another name
pub service_passed : (name : List ℕ) (names : List (List ℕ)) (n : ℕ) (service : List ℕ)
    → slice_get names n ≡ Some service → bytes_eq service name ≡ false
    → service_number name n (drop n names) ≡ service_number name 0 names
    → service_number name (n + 1) (drop (n + 1) names) ≡ service_number name 0 names
service_passed name names n service got other before =
    sym
    (ap (service_number name n) (left_from names n service got)
    ∙ ap (λ same. if same then Some n else service_number name (n + 1) (drop (n + 1) names)) other)
    ∙ before
