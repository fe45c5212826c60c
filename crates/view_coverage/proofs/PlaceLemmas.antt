-- The place of a start list among those of a report.
use Rattle.std.proofs.Common.{◌≡◌, ◌≤◌, ℕ, List, [], ◌∷◌, ◌++◌, bytes_eq, length, get_or, String, Global, string_bytes, Some, is_some, true≢false, refl, sym, ap, arith, ◌∙◌, length-append}
use Rattle.std.specs.List.{slice_get}
use Rattle.std.specs.Option.{option_and_then, option_map, unwrap_or}
use Rattle.std.proofs.lemmas.List.Quantifiers.{position-Some}
use Rattle.std.proofs.lemmas.Option.{slice_get-get_or, slice_get_past, slice_get_read}
use Rattle.std.proofs.lemmas.Slice.Eq.{bytes_eq-Decides}
use Rattle.std.proofs.Math.Seq.{get_or-append_seam}
use Rattle.view_coverage.specs.Reported.{list_at, place_of}
use Rattle.view_coverage.specs.declared.report.CoverageSheet.{CoverageSheet}

-- a start list that is found has the path
pub found_at : (lists : List (String Global)) (path : List ℕ) (place : ℕ) → place_of lists path ≡ Some place → list_at lists place ≡ Some path
found_at [] path place found = absurd (true≢false (sym (ap is_some found)))
found_at (list ∷ lists) path place found =
    let first = position-Some (λ (t : String Global). bytes_eq (string_bytes t) path) (list ∷ lists) place list found in
    ap (option_map (λ (t : String Global). string_bytes t)) (slice_get-get_or (list ∷ lists) place list first.0)
    ∙ ap Some ((bytes_eq-Decides (string_bytes (get_or (list ∷ lists) place list)) path).0 first.1)

last_there : {X : Type 0} (xs : List X) (x : X) → slice_get (xs ++ x ∷ []) (length xs) ≡ Some x
last_there xs x =
    slice_get_read (xs ++ x ∷ []) (length (xs ++ x ∷ [])) (length xs) x refl (omega (arith, length-append xs (x ∷ []))) (sym (get_or-append_seam xs x [] x))

pub last_is : (lists : List (String Global)) (text : String Global) (path : List ℕ) → string_bytes text ≡ path →
    list_at (lists ++ text ∷ []) (length lists) ≡ Some path
last_is lists text path named = ap (option_map (λ (t : String Global). string_bytes t)) (last_there lists text) ∙ ap Some named

pub added_on : (lists : List (String Global)) (sheets : List CoverageSheet) (sheet : CoverageSheet) (path : List ℕ) → list_at lists sheet.list ≡ Some path →
    option_and_then (λ (s : CoverageSheet). list_at lists s.list) (slice_get (sheets ++ sheet ∷ []) (length sheets)) ≡ Some path
added_on lists sheets sheet path on = ap (option_and_then (λ (s : CoverageSheet). list_at lists s.list)) (last_there sheets sheet) ∙ on

-- a service that isn't there has no name
pub no_service : (services : List (List ℕ)) (number : ℕ) → length services ≤ number → unwrap_or (slice_get services number) [] ≡ []
no_service services number past = ap (λ name. unwrap_or name []) (slice_get_past services number past)
