-- What two texts have in common, and the first name that is near.
use Rattle.std.proofs.Common.{◌≡◌, ℕ, zero, suc, ◌+◌, ◌≤◌, Bool, true, false, cond, List, [], ◌∷◌, length, drop, Option, Some, None, refl, sym, ◌∙◌, ap, add-one}
use Rattle.std.proofs.lemmas.List.{drop_all}
use Rattle.std.proofs.lemmas.Option.{none-some, same_Some}
use Rattle.std.specs.Prelude.{not, ◌&&◌, slice_get}
use Rattle.std.specs.List.{find}
use Rattle.std.specs.Option.{option_map}
use Rattle.own_model.specs.Listed.{ListedEntry}
use Rattle.list_parser.specs.Depth.{is_init}
use Rattle.line_friendly.specs.Forms.{is_one_edit}
use Rattle.run_scenario.specs.Complaints.{common}
use Rattle.run_scenario.specs.Reports.{is_near}

common_none : (text : List ℕ) → common text [] ≡ 0
common_none [] = refl
common_none (b ∷ text) = refl

-- nothing is in common with what is after the end of a text
pub common_over : (text other : List ℕ) (k : ℕ) → length other ≤ k → common (drop k text) (drop k other) ≡ 0
common_over text other k over = ap (common (drop k text)) (drop_all k other over) ∙ common_none (drop k text)

-- ---- the first that passes a test

module _ {X : Type 0} (test : X → Bool) where
  -- it is at a place
  pub found_at : {Y : Type 0} (f : X → Y) (xs : List X) (k : ℕ) (y : Y) → option_map test (slice_get xs k) ≡ Some true → option_map f (slice_get xs k) ≡ Some y → option_map f (find test (drop k xs)) ≡ Some y
  found_at f [] k y passes is = absurd (none-some y is)
  found_at f (x ∷ xs) zero y passes is = ap (λ b. option_map f (cond b (Some x) (find test xs))) (same_Some (test x) true passes) ∙ is
  found_at f (x ∷ xs) (suc k) y passes is = found_at f xs k y passes is

  -- or after it
  found_past : (xs : List X) (k : ℕ) → option_map test (slice_get xs k) ≡ Some false → find test (drop k xs) ≡ find test (drop (suc k) xs)
  found_past [] k fails = absurd (none-some false fails)
  found_past (x ∷ xs) zero fails = ap (λ b. cond b (Some x) (find test xs)) (same_Some (test x) false fails)
  found_past (x ∷ xs) (suc k) fails = found_past xs k fails

  pub found_after : (xs : List X) (k : ℕ) → option_map test (slice_get xs k) ≡ Some false → find test (drop k xs) ≡ find test (drop (k + 1) xs)
  found_after xs k fails = found_past xs k fails ∙ ap (λ n. find test (drop n xs)) (sym (add-one k))

-- one that is near differs by one edit
pub near_edits : (name : List ℕ) (o : Option ListedEntry) (path : List ℕ) → option_map (is_near name) o ≡ Some true → option_map (λ (entry : ListedEntry). entry.path) o ≡ Some path → is_one_edit path name ≡ true
near_edits name None path near is = absurd (none-some path is)
near_edits name (Some entry) path near is =
    ap (λ p. is_one_edit p name) (sym (same_Some entry.path path is)) ∙ second (not (is_init entry)) (is_one_edit entry.path name) (same_Some (is_near name entry) true near)
  where
    second : (a b : Bool) → (a && b) ≡ true → b ≡ true
    second true b both = both
    second false b both = absurd (let e : false ≡ true = both in cc)

-- an init is none, and another component is by its path
pub near_init : (name : List ℕ) (o : Option ListedEntry) → option_map is_init o ≡ Some true → option_map (is_near name) o ≡ Some false
near_init name None init = absurd (none-some true init)
near_init name (Some entry) init = ap (λ b. Some (not b && is_one_edit entry.path name)) (same_Some (is_init entry) true init)

pub near_path : (name : List ℕ) (o : Option ListedEntry) (path : List ℕ) → option_map is_init o ≡ Some false → option_map (λ (entry : ListedEntry). entry.path) o ≡ Some path → option_map (is_near name) o ≡ Some (is_one_edit path name)
near_path name None path other is = absurd (none-some path is)
near_path name (Some entry) path other is =
    ap (λ b. Some (not b && is_one_edit entry.path name)) (same_Some (is_init entry) false other) ∙ ap (λ p. Some (is_one_edit p name)) (same_Some entry.path path is)
