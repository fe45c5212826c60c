-- Lines that are compared with those of another reading, and lines whose donations are set.
use Rattle.std.proofs.Common.{arith, ◌≡◌, ℕ, zero, suc, ◌+◌, ◌<◌, List, [], ◌∷◌, ◌++◌, length, map, get_or, set, refl, sym, ap, ◌∙◌, append_assoc}
use Rattle.std.proofs.lemmas.Option.{slice_get-map}
use Rattle.std.specs.List.{slice_get}
use Rattle.std.specs.Option.{option_map, unwrap_or}
use Rattle.std.specs.Prelude.{option_to_list, Option, Some, None, Vec}
use Rattle.budget_search.specs.declared.component_line.ComponentLine.{ComponentLine}
use Rattle.budget_least.specs.ChangedLines.{changed_before, changed_below, changed_lines, changed_number, lines_at}
use Rattle.budget_least.specs.ComponentAccounts.{steps_at}
use Rattle.budget_least.specs.ComponentLines.{line_of, lines_of, ReadLine}

-- ---- lines of two readings, place by place

-- the line at a place
line_seen : (steps : List ComponentLine) (place : ℕ) (found : Option ComponentLine) → found ≡ slice_get steps place → option_map line_of found ≡ slice_get (lines_of steps) place
line_seen steps place found is = ap (option_map line_of) is ∙ sym (slice_get-map line_of steps place)

pub place_more : (steps others : List ComponentLine) (place : ℕ) (step other : Option ComponentLine) (number : Option ℕ) (before old new : List ℕ) → step ≡ slice_get steps place →
    other ≡ slice_get others place → number ≡ changed_number (option_map line_of step) (option_map line_of other) →
    old ≡ before ++ changed_before place (lines_of steps) (lines_of others) → new ≡ old ++ option_to_list number →
    new ≡ before ++ changed_before (place + 1) (lines_of steps) (lines_of others)
place_more steps others place step other number before old new is_step is_other told so_far longer =
    let next : suc place ≡ place + 1 = omega arith in
    let more : new ≡ before ++ changed_before (suc place) (lines_of steps) (lines_of others) =
    longer
    ∙ ap (λ numbers. numbers ++ option_to_list number) so_far
    ∙ append_assoc before (changed_before place (lines_of steps) (lines_of others)) (option_to_list number)
    ∙ ap (λ (n : Option ℕ). before ++ (changed_before place (lines_of steps) (lines_of others) ++ option_to_list n))
    (told ∙ (λ i. changed_number (line_seen steps place step is_step i) (line_seen others place other is_other i))) in
    more ∙ ap (λ n. before ++ changed_before n (lines_of steps) (lines_of others)) next

-- the lines of a component
module _ {Z : Type 0} where
  abbrev seen : List (Vec ComponentLine Z) → List (List ReadLine)
  seen steps = map (λ lines. lines_of lines.items) steps

  seen_of : (found : Option (Vec ComponentLine Z)) → lines_of (unwrap_or (option_map (λ lines. lines.items) found) []) ≡ unwrap_or (option_map (λ lines. lines_of lines.items) found) []
  seen_of None = refl
  seen_of (Some lines) = refl

  lines_seen : (steps : List (Vec ComponentLine Z)) (component : ℕ) → lines_of (steps_at steps component) ≡ lines_at (seen steps) component
  lines_seen steps component =
      seen_of (slice_get steps component) ∙ ap (λ o. unwrap_or o []) (sym (slice_get-map (λ (lines : Vec ComponentLine Z). lines_of lines.items) steps component))

  pub component_more : (steps others : List (Vec ComponentLine Z)) (component : ℕ) (these those : List ComponentLine) (old new : List ℕ) → these ≡ steps_at steps component →
      those ≡ steps_at others component → old ≡ changed_below component (seen steps) (seen others) → new ≡ old ++ changed_lines (lines_of these) (lines_of those) →
      new ≡ changed_below (component + 1) (seen steps) (seen others)
  component_more steps others component these those old new is_these is_those so_far longer =
      let next : suc component ≡ component + 1 = omega arith in
      let more : new ≡ changed_below (suc component) (seen steps) (seen others) =
      longer
      ∙ ap (λ numbers. numbers ++ changed_lines (lines_of these) (lines_of those)) so_far
      ∙ (λ i. changed_below component (seen steps) (seen others)
      ++ changed_lines ((ap lines_of is_these ∙ lines_seen steps component) i) ((ap lines_of is_those ∙ lines_seen others component) i)) in
      more ∙ ap (λ n. changed_below n (seen steps) (seen others)) next

-- ---- lines whose donations are set

-- what is seen of elements stays, if the element that is written looks the same
pub kept_at : {X Y : Type 0} (seen : X → Y) (xs : List X) (place : ℕ) (old new : X) → place < length xs → old ≡ get_or xs place old → seen new ≡ seen old →
    map seen (set xs place new) ≡ map seen xs
kept_at seen [] place old new there is same = absurd (omega (arith, there))
kept_at seen (x ∷ xs) zero old new there is same = ap (λ y. y ∷ map seen xs) (same ∙ ap seen is)
kept_at seen (x ∷ xs) (suc place) old new there is same = ap (λ ys. seen x ∷ ys) (kept_at seen xs place old new (omega (arith, there)) is same)
