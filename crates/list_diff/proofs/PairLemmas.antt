-- Each pair of a table is compared, and the rows of a pair that is compared are among all rows.
use Rattle.std.proofs.Common.{◌≡◌, ◌∙◌, ◌<◌, ◌==◌, ◌&&◌, ℕ, zero, suc, Bool, true, List, [], ◌∷◌, length, get_or, refl, sym, subst, ap, Option, Some, None, arith}
use Rattle.std.specs.Prelude.{Contains, find}
use Rattle.std.specs.List.{flat_map, slice_get, position_or_len}
use Rattle.std.specs.Option.{option_map, option_to_list}
use Rattle.std.specs.Str.{bytes_eq}
use Rattle.std.proofs.lemmas.Bool.Decides.{nat_tests}
use Rattle.std.proofs.lemmas.List.Elements.{Contains-append_left, Contains-append_right}
use Rattle.std.proofs.lemmas.List.Folds.{find_at}
use Rattle.std.proofs.lemmas.List.Quantifiers.{position-Some}
use Rattle.std.proofs.lemmas.List.Sums.{passes_at_first}
use Rattle.std.proofs.lemmas.Option.{get_or_from_slice_get, slice_get-get_or, slice_get_within}
use Rattle.std.proofs.lemmas.Slice.Eq.{bytes_eq-Decides}
use Rattle.own_model.specs.Listed.{Listed, ListedEntry}
use Rattle.list_reach.specs.declared.reach_cell.ReachCell.{ReachCell}
use Rattle.list_diff.specs.Changes.{place_of}
use Rattle.list_diff.specs.NewAccess.{HasCell}
use Rattle.list_diff.specs.Reaches.{HasRows, Shows, cell_at, cell_of, compared_pairs, is_cell, new_pair, new_pairs, old_pair, old_pairs, pair_at, pair_of, pair_unless}
use Rattle.list_diff.specs.Routes.{Pair}
use Rattle.list_diff.specs.declared.reach_changes.ReachChange.{ReachChange}
use Rattle.list_diff.specs.declared.reach_changes.ReachSide.{ReachSide}

contains_at : {X Y : Type 0} (f : X → List Y) (xs : List X) (k : ℕ) (x : X) (y : Y) → k < length xs → get_or xs k x ≡ x → Contains (f x) y
    → Contains (flat_map f xs) y
contains_at f [] k x y within is there = absurd (omega (arith, within))
contains_at f (z ∷ xs) zero x y within is there = Contains-append_left (f z) (flat_map f xs) y (subst (λ a. Contains (f a) y) (sym is) there)
contains_at f (z ∷ xs) (suc k) x y within is there =
    Contains-append_right (f z) (flat_map f xs) y (contains_at f xs k x y (omega (arith, within)) is there)

pub contains_found : {X Y : Type 0} (f : X → List Y) (xs : List X) (x : X) (y : Y) → Contains xs x → Contains (f x) y → Contains (flat_map f xs) y
contains_found f xs x y at there = contains_at f xs at.0 x y at.1 at.2 there

-- the only element
pub contains_one : {X : Type 0} (x : X) → Contains (x ∷ []) x
contains_one x = (0, omega arith, refl)

-- what a search finds is there, and passes
found_there : {X : Type 0} (test : X → Bool) (xs : List X) (x : X) → find test xs ≡ Some x → Contains xs x × (test x ≡ true)
found_there test xs x is =
    let at : slice_get xs (position_or_len test xs) ≡ Some x = sym (find_at test xs) ∙ is in
    let within = slice_get_within xs (position_or_len test xs) x at in
    let same : get_or xs (position_or_len test xs) x ≡ x = get_or_from_slice_get xs (position_or_len test xs) x x at in
    ((position_or_len test xs, within, same), subst (λ y. test y ≡ true) same (passes_at_first test xs x within))

-- the entry at the place of a path has the path
placed : (list : Listed) (path : List ℕ) (place : ℕ) (some : ListedEntry) → place_of list path ≡ Some place
    → (entry : ListedEntry) × (slice_get list.entries place ≡ Some entry) × (entry.path ≡ path)
placed list path place some is =
    let at = position-Some (λ (entry : ListedEntry). bytes_eq entry.path path) list.entries place some is in
    let entry = get_or list.entries place some in
    (entry, slice_get-get_or list.entries place some at.0, (bytes_eq-Decides entry.path path).0 at.1)

-- ---- each pair of a table is compared

-- two pairs have the same paths
pub record IsAlike (pair other : Pair) : Type 0 where
  pub client : other.client.path ≡ pair.client.path
  pub service : other.service ≡ pair.service
  pub server : other.server.path ≡ pair.server.path

abbrev pub IsComparedAlike : ReachSide → ReachSide → Pair → Type 0
IsComparedAlike before after pair = (other : Pair) × Contains (compared_pairs before after) other × IsAlike pair other

pub old_compared : (before after : ReachSide) (pair : Pair) → HasCell before pair → IsComparedAlike before after pair
old_compared before after pair has =
    let one : Contains (old_pairs before has.0) pair = subst (λ p. Contains (old_pair p) pair) (sym has.2) (contains_one pair) in (
      pair,
      Contains-append_left (flat_map (old_pairs before) before.cells.now) (flat_map (new_pairs before after) after.cells.now) pair
          (contains_found (old_pairs before) before.cells.now has.0 pair has.1 one),
      record { client = refl; service = refl; server = refl },
    )

parts : (a b c d : ℕ) (same : Bool) → (a == b && (c == d && same)) ≡ true → (a ≡ b) × (c ≡ d) × (same ≡ true)
parts a b c d same is = grind (arith, nat_tests)

-- a cell that the table before has of a pair is one of the pair's paths
cell_alike : (before after : ReachSide) (pair : Pair) (cell : ReachCell) (client server : Option ℕ) → place_of before.list.now pair.client.path ≡ client
    → place_of before.list.now pair.server.path ≡ server → cell_at before.cells.now pair.service client server ≡ Some cell
    → IsComparedAlike before after pair
cell_alike before after pair cell None server clients servers is = cc
cell_alike before after pair cell (Some client) None clients servers is = cc
cell_alike before after pair cell (Some client) (Some server) clients servers is =
    let found = found_there (is_cell client pair.service server) before.cells.now cell is in
    let one = placed before.list.now pair.client.path client pair.client clients in
    let two = placed before.list.now pair.server.path server pair.server servers in
    let numbers : (cell.client ≡ client) × (cell.server ≡ server) × (bytes_eq cell.service.now pair.service ≡ true) =
    parts cell.client client cell.server server (bytes_eq cell.service.now pair.service) found.1 in
    let service = (bytes_eq-Decides cell.service.now pair.service).0 numbers.2 in
    let other : Pair = record { client = one.0; service = cell.service.now; server = two.0 } in
    let at : pair_at before cell ≡ Some other =
    ap (λ c. pair_of cell.service.now (slice_get before.list.now.entries c) (slice_get before.list.now.entries cell.server)) numbers.0
    ∙ (ap (λ s. pair_of cell.service.now (slice_get before.list.now.entries client) (slice_get before.list.now.entries s)) numbers.1
    ∙ (ap (λ e. pair_of cell.service.now e (slice_get before.list.now.entries server)) one.1
    ∙ ap (λ e. pair_of cell.service.now (Some one.0) e) two.1)) in
    let compared = old_compared before after other (cell, found.0, at) in (
      compared.0,
      compared.1,
      record {
        client = compared.2.client ∙ one.2;
        service = compared.2.service ∙ service;
        server = compared.2.server ∙ two.2;
      },
    )

new_compared_at : (before after : ReachSide) (pair : Pair) (cell : ReachCell) (was : Option ReachCell) → Contains after.cells.now cell
    → pair_at after cell ≡ Some pair → cell_of before pair ≡ was → IsComparedAlike before after pair
new_compared_at before after pair cell (Some old) there at is =
    cell_alike before after pair old (place_of before.list.now pair.client.path) (place_of before.list.now pair.server.path) refl refl is
new_compared_at before after pair cell None there at is =
    let one : Contains (new_pairs before after cell) pair =
    subst (λ p. Contains (new_pair before p) pair) (sym at)
    (subst (λ c. Contains (pair_unless pair (option_map (λ (k : ReachCell). k.reach) c)) pair) (sym is) (contains_one pair)) in (
      pair,
      Contains-append_right (flat_map (old_pairs before) before.cells.now) (flat_map (new_pairs before after) after.cells.now) pair
          (contains_found (new_pairs before after) after.cells.now cell pair there one),
      record { client = refl; service = refl; server = refl },
    )

pub new_compared : (before after : ReachSide) (pair : Pair) → HasCell after pair → IsComparedAlike before after pair
new_compared before after pair has = new_compared_at before after pair has.0 (cell_of before pair) has.1 has.2 refl

-- ---- the rows of a pair are among all rows

abbrev pub HasShown : ReachSide → ReachSide → List ReachChange → Pair → Type 0
HasShown before after rows pair =
    (row : Option ReachChange) × Shows before after pair row × ((change : ReachChange) → row ≡ Some change → Contains rows change)

listed : (row : Option ReachChange) (change : ReachChange) → row ≡ Some change → Contains (option_to_list row) change
listed row change is = subst (λ r. Contains (option_to_list r) change) (sym is) (contains_one change)

shown_at : (before after : ReachSide) (pairs : List Pair) (rows : List ReachChange) (k : ℕ) (pair : Pair) → HasRows before after pairs rows
    → k < length pairs → get_or pairs k pair ≡ pair → HasShown before after rows pair
shown_at before after [] rows k pair has within is = absurd (omega (arith, within))
shown_at before after (one ∷ pairs) rows zero pair has within is = (
  has.0,
  subst (λ p. Shows before after p has.0) is has.3,
  λ change some. subst (λ r. Contains r change) (sym has.2)
      (Contains-append_left (option_to_list has.0) has.1 change (listed has.0 change some)),
)
shown_at before after (one ∷ pairs) rows (suc k) pair has within is =
    let later = shown_at before after pairs has.1 k pair has.4 (omega (arith, within)) is in (
      later.0,
      later.1,
      λ change some. subst (λ r. Contains r change) (sym has.2) (Contains-append_right (option_to_list has.0) has.1 change (later.2 change some)),
    )

pub shown : (before after : ReachSide) (rows : List ReachChange) (pair : Pair) → HasRows before after (compared_pairs before after) rows
    → Contains (compared_pairs before after) pair → HasShown before after rows pair
shown before after rows pair has there = shown_at before after (compared_pairs before after) rows there.0 pair has there.1 there.2
