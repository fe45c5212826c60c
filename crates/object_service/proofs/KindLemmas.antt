-- Kinds by their names and by their numbers.
use Rattle.std.proofs.Common.{◌≡◌, ◌≢◌, ℕ, zero, suc, ◌<◌, ◌≤◌, ◌==◌, cond, true, false, true≢false, List, [], ◌∷◌, count_by, get_or, length, map, Option, Some, None, refl, sym, ap, ◌∙◌, inl, inr, arith}
use Rattle.std.proofs.lemmas.Bool.{cases_eq, cases_lt}
use Rattle.std.proofs.lemmas.Bool.Decides.{nat_tests}
use Rattle.std.proofs.lemmas.List.Folds.{find_at}
use Rattle.std.proofs.lemmas.List.Sums.{sum_by-cons}
use Rattle.std.proofs.lemmas.Option.{none-some, same_Some, slice_get-get_or, slice_get_past}
use Rattle.std.proofs.lemmas.Slice.Eq.{bytes_eq-Decides}
use Rattle.std.specs.List.{AllByRecursion, position, position_or_len, slice_get}
use Rattle.std.specs.Option.{unwrap_or}
use Rattle.std.specs.Str.{bytes_eq}
use Rattle.own_model.specs.ObjectKinds.{ObjectKind, IsObjectKind, KindsDiffer, AreObjectKinds, is_kind, kind_named}
use Rattle.own_model.specs.ObjectService.{DeclaredObject, is_of_kind}
use Rattle.own_model.specs.OwnHeap.{OwnHeap}
use Rattle.own_model.specs.Text.{is_name}
use Rattle.own_model.proofs.NodeLemmas.{differ_back}
use Rattle.own_model.proofs.NodeListLemmas.{none_passes}
use Rattle.object_service.specs.Kinds.{kind_at, no_kind}
use Rattle.object_service.specs.Objects.{number_at, object_at}

-- what holds of each kind of a list holds of the kind of a number
pub each_at : (P : ObjectKind → Type 0) (kinds : List ObjectKind) (number : ℕ) → AllByRecursion P kinds → number < length kinds → P (kind_at kinds number)
each_at P [] number each low = absurd (omega (arith, low))
each_at P (kind ∷ kinds) zero each low = each.0
each_at P (kind ∷ kinds) (suc number) each low = each_at P kinds number each.1 (omega (arith, low))

-- an element of the list is the kind of its number
pub kind_by : (kinds : List ObjectKind) (number : ℕ) (kind : ObjectKind) → number < length kinds → kind ≡ get_or kinds number kind → kind_at kinds number ≡ kind
kind_by kinds number kind low is = ap (λ (o : Option ObjectKind). unwrap_or o no_kind) (slice_get-get_or kinds number kind low) ∙ sym is

-- no kind of a number past the list has a name
past_none : (kinds : List ObjectKind) (number : ℕ) → length kinds ≤ number → (kind_at kinds number).name ≡ []
past_none [] number high = refl
past_none (kind ∷ kinds) zero high = absurd (omega (arith, high))
past_none (kind ∷ kinds) (suc number) high = past_none kinds number (omega (arith, high))

-- a name that no kind of a list has
not_named : (kinds : List ObjectKind) (name : List ℕ) (number : ℕ) → kind_named name kinds ≡ None → number < length kinds → bytes_eq (kind_at kinds number).name name ≡ false
not_named kinds name number none low = each_at (λ kind. is_kind name kind ≡ false) kinds number (none_passes (is_kind name) kinds none) low

-- kinds of two numbers have different names
names_differ : (kinds : List ObjectKind) (a b : ℕ) → KindsDiffer kinds → a < b → b < length kinds → bytes_eq (kind_at kinds b).name (kind_at kinds a).name ≡ false
names_differ [] a b differ less low = absurd (omega (arith, low))
names_differ (kind ∷ kinds) zero zero differ less low = absurd (omega (arith, less))
names_differ (kind ∷ kinds) zero (suc b) differ less low = not_named kinds kind.name b differ.0 (omega (arith, low))
names_differ (kind ∷ kinds) (suc a) zero differ less low = absurd (omega (arith, less))
names_differ (kind ∷ kinds) (suc a) (suc b) differ less low = names_differ kinds a b differ.1 (omega (arith, less)) (omega (arith, low))

-- the number of a kind is found by its name
pub same_number : (kinds : List ObjectKind) (n number : ℕ) → AreObjectKinds kinds → number < length kinds → bytes_eq (kind_at kinds n).name (kind_at kinds number).name ≡ (n == number)
same_number kinds n number are low = elim (cases_eq n number) [
  | inl same ↦
      let named : bytes_eq (kind_at kinds n).name (kind_at kinds number).name ≡ true = (bytes_eq-Decides (kind_at kinds n).name (kind_at kinds number).name).1 (ap (λ k. (kind_at kinds k).name) same) in
      named ∙ sym (grind (arith, nat_tests))
  | inr other ↦ apart other ∙ sym (grind (arith, nat_tests))
] where
  no_name : length kinds ≤ n → bytes_eq (kind_at kinds n).name (kind_at kinds number).name ≡ false
  no_name high =
      let named = (each_at IsObjectKind kinds number are.each low).name in
      let none = past_none kinds n high in
      elim (bytes_eq (kind_at kinds n).name (kind_at kinds number).name) as (λ t. bytes_eq (kind_at kinds n).name (kind_at kinds number).name ≡ t → t ≡ false) [
        | true ↦ λ e. let empty : [] ≡ (kind_at kinds number).name = sym none ∙ (bytes_eq-Decides (kind_at kinds n).name (kind_at kinds number).name).0 e in absurd (true≢false (sym named ∙ ap is_name (sym empty)))
        | false ↦ λ e. refl
      ] refl

  apart : n ≢ number → bytes_eq (kind_at kinds n).name (kind_at kinds number).name ≡ false
  apart other = elim (cases_lt n number) [
    | inl less ↦ differ_back (kind_at kinds number).name (kind_at kinds n).name (names_differ kinds n number are.differ less low)
    | inr more ↦ elim (cases_lt n (length kinds)) [
      | inl here ↦ names_differ kinds number n are.differ (omega (arith, more, other)) here
      | inr past ↦ no_name past
    ]
  ]

-- so objects of a kind are counted by its number
pub counted_as : (kinds : List ObjectKind) (nodes : OwnHeap) (number : ℕ) (blocks : List ℕ) → AreObjectKinds kinds → number < length kinds →
    count_by (λ n. n == number) (map (number_at nodes) blocks) ≡ count_by (is_of_kind (kind_at kinds number).name) (map (object_at kinds nodes) blocks)
counted_as kinds nodes number [] are low = refl
counted_as kinds nodes number (b ∷ blocks) are low =
    let name = (kind_at kinds number).name in
    let head : ◌≡◌ {A = ℕ} (cond (is_of_kind name (object_at kinds nodes b)) 1 0) (cond (number_at nodes b == number) 1 0) = ap (λ t. cond t 1 0) (same_number kinds (number_at nodes b) number are low) in
    omega (
      arith,
      head,
      counted_as kinds nodes number blocks are low,
      sum_by-cons (λ n. cond (n == number) 1 0) (number_at nodes b) (map (number_at nodes) blocks),
      sum_by-cons (λ (o : DeclaredObject). cond (is_of_kind name o) 1 0) (object_at kinds nodes b) (map (object_at kinds nodes) blocks),
    )

-- ---- the kind of a name, by its number

pub named_some : (kinds : List ObjectKind) (name : List ℕ) (number : ℕ) → position (is_kind name) kinds ≡ Some number → kind_named name kinds ≡ Some (kind_at kinds number)
named_some kinds name number is =
    let n = position_or_len (is_kind name) kinds in
    let low : n < length kinds = grind (arith, nat_tests, none-some) in
    let same : n ≡ number = grind (arith, nat_tests, same_Some) in
    let there : slice_get kinds number ≡ Some (get_or kinds number no_kind) = slice_get-get_or kinds number no_kind (omega (arith, low, same)) in
    find_at (is_kind name) kinds ∙ ap (slice_get kinds) same ∙ there ∙ ap (λ (o : Option ObjectKind). Some (unwrap_or o no_kind)) (sym there)

pub named_none : (kinds : List ObjectKind) (name : List ℕ) → position (is_kind name) kinds ≡ None → kind_named name kinds ≡ None
named_none kinds name is =
    let n = position_or_len (is_kind name) kinds in
    let high : length kinds ≤ n = grind (arith, nat_tests, none-some) in
    find_at (is_kind name) kinds ∙ slice_get_past kinds n high
