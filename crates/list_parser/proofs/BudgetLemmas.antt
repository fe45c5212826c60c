-- Entries that are given something else are still of their lists, and are found by their paths.
use Rattle.std.proofs.Common.{◌≡◌, ℕ, zero, suc, ◌≤◌, false, List, [], ◌∷◌, map, get_or, set, Option, Some, None, refl, sym, ap, subst, ◌∙◌}
use Rattle.std.specs.List.{slice_get}
use Rattle.std.specs.Option.{option_map, unwrap_or}
use Rattle.std.proofs.lemmas.Option.{none-some, same_Some, slice_get-map}
use Rattle.own_model.specs.Amounts.{Amounts}
use Rattle.trade_base.specs.Service.{service_name, services}
use Rattle.own_model.specs.Listed.{Listed, ListedEntry, service_in, services_of, with_name, with_names}
use Rattle.list_parser.specs.Budgets.{bare, but_budgets, changed_at, entry_with_budget, entry_with_reserve, with_budget, with_reserve}
use Rattle.list_parser.specs.Depth.{HaveParentInits, IsParentInit, is_init, is_list}
use Rattle.list_parser.specs.PathIndex.{AreFirst, kind_of}
use Rattle.list_parser.specs.Services.{AreServices}

-- ---- an element that is changed

-- it is written in the place of the one before
pub changed_set : {X : Type 0} (change : X → X) (xs : List X) (place : ℕ) (d : X) → set xs place (change (get_or xs place d)) ≡ changed_at change xs place
changed_set change [] place d = refl
changed_set change (x ∷ xs) zero d = refl
changed_set change (x ∷ xs) (suc place) d = ap (λ l. x ∷ l) (changed_set change xs place d)

-- it is there
pub changed_there : {X : Type 0} (change : X → X) (xs : List X) (place : ℕ) → slice_get (changed_at change xs place) place ≡ option_map change (slice_get xs place)
changed_there change [] place = refl
changed_there change (x ∷ xs) zero = refl
changed_there change (x ∷ xs) (suc place) = changed_there change xs place

-- what doesn't hang on the change stays
same_behind : {X Y : Type 0} (f : X → Y) (change : X → X) → ((x : X) → f (change x) ≡ f x) → (xs : List X) (place : ℕ) → map f (changed_at change xs place) ≡ map f xs
same_behind f change keeps [] place = refl
same_behind f change keeps (x ∷ xs) zero = ap (λ y. y ∷ map f xs) (keeps x)
same_behind f change keeps (x ∷ xs) (suc place) = ap (λ ys. f x ∷ ys) (same_behind f change keeps xs place)

-- ---- lists but for budgets

pub budget_aside : (list : Listed) (place : ℕ) (budget : Amounts) → but_budgets (with_budget list place budget) ≡ but_budgets list
budget_aside list place budget =
    ap (λ es. record (but_budgets list) { entries = es })
    (same_behind bare (entry_with_budget budget) (λ _. refl) list.entries place)

pub reserve_aside : (list : Listed) (place : ℕ) (reserve : Option Amounts) → but_budgets (with_reserve list place reserve) ≡ but_budgets list
reserve_aside list place reserve =
    ap (λ es. record (but_budgets list) { entries = es }) (same_behind bare (entry_with_reserve reserve) (λ _. refl) list.entries place)

-- ---- what is so of entries is so whatever they are given

module _ (old new : List ListedEntry) (same : map bare new ≡ map bare old) where
  bare_there : (place : ℕ) → option_map bare (slice_get new place) ≡ option_map bare (slice_get old place)
  bare_there place = sym (slice_get-map bare new place) ∙ ap (λ es. slice_get es place) same ∙ slice_get-map bare old place

  by_bare : {X : Type 0} (f : ListedEntry → X) → ((entry : ListedEntry) → f entry ≡ f (bare entry)) → (o : Option ListedEntry) → option_map f o ≡ option_map f (option_map bare o)
  by_bare f aside (Some entry) = ap Some (aside entry)
  by_bare f aside None = refl

  same_there : {X : Type 0} (f : ListedEntry → X) → ((entry : ListedEntry) → f entry ≡ f (bare entry)) → (place : ℕ) → option_map f (slice_get new place) ≡ option_map f (slice_get old place)
  same_there f aside place = by_bare f aside (slice_get new place) ∙ ap (option_map f) (bare_there place) ∙ sym (by_bare f aside (slice_get old place))

  same_list : (home : ℕ) → is_list old home ≡ is_list new home
  same_list zero = refl
  same_list (suc place) = ap (λ o. unwrap_or o false) (sym (same_there is_init (λ _. refl) place))

  -- an entry was there before
  was_there : {X : Type 0} (f : ListedEntry → X) (P : X → Type 0) (place : ℕ) (x : X) → option_map f (slice_get old place) ≡ Some x →
      ((entry : ListedEntry) → slice_get old place ≡ Some entry → P (f entry)) → P x
  was_there {X} f P place x is = of (slice_get old place) is
    where
      of : (o : Option ListedEntry) → option_map f o ≡ Some x → ((entry : ListedEntry) → o ≡ Some entry → P (f entry)) → P x
      of (Some entry) here all = subst P (same_Some (f entry) x here) (all entry refl)
      of None here all = absurd (none-some x here)

  pub homes_kept : HaveParentInits old → HaveParentInits new
  homes_kept homes place entry is =
      let home : IsParentInit old place entry.home =
      was_there (λ (e : ListedEntry). e.home) (IsParentInit old place) place entry.home
      (sym (same_there (λ (e : ListedEntry). e.home) (λ _. refl) place) ∙ ap (option_map (λ (e : ListedEntry). e.home)) is) (homes place) in
      record { before = home.before; list = sym (same_list entry.home) ∙ home.list }

  pub firsts_kept : (firsts : List ℕ) → AreFirst firsts old → AreFirst firsts new
  firsts_kept firsts first = record {
    sooner = λ place entry is.
        was_there (λ (e : ListedEntry). kind_of e.path) (λ kind. get_or firsts kind 0 ≤ place) place (kind_of entry.path)
        (sym (same_there (λ (e : ListedEntry). kind_of e.path) (λ _. refl) place) ∙ ap (option_map (λ (e : ListedEntry). kind_of e.path)) is) (first.sooner place);
    there = λ kind small. same_there (λ (e : ListedEntry). kind_of e.path) (λ _. refl) (get_or firsts kind 32) ∙ first.there kind small;
  }

-- services don't depend on what entries are given
bare_services : (names : List (List ℕ)) (entries : List ListedEntry) → with_names names (map bare entries) ≡ with_names names entries
bare_services names [] = refl
bare_services names (entry ∷ entries) = bare_services (with_name names (service_in entry.binary)) entries

services_stay : (old new : List ListedEntry) → map bare new ≡ map bare old → services_of new ≡ services_of old
services_stay old new same = sym (bare_services (map service_name services) new) ∙ ap services_of same ∙ bare_services (map service_name services) old

-- ---- an entry that is written

module _ (entries : List ListedEntry) (place : ℕ) (entry d : ListedEntry) (is : entry ≡ get_or entries place d) (change : ListedEntry → ListedEntry) (aside : (e : ListedEntry) → bare (change e) ≡ bare e) where
  pub written : set entries place (change entry) ≡ changed_at change entries place
  written = ap (λ e. set entries place (change e)) is ∙ changed_set change entries place d

  written_bare : map bare (set entries place (change entry)) ≡ map bare entries
  written_bare = ap (map bare) written ∙ same_behind bare change aside entries place

  pub written_homes : HaveParentInits entries → HaveParentInits (set entries place (change entry))
  written_homes = homes_kept entries (set entries place (change entry)) written_bare

  pub written_services : (declared : List (List ℕ)) → AreServices declared entries → AreServices declared (set entries place (change entry))
  written_services declared are = are ∙ sym (services_stay entries (set entries place (change entry)) written_bare)

  pub written_firsts : (firsts : List ℕ) → AreFirst firsts entries → AreFirst firsts (set entries place (change entry))
  written_firsts = firsts_kept entries (set entries place (change entry)) written_bare
