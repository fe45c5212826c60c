-- Where a wish leads, list by list.
use Rattle.std.proofs.Common.{◌≡◌, ℕ, zero, suc, ◌-◌, ◌<◌, List, length, get_or, Option, Some, None, refl, sym, ap, ◌∙◌, arith}
use Rattle.std.specs.List.{slice_get}
use Rattle.std.specs.Option.{option_and_then, option_map}
use Rattle.std.proofs.lemmas.Option.{none-some, slice_get_read}
use Rattle.own_model.specs.Listed.{Listed, ListedEntry, ListedRule, end_of, init_entry, route_within, rules_for, way_by}
use Rattle.own_model.specs.Listed.Way.{Inside, Outside}
use Rattle.own_model.specs.Routes.{label_with}

-- the entry of an init that isn't the machine's
init_of : (list : Listed) (home : ℕ) → 0 < home → init_entry list home ≡ slice_get list.entries (home - 1)
init_of list zero some = absurd (omega arith)
init_of list (suc place) some = rw (less place) refl where
  less : (n : ℕ) → suc n - 1 ≡ n
  less n = omega arith

-- through one list and those further out
one_list : (list : Listed) (lists : ℕ) (entry : ListedEntry) (service label : List ℕ) → 0 < lists →
    route_within lists list entry service label
    ≡ end_of (way_by list.entries entry.home (rules_for list entry) service label)
    (option_and_then (λ init. route_within (lists - 1) list init service (label_with entry.name label)) (init_entry list entry.home))
one_list list zero entry service label some = absurd (omega arith)
one_list list (suc lists) entry service label some = rw (fewer lists) refl where
  fewer : (n : ℕ) → suc n - 1 ≡ n
  fewer n = omega arith

-- the name of the entry at a place
pub name_there : (entries : List ListedEntry) (place : ℕ) (entry : ListedEntry) (name : List ℕ) → place < length entries → entry ≡ get_or entries place entry → name ≡ entry.name
    → option_map (λ e. e.name) (slice_get entries place) ≡ Some name
name_there entries place entry name inside is named =
    ap (option_map (λ e. e.name)) (slice_get_read entries (length entries) place entry refl inside is) ∙ ap Some (sym named)

module _ (list : Listed) (lists : ℕ) (service label : List ℕ) (home : ℕ) (rules : List ListedRule) (some : 0 < lists) where
  -- the first list leads to a child, or to none
  pub leads_inside : (o : Option ListedEntry) (child : Option ℕ) → option_map (λ entry. entry.home) o ≡ Some home → option_map (rules_for list) o ≡ Some rules
      → Inside child ≡ way_by list.entries home rules service label
      → child ≡ option_and_then (λ entry. route_within lists list entry service label) o
  leads_inside None child at_home by_rules way = absurd (none-some home at_home)
  leads_inside (Some entry) child at_home by_rules way = grind (arith, one_list list lists entry service label some)

  -- from the machine's list there is no way outward
  pub leads_nowhere : (o : Option ListedEntry) → option_map (λ entry. entry.home) o ≡ Some home → option_map (rules_for list) o ≡ Some rules
      → Outside ≡ way_by list.entries home rules service label → home ≡ 0
      → None ≡ option_and_then (λ entry. route_within lists list entry service label) o
  leads_nowhere None at_home by_rules way machine = absurd (none-some home at_home)
  leads_nowhere (Some entry) at_home by_rules way machine = grind (arith, one_list list lists entry service label some)

  -- from another one the init asks, with the name before the label
  pub leads_outward : (o : Option ListedEntry) (name outer : List ℕ) (child : Option ℕ)
      → option_map (λ entry. entry.home) o ≡ Some home → option_map (rules_for list) o ≡ Some rules → option_map (λ entry. entry.name) o ≡ Some name
      → Outside ≡ way_by list.entries home rules service label → 0 < home → outer ≡ label_with name label
      → child ≡ option_and_then (λ init. route_within (lists - 1) list init service outer) (slice_get list.entries (home - 1))
      → child ≡ option_and_then (λ entry. route_within lists list entry service label) o
  leads_outward None name outer child at_home by_rules named way inner label_is asked = absurd (none-some home at_home)
  leads_outward (Some entry) name outer child at_home by_rules named way inner label_is asked = grind (arith, one_list list lists entry service label some, init_of)
