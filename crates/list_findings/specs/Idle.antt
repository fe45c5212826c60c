-- Rules that decide nothing.
use Rattle.std.specs.Prelude.{ℕ, ◌+◌, ◌==◌, ◌&&◌, ◌||◌, zero, suc, Bool, false, not, List, [], ◌∷◌, is_some}
use Rattle.std.specs.List.{list_any, slice_get}
use Rattle.own_model.specs.Listed.{Listed, ListedEntry}
use Rattle.list_reach.specs.Deciding.{for_some_label}
use Rattle.list_labels.specs.DecidingRules.{decision_of}
use Rattle.list_findings.specs.Views.{Asking, askings}
use Rattle.list_findings.specs.RuleTargets.{of_init}
use Rattle.list_parts.specs.declared.list_part.RuleOwner.{RuleOwner}
use Rattle.list_parts.specs.declared.list_part.RuleOwner.TheVariants as owner

-- an owner's rules are those for an entry, by its number
abbrev pub is_of : RuleOwner → ℕ → ListedEntry → Bool
is_of owner.Default number entry = not (is_some entry.route) && entry.home == 0
is_of (owner.Entry own) number entry = is_some entry.route && number == own
is_of (owner.Inner init) number entry = not (is_some entry.route) && entry.home == init + 1

-- it holds of the number of an init that has an entry
abbrev pub of_home : (ℕ → Bool) → ℕ → Bool
of_home holds zero = false
of_home holds (suc init) = holds init

-- one of the rules that decide a request of an entry, list by list outward, is at a place of an owner's list
abbrev pub is_among : Listed → RuleOwner → ℕ → ℕ → List ℕ → Bool
is_among list owner place number [] = false
is_among list owner place number (rule ∷ rules) =
    of_init (λ entry. (is_of owner number entry && rule == place) || of_home (λ init. is_among list owner place init rules) entry.home)
    (slice_get list.entries number)

-- the rule at a place of an owner's list decides some request
unfoldable pub decides : Listed → RuleOwner → ℕ → Asking → Bool
decides list owner place asking =
    for_some_label (λ label. is_among list owner place asking.client (decision_of list asking.client asking.service label))

-- it decides no request of any script, for any service and with any label
abbrev pub is_idle : Listed → RuleOwner → ℕ → Bool
is_idle list owner place = not (list_any (decides list owner place) (askings list))
