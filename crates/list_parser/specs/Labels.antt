-- The test of labels of a rule, and whether a target routes outward.
use Rattle.std.specs.Prelude.{ℕ, Bool, true, false, ◌&&◌, List, codes, Option, is_some, cond, nat_eq}
use Rattle.std.specs.List.{starts_with, ends_with}
use Rattle.std.specs.Str.{bytes_eq}
use Rattle.own_model.specs.Listed.{ListedEntry, ListedRule, Target}
use Rattle.own_model.specs.Listed.Target.{Child, AnyChild, Parent}
use Rattle.own_model.specs.Routes.{as_asked}

-- the whole label, how it begins, and how it ends
pub record AskedLabel : Type 0 where
  pub whole : Option (List ℕ)
  pub prefix : Option (List ℕ)
  pub suffix : Option (List ℕ)

abbrev pub asked_of : Option (List ℕ) → Option (List ℕ) → Option (List ℕ) → AskedLabel
asked_of whole prefix suffix = record { whole = whole; prefix = prefix; suffix = suffix }

abbrev pub passes : AskedLabel → List ℕ → Bool
passes asked label =
    as_asked (bytes_eq label) asked.whole
    && (as_asked (starts_with nat_eq label) asked.prefix && as_asked (ends_with nat_eq label) asked.suffix)

abbrev pub labels_of : ListedRule → AskedLabel
labels_of rule = asked_of rule.label rule.label_prefix rule.label_suffix

abbrev pub is_parent : Target → Bool
is_parent (Child name) = false
is_parent AnyChild = false
is_parent Parent = true

-- the member of a start list that has the rules for an entry
abbrev pub route_name : ListedEntry → List ℕ
route_name entry = cond (is_some entry.route) (codes "route") (codes "default-route")
