-- The paths of scenarios and policies.
use Rattle.std.specs.Prelude.{ℕ, ◌-◌, Bool, List, length, take, codes, if◌then◌else◌}
use Rattle.std.specs.List.{ends_with}
use Rattle.std.specs.Prelude.{nat_eq}

-- a path is that of a scenario
abbrev pub is_scenario : List ℕ → Bool
is_scenario path = ends_with nat_eq path (codes ".scenario")

-- a path is that of a policy
abbrev pub is_policy : List ℕ → Bool
is_policy path = ends_with nat_eq path (codes ".policy")

-- a path is that of a start list
abbrev pub is_list : List ℕ → Bool
is_list path = ends_with nat_eq path (codes ".json")

-- the path of a policy without its ending
abbrev pub policy_stem : List ℕ → List ℕ
policy_stem path = if is_policy path then take (length path - 7) path else path

-- the path of a scenario or a policy without its ending
abbrev pub stem_of : List ℕ → List ℕ
stem_of path = if is_scenario path then take (length path - 9) path else policy_stem path
