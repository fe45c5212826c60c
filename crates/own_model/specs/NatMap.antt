-- Finite maps from numbers.
use Rattle.std.specs.Prelude.{ℕ, ◌+◌, ◌-◌, ◌==◌, nat_le, cond, List, [], ◌∷◌, if◌then◌else◌, Option, Some, None, ◌++◌, sum_by}
use Rattle.std.specs.Ordering.{nat_cmp}
use Rattle.std.specs.List.{filter_map}
use Rattle.std.specs.Option.{option_map}
use Rattle.std.specs.FinMap.{FinMap, entries, from_entries, values}

-- a finite map from numbers
abbrev pub NatMap : Type 0 → Type 0
NatMap X = FinMap nat_cmp X

-- what f picks of a map: each value that f answers, as f answers it
unfoldable pub picked : {X Y : Type 0} → (X → Option Y) → NatMap X → NatMap Y
picked f m = from_entries (filter_map (λ e. option_map (λ y. (e.0, y)) (f e.1)) (entries m))

-- what a map has, each under a key that is so much lower; what has a key below that is left out
unfoldable pub moved_down : {X : Type 0} → ℕ → NatMap X → NatMap X
moved_down by m = from_entries (filter_map (λ e. if nat_le by e.0 then Some (e.0 - by, e.1) else None) (entries m))

-- what two maps have; a key of both has what it has in the first
unfoldable pub joined : {X : Type 0} → NatMap X → NatMap X → NatMap X
joined m n = from_entries (entries m ++ entries n)

-- the sum of f over what a map holds
unfoldable pub total : {X : Type 0} → (X → ℕ) → NatMap X → ℕ
total f m = sum_by f (values m)

-- the sum of the sizes of those that one payer pays for
unfoldable pub owed : {X : Type 0} → (X → ℕ) → (X → ℕ) → NatMap X → ℕ → ℕ
owed size payer m k = total (λ x. cond (payer x == k) (size x) 0) m

-- the least number from n on that is none of these rising numbers
abbrev pub least_gap : ℕ → List ℕ → ℕ
least_gap n [] = n
least_gap n (k ∷ ks) = if k == n then least_gap (n + 1) ks else least_gap n ks
