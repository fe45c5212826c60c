-- The pairs of a script and a server that a line is about, and the lines that speak of nothing.
use Rattle.std.specs.Prelude.{ℕ, ◌-◌, ◌&&◌, ◌==◌, zero, suc, Bool, true, false, not, length, nat_le, nat_lt, if◌then◌else◌}
use Rattle.std.specs.List.{slice_get}
use Rattle.std.specs.Option.{option_map, unwrap_or}
use Rattle.own_model.specs.Listed.{Listed, ListedEntry}
use Rattle.list_policy.specs.Cuts.{plus}
use Rattle.list_policy.specs.Demand.{belongs, concerns}
use Rattle.list_policy.specs.Line.{LineAt}
use Rattle.list_policy.specs.declared.demand.BudgetLimit.{BudgetLimit}
use Rattle.list_policy.specs.declared.demand.Demand.{Demand}
use Rattle.list_policy.specs.declared.demand.Demand.TheVariants.{Deny, Allow, Only, Isolate, AtMost}
use Rattle.list_policy.specs.declared.pairs.PairKind.{PairKind}
use Rattle.list_policy.specs.declared.pairs.PairKind.TheVariants.{All, ByTree}

-- no route can join a client and a server: the server is in an init's list, and the client isn't in it
abbrev pub is_outside : Listed → ℕ → ListedEntry → Bool
is_outside list client entry = nat_lt 0 entry.home && not (belongs list client (entry.home - 1))

abbrev pub are_parted : Listed → ℕ → ℕ → Bool
are_parted list client server = unwrap_or (option_map (λ entry. is_outside list client entry) (slice_get list.entries server)) false

-- a client and a server are a pair that a line is about; the tree keeps them apart, if that is asked
abbrev pub is_of : Listed → PairKind → ℕ → ℕ → Bool
is_of list All client server = true
is_of list ByTree client server = are_parted list client server

abbrev pub is_pair : Listed → LineAt → PairKind → ℕ → ℕ → Bool
is_pair list line kind client server = concerns list line client server && is_of list kind client server

-- the sum of what there is at each number below a bound
abbrev pub total_below : (ℕ → ℕ) → ℕ → ℕ
total_below count zero = 0
total_below count (suc n) = plus (total_below count n) (count n)

-- how many pairs a line is about
abbrev pub pairs_among : Listed → LineAt → PairKind → ℕ
pairs_among list line kind =
    total_below (λ client. total_below (λ server. if is_pair list line kind client server then 1 else 0) (length list.entries))
    (length list.entries)

-- a limit is at least what the largest machine has: 4096 pages of 4096 bytes, and 4096 capabilities
abbrev pub allows_all : BudgetLimit → Bool
allows_all limit = nat_le 16777216 limit.ram && nat_le 4096 limit.caps

-- a line speaks of nothing: it is about no pair of a script and a server, or it allows what the largest machine has
abbrev pub says_nothing_by : Listed → LineAt → Demand → Bool
says_nothing_by list line (Deny range) = pairs_among list line All == 0
says_nothing_by list line (Allow range) = pairs_among list line All == 0
says_nothing_by list line (Only range) = pairs_among list line All == 0
says_nothing_by list line Isolate = pairs_among list line All == 0
says_nothing_by list line (AtMost limit) = allows_all limit

abbrev pub says_nothing : Listed → LineAt → Bool
says_nothing list line = says_nothing_by list line line.demand
