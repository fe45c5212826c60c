-- Start lists whose entries are given something else, or whose machine has another size.
use Rattle.std.specs.Prelude.{ℕ, zero, suc, List, [], ◌∷◌, map, Option, None}
use Rattle.own_model.specs.Amounts.{Amounts}
use Rattle.own_model.specs.Listed.{Listed, ListedEntry}

-- the element at a place is changed, and no other
abbrev pub changed_at : {X : Type 0} → (X → X) → List X → ℕ → List X
changed_at change [] place = []
changed_at change (x ∷ xs) zero = change x ∷ xs
changed_at change (x ∷ xs) (suc place) = x ∷ changed_at change xs place

-- an entry that starts with these amounts, or is given this reserve
abbrev pub entry_with_budget : Amounts → ListedEntry → ListedEntry
entry_with_budget budget entry = record entry { ram = budget.ram; caps = budget.caps }

abbrev pub entry_with_reserve : Option Amounts → ListedEntry → ListedEntry
entry_with_reserve reserve entry = record entry { reserve = reserve }

-- a list in which so is the entry at a place, and everything else stays
abbrev pub with_budget : Listed → ℕ → Amounts → Listed
with_budget list place budget = record list { entries = changed_at (entry_with_budget budget) list.entries place }

abbrev pub with_reserve : Listed → ℕ → Option Amounts → Listed
with_reserve list place reserve = record list { entries = changed_at (entry_with_reserve reserve) list.entries place }

-- the machine has this size, and everything else stays
abbrev pub with_size : Listed → ℕ → ℕ → Listed
with_size list pages caps = record list { pages = pages; caps = caps }

-- ---- what stays

-- an entry without its budget and its reserve
abbrev pub bare : ListedEntry → ListedEntry
bare entry = record entry { ram = 0; caps = 0; reserve = None }

-- a list of such entries, on no machine
abbrev pub but_budgets : Listed → Listed
but_budgets list = record list { pages = 0; caps = 0; entries = map bare list.entries }
