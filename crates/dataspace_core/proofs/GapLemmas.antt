-- Where a run starts once another went from the table: numbers alone.
use Rattle.std.proofs.Common.{◌≡◌, ◌≢◌, ℕ, ◌+◌, ◌-◌, ◌<◌, ◌≤◌, cond, leb, inl, inr, arith, rules}
use Rattle.std.proofs.lemmas.Bool.{cases_lt}
use Rattle.std.proofs.lemmas.Bool.Decides.{nat_tests}
use Rattle.dataspace_core.specs.Layout.{before_gap}

-- a run of n entries from `from` on, and a gap of m from `start` on, that have no entry in common
module _ (start m from n : ℕ) (apart : (i k : ℕ) → i < n → k < m → from + i ≢ start + k) where
  -- a run that starts before the gap ends before it
  ends_before : from ≤ start → 0 < m → from + n ≤ start
  ends_before before some =
      elim (cases_lt start (from + n)) [
        | inl reaches ↦ absurd (apart (start - from) 0 (omega arith) some (omega arith))
        | inr ends ↦ ends
      ]

  -- one that starts behind its start starts behind its end
  pub starts_behind : start < from → 0 < n → start + m ≤ from
  starts_behind behind some =
      elim (cases_lt from (start + m)) [
        | inl inside ↦ absurd (apart 0 (from - start) some (omega arith) (omega arith))
        | inr past ↦ past
      ]

  -- where the run starts once the gap is closed
  abbrev after : ℕ
  after = cond (leb from start) from (from - m)

  -- each entry of the run that moved is the entry that it was
  pub before_gap-moved : (i : ℕ) → i < n → before_gap start m (after + i) ≡ from + i
  before_gap-moved i below = search (rules, cases_lt, starts_behind, nat_tests, ends_before)

  -- the run that moved lies in the table
  pub moved_within : (old new : ℕ) → from + n ≤ old → start + m ≤ old → new + m ≡ old → after + n ≤ new
  moved_within old new within gap shorter = search (rules, cases_lt, starts_behind, nat_tests, ends_before)
