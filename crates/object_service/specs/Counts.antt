-- Counters of the objects of a session: of all, and of those of each kind by its number.
use Rattle.std.specs.Prelude.{◌≡◌, ℕ, ◌+◌, ◌^◌, ◌<◌, ◌==◌, List, ◌∷◌, ◌++◌, length, count_by, get_or}
use Rattle.std.specs.List.{AllByRecursion}
use Rattle.object_service.specs.declared.counts.ObjectCounts.{ObjectCounts}

-- they count objects whose kinds have these numbers
pub record AreCounted (counts : ObjectCounts) (numbers : List ℕ) : Type 0 where
  pub all : counts.all ≡ length numbers
  pub each : (k : ℕ) → get_or counts.each k 0 ≡ count_by (λ number. number == k) numbers
  pub long : length counts.each ≡ 16
  pub low : AllByRecursion (λ number. number < 16) numbers

-- one more of a kind can be counted
pub record HasRoom (counts : ObjectCounts) (number : ℕ) : Type 0 where
  pub numbers : List ℕ
  pub counted : AreCounted counts numbers
  pub low : number < 16
  pub few : length numbers + 1 < 2 ^ 64

-- an object of a kind is counted, between others
pub record HasCounted (counts : ObjectCounts) (number : ℕ) : Type 0 where
  pub before : List ℕ
  pub behind : List ℕ
  pub counted : AreCounted counts (before ++ number ∷ behind)
