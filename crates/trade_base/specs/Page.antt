-- Page rounding.
use Rattle.std.specs.Prelude.{◌≡◌, ℕ, ◌+◌, ◌*◌, ◌/◌, ◌^◌, ◌≤◌, ◌&&◌, Bool, nat_lt}

-- n bytes in whole pages, rounded up
abbrev pub page_of : ℕ → ℕ
page_of n = (n + 4095) / 4096 * 4096

-- a size is valid that isn't 0 and is below 2^64 in whole pages
abbrev pub is_valid_size : ℕ → Bool
is_valid_size n = nat_lt 0 n && nat_lt (page_of n) (2 ^ 64)

-- size is the least multiple of 4096 that is not below n
pub record IsLeastPageSize (n size : ℕ) : Type 0 where
  pub whole : (pages : ℕ) × (size ≡ pages * 4096)
  pub covers : n ≤ size
  pub least : (pages : ℕ) → n ≤ pages * 4096 → size ≤ pages * 4096

-- what page rounding means, for every number of bytes
abbrev pub PageRoundingIsLeast : Type 0
PageRoundingIsLeast = (n : ℕ) → IsLeastPageSize n (page_of n)
