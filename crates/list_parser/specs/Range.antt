-- How large a machine can be, and how many components it can have.
use Rattle.std.specs.Prelude.{ℕ, ◌≤◌}

pub record IsInRange (pages caps count : ℕ) : Type 0 where
  pub least_pages : 16 ≤ pages
  pub most_pages : pages ≤ 4096
  pub least_caps : 16 ≤ caps
  pub most_caps : caps ≤ 4096
  pub most_entries : count ≤ 32
