-- The pages that are not yet given are taken.
use Rattle.std.proofs.Common.{◌≡◌, ℕ, ◌+◌, ◌*◌, ◌<◌, ◌≤◌, true, get_or}
use Rattle.page_pool.specs.Pages.{is_taken}
use Rattle.layer_tests.proofs.pages.give_sixteen.Given as goal

abbrev pub invariant-loop-k : goal.invariant-loop-k
invariant-loop-k l = record {
  later : (j : ℕ) → j < 16 → 2 * l.k ≤ j → is_taken l.pool (get_or l.pages j 0) ≡ true;
  odd : (j : ℕ) → j < 8 → is_taken l.pool (get_or l.pages (2 * j + 1) 0) ≡ true;
}

abbrev pub invariant-loop-k-2 : goal.invariant-loop-k-2
invariant-loop-k-2 l = (j : ℕ) → j < 8 → l.k ≤ j → is_taken l.pool (get_or l.pages (2 * j + 1) 0) ≡ true
