-- The pages so far are taken, each once.
use Rattle.std.proofs.Common.{◌≡◌, ◌≢◌, ℕ, ◌<◌, true, get_or, length}
use Rattle.page_pool.specs.Pages.{is_taken}
use Rattle.layer_tests.proofs.pages.take_sixteen.Given as goal

abbrev pub invariant-loop-k : goal.invariant-loop-k
invariant-loop-k g l = record {
  sized : length l.pages ≡ 16;
  taken : (k : ℕ) → k < l.k → is_taken l.pool (get_or l.pages k 0) ≡ true;
  apart : (j k : ℕ) → j < k → k < l.k → get_or l.pages j 0 ≢ get_or l.pages k 0;
}
