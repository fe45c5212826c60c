-- No page has been handed out.
use Rattle.std.proofs.Common.{ap, sym, ◌∙◌}
use Rattle.page_pool.specs.Pages.{free_count}
use Rattle.page_pool.proofs.PoolLemmas.{fresh_pool, fresh_view, fresh_count}
use Rattle.page_pool.proofs.pool.Pool.boot.Goals as goal

pub invariant_of-result-in-Some : goal.invariant_of-result-in-Some
invariant_of-result-in-Some c = let made = c.in-Some.ensures in fresh_pool _ _ _ made.2 c.requires (sym made.0)

pub returns-in-Some-clause-fresh : goal.returns-in-Some-clause-fresh
returns-in-Some-clause-fresh c = let made = c.in-Some.ensures in fresh_view _ c.args.pages made.2

pub returns-in-Some-clause-count : goal.returns-in-Some-clause-count
returns-in-Some-clause-count c = let made = c.in-Some.ensures in ap free_count (fresh_view _ c.args.pages made.2) ∙ fresh_count c.args.pages
