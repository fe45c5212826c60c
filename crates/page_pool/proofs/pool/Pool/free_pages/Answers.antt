-- As many are free as are linked, and have never been handed out.
use Rattle.std.proofs.Common.{sym, arith}
use Rattle.page_pool.proofs.PoolLemmas.{free_in_pool, linked_are_few}
use Rattle.page_pool.proofs.pool.Pool.free_pages.Goals as goal

pub overflow_add-result : goal.overflow_add-result
overflow_add-result c = let few = c.self.invariant.few in let most = linked_are_few _ c.self.inside.free c.self.inside.head _ _ c.self.invariant in omega (arith, few, most)

pub returns : goal.returns
returns c = rw (← c.self.view_is) (sym (free_in_pool _ c.self.inside.free c.self.inside.head _ _ c.self.invariant))
