-- The range is that of the page.
use Rattle.std.proofs.Common.{ap, length, arith}
use Rattle.page_pool.proofs.PoolLemmas.{LiesIn-in_pool, read_taken}
use Rattle.page_pool.proofs.pool.Pool.part.Goals as goal

pub slice_bounds-result-end : goal.slice_bounds-result-end
slice_bounds-result-end c = let i = LiesIn-in_pool _ _ _ _ _ _ c.self.invariant c.self.view_is c.requires.taken in let inside = i.inside in let len = ap length c.bytes.ensures.value in omega arith

pub returns : goal.returns
returns c =
    let reads = read_taken _ _ _ _ _ _ c.args.offset c.args.count c.self.invariant c.self.view_is c.requires.taken c.requires.range in
    record { bytes = rw c.bytes.ensures.value reads.part; size = reads.size }
