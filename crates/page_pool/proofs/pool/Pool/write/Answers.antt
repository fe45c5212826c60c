-- The bytes of one page change.
use Rattle.std.proofs.Common.{◌∙◌, length, ap, ◌+◌, ◌*◌, arith}
use Rattle.page_pool.specs.Layout.{linked}
use Rattle.page_pool.proofs.PoolLemmas.{LiesIn-in_pool, PoolWrote, write_taken}
use Rattle.trade_base.specs.Bytes.{with_bytes}
use Rattle.page_pool.proofs.pool.Pool.write.Goals as goal

pub write-requires : goal.write-requires
write-requires c = let i = (LiesIn-in_pool _ _ _ _ _ _ c.self.invariant c.self.view_is c.requires.taken).inside in let len = ap length c.bytes_mut.ensures.value in let range = c.requires.range in omega arith

wrote : (c : goal.After-self-2-1) → PoolWrote (linked c.write.new.bytes c.self.inside.free c.self.inside.head) c.write.new.bytes c.self.inside.fresh c.self.inside.block.size c.args.self.now c.args.page.0 c.args.offset c.args.part.now
wrote c =
    let i = (LiesIn-in_pool _ _ _ _ _ _ c.self.invariant c.self.view_is c.requires.taken).inside in
    let range = c.requires.range in
    let e = c.write.ensures ∙ ap (λ bs. with_bytes bs (c.args.page.0 * 4096 + c.args.offset) c.args.part.now) c.bytes_mut.ensures.value in
    write_taken _ _ c.self.inside.free c.self.inside.head _ _ _ _ _ _ _ c.self.invariant c.self.view_is c.requires.taken c.requires.range e (omega arith)

pub invariant_of-self : goal.invariant_of-self
invariant_of-self c = (wrote c).pool

pub returns : goal.returns
returns c = record { written = (wrote c).written; size = (wrote c).size; count = (wrote c).count }
