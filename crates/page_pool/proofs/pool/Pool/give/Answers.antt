-- The page is linked before the head.
use Rattle.std.proofs.Common.{◌∙◌, length, ap, ◌+◌, ◌*◌, arith}
use Rattle.trade_base.specs.Word.{word_bytes}
use Rattle.page_pool.specs.Layout.{linked}
use Rattle.page_pool.proofs.PoolLemmas.{LiesIn-in_pool, PoolGave, give_taken, linked_are_few}
use Rattle.trade_base.specs.Bytes.{with_bytes}
use Rattle.page_pool.proofs.pool.Pool.give.Goals as goal

pub store-requires : goal.store-requires
store-requires c = let i = (LiesIn-in_pool _ _ _ _ _ _ c.self.invariant c.self.view_is c.requires).inside in let len = ap length c.bytes_mut.ensures.value in omega arith

pub overflow_add-self : goal.overflow_add-self
overflow_add-self c = let few = linked_are_few _ c.self.inside.free c.self.inside.head _ _ c.self.invariant in omega (arith, few)

gave : (c : goal.After-self-2-1) → PoolGave (linked c.store.new.bytes (c.self.inside.free + 1) c.args.page.0) c.store.new.bytes c.self.inside.fresh c.self.inside.block.size c.args.self.now c.args.page.0
gave c =
    let i = (LiesIn-in_pool _ _ _ _ _ _ c.self.invariant c.self.view_is c.requires).inside in
    let e = c.store.ensures ∙ ap (λ bs. with_bytes bs (c.args.page.0 * 4096) (word_bytes c.self.inside.head)) c.bytes_mut.ensures.value in
    give_taken _ _ c.self.inside.free c.self.inside.head _ _ _ _ _ c.self.invariant c.self.view_is c.requires (omega arith) e (omega arith)

pub invariant_of-self : goal.invariant_of-self
invariant_of-self c = (gave c).pool

pub returns : goal.returns
returns c = record { freed = (gave c).freed; count = (gave c).count }
