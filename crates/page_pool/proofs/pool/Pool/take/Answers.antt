-- The head is handed out, and its link is the new head; or else the first page that has never been handed out.
use Rattle.std.proofs.Common.{◌≡◌, ℕ, List, ◌++◌, ◌+◌, length, ◌-◌, ◌*◌, ◌/◌, ap, ◌∙◌, arith}
use Rattle.std.proofs.lemmas.Bool.Decides.{nat_tests}
use Rattle.page_pool.specs.Pages.{zero_page}
use Rattle.page_pool.specs.Layout.{linked}
use Rattle.page_pool.proofs.CallLemmas.{LiesIn-from_head}
use Rattle.std.specs.Prelude.{replicate}
use Rattle.page_pool.proofs.PoolLemmas.{PoolTook, take_head, take_next, zero_page_behind}
use Rattle.trade_base.specs.Bytes.{with_bytes}
use Rattle.page_pool.proofs.pool.Pool.take.Goals as goal

pub overflow_mul-start : goal.overflow_mul-start
overflow_mul-start c = let i = (LiesIn-from_head _ c.self.inside.free _ c.self.invariant.laid (λ none. omega (arith, none, c.if-self-gt0.true))).inside in let s = (LiesIn-from_head _ c.self.inside.free _ c.self.invariant.laid (λ none. omega (arith, none, c.if-self-gt0.true))).small in omega arith

pub load-requires : goal.load-requires
load-requires c = let i = (LiesIn-from_head _ c.self.inside.free _ c.self.invariant.laid (λ none. omega (arith, none, c.if-self-gt0.true))).inside in let len = ap length c.bytes.ensures.value in omega arith

pub clear_page-requires : goal.clear_page-requires
clear_page-requires c = let i = (LiesIn-from_head _ c.self.inside.free _ c.self.invariant.laid (λ none. omega (arith, none, c.if-self-gt0.true))).inside in let len = ap length c.bytes_mut.ensures.value in omega arith

took : (c : goal.After-row_known-1) → PoolTook (linked c.clear_page.new.bytes (c.self.inside.free - 1) c.load.result) c.clear_page.new.bytes c.self.inside.fresh c.self.inside.block.size c.args.self.now c.self.inside.head
took c =
    let e : c.clear_page.new.bytes ≡ with_bytes c.self.inside.block.bytes (c.self.inside.head * 4096) zero_page = c.clear_page.ensures ∙ ap (λ bs. with_bytes bs (c.self.inside.head * 4096) zero_page) c.bytes_mut.ensures.value in
    rw (c.load.ensures, c.bytes.ensures.value) (take_head _ _ c.self.inside.free _ _ _ _ _ c.self.invariant c.self.view_is (λ none. omega (arith, none, c.if-self-gt0.true)) e (omega arith))

pub overflow_cast-result : goal.overflow_cast-result
overflow_cast-result c = let i = LiesIn-from_head _ c.self.inside.free _ c.self.invariant.laid (λ none. omega (arith, none, c.if-self-gt0.true)) in omega (arith, i.inside, i.small)

pub invariant_of-self : goal.invariant_of-self
invariant_of-self c = (took c).pool

pub returns-then-self-gt0-clause-some : goal.returns-then-self-gt0-clause-some
returns-then-self-gt0-clause-some c = let less = (took c).count in grind (arith, nat_tests, less)

pub returns-then-self-gt0-clause-was_free : goal.returns-then-self-gt0-clause-was_free
returns-then-self-gt0-clause-was_free c = (took c).was_free

pub returns-then-self-gt0-clause-cleared : goal.returns-then-self-gt0-clause-cleared
returns-then-self-gt0-clause-cleared c = (took c).cleared

pub returns-then-self-gt0-clause-count : goal.returns-then-self-gt0-clause-count
returns-then-self-gt0-clause-count c = (took c).count

next : (c : goal.After-self-2-1) → PoolTook (linked c.grow.new.self.bytes c.self.inside.free c.self.inside.head) c.grow.new.self.bytes (c.self.inside.fresh - 1) c.grow.new.self.size c.args.self.now (length c.bytes-known.result.now / 4096)
next c =
    let known = c.bytes-known.ensures in
    let page : length c.bytes-known.result.now + 4096 - c.self.inside.block.len ≡ 4096 = omega (arith, known.len) in
    take_next _ _ c.self.inside.free c.self.inside.head _ _ _ _ _ c.self.invariant c.self.view_is (omega (arith, c.if-self-gt0.false)) (λ none. omega (arith, none, c.if-self-eq0.false))
    (ap (λ (bs : List ℕ). length bs / 4096) known.value) (c.grow.ensures.3 ∙ ap (λ k. c.self.inside.block.bytes ++ replicate k 0) page ∙ zero_page_behind c.self.inside.block.bytes) (let size = c.grow.ensures.1 in omega (arith, size))

pub invariant_of-self-2 : goal.invariant_of-self-2
invariant_of-self-2 c = (next c).pool

pub returns-clause-some : goal.returns-clause-some
returns-clause-some c = let less = (next c).count in grind (arith, nat_tests, less)

pub returns-clause-was_free : goal.returns-clause-was_free
returns-clause-was_free c = (next c).was_free

pub returns-clause-cleared : goal.returns-clause-cleared
returns-clause-cleared c = (next c).cleared

pub returns-clause-count : goal.returns-clause-count
returns-clause-count c = (next c).count
