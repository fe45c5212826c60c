-- The bytes of one page change.
use Rattle.std.proofs.Common.{length, ap, ◌+◌, arith}
use Rattle.std.specs.Prelude.{slice_range}
use Rattle.page_pool.specs.Pages.{page_bytes}
use Rattle.page_pool.specs.Layout.{linked}
use Rattle.page_pool.proofs.PoolLemmas.{LiesIn-in_pool, PoolWrote, copied_taken, ranges_apart}
use Rattle.page_pool.proofs.pool.Pool.copy.Goals as goal

pub copy-requires-clause-source : goal.copy-requires-clause-source
copy-requires-clause-source c = let i = (LiesIn-in_pool _ _ _ _ _ _ c.self.invariant c.self.view_is c.requires.source).inside in let len = ap length c.bytes_mut.ensures.value in let there = c.requires.there in omega arith

pub copy-requires-clause-target : goal.copy-requires-clause-target
copy-requires-clause-target c = let i = (LiesIn-in_pool _ _ _ _ _ _ c.self.invariant c.self.view_is c.requires.target).inside in let len = ap length c.bytes_mut.ensures.value in let room = c.requires.room in omega arith

pub copy-requires-clause-apart : goal.copy-requires-clause-apart
copy-requires-clause-apart c = ranges_apart c.args.from.0 c.args.to.0 c.args.from_offset c.args.to_offset c.args.count c.requires.apart c.requires.there c.requires.room

copied : (c : goal.After-self-2-1) → PoolWrote (linked c.copy.new.bytes c.self.inside.free c.self.inside.head) c.copy.new.bytes c.self.inside.fresh c.self.inside.block.size c.args.self.now c.args.to.0 c.args.to_offset (slice_range (page_bytes c.args.self.now c.args.from.0) c.args.from_offset (c.args.from_offset + c.args.count))
copied c = copied_taken c.self.inside.block.bytes c.bytes_mut.result.now c.copy.new.bytes c.self.inside.free c.self.inside.head c.self.inside.fresh c.self.inside.block.size c.args.self.now c.args.from.0 c.args.from_offset c.args.to.0 c.args.to_offset c.args.count c.self.invariant c.self.view_is c.requires.source c.requires.target c.requires.there c.requires.room c.bytes_mut.ensures.value c.copy.ensures

pub invariant_of-self : goal.invariant_of-self
invariant_of-self c = (copied c).pool

pub returns : goal.returns
returns c = record { copied = (copied c).written; count = (copied c).count }
