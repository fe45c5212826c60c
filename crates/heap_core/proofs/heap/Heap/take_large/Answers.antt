-- A new dataspace is shown nowhere, so it can be attached, and there is room for one large block more.
use Rattle.std.proofs.Common.{◌≡◌, ◌/◌, ap, ◌∙◌, arith}
use Rattle.trade_base.specs.Page.{page_of}
use Rattle.dataspace_core.proofs.PartLaws.{paid_in_part}
use Rattle.dataspace_core.proofs.WindowLaws.{room_then, new_in_part, new_pages}
use Rattle.region_map.specs.Regions.{heap_attached}
use Rattle.heap_core.proofs.TakeLargeLemmas.{room_for_large, takes_keeps, takes_large}
use Rattle.heap_core.proofs.heap.Heap.take_large.Goals as goal

pub size-requires : goal.size-requires
size-requires c = (paid_in_part _ _ _ _ (new_in_part _ _ _ _ _ c.in_ok-ds.ensures.part)).exists

pub attach_block-start-requires-clause-some : goal.attach_block-start-requires-clause-some
attach_block-start-requires-clause-some c = let e = new_pages _ _ _ _ _ _ c.in_ok-ds.ensures.part c.size.ensures in let l = c.requires.large in omega (arith, e, l)

pub attach_block-start-requires-clause-room : goal.attach_block-start-requires-clause-room
attach_block-start-requires-clause-room c =
    let s = c.requires.sound in
    (room_then _ _ _ _ _ _ _ _ s.opens s.window c.in_ok-ds.ensures.fresh c.in_ok-ds.ensures.part (let l = c.requires.large in omega (arith, l)) c.in_ok-ds.ensures.ok c.in_ok-ds.ensures.within).room

pub attach_block-start-requires-clause-fits : goal.attach_block-start-requires-clause-fits
attach_block-start-requires-clause-fits c =
    let s = c.requires.sound in
    let e = new_pages _ _ _ _ _ _ c.in_ok-ds.ensures.part c.size.ensures in
    let f = (room_then _ _ _ _ _ _ _ _ s.opens s.window c.in_ok-ds.ensures.fresh c.in_ok-ds.ensures.part (let l = c.requires.large in omega (arith, l)) c.in_ok-ds.ensures.ok c.in_ok-ds.ensures.within).fits in
    omega (arith, e, f)

pub push-requires : goal.push-requires
push-requires c =
    let s = c.requires.sound in
    let f = (room_then _ _ _ _ _ _ _ _ s.opens s.window c.in_ok-ds.ensures.fresh c.in_ok-ds.ensures.part (let l = c.requires.large in omega (arith, l)) c.in_ok-ds.ensures.ok c.in_ok-ds.ensures.within).fits in
    (omega arith, room_for_large c.args.self.now c.args.memory.now c.args.map.now (page_of c.args.bytes / 4096) s f (let l = c.requires.large in omega (arith, l)))

-- the map with the region
attached : (c : goal.After-push) → c.attach_block-start.new.self ≡ heap_attached c.args.map.now c.in_ok-ds.ds.0 (page_of c.args.bytes / 4096) 64 c.attach_block-start.result
attached c = c.attach_block-start.ensures.attached ∙ ap (λ p. heap_attached c.args.map.now c.in_ok-ds.ds.0 p 64 c.attach_block-start.result) (new_pages _ _ _ _ _ _ c.in_ok-ds.ensures.part c.size.ensures)

-- what the new region, and the block's start in the list, make of the heap
pub returns-clause-taken : goal.returns-clause-taken
returns-clause-taken c = rw (attached c) (takes_large c.args.self.now c.push.new.self c.args.bytes _ _ _ _ _ _ c.requires.sound c.requires.large c.in_ok-ds.ensures.fresh c.in_ok-ds.ensures.part
    c.attach_block-start.ensures.free (new_pages _ _ _ _ _ _ c.in_ok-ds.ensures.part c.size.ensures) c.attach_block-start.ensures.gap c.attach_block-start.ensures.lowest c.push.ensures.items)

pub returns-clause-keeps : goal.returns-clause-keeps
returns-clause-keeps c = rw (attached c) (takes_keeps c.args.self.now c.push.new.self c.args.bytes _ _ _ _ _ _ c.requires.sound c.requires.large c.in_ok-ds.ensures.fresh c.in_ok-ds.ensures.part
    c.attach_block-start.ensures.free (new_pages _ _ _ _ _ _ c.in_ok-ds.ensures.part c.size.ensures) c.attach_block-start.ensures.gap c.attach_block-start.ensures.lowest c.push.ensures.items)
