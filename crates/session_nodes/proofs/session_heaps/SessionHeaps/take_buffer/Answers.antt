-- A new dataspace is shown nowhere, and there is room for its region.
use Rattle.std.proofs.Common.{◌≡◌, ℕ, ◌≤◌, ◌/◌, length, Some, sym, ap, subst, ◌∙◌, arith}
use Rattle.std.specs.Prelude.{None}
use Rattle.std.specs.FinMap.{get}
use Rattle.trade_base.specs.Page.{page_of}
use Rattle.own_model.specs.HeapWindow.{heap_gap}
use Rattle.region_map.specs.Regions.{Regions, of_no_heap, heap_attached}
use Rattle.dataspace_core.specs.Store.{part, part_with_space, space_at, with_space, PartBecomes}
use Rattle.dataspace_core.proofs.PartLaws.{paid_in_part}
use Rattle.dataspace_core.proofs.WindowLaws.{HasRoom, room_then, new_in_part, new_pages}
use Rattle.sliced_heap.specs.Heap.{payer_of}
use Rattle.server_frame.specs.Session.{holding_of}
use Rattle.session_nodes.specs.SessionHeaps.{stock_of, StaySoundHeaps}
use Rattle.session_nodes.specs.SessionBuffer.{TakesBuffer}
use Rattle.session_nodes.proofs.BufferLemmas.{granted_some, taken_furnished, taken_buffer}
use Rattle.session_nodes.proofs.session_heaps.SessionHeaps.take_buffer.Goals.{In_ok-space}
use Rattle.session_nodes.proofs.session_heaps.SessionHeaps.take_buffer.Goals as goal

-- the dataspace is new, and of the session's account
record IsNew (c : In_ok-space) : Type 0 where
  fresh : get c.args.memory.now.spaces c.in_ok-space.space.0 ≡ None
  becomes : PartBecomes (payer_of c.args.self.now.contents) (part_with_space (part (payer_of c.args.self.now.contents) c.args.memory.now) c.in_ok-space.space.0 c.args.bytes) c.args.memory.now c.alloc.new.self
  some : 1 ≤ c.args.bytes

is_new : (c : In_ok-space) → IsNew c
is_new c = record {
  fresh = c.in_ok-space.ensures.fresh;
  becomes = subst (λ a. PartBecomes a (part_with_space (part a c.args.memory.now) c.in_ok-space.space.0 c.args.bytes) c.args.memory.now c.alloc.new.self) c.account.ensures c.in_ok-space.ensures.part;
  some = granted_some c.args.bytes _ (sym c.in_ok-space.ensures.refusal);
}

pages_are : (c : In_ok-space) → (told : ℕ) → told ≡ length (space_at c.alloc.new.self c.in_ok-space.space.0).bytes → told / 4096 ≡ page_of c.args.bytes / 4096
pages_are c told is = new_pages (payer_of c.args.self.now.contents) c.in_ok-space.space.0 c.args.bytes told c.args.memory.now c.alloc.new.self (is_new c).becomes is

has_room : (c : In_ok-space) → HasRoom c.args.map.now.pages c.args.map.now.heap_most (page_of c.args.bytes / 4096) c.args.map.now.heap
has_room c =
    let new = is_new c in
    let f = c.requires.furnished in
    room_then (payer_of c.args.self.now.contents) c.in_ok-space.space.0 c.args.bytes c.args.memory.now c.alloc.new.self c.args.map.now.pages c.args.map.now.heap_most c.args.map.now.heap
    f.session.sound.opens f.sound.window new.fresh new.becomes new.some
    (subst (λ a. c.alloc.new.self ≡ with_space c.args.memory.now c.in_ok-space.space.0 a c.args.bytes) c.account.ensures c.in_ok-space.ensures.ok) c.in_ok-space.ensures.within

gap_is : (c : In_ok-space) (told start : ℕ) → told ≡ length (space_at c.alloc.new.self c.in_ok-space.space.0).bytes → heap_gap c.args.map.now.pages c.args.map.now.heap (told / 4096) ≡ Some start →
    heap_gap c.args.map.now.pages c.args.map.now.heap (page_of c.args.bytes / 4096) ≡ Some start
gap_is c told start is gap = ap (heap_gap c.args.map.now.pages c.args.map.now.heap) (sym (pages_are c told is)) ∙ gap

attached_is : (c : In_ok-space) (told start : ℕ) (after : Regions) → told ≡ length (space_at c.alloc.new.self c.in_ok-space.space.0).bytes →
    after ≡ heap_attached c.args.map.now c.in_ok-space.space.0 (told / 4096) of_no_heap start → heap_attached c.args.map.now c.in_ok-space.space.0 (page_of c.args.bytes / 4096) of_no_heap start ≡ after
attached_is c told start after is attached = ap (λ n. heap_attached c.args.map.now c.in_ok-space.space.0 n of_no_heap start) (sym (pages_are c told is)) ∙ sym attached

pub size-pages-requires : goal.size-pages-requires
size-pages-requires c =
    let new = is_new (goal.at.size-pages-requires c).In_ok-space in
    (paid_in_part _ _ _ _ (new_in_part (payer_of c.args.self.now.contents) c.in_ok-space.space.0 c.args.bytes c.args.memory.now c.alloc.new.self new.becomes)).exists

pub attach_heap-start-requires-clause-some : goal.attach_heap-start-requires-clause-some
attach_heap-start-requires-clause-some c =
    let at = (goal.at.attach_heap-start-requires-clause-some c).In_ok-space in
    omega (arith, pages_are at _ c.size-pages.ensures, (is_new at).some)

pub attach_heap-start-requires-clause-room : goal.attach_heap-start-requires-clause-room
attach_heap-start-requires-clause-room c = (has_room (goal.at.attach_heap-start-requires-clause-room c).In_ok-space).room

pub attach_heap-start-requires-clause-fits : goal.attach_heap-start-requires-clause-fits
attach_heap-start-requires-clause-fits c =
    let at = (goal.at.attach_heap-start-requires-clause-fits c).In_ok-space in
    omega (arith, pages_are at _ c.size-pages.ensures, (has_room at).fits)

pub returns-clause-taken : goal.returns-clause-taken
returns-clause-taken c =
    let at = (goal.at.returns-clause-taken c).In_ok-space in
    let new = is_new at in
    let start = c.attach_heap-start.result in
    let f = c.requires.furnished in
    let e = c.attach_heap-start.ensures in
    subst (λ m. TakesBuffer c.args.bytes (record { space = c.in_ok-space.space; start = start }) (stock_of c.args.self.now c.args.memory.now c.args.map.now)
    (stock_of c.args.self.now c.alloc.new.self m) (holding_of c.args.self.now.contents c.alloc.new.self m) c.alloc.new.self)
    (attached_is at _ start c.attach_heap-start.new.self c.size-pages.ensures e.attached)
    (taken_buffer f c.in_ok-space.space.0 c.args.bytes start new.fresh new.becomes new.some (gap_is at _ start c.size-pages.ensures e.gap) c.requires.none)

pub returns-clause-stays : goal.returns-clause-stays
returns-clause-stays c =
    let at = (goal.at.returns-clause-stays c).In_ok-space in
    let new = is_new at in
    let start = c.attach_heap-start.result in
    let e = c.attach_heap-start.ensures in
    subst (StaySoundHeaps c.args.self.now c.args.self.now c.args.memory.now c.alloc.new.self c.args.map.now)
    (attached_is at _ start c.attach_heap-start.new.self c.size-pages.ensures e.attached)
    (taken_furnished c.requires.furnished c.in_ok-space.space.0 c.args.bytes start new.fresh new.becomes new.some (gap_is at _ start c.size-pages.ensures e.gap) c.requires.none)
