-- A new dataspace is shown nowhere, so it can be attached, and becomes a chunk of one hole.
use Rattle.std.proofs.Common.{◌≡◌, ℕ, ◌+◌, ◌-◌, ◌*◌, ◌/◌, ◌++◌, List, [], ◌∷◌, Some, length, sym, ap, subst, ◌∙◌, arith}
use Rattle.std.proofs.lemmas.List.{length-append}
use Rattle.trade_base.specs.Page.{page_of}
use Rattle.own_model.specs.HeapWindow.{heap_gap, largest_machine}
use Rattle.dataspace_core.proofs.PartLaws.{paid_in_part}
use Rattle.dataspace_core.proofs.WindowLaws.{HasRoom, room_then, new_in_part, new_pages}
use Rattle.region_map.specs.Regions.{heap_attached}
use Rattle.heap_core.specs.Blocks.{StandIn, Adds}
use Rattle.heap_core.specs.Heap.{keys_in}
use Rattle.heap_core.specs.Words.{around, bytes_around, keys_of, words_of}
use Rattle.heap_core.proofs.AddLemmas.{keys, keys_more, stand_then, there_then}
use Rattle.heap_core.proofs.GrownLemmas.{grows, grown_keeps}
use Rattle.heap_core.proofs.WordsLemmas.{length_keys}
use Rattle.heap_core.proofs.heap.Heap.add_chunk.Goals as goal

-- there is room for its region
has_room : (c : goal.After-len) → HasRoom c.args.map.now.pages c.args.map.now.heap_most (page_of c.args.bytes / 4096) c.args.map.now.heap
has_room c = let s = c.requires.sound in room_then _ _ _ _ _ _ _ _ s.opens s.window c.in_ok-ds.ensures.fresh c.in_ok-ds.ensures.part c.requires.growth.some c.in_ok-ds.ensures.ok c.in_ok-ds.ensures.within

pages : (c : goal.After-len) → c.size-pages.result / 4096 ≡ page_of c.args.bytes / 4096
pages c = new_pages _ _ _ _ _ _ c.in_ok-ds.ensures.part c.size-pages.ensures

pub size-pages-requires : goal.size-pages-requires
size-pages-requires c = (paid_in_part _ _ _ _ (new_in_part _ _ _ _ _ c.in_ok-ds.ensures.part)).exists

pub attach_block-start-requires-clause-some : goal.attach_block-start-requires-clause-some
attach_block-start-requires-clause-some c = let e = pages c in let l = c.requires.growth.some in omega (arith, e, l)

pub attach_block-start-requires-clause-room : goal.attach_block-start-requires-clause-room
attach_block-start-requires-clause-room c = (has_room c).room

pub attach_block-start-requires-clause-fits : goal.attach_block-start-requires-clause-fits
attach_block-start-requires-clause-fits c = let e = pages c in let f = (has_room c).fits in omega (arith, e, f)

-- the chunks' keys with the new one
keys_are : (c : goal.After-new) → keys_of c.deref.result.now ≡ keys c.args.self.now c.args.memory.now c.alloc.new.self c.args.map.now c.in_ok-ds.ds.0 c.args.bytes c.requires.sound c.in_ok-ds.ensures.fresh c.in_ok-ds.ensures.ok c.in_ok-ds.ensures.part c.requires.room
keys_are c = ap keys_of (c.deref.ensures.0 ∙ c.push.ensures.items) ∙ keys_more c.args.self.now.chunks.items _

pub add-requires-clause-stand : goal.add-requires-clause-stand
add-requires-clause-stand c =
    subst (λ (ks : List ℕ). StandIn c.args.self.now.fit (words_of ks c.alloc.new.self) (bytes_around (around ks c.alloc.new.self))) (sym (keys_are c))
    (stand_then c.args.self.now c.args.memory.now c.alloc.new.self c.args.map.now c.in_ok-ds.ds.0 c.args.bytes c.requires.sound c.in_ok-ds.ensures.fresh c.in_ok-ds.ensures.ok c.in_ok-ds.ensures.part c.requires.room)

length_are : (c : goal.After-new) → length c.deref.result.now ≡ length c.args.self.now.chunks.items + 1
length_are c = ap length (c.deref.ensures.0 ∙ c.push.ensures.items) ∙ length-append c.args.self.now.chunks.items _

whole : (c : goal.After-new) → c.size-pages.result / 4096 ≡ page_of c.args.bytes / 4096
whole c = new_pages _ _ _ _ _ _ c.in_ok-ds.ensures.part c.size-pages.ensures

pub add-requires-clause-last : goal.add-requires-clause-last
add-requires-clause-last c = let count = c.requires.sound.laid.count in let now = length_are c in omega (arith, count, now)

pub add-requires-clause-few : goal.add-requires-clause-few
add-requires-clause-few c = let room = c.requires.room in let now = length_are c in omega (arith, room, now)

pub add-requires-clause-size : goal.add-requires-clause-size
add-requires-clause-size c =
    let e = whole c in
    let some = c.requires.growth.some in
    let short = c.requires.growth.short in
    record { block = record { least = omega (arith, some, e); even = omega arith }; short = omega (arith, e, short) }

pub add-requires-clause-there : goal.add-requires-clause-there
add-requires-clause-there c =
    let last : length c.deref.result.now - 1 ≡ length (keys_in c.args.self.now) = let now = length_are c in let n = length_keys c.args.self.now.chunks.items in omega (arith, now, n) in
    let there = there_then c.args.self.now c.args.memory.now c.alloc.new.self c.args.map.now c.in_ok-ds.ds.0 c.args.bytes c.requires.sound c.in_ok-ds.ensures.fresh c.in_ok-ds.ensures.ok c.in_ok-ds.ensures.part c.requires.room in
    let is = ap (λ (ks : List ℕ). bytes_around (around ks c.alloc.new.self) (length c.deref.result.now - 1)) (keys_are c) ∙ ap (bytes_around (around (keys c.args.self.now c.args.memory.now c.alloc.new.self c.args.map.now c.in_ok-ds.ds.0 c.args.bytes c.requires.sound c.in_ok-ds.ensures.fresh c.in_ok-ds.ensures.ok c.in_ok-ds.ensures.part c.requires.room) c.alloc.new.self)) last ∙ there in
    let e = whole c in
    omega (arith, is, e)

-- the map with the region
attached : (c : goal.After-add) → c.attach_block-start.new.self ≡ heap_attached c.args.map.now c.in_ok-ds.ds.0 (page_of c.args.bytes / 4096) (length (keys_in c.args.self.now)) c.attach_block-start.result
attached c =
    c.attach_block-start.ensures.attached
    ∙ ap (λ p. heap_attached c.args.map.now c.in_ok-ds.ds.0 p c.len.result c.attach_block-start.result) (new_pages _ _ _ _ _ _ c.in_ok-ds.ensures.part c.size-pages.ensures)
    ∙ ap (λ t. heap_attached c.args.map.now c.in_ok-ds.ds.0 (page_of c.args.bytes / 4096) t c.attach_block-start.result) (c.len.ensures.value ∙ sym (length_keys c.args.self.now.chunks.items))

whole_then : (c : goal.After-add) → c.size-pages.result / 4096 ≡ page_of c.args.bytes / 4096
whole_then c = new_pages _ _ _ _ _ _ c.in_ok-ds.ensures.part c.size-pages.ensures

gap : (c : goal.After-add) → heap_gap c.args.map.now.pages c.args.map.now.heap (page_of c.args.bytes / 4096) ≡ Some c.attach_block-start.result
gap c = subst (λ p. heap_gap c.args.map.now.pages c.args.map.now.heap p ≡ Some c.attach_block-start.result) (whole_then c) c.attach_block-start.ensures.gap

lowest : (c : goal.After-add) → heap_gap largest_machine c.args.map.now.heap (page_of c.args.bytes / 4096) ≡ Some c.attach_block-start.result
lowest c = subst (λ p. heap_gap largest_machine c.args.map.now.heap p ≡ Some c.attach_block-start.result) (whole_then c) c.attach_block-start.ensures.lowest

-- the chunks' keys, as best fit was given them
given : (c : goal.After-add) → keys_of c.deref.result.now ≡ keys_in c.args.self.now ++ c.in_ok-ds.ds.0 ∷ []
given c = ap keys_of (c.deref.ensures.0 ∙ c.push.ensures.items) ∙ keys_more c.args.self.now.chunks.items _

kept : (c : goal.After-add) → around (keys_in c.args.self.now ++ c.in_ok-ds.ds.0 ∷ []) c.add.new.memory ≡ around (keys_in c.args.self.now ++ c.in_ok-ds.ds.0 ∷ []) c.alloc.new.self
kept c = subst (λ ks. around ks c.add.new.memory ≡ around ks c.alloc.new.self) (given c) c.add.ensures.around

added : (c : goal.After-add) →
    Adds (page_of c.args.bytes) c.args.self.now.fit c.add.new.fit (words_of (keys_in c.args.self.now ++ c.in_ok-ds.ds.0 ∷ []) c.alloc.new.self) (words_of (keys_in c.args.self.now ++ c.in_ok-ds.ds.0 ∷ []) c.add.new.memory)
added c =
    let e = whole_then c in
    let bytes : c.size-pages.result / 4096 * 4096 ≡ page_of c.args.bytes = omega (arith, e) in
    subst (λ ks. Adds (page_of c.args.bytes) c.args.self.now.fit c.add.new.fit (words_of ks c.alloc.new.self) (words_of ks c.add.new.memory)) (given c)
    (subst (λ b. Adds b c.args.self.now.fit c.add.new.fit (words_of (keys_of c.deref.result.now) c.alloc.new.self) (words_of (keys_of c.deref.result.now) c.add.new.memory)) bytes c.add.ensures.adds)

pub returns-clause-grows : goal.returns-clause-grows
returns-clause-grows c = rw (attached c) (grows c.args.self.now c.push.new.self c.add.new.fit c.args.next c.in_ok-ds.ds.0 c.args.bytes c.attach_block-start.result c.args.memory.now c.alloc.new.self c.add.new.memory c.args.map.now c.requires.sound
    c.in_ok-ds.ensures.fresh c.in_ok-ds.ensures.ok c.in_ok-ds.ensures.part c.requires.room c.requires.growth.some c.attach_block-start.ensures.free (gap c) (lowest c) c.push.ensures.items (added c) (kept c) c.requires.growth.next_some c.requires.growth.next_most)

pub returns-clause-keeps : goal.returns-clause-keeps
returns-clause-keeps c = rw (attached c) (grown_keeps c.args.self.now c.push.new.self c.add.new.fit c.args.next c.in_ok-ds.ds.0 c.args.bytes c.attach_block-start.result c.args.memory.now c.alloc.new.self c.add.new.memory c.args.map.now c.requires.sound
    c.in_ok-ds.ensures.fresh c.in_ok-ds.ensures.ok c.in_ok-ds.ensures.part c.requires.room c.requires.growth.some c.attach_block-start.ensures.free (gap c) (lowest c) c.push.ensures.items (added c) (kept c) c.requires.growth.next_some c.requires.growth.next_most)
