-- The block's neighbours are linked to each other, its region goes, and its dataspace.
use Rattle.std.proofs.Common.{refl}
use Rattle.sliced_heap.proofs.GiveLemmas.{listed, listed_header, next_listed, previous_listed, region_there, mid_paid, give_others, give_sound, gives}
use Rattle.sliced_heap.proofs.heap.SlicedHeap.give_back.Goals as goal

pub take_out-self-requires-clause-header : goal.take_out-self-requires-clause-header
take_out-self-requires-clause-header c = listed_header _ _ _ _ _ c.requires.sound c.requires.block _ (listed _ _ _ _ _ c.requires.sound c.requires.block)

pub take_out-self-requires-clause-next : goal.take_out-self-requires-clause-next
take_out-self-requires-clause-next c = λ b leads.
    listed_header _ _ _ _ _ c.requires.sound c.requires.block b (next_listed _ _ _ _ _ c.requires.sound c.requires.block b leads)

pub take_out-self-requires-clause-previous : goal.take_out-self-requires-clause-previous
take_out-self-requires-clause-previous c = λ b leads.
    listed_header _ _ _ _ _ c.requires.sound c.requires.block b (previous_listed _ _ _ _ _ c.requires.sound c.requires.block b leads)

pub detach_heap-requires : goal.detach_heap-requires
detach_heap-requires c = region_there _ _ _ _ _ c.requires.sound c.requires.block

pub free-requires : goal.free-requires
free-requires c =
    let headers = c.take_out-self.ensures.headers _ (next_listed _ _ _ _ _ c.requires.sound c.requires.block) (previous_listed _ _ _ _ _ c.requires.sound c.requires.block) in
    (mid_paid _ _ _ _ _ c.requires.sound c.requires.block _ c.take_out-self.ensures.becomes headers).exists

pub returns-clause-given : goal.returns-clause-given
returns-clause-given c =
    let headers = c.take_out-self.ensures.headers _ (next_listed _ _ _ _ _ c.requires.sound c.requires.block) (previous_listed _ _ _ _ _ c.requires.sound c.requires.block) in
    rw c.detach_heap.ensures (gives _ _ _ _ _ c.requires.sound c.requires.block _ c.take_out-self.ensures.becomes headers _ c.free.ensures.part c.take_out-self.ensures.out)

pub returns-clause-keeps : goal.returns-clause-keeps
returns-clause-keeps c =
    let headers = c.take_out-self.ensures.headers _ (next_listed _ _ _ _ _ c.requires.sound c.requires.block) (previous_listed _ _ _ _ _ c.requires.sound c.requires.block) in
    rw c.detach_heap.ensures (record {
      sound = give_sound _ _ _ _ _ c.requires.sound c.requires.block _ c.take_out-self.ensures.becomes headers _ c.free.ensures.part c.take_out-self.ensures.out _ c.take_out-self.ensures.link;
      others = give_others _ _ _ _ _ c.requires.sound c.requires.block _ c.take_out-self.ensures.becomes headers _ c.free.ensures.part c.take_out-self.ensures.out;
      payer = refl;
    })
