-- The region is attached where there is a gap, and the headers link the block before the others.
use Rattle.std.proofs.Common.{refl, arith}
use Rattle.sliced_heap.proofs.EnterLemmas.{gap_small, first_header, first_apart, ds_touched, first_touched, enter_others, enter_open, enter_maps, enter_linked, enters}
use Rattle.sliced_heap.proofs.heap.SlicedHeap.enter.Goals as goal

pub put_first-self-requires-clause-next : goal.put_first-self-requires-clause-next
put_first-self-requires-clause-next c = first_header _ _ _ _ _ c.requires.sound c.requires.can

pub put_first-self-requires-clause-apart : goal.put_first-self-requires-clause-apart
put_first-self-requires-clause-apart c = first_apart _ _ _ _ _ c.requires.sound c.requires.can

pub overflow_add-result : goal.overflow_add-result
overflow_add-result c = let small = gap_small c.args.map.now.heap c.args.pages c.attach_block-start.result c.attach_block-start.ensures.lowest in omega (arith, small)

pub returns-clause-enters : goal.returns-clause-enters
returns-clause-enters c =
    let headers = c.put_first-self.ensures.headers _ (ds_touched _ _ _ _ _ c.requires.sound c.requires.can) (first_touched _ _ _ _ _ c.requires.sound c.requires.can) in
    rw c.attach_block-start.ensures.attached
    (enters _ _ _ _ _ c.requires.sound c.requires.can _ _ c.attach_block-start.ensures.gap c.attach_block-start.ensures.lowest c.attach_block-start.ensures.free c.put_first-self.ensures.becomes headers c.put_first-self.ensures.put)

pub returns-clause-keeps : goal.returns-clause-keeps
returns-clause-keeps c =
    let headers = c.put_first-self.ensures.headers _ (ds_touched _ _ _ _ _ c.requires.sound c.requires.can) (first_touched _ _ _ _ _ c.requires.sound c.requires.can) in
    rw c.attach_block-start.ensures.attached (record {
      sound = record {
        opens = enter_open _ _ _ _ _ c.requires.sound c.requires.can _ _ c.attach_block-start.ensures.gap c.attach_block-start.ensures.lowest c.attach_block-start.ensures.free c.put_first-self.ensures.becomes headers c.put_first-self.ensures.put;
        maps = enter_maps _ _ _ _ _ c.requires.sound c.requires.can _ _ c.attach_block-start.ensures.gap c.attach_block-start.ensures.lowest c.attach_block-start.ensures.free c.put_first-self.ensures.becomes headers c.put_first-self.ensures.put;
        linked = rw c.put_first-self.ensures.link (enter_linked _ _ _ _ _ c.requires.sound c.requires.can _ _ c.attach_block-start.ensures.gap c.attach_block-start.ensures.lowest c.attach_block-start.ensures.free c.put_first-self.ensures.becomes headers c.put_first-self.ensures.put);
      };
      others = enter_others _ _ _ _ _ c.requires.sound c.requires.can _ _ c.attach_block-start.ensures.gap c.attach_block-start.ensures.lowest c.attach_block-start.ensures.free c.put_first-self.ensures.becomes headers c.put_first-self.ensures.put;
      payer = refl;
    })
