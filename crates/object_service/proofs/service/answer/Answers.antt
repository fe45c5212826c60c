-- A request of objects does nothing to the buffer.
use Rattle.std.proofs.Common.{refl}
use Rattle.own_model.specs.ObjectText.ObjectReply.{Counted}
use Rattle.session_nodes.proofs.ResultLemmas.{keeps_same}
use Rattle.session_nodes.specs.SessionHeaps.{stock_of}
use Rattle.object_service.proofs.BufferRequestLemmas.{objects_answered, read_as}
use Rattle.object_service.proofs.ServeLemmas.{serves_told}
use Rattle.object_service.proofs.service.answer.Goals as goal

pub returns-in-Some-Make : goal.returns-in-Some-Make
returns-in-Some-Make c =
    let a = c.args in
    let r = c.in-Some-Make in
    record {
      answered = objects_answered c.requires.ready a.kinds.now a.request.now _ _ a.reply.now _ (read_as a.request.now _ _ r.field-0-is r.ensures) c.make.ensures.keeps c.make.ensures.serves
          c.reply_done.ensures c.requires.reply;
    }

pub returns-in-Some-Resize : goal.returns-in-Some-Resize
returns-in-Some-Resize c =
    let a = c.args in
    let r = c.in-Some-Resize in
    record {
      answered = objects_answered c.requires.ready a.kinds.now a.request.now _ _ a.reply.now _ (read_as a.request.now _ _ r.field-0-is r.ensures) c.resize.ensures.keeps (c.resize.ensures.serves a.kinds.now)
          c.reply_done-in-Some-Resize.ensures c.requires.reply;
    }

pub returns-in-Some-Drop : goal.returns-in-Some-Drop
returns-in-Some-Drop c =
    let a = c.args in
    let r = c.in-Some-Drop in
    record {
      answered = objects_answered c.requires.ready a.kinds.now a.request.now _ _ a.reply.now _ (read_as a.request.now _ _ r.field-0-is r.ensures) c.remove.ensures.keeps (c.remove.ensures.serves a.kinds.now)
          c.reply_done-in-Some-Drop.ensures c.requires.reply;
    }

pub returns-in-Some-Count : goal.returns-in-Some-Count
returns-in-Some-Count c =
    let a = c.args in
    let r = c.in-Some-Count in
    let has = stock_of a.session.now.nodes.heaps a.memory.now a.map.now in
    record {
      answered = objects_answered c.requires.ready a.kinds.now a.request.now _ (Counted c.count.result) a.reply.now _ (read_as a.request.now _ _ r.field-0-is r.ensures)
          (keeps_same c.requires.ready.furnished refl refl refl refl)
          (serves_told a.kinds.now _ (Counted c.count.result) a.session.now has c.requires.ready.objects (c.count.ensures a.kinds.now has c.requires.ready.objects)) c.write-in-Some-Count.ensures c.requires.reply;
    }

pub returns-in-Some-CountKind : goal.returns-in-Some-CountKind
returns-in-Some-CountKind c =
    let a = c.args in
    let r = c.in-Some-CountKind in
    let has = stock_of a.session.now.nodes.heaps a.memory.now a.map.now in
    record {
      answered = objects_answered c.requires.ready a.kinds.now a.request.now _ _ a.reply.now _ (read_as a.request.now _ _ r.field-0-is r.ensures)
          (keeps_same c.requires.ready.furnished refl refl refl refl)
          (serves_told a.kinds.now _ _ a.session.now has c.requires.ready.objects (c.count_kind.ensures has c.requires.ready.objects)) c.reply_count.ensures c.requires.reply;
    }
