-- A request of files does nothing to the buffer, and one of the buffer tells what it does to it.
use Rattle.std.proofs.Common.{ap, refl, subst}
use Rattle.session_proto.specs.File.{HasHex}
use Rattle.session_nodes.specs.Frame.{Nothing}
use Rattle.session_nodes.specs.declared.session_heaps.SessionHeaps.{SessionHeaps}
use Rattle.file_service.proofs.BufferRequestLemmas.{buffer_answered, files_answered, read_as}
use Rattle.file_service.proofs.RequestLemmas.{hex_is_short}
use Rattle.session_nodes.proofs.ResultLemmas.{keeps_same}
use Rattle.file_service.proofs.ServeLemmas.{serves_same}
use Rattle.file_service.proofs.service.answer.Goals as goal

pub write-requires-clause-few : goal.write-requires-clause-few
write-requires-clause-few c =
    let r = c.in-Write in
    hex_is_short c.args.request.now r.file.now r.offset r.hex.now (read_as c.args.request.now _ _ r.is c.in-Some.ensures.request) (subst HasHex r.is c.in-Some.ensures.hex)

pub returns-in-Create : goal.returns-in-Create
returns-in-Create c =
    let a = c.args in
    let r = c.in-Create in
    record {
      answered = files_answered c.requires.ready a.request.now _ _ a.reply.now _ (read_as a.request.now _ _ r.is c.in-Some.ensures.request) c.create.ensures.keeps c.create.ensures.serves
          c.reply_done.ensures c.requires.reply;
    }

pub returns-in-Write : goal.returns-in-Write
returns-in-Write c =
    let a = c.args in
    let r = c.in-Write in
    record {
      answered = files_answered c.requires.ready a.request.now _ _ a.reply.now _ (read_as a.request.now _ _ r.is c.in-Some.ensures.request) c.write.ensures.keeps c.write.ensures.serves
          c.reply_count.ensures c.requires.reply;
    }

pub returns-in-Read : goal.returns-in-Read
returns-in-Read c =
    let a = c.args in
    let r = c.in-Read in
    let t = c.answer_read.ensures.told in
    record {
      answered = files_answered c.requires.ready a.request.now _ t.0 a.reply.now _ (read_as a.request.now _ _ r.is c.in-Some.ensures.request)
          (keeps_same c.requires.ready.furnished refl refl c.answer_read.ensures.memory refl)
          (serves_same _ t.0 a.session.now a.memory.now _ a.map.now c.requires.ready.files c.answer_read.ensures.memory t.1.0) t.1.1 c.requires.reply;
    }

pub returns-in-Drop : goal.returns-in-Drop
returns-in-Drop c =
    let a = c.args in
    let r = c.in-Drop in
    record {
      answered = files_answered c.requires.ready a.request.now _ _ a.reply.now _ (read_as a.request.now _ _ r.is c.in-Some.ensures.request) c.remove.ensures.keeps c.remove.ensures.serves
          c.reply_done-in-Drop.ensures c.requires.reply;
    }

pub returns-in-Clear : goal.returns-in-Clear
returns-in-Clear c =
    let a = c.args in
    let r = c.in-Clear in
    record {
      answered = files_answered c.requires.ready a.request.now _ _ a.reply.now _ (read_as a.request.now _ _ r.is c.in-Some.ensures.request) c.clear.ensures.keeps c.clear.ensures.serves
          c.reply_done-in-Clear.ensures c.requires.reply;
    }

pub returns-in-Name : goal.returns-in-Name
returns-in-Name c =
    let a = c.args in
    let r = c.in-Name in
    let t = c.answer_name.ensures.told in
    record {
      answered = files_answered c.requires.ready a.request.now _ t.0 a.reply.now _ (read_as a.request.now _ _ r.is c.in-Some.ensures.request)
          (keeps_same c.requires.ready.furnished (ap (λ (r : SessionHeaps). r.nodes) c.answer_name.ensures.heaps) (ap (λ (r : SessionHeaps). r.contents) c.answer_name.ensures.heaps) c.answer_name.ensures.memory refl) t.1.0 t.1.1 c.requires.reply;
    }

pub returns-in-Size : goal.returns-in-Size
returns-in-Size c =
    let a = c.args in
    let r = c.in-Size in
    record {
      answered = files_answered c.requires.ready a.request.now _ _ a.reply.now _ (read_as a.request.now _ _ r.is c.in-Some.ensures.request)
          (keeps_same c.requires.ready.furnished refl refl c.size.ensures.memory refl)
          (serves_same _ _ a.session.now a.memory.now _ a.map.now c.requires.ready.files c.size.ensures.memory c.size.ensures.told) c.reply_count-in-Size.ensures c.requires.reply;
    }

pub returns-in-Buffer : goal.returns-in-Buffer
returns-in-Buffer c =
    let a = c.args in
    let r = c.in-Buffer in
    record {
      answered = buffer_answered c.requires.ready a.request.now _ _ c.reply_lent.result _ a.reply.now _ (read_as a.request.now _ _ r.is c.in-Some.ensures.request)
          c.lend.ensures.answers c.reply_lent.ensures.effect c.lend.ensures.effect c.lend.ensures.stays c.reply_lent.ensures.told c.requires.reply;
    }

pub returns-in-Unbuffer : goal.returns-in-Unbuffer
returns-in-Unbuffer c =
    let a = c.args in
    let r = c.in-Unbuffer in
    record {
      answered = buffer_answered c.requires.ready a.request.now _ _ c.reply_gone.result _ a.reply.now _ (read_as a.request.now _ _ r.is c.in-Some.ensures.request)
          c.take_back.ensures.answers c.reply_gone.ensures.effect c.take_back.ensures.effect c.take_back.ensures.stays c.reply_gone.ensures.told c.requires.reply;
    }

pub returns-in-Put : goal.returns-in-Put
returns-in-Put c =
    let a = c.args in
    let r = c.in-Put in
    record {
      answered = buffer_answered c.requires.ready a.request.now _ _ Nothing Nothing a.reply.now _ (read_as a.request.now _ _ r.is c.in-Some.ensures.request)
          c.put.ensures.answers refl c.put.ensures.same c.put.ensures.stays c.reply_count-in-Put.ensures c.requires.reply;
    }

pub returns-in-Get : goal.returns-in-Get
returns-in-Get c =
    let a = c.args in
    let r = c.in-Get in
    record {
      answered = buffer_answered c.requires.ready a.request.now _ _ Nothing Nothing a.reply.now _ (read_as a.request.now _ _ r.is c.in-Some.ensures.request)
          c.get.ensures.answers refl refl c.get.ensures.stays c.reply_count-in-Get.ensures c.requires.reply;
    }
