-- A session is ready once its map is known to lie apart, and it is kept after the answer.
use Rattle.session_nodes.specs.Frame.{heap_account, holding_of}
use Rattle.session_nodes.proofs.ReadyLemmas.{are_kept, are_sound, is_lent}
use Rattle.session_nodes.proofs.SourceLemmas.{keeps_buffer}
use Rattle.file_service.proofs.service.FileServiceService.serve.Goals as goal

pub answer-requires-clause-ready : goal.answer-requires-clause-ready
answer-requires-clause-ready c =
    let a = c.args in
    let heaps = a.session.now.nodes.heaps in
    record {
      furnished = are_sound heaps a.memory.now a.map.now c.requires.account c.requires.kept.heaps c.lies_apart.ensures.sound;
      files = c.requires.kept.files;
      lent = is_lent heaps a.memory.now a.map.now c.requires.account c.requires.kept.heaps a.session.now.buffer c.requires.kept.buffer;
    }

pub returns-clause-kept : goal.returns-clause-kept
returns-clause-kept c =
    let new = c.answer.new in
    let ready = c.answer.ensures.answered.leaves.ready in
    record {
      heaps = are_kept new.session.nodes.heaps new.memory new.map ready.furnished;
      files = ready.files;
      buffer = keeps_buffer new.session.buffer (holding_of new.session.nodes.heaps.contents new.memory new.map) ready.lent;
    }

pub returns-clause-account : goal.returns-clause-account
returns-clause-account c = heap_account _ _ _ c.answer.ensures.answered.leaves.ready.furnished.session
