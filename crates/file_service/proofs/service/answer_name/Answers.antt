-- The files stay, and the name is told.
use Rattle.std.proofs.Common.{ap, ◌∙◌, Some, None}
use Rattle.file_service.specs.declared.session.FileSession.{FileSession}
use Rattle.file_service.proofs.RequestLemmas.{name_reply, named_served}
use Rattle.file_service.proofs.service.answer_name.Goals as goal

pub returns-in-Some-clause-told : goal.returns-in-Some-clause-told
returns-in-Some-clause-told c =
    let a = c.args in
    let name = Some c.deref.result.now in
    (name_reply name, (named_served a.place name a.session.now c.file_at.new.self a.memory.now _ a.map.now c.file_at.ensures.kept c.file_at.ensures.same c.file_at.ensures.memory (ap Some c.deref.ensures.0 ∙ c.in-Some.ensures.name), c.write.ensures))

pub returns-in-None-clause-told : goal.returns-in-None-clause-told
returns-in-None-clause-told c =
    let a = c.args in
    (name_reply None, (named_served a.place None a.session.now c.file_at.new.self a.memory.now _ a.map.now c.file_at.ensures.kept c.file_at.ensures.same c.file_at.ensures.memory c.in-None.ensures.name, c.write-in-None.ensures))

pub returns-in-Some-clause-heaps : goal.returns-in-Some-clause-heaps
returns-in-Some-clause-heaps c = ap (λ (s : FileSession). s.nodes.heaps) c.file_at.ensures.same

pub returns-in-None-clause-heaps : goal.returns-in-None-clause-heaps
returns-in-None-clause-heaps c = ap (λ (s : FileSession). s.nodes.heaps) c.file_at.ensures.same
