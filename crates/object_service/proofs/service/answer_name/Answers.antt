-- The objects stay, and the one at the place is named.
use Rattle.std.proofs.Common.{ap, ◌∙◌, Some, None}
use Rattle.own_model.specs.ObjectText.ObjectReply.{Named}
use Rattle.object_service.specs.declared.session.ObjectSession.{ObjectSession}
use Rattle.object_service.proofs.ServeLemmas.{name_reply, named_served}
use Rattle.object_service.proofs.service.answer_name.Goals as goal

pub returns-in-Some-clause-told : goal.returns-in-Some-clause-told
returns-in-Some-clause-told c =
    let a = c.args in
    let kinds = a.kinds.now in
    let units = c.in-Some.found.units in
    let kind = c.name_of-kind.ensures.name in
    let name = c.deref.ensures.0 in
    let reply = Named c.name_of-kind.result.now c.deref.result.now units in (
      reply,
      (
        named_served kinds a.place (Some reply) a.session.now c.object_at.new.self a.memory.now c.object_at.new.memory a.map.now c.object_at.ensures.kept c.object_at.ensures.same c.object_at.ensures.memory
            ((λ i. Some (Named (kind i) (name i) units)) ∙ c.in-Some.ensures.object kinds),
        c.write.ensures,
      ),
    )

pub returns-in-None-clause-told : goal.returns-in-None-clause-told
returns-in-None-clause-told c =
    let a = c.args in (
      name_reply None,
      (
        named_served a.kinds.now a.place None a.session.now c.object_at.new.self a.memory.now c.object_at.new.memory a.map.now c.object_at.ensures.kept c.object_at.ensures.same c.object_at.ensures.memory
            (c.in-None.ensures.object a.kinds.now),
        c.write-in-None.ensures,
      ),
    )

pub returns-in-Some-clause-heaps : goal.returns-in-Some-clause-heaps
returns-in-Some-clause-heaps c = ap (λ (s : ObjectSession). s.nodes.heaps) c.object_at.ensures.same

pub returns-in-None-clause-heaps : goal.returns-in-None-clause-heaps
returns-in-None-clause-heaps c = ap (λ (s : ObjectSession). s.nodes.heaps) c.object_at.ensures.same
