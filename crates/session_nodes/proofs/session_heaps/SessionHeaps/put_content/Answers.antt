-- A range of the buffer is there, and in no content's dataspace.
use Rattle.session_nodes.proofs.SourceLemmas.{range_there, lent_elsewhere}
use Rattle.session_nodes.specs.Source.{HasSource}
use Rattle.std.proofs.Common.{subst}
use Rattle.session_nodes.proofs.session_heaps.SessionHeaps.put_content.Goals as goal

pub fill_content-requires-clause-source : goal.fill_content-requires-clause-source
fill_content-requires-clause-source c =
    let b = c.in-Buffer in
    let a = c.args in
    range_there c.requires.furnished b.lent b.place b.count (subst (λ s. HasSource s a.self.now.contents a.memory.now a.map.now) b.is c.requires.source)

pub fill_content-requires-clause-apart : goal.fill_content-requires-clause-apart
fill_content-requires-clause-apart c =
    let b = c.in-Buffer in
    let a = c.args in
    lent_elsewhere c.requires.furnished b.lent b.place b.count (subst (λ s. HasSource s a.self.now.contents a.memory.now a.map.now) b.is c.requires.source) a.address
