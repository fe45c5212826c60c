-- The front is found in one dataspace, and fills the other.
use Rattle.std.proofs.Common.{◌≡◌, length, take, ap, ◌∙◌, arith}
use Rattle.std.proofs.lemmas.List.{length-take}
use Rattle.session_nodes.specs.Calls.{payload_in, content_written}
use Rattle.session_nodes.specs.SessionHeaps.{stock_of}
use Rattle.session_nodes.proofs.FoundLemmas.{nothing_written}
use Rattle.session_nodes.proofs.FillLemmas.{front_found, other_content}
use Rattle.session_nodes.proofs.session_heaps.SessionHeaps.copy_content.Goals as goal

pub returns-then-count-eq0-clause-copied : goal.returns-then-count-eq0-clause-copied
returns-then-count-eq0-clause-copied c =
    let a = c.args in
    let was = stock_of a.self.now a.memory.now a.map.now in
    let front = take a.count (payload_in was.contents a.from) in
    let none : length front ≡ 0 = let e = length-take a.count (payload_in was.contents a.from) in omega (arith, e) in
    nothing_written was a.to 0 front none (record { there = c.requires.target.there; within = omega (arith, none) })

pub fill_content-requires-clause-apart : goal.fill_content-requires-clause-apart
fill_content-requires-clause-apart c =
    let a = c.args in other_content c.requires.furnished a.from a.to _ _ a.count (c.requires.apart (omega arith)) c.find_content-place.ensures

pub returns-clause-copied : goal.returns-clause-copied
returns-clause-copied c =
    let a = c.args in
    let was = stock_of a.self.now a.memory.now a.map.now in
    c.fill_content.ensures.written
    ∙ ap (λ bytes. content_written a.to 0 bytes was) (front_found c.requires.furnished a.from a.count _ _ (c.requires.source (omega arith)) (omega arith) c.find_content-place.ensures)
