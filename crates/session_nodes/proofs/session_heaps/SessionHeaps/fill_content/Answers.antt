-- What is found holds the content's bytes, and a copy there is a write of them.
use Rattle.std.proofs.Common.{◌+◌, sym, subst, arith}
use Rattle.std.specs.Prelude.{slice_range}
use Rattle.trade_base.proofs.BytesLemmas.{length-slice_range}
use Rattle.dataspace_core.specs.Store.{space_at}
use Rattle.session_nodes.specs.Calls.{HasBytes}
use Rattle.session_nodes.specs.SessionHeaps.{stock_of}
use Rattle.session_nodes.proofs.FoundLemmas.{nothing_written}
use Rattle.session_nodes.proofs.FillLemmas.{filled_written, filled_keeps, elsewhere_apart}
use Rattle.session_nodes.proofs.session_heaps.SessionHeaps.fill_content.Goals as goal

pub returns-then-count-eq0-clause-written : goal.returns-then-count-eq0-clause-written
returns-then-count-eq0-clause-written c =
    let a = c.args in
    let was = stock_of a.self.now a.memory.now a.map.now in
    let long = length-slice_range (space_at a.memory.now a.source.0).bytes a.place a.range.count c.requires.source.within in
    nothing_written was a.range.address a.range.offset (slice_range (space_at a.memory.now a.source.0).bytes a.place (a.place + a.range.count)) (omega (arith, long))
    (subst (HasBytes was.contents a.range.address a.range.offset) (sym long) c.requires.there)

pub copy-requires-clause-apart : goal.copy-requires-clause-apart
copy-requires-clause-apart c =
    let a = c.args in elsewhere_apart c.requires.furnished a.range.address a.range.offset a.range.count a.source.0 _ _ c.requires.apart c.find_content-at.ensures

pub returns-clause-written : goal.returns-clause-written
returns-clause-written c =
    let a = c.args in
    filled_written c.requires.furnished a.range.address a.range.offset a.source.0 a.place a.range.count _ _ c.requires.there (omega arith) c.requires.source c.find_content-at.ensures c.copy.ensures.part

pub returns-clause-keeps : goal.returns-clause-keeps
returns-clause-keeps c =
    let a = c.args in
    filled_keeps c.requires.furnished a.range.address a.range.offset a.source.0 a.place a.range.count _ _ c.requires.there (omega arith) c.requires.source c.find_content-at.ensures c.copy.ensures.part
