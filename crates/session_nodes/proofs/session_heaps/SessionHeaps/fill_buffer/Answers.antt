-- The content is found in a dataspace that isn't the buffer's, and its bytes are copied.
use Rattle.std.proofs.Common.{◌+◌, subst, arith}
use Rattle.std.specs.Prelude.{slice_range}
use Rattle.trade_base.proofs.BytesLemmas.{length-slice_range}
use Rattle.dataspace_core.specs.Store.{space_at}
use Rattle.server_frame.specs.Session.{holding_of}
use Rattle.session_nodes.specs.SessionHeaps.{stock_of}
use Rattle.session_nodes.specs.SessionBuffer.{FillsBuffer}
use Rattle.session_nodes.proofs.BufferLemmas.{filled_furnished, filled_buffer, lent_exists, content_apart}
use Rattle.session_nodes.proofs.FoundLemmas.{content_read}
use Rattle.session_nodes.proofs.session_heaps.SessionHeaps.fill_buffer.Goals as goal

pub copy-requires-clause-apart : goal.copy-requires-clause-apart
copy-requires-clause-apart c = content_apart c.requires.furnished c.args.lent c.requires.lent _ _ _ _ _ c.find_content-at.ensures

pub copy-requires-clause-target : goal.copy-requires-clause-target
copy-requires-clause-target c = lent_exists c.requires.furnished c.args.lent c.requires.lent

pub returns-clause-filled : goal.returns-clause-filled
returns-clause-filled c =
    let a = c.args in
    let f = c.requires.furnished in
    let found = c.find_content-at.ensures in
    let part = slice_range (space_at a.memory.now c.find_content-at.result.0.0).bytes c.find_content-at.result.1 (c.find_content-at.result.1 + a.range.count) in
    let long = length-slice_range (space_at a.memory.now c.find_content-at.result.0.0).bytes c.find_content-at.result.1 a.range.count found.there.within in
    subst (λ bytes. FillsBuffer a.lent a.place bytes (stock_of a.self.now a.memory.now a.map.now) (stock_of a.self.now c.copy.new.self a.map.now) (holding_of a.self.now.contents c.copy.new.self a.map.now) a.memory.now c.copy.new.self)
    (content_read f a.range.address a.range.offset a.range.count _ _ c.requires.there c.requires.some found)
    (filled_buffer f a.lent c.requires.lent a.place part (omega (arith, long, c.requires.room)) c.copy.ensures.part)

pub returns-clause-stays : goal.returns-clause-stays
returns-clause-stays c =
    let a = c.args in
    let found = c.find_content-at.ensures in
    let part = slice_range (space_at a.memory.now c.find_content-at.result.0.0).bytes c.find_content-at.result.1 (c.find_content-at.result.1 + a.range.count) in
    let long = length-slice_range (space_at a.memory.now c.find_content-at.result.0.0).bytes c.find_content-at.result.1 a.range.count found.there.within in
    filled_furnished c.requires.furnished a.lent c.requires.lent a.place part (omega (arith, long, c.requires.room)) c.copy.ensures.part
