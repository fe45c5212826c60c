-- Both words are put, one after the other.
use Rattle.std.proofs.Common.{length, ap, ◌∙◌, arith}
use Rattle.trade_base.proofs.WordLemmas.{length-word_bytes}
use Rattle.session_nodes.specs.Calls.{HasBytes}
use Rattle.session_nodes.specs.SessionHeaps.{stock_of}
use Rattle.session_nodes.specs.SoundHeaps.{Stock}
use Rattle.session_nodes.proofs.LinkBackLemmas.{word_is}
use Rattle.object_service.proofs.WordLemmas.{block_has, has_second, puts_words}
use Rattle.object_service.proofs.session.ObjectSession.put_words.Goals.{After-to_le_bytes-word}
use Rattle.object_service.proofs.session.ObjectSession.put_words.Goals as goal

-- the block has the bytes of an object
whole : (c : After-to_le_bytes-word) → HasBytes (stock_of c.args.self.now.nodes.heaps c.args.memory.now c.args.map.now).nodes.payloads c.args.address 0 112
whole c = block_has c.args.self.now.nodes (stock_of c.args.self.now.nodes.heaps c.args.memory.now c.args.map.now) c.args.address 112 c.requires.nodes c.requires.listed c.requires.room (omega arith)

pub put_user-requires-clause-room : goal.put_user-requires-clause-room
put_user-requires-clause-room c =
    let list = c.args.self.now.nodes in
    let was : Stock = stock_of list.heaps c.args.memory.now c.args.map.now in
    let long = ap length (word_is c.args.word _ c.to_le_bytes-word.ensures) ∙ length-word_bytes c.args.word in
    let has = whole (goal.at.put_user-requires-clause-room c).After-to_le_bytes-word in
    record { there = has.there; within = omega (arith, long, has.within) }

pub put_user-requires-2-clause-room : goal.put_user-requires-2-clause-room
put_user-requires-2-clause-room c =
    let list = c.args.self.now.nodes in
    let was : Stock = stock_of list.heaps c.args.memory.now c.args.map.now in
    let mid : Stock = stock_of list.heaps c.put_user.new.memory c.args.map.now in
    has_second list c.args.address was mid mid c.args.word c.args.units c.ranges.word.fits c.ranges.units.fits _ _ (word_is c.args.word _ c.to_le_bytes-word.ensures) (word_is c.args.units _ c.to_le_bytes-units.ensures)
    (whole (goal.at.put_user-requires-2-clause-room c).After-to_le_bytes-word) c.put_user.ensures.put

pub returns-clause-put : goal.returns-clause-put
returns-clause-put c =
    let list = c.args.self.now.nodes in
    let was : Stock = stock_of list.heaps c.args.memory.now c.args.map.now in
    let mid : Stock = stock_of list.heaps c.put_user.new.memory c.args.map.now in
    let now : Stock = stock_of list.heaps c.put_user-2.new.memory c.args.map.now in
    puts_words list c.args.address was mid now c.args.word c.args.units c.ranges.word.fits c.ranges.units.fits _ _ (word_is c.args.word _ c.to_le_bytes-word.ensures) (word_is c.args.units _ c.to_le_bytes-units.ensures)
    (whole (goal.at.returns-clause-put c).After-to_le_bytes-word) c.put_user.ensures.put c.put_user-2.ensures.put
