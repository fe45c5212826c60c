-- The first word of the holder's block is another one.
use Rattle.std.proofs.Common.{◌≡◌, ◌∙◌, ap, arith}
use Rattle.trade_base.specs.Word.{word_bytes}
use Rattle.own_model.specs.OwnState.{with_part}
use Rattle.session_nodes.specs.Calls.{payload_in, node_stored}
use Rattle.session_nodes.specs.SoundHeaps.{Stock}
use Rattle.session_nodes.specs.SessionHeaps.{stock_of}
use Rattle.session_nodes.proofs.AppendLemmas.{stored_links}
use Rattle.session_nodes.proofs.LinkBackLemmas.{word_is}
use Rattle.session_nodes.proofs.NextLemmas.{node_next, there_next, place_next}
use Rattle.session_nodes.proofs.node_list.NodeList.link.Goals as goal

pub returns-clause-links : goal.returns-clause-links
returns-clause-links c =
    let was : Stock = stock_of c.args.self.now.heaps c.args.memory.now c.args.map.now in
    let now : Stock = stock_of c.args.self.now.heaps c.put_bytes.new.memory c.args.map.now in
    let stored : now ≡ node_stored c.args.holder 0 (word_bytes c.args.address) was =
    c.put_bytes.ensures.stored ∙ ap (λ b. node_stored c.args.holder 0 b was) (word_is c.args.address _ c.to_le_bytes-word.ensures) in
    let has = c.requires.there (λ e. absurd (omega (arith, e))) in
    let low = c.ranges.address.fits in
    let payloads = ap (λ (s : Stock). s.nodes.payloads) stored in
    stored_links was.nodes now.nodes c.args.holder (with_part (payload_in was.nodes.payloads c.args.holder) 0 (word_bytes c.args.address)) (ap (λ (s : Stock). s.nodes) stored)
    c.args.self.now.first c.args.address (λ e. absurd (omega (arith, e)))
    (node_next was.nodes now.nodes c.args.holder c.args.address low has payloads) (there_next was.nodes now.nodes c.args.holder c.args.address low has payloads) (place_next was.nodes now.nodes c.args.holder c.args.address low has payloads)
    c.put_bytes.ensures.user
