-- The word behind the links of the tree is another one.
use Rattle.std.proofs.Common.{◌≢◌, ap, ◌∙◌, arith}
use Rattle.session_nodes.specs.Calls.{node_stored}
use Rattle.session_nodes.specs.SessionHeaps.{stock_of}
use Rattle.session_nodes.proofs.LinkBackLemmas.{linked_back, word_is}
use Rattle.session_nodes.proofs.session_heaps.SessionHeaps.link_back.Goals as goal

pub returns-then-address-ne0-clause-links : goal.returns-then-address-ne0-clause-links
returns-then-address-ne0-clause-links c =
    let some : c.args.address ≢ 0 = λ e. absurd (omega (arith, e)) in
    linked_back c.args.address c.args.previous _ _ c.ranges.previous.fits (c.requires.there some)
    (c.put_bytes.ensures.stored ∙ ap (λ b. node_stored c.args.address 88 b (stock_of c.args.self.now c.args.memory.now c.args.map.now)) (word_is c.args.previous _ c.to_le_bytes-word.ensures))
