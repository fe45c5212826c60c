-- A store in the block after, and one in the block before, change headers alone.
use Rattle.sliced_heap.proofs.HeaderLemmas.{headers_then, has_header_still, of_link}
use Rattle.sliced_heap.proofs.links.take_out.Goals as goal

pub link_ahead-requires : goal.link_ahead-requires
link_ahead-requires c = λ b is.
    let blocks = of_link c.load-next.result in
    has_header_still blocks.0 _ _ b (c.link_back.ensures.changes.headers blocks.0 blocks.1) (c.requires.previous b (rw (← c.load-previous.ensures) is))

pub returns-then-previous-eq0-clause-headers : goal.returns-then-previous-eq0-clause-headers
returns-then-previous-eq0-clause-headers c = λ blocks next previous.
    headers_then blocks _ _ _
    (c.link_back.ensures.changes.headers blocks (λ b is. next b (rw (← c.load-next.ensures) is)))
    (c.link_ahead.ensures.changes.headers blocks (λ b is. previous b (rw (← c.load-previous.ensures) is)))

pub returns-else-previous-eq0-clause-headers : goal.returns-else-previous-eq0-clause-headers
returns-else-previous-eq0-clause-headers c = λ blocks next previous.
    headers_then blocks _ _ _
    (c.link_back.ensures.changes.headers blocks (λ b is. next b (rw (← c.load-next.ensures) is)))
    (c.link_ahead.ensures.changes.headers blocks (λ b is. previous b (rw (← c.load-previous.ensures) is)))
