-- Three stores in the new block, and one in the block after it, change headers alone.
use Rattle.sliced_heap.proofs.HeaderLemmas.{headers_then, has_header_still, stored_in}
use Rattle.sliced_heap.proofs.links.put_first.Goals as goal

pub link_back-requires : goal.link_back-requires
link_back-requires c = λ b is.
    has_header_still _ _ _ b c.store-3.ensures.stored.headers
    (has_header_still _ _ _ b c.store-2.ensures.stored.headers
    (has_header_still _ _ _ b c.store.ensures.stored.headers (c.requires.next b is)))

pub returns-clause-headers : goal.returns-clause-headers
returns-clause-headers c = λ blocks there first.
    headers_then blocks _ _ _ (stored_in blocks _ _ _ _ _ there c.store.ensures.stored)
    (headers_then blocks _ _ _ (stored_in blocks _ _ _ _ _ there c.store-2.ensures.stored)
    (headers_then blocks _ _ _ (stored_in blocks _ _ _ _ _ there c.store-3.ensures.stored) (c.link_back.ensures.changes.headers blocks first)))
