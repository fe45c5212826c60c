-- Its region is the map's, and its dataspace the account's.
use Rattle.session_nodes.proofs.BufferLemmas.{given_furnished, given_buffer, lent_there, lent_exists}
use Rattle.session_nodes.proofs.session_heaps.SessionHeaps.give_buffer.Goals as goal

pub detach_heap-requires : goal.detach_heap-requires
detach_heap-requires c = lent_there c.requires.furnished c.args.lent c.requires.lent

pub free-requires : goal.free-requires
free-requires c = lent_exists c.requires.furnished c.args.lent c.requires.lent

pub returns-clause-given : goal.returns-clause-given
returns-clause-given c = rw c.detach_heap.ensures (given_buffer c.requires.furnished c.args.lent c.requires.lent c.free.ensures.part)

pub returns-clause-stays : goal.returns-clause-stays
returns-clause-stays c = rw c.detach_heap.ensures (given_furnished c.requires.furnished c.args.lent c.requires.lent c.free.ensures.part)
