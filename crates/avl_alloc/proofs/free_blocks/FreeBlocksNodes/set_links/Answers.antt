use Rattle.avl_alloc.proofs.HoleLemmas.{relinked}
use Rattle.avl_alloc.proofs.free_blocks.FreeBlocksNodes.set_links.Goals as goal

pub returns-clause-links : goal.returns-clause-links
returns-clause-links g c = relinked _ _ c.args.node _ _ _ c.store_links.ensures.words
