-- The content's payload holds the range, and no other does.
use Rattle.std.proofs.Common.{arith}
use Rattle.session_nodes.proofs.FoundLemmas.{finds, content_low, content_found, some_by, told_of}
use Rattle.session_nodes.proofs.session_heaps.SessionHeaps.find_content.Goals as goal

pub overflow_add-range : goal.overflow_add-range
overflow_add-range c =
    let low = content_low c.requires.furnished c.args.range.address c.args.range.offset c.args.range.count c.requires.there c.requires.some in omega (arith, low)

pub unwrap-requires : goal.unwrap-requires
unwrap-requires c =
    some_by c.block_of.result (content_found c.requires.furnished c.args.range.address c.args.range.offset c.args.range.count c.requires.there c.requires.some) c.block_of.ensures.none

pub returns : goal.returns
returns c =
    finds c.requires.furnished c.args.range.address c.args.range.offset c.args.range.count c.requires.there c.requires.some c.unwrap.result.0.0 c.unwrap.result.1
    (told_of _ c.block_of.result c.unwrap.result c.unwrap.ensures c.block_of.ensures.some)
