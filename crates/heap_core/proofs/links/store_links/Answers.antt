-- Three words that follow one another, where the height is in the next page.
use Rattle.heap_core.proofs.LinksLemmas.{first_there, first_range, second_there, second_range, links_put}
use Rattle.heap_core.proofs.links.store_links.Goals as goal

pub store_word-requires-then-offset-gt-PAGE-clause-exists : goal.store_word-requires-then-offset-gt-PAGE-clause-exists
store_word-requires-then-offset-gt-PAGE-clause-exists c =
    first_there c.args.memory.now c.args.ds.0 c.args.offset (record { left = c.args.left; right = c.args.right; high = c.args.high }) c.requires.exists c.requires.range _ c.store_word.ensures.written

pub store_word-requires-then-offset-gt-PAGE-clause-range : goal.store_word-requires-then-offset-gt-PAGE-clause-range
store_word-requires-then-offset-gt-PAGE-clause-range c =
    first_range c.args.memory.now c.args.ds.0 c.args.offset (record { left = c.args.left; right = c.args.right; high = c.args.high }) c.requires.exists c.requires.range _ c.store_word.ensures.written

pub store_word-requires-then-offset-gt-PAGE-2-clause-exists : goal.store_word-requires-then-offset-gt-PAGE-2-clause-exists
store_word-requires-then-offset-gt-PAGE-2-clause-exists c =
    second_there c.args.memory.now c.args.ds.0 c.args.offset (record { left = c.args.left; right = c.args.right; high = c.args.high }) c.requires.exists c.requires.range _ c.store_word.ensures.written _ c.store_word-then-offset-gt-PAGE.ensures.written

pub store_word-requires-then-offset-gt-PAGE-2-clause-range : goal.store_word-requires-then-offset-gt-PAGE-2-clause-range
store_word-requires-then-offset-gt-PAGE-2-clause-range c =
    second_range c.args.memory.now c.args.ds.0 c.args.offset (record { left = c.args.left; right = c.args.right; high = c.args.high }) c.requires.exists c.requires.range _ c.store_word.ensures.written _ c.store_word-then-offset-gt-PAGE.ensures.written

pub returns-then-offset-gt-PAGE-clause-stored : goal.returns-then-offset-gt-PAGE-clause-stored
returns-then-offset-gt-PAGE-clause-stored c =
    links_put c.args.memory.now c.args.ds.0 c.args.offset (record { left = c.args.left; right = c.args.right; high = c.args.high }) c.requires.exists c.requires.range _ c.store_word.ensures.written _ c.store_word-then-offset-gt-PAGE.ensures.written _ c.store_word-then-offset-gt-PAGE-2.ensures.written
