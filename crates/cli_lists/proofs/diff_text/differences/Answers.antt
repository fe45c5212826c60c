-- Each side has the cells of its table.
use Rattle.cli_lists.proofs.ComparisonLemmas.{side_is}
use Rattle.cli_lists.proofs.diff_text.differences.Goals as goal

pub compare_sides-requires-clause-was : goal.compare_sides-requires-clause-was
compare_sides-requires-clause-was c =
    side_is c.args.so_far.before.now c.in_ok-olds.olds.cells.items c.side_of-was.result c.in_ok-olds.ensures.rows c.in_ok-olds.ensures.cells
    c.side_of-was.ensures.list c.side_of-was.ensures.cells

pub compare_sides-requires-clause-now : goal.compare_sides-requires-clause-now
compare_sides-requires-clause-now c =
    side_is c.args.so_far.after.now c.in_ok-news.news.cells.items c.side_of-now.result c.in_ok-news.ensures.rows c.in_ok-news.ensures.cells
    c.side_of-now.ensures.list c.side_of-now.ensures.cells
