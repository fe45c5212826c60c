-- What the rounding answers is the least.
use Rattle.trade_base.proofs.PageLemmas.{least_rounded}
use Rattle.trade_base.proofs.page.page_round.Goals as goal

pub returns-clause-least : goal.returns-clause-least
returns-clause-least c = least_rounded c.args.n _ _ c.checked_next_multiple_of.ensures
