-- The quotient rounded up covers the bytes, and no smaller number of pages does.
use Rattle.trade_base.proofs.PageLemmas.{IsLeastPageSize-page_of}
use Rattle.trade_base.proofs.page.page_rounding_is_least.Goals as goal

pub returns : goal.returns
returns c = IsLeastPageSize-page_of
