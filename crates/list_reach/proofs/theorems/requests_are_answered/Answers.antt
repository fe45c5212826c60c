-- By where they lead.
use Rattle.list_reach.proofs.WishLemmas.{wishes_denied, wishes_opened}
use Rattle.list_reach.proofs.theorems.requests_are_answered.Goals as goal

pub returns : goal.returns
returns c = record { denied = wishes_denied; opened = wishes_opened }
