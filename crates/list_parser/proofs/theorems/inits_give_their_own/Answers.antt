-- Entry by entry, of an init that is there and of one that starts later.
use Rattle.list_parser.proofs.GivenLemmas.{inits_give_their_own}
use Rattle.list_parser.proofs.theorems.inits_give_their_own.Goals as goal

pub returns : goal.returns
returns c = inits_give_their_own
