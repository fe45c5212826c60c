-- An invariant of the entries that were read so far.
use Rattle.list_parser.proofs.ListedLemmas.{lists_are_listed}
use Rattle.list_parser.proofs.theorems.lists_are_listed.Goals as goal

pub returns : goal.returns
returns c = lists_are_listed
