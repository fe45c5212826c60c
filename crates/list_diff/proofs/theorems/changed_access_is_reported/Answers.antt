-- By the sets of labels, which are exact.
use Rattle.list_diff.proofs.AccessLemmas.{lost_reported, new_reported, same_reported}
use Rattle.list_diff.proofs.theorems.changed_access_is_reported.Goals as goal

pub returns : goal.returns
returns c = record { gained = new_reported; lost = lost_reported; same = same_reported }
