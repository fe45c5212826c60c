-- By the elements of what is compared.
use Rattle.list_diff.proofs.NewBreachLemmas.{gone_reported, new_reported, reported_gone, reported_new, same_none}
use Rattle.list_diff.proofs.theorems.breaches_of_one_list_are_reported.Goals as goal

pub returns : goal.returns
returns c =
    record { new = new_reported; is_new = reported_new; gone = gone_reported; is_gone = reported_gone; same = same_none }
