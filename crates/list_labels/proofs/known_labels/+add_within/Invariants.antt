use Rattle.list_labels.proofs.known_labels.+add_within.Given as goal

abbrev pub decreases-add_within : goal.decreases-add_within
decreases-add_within l = l.lists
