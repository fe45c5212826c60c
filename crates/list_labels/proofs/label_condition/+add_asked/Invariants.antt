use Rattle.list_labels.proofs.label_condition.+add_asked.Given as goal

abbrev pub decreases-add_asked : goal.decreases-add_asked
decreases-add_asked l = l.lists
