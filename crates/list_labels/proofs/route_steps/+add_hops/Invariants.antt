use Rattle.list_labels.proofs.route_steps.+add_hops.Given as goal

abbrev pub decreases-add_hops : goal.decreases-add_hops
decreases-add_hops l = l.lists
