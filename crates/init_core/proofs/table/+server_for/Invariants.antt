use Rattle.init_core.proofs.table.+server_for.Given as goal

abbrev pub decreases-server_for : goal.decreases-server_for
decreases-server_for l = l.lists
