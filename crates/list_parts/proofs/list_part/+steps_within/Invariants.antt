use Rattle.list_parts.proofs.list_part.+steps_within.Given as goal

abbrev pub decreases-steps_within : goal.decreases-steps_within
decreases-steps_within l = l.lists
