-- Lines by lines.
use Rattle.guard_theorems.proofs.WorldLemmas.{guarded_answers, guarded_world, never_decides, closes_covered}
use Rattle.guard_theorems.proofs.guarded.guarded_servers_answer_alike.Goals as goal

pub returns-clause-transcript : goal.returns-clause-transcript
returns-clause-transcript c = guarded_answers

pub returns-clause-worlds : goal.returns-clause-worlds
returns-clause-worlds c = guarded_world

pub returns-clause-tests : goal.returns-clause-tests
returns-clause-tests c = never_decides

pub returns-clause-closes : goal.returns-clause-closes
returns-clause-closes c = closes_covered
