-- So many entries have started.
use Rattle.init_core.specs.Boot.{HasStarted}
use Rattle.init_core.proofs.startup.boot.Given as goal

abbrev pub invariant-loop-place : goal.invariant-loop-place
invariant-loop-place l = HasStarted l.list l.memory l.components.items l.accounts.items l.place
