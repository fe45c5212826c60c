-- What is left is behind the places that were passed.
use Rattle.pd_core.proofs.ExitReleaseLemmas.{ReleasesTo}
use Rattle.pd_core.proofs.script.Script.release_all.Given as goal

abbrev pub invariant-loop-place : goal.invariant-loop-place
invariant-loop-place l = ReleasesTo l.place l.initial.memory l.initial.self l.memory l.self
