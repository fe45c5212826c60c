-- Who starts has no regions, and nothing that a call can do makes them unsound.
use Rattle.own_model.proofs.StepSoundLemmas.{start_sound, step_sound, run_sound}
use Rattle.own_model.proofs.regions.regions_stay_sound.Goals as goal

pub returns-clause-start : goal.returns-clause-start
returns-clause-start c = start_sound

pub returns-clause-step : goal.returns-clause-step
returns-clause-step c = step_sound

pub returns-clause-run : goal.returns-clause-run
returns-clause-run c = run_sound
