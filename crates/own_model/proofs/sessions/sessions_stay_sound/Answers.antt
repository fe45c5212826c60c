-- What holds of a new session, and of one that is upgraded or has served, holds of each.
use Rattle.own_model.proofs.SessionSoundLemmas.{run_kept}
use Rattle.own_model.proofs.SessionChargeLemmas.{run_charges}
use Rattle.own_model.proofs.StartLemmas.{start_alone}
use Rattle.own_model.proofs.sessions.sessions_stay_sound.Goals as goal

pub returns-clause-start : goal.returns-clause-start
returns-clause-start c = start_alone

pub returns-clause-charges : goal.returns-clause-charges
returns-clause-charges c = run_charges

pub returns-clause-kept : goal.returns-clause-kept
returns-clause-kept c = run_kept
