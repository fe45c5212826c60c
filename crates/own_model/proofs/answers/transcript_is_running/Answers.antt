-- Of each line the history and the running states tell the same.
use Rattle.own_model.proofs.RunningLemmas.{transcript-running}
use Rattle.own_model.proofs.answers.transcript_is_running.Goals as goal

pub returns : goal.returns
returns c = transcript-running
