-- What the last line tells comes after what the others tell.
use Rattle.own_model.proofs.RunningLemmas.{running_transcript-push}
use Rattle.own_model.proofs.answers.output_over_a_line.Goals as goal

pub returns-clause-last : goal.returns-clause-last
returns-clause-last c = running_transcript-push
