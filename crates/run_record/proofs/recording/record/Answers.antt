-- The machine of the list is the one that a scenario is recorded on.
use Rattle.run_lines.specs.Machine.{world_of}
use Rattle.run_record.proofs.RecordedLemmas.{recorded_there}
use Rattle.run_record.proofs.ErrorLemmas.{errors_there}
use Rattle.run_record.proofs.recording.record.Goals as goal

pub returns-clause-recorded : goal.returns-clause-recorded
returns-clause-recorded c =
    recorded_there c.args.all c.args.list.now c.args.start c.args.scenario.unfolded.now c.args.scenario.text.now c.in_ok-core.core (world_of c.args.list.now)
    c.record_on.result c.in_ok-core.ensures.started c.record_on.ensures.recorded

pub returns-clause-errors : goal.returns-clause-errors
returns-clause-errors c =
    errors_there c.args.list.now c.args.start c.args.scenario.unfolded.now c.in_ok-core.core (world_of c.args.list.now) c.record_on.result c.in_ok-core.ensures.started
    c.record_on.ensures.errors
