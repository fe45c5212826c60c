-- The run is that of a transcript.
use Rattle.cli_runs.proofs.run.run_scenario.Goals as goal

pub returns : goal.returns
returns g c = (c.transcript_of.result, c.transcript_of.ensures, c.run_chosen.ensures)
