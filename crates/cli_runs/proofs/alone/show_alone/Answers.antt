-- The run is that of a name.
use Rattle.cli_runs.proofs.alone.show_alone.Goals as goal

pub returns : goal.returns
returns g c = (c.alone_of.result, c.alone_of.ensures, c.run_chosen.ensures)
