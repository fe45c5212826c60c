-- The commands of the table, after the program without them.
use Rattle.cli_options.specs.Line.{bare}
use Rattle.cli_options.proofs.commands.commands.Goals as goal

pub returns : goal.returns
returns c = c.in_ok-words.ensures bare c.bare.ensures
